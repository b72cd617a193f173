use Rattle.std.proofs.Common.{◌∙◌}
use Rattle.lx_post.proofs.NothingLost.{seats_of, passes_of, every_file_received}
use Rattle.lx_post.proofs.joining.settle_all.Goals as goal

pub settle-requires : goal.settle-requires
settle-requires g c = seats_of g.M.Maker.made c.args.context.claims c.args.context.post c.args.context.plan.now c.draw_for_all.new.ended.items _ c.draw_for_all.ensures c.in_ok-take_apart.ensures.seats

pub finish-requires-clause-passes : goal.finish-requires-clause-passes
finish-requires-clause-passes g c = passes_of g.M.Maker.made c.args.context.claims c.args.context.post c.args.context.plan.now c.draw_for_all.new.ended.items _ c.draw_for_all.ensures c.in_ok-take_apart.ensures.passes

pub returns-clause-ok : goal.returns-clause-ok
returns-clause-ok g c =
    every_file_received g.M.Maker.made c.args.context.claims c.args.context.post c.args.context.plan.now c.args.take c.draw_for_all.new.ended.items _ _ c.in-Ok._files c.draw_for_all.ensures c.in_ok-take_apart.ensures.seats c.in_ok-take_apart.ensures.passes
    (c.in-Ok.ensures.files ∙ c.requires.files) c.in-Ok.ensures.once c.in-Ok-finish.ensures.received c.requires.faultless
