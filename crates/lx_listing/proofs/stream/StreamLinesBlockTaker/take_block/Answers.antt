use Rattle.std.proofs.Common.{ap, refl, subst}
use Rattle.lx_line.specs.Styles.{Drafted}
use Rattle.lx_listing.specs.Streamed.{Streamed, TakesBytes}
use Rattle.lx_listing.proofs.Streaming.{ok_then, scanning_feeds, takes_block}
use Rattle.lx_listing.proofs.stream.StreamLinesBlockTaker.take_block.Goals as goal

pub write_decided-requires : goal.write_decided-requires
write_decided-requires g c =
    record { scanning = scanning_feeds c.self.inside.plan.now.table c.self.inside.scanner c.feed.new.self c.args.block.now c.self.invariant.1 c.in-Ok.ensures.ok c.self.invariant.0; draft = c.self.invariant.2 }

pub returns : goal.returns
returns g c =
    let s = c.self.inside in
    let wrote = g.S.LineSink.wrote in
    ok_then c.pass_on.result c.pass_on.ensures.empty (λ none_held.
    subst (λ (v : Streamed g.row.L.Denot g.row.S.Denot). TakesBytes g.L.LineStyle.style wrote v c.args.block.now (record { style = c.write_decided.new.draft.style; plan = s.plan.now; file = s.file; stream = c.write_decided.new.scanner; sink = c.pass_on.new.self })) c.self.view_is
    (record {
      style_is = ap (λ (d : Drafted _). d.style) c.write_decided.ensures.draft;
      plan_is = refl;
      file_is = refl;
      lines = λ start front h.
          takes_block wrote g.met.S.LineSink.wrote_nothing g.met.S.LineSink.wrote_on (g.L.LineStyle.style s.draft.style) s.file s.scanner c.feed.new.self c.write_decided.new.scanner front c.args.block.now start s.sink c.write_decided.new.sink c.pass_on.new.self
          c.in-Ok.ensures.ok c.in_ok-write_decided.ensures.lists c.pass_on.ensures.gathers h;
      prompt = λ _. record { drained = c.in_ok-write_decided.ensures.drained; none_held = none_held };
    }))
