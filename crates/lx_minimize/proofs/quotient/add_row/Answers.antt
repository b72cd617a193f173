use Rattle.std.proofs.Common.{◌∙◌, arith, ap}
use Rattle.std.proofs.lemmas.Grind.{get_or_default_zero}
use Rattle.lx_minimize.specs.Partitions.{block}
use Rattle.lx_minimize.proofs.QuotientSteps.{target_push}
use Rattle.lx_minimize.proofs.quotient.add_row.Goals as goal

pub loop-class-preserved : goal.loop-class-preserved
loop-class-preserved c =
    let long = c.requires.sound.long in
    rw c.in_ok-push.ensures.items (target_push c.args.m.now c.args.p.now _ _ c.args.i c.loop-class.class _ c.loop-class.invariant c.loop-class-test.true
    (c.index.ensures ∙ get_or_default_zero c.args.p.now.block_of.items c.step.result c.index.result.now (let b = c.step.ensures.closed in omega arith)
    ∙ ap (λ x. block c.args.p.now x) c.step.ensures.target))
