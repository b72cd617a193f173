use Rattle.std.proofs.Common.{◌≡◌, arith, ap, ◌∙◌}
use Rattle.lx_c.specs.StateCode.{count_below, is_misfit, misfit_count}
use Rattle.lx_c.proofs.targets.misfit_count.Goals as goal

pub returns : goal.returns
unfolding misfit_count
returns c =
    let e : c.loop-class.class ≡ c.args.tables.now.machine.width = omega arith in
    c.loop-class.invariant.number ∙ ap (λ n. count_below (is_misfit c.args.tables.now.machine c.args.state c.args.comes_last c.args.target) n) e
