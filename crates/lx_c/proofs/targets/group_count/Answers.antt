use Rattle.std.proofs.Common.{◌≡◌, arith, ap, ◌∙◌}
use Rattle.lx_c.specs.StateCode.{count_below, group_count, in_group}
use Rattle.lx_c.proofs.targets.group_count.Goals as goal

pub returns : goal.returns
unfolding group_count
returns c =
    let e : c.loop-byte.byte ≡ c.args.below = omega arith in
    c.loop-byte.invariant.number ∙ ap (λ n. count_below (in_group c.args.code.nul_ends c.args.code.tables.now.machine c.args.state c.args.group) n) e
