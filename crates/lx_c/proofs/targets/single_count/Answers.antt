use Rattle.std.proofs.Common.{◌≡◌, arith, ap, ◌∙◌}
use Rattle.lx_c.specs.StateCode.{count_below, is_single, single_count}
use Rattle.lx_c.proofs.targets.single_count.Goals as goal

pub returns : goal.returns
unfolding single_count
returns c =
    let e : c.loop-byte.byte ≡ 256 = omega arith in
    c.loop-byte.invariant.number ∙ ap (λ n. count_below (is_single c.args.code.nul_ends c.args.code.tables.now.machine c.args.state c.args.marked) n) e
