use Rattle.std.proofs.Common.{◌≡◌, arith, ap, ◌∙◌}
use Rattle.lx_c.specs.StateCode.{count_below, begins, range_count}
use Rattle.lx_c.proofs.loops.range_count.Goals as goal

pub returns : goal.returns
unfolding range_count
returns c =
    let e : c.loop-byte.byte ≡ 256 = omega arith in
    c.loop-byte.invariant.number ∙ ap (λ n. count_below (begins c.args.code.nul_ends c.args.code.tables.now.machine c.args.state c.args.staying) n) e
