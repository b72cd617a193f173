use Rattle.std.proofs.Common.{◌≡◌, ◌∙◌, ℕ, ◌+◌, ◌-◌, ◌*◌, ◌≤◌, length, drop, get_or, ap, sym, arith}
use Rattle.lx_spec.specs.Constants as plain
use Rattle.lx_spec.proofs.Numbers.{decimal_behind-grows, decimal_behind-step, decimal_behind-end, decimal_below-some, decimal_below-none}
use Rattle.lx_spec.proofs.constant.decimal_below.Goals as goal

pub returns-then-number-limit-clause-value : goal.returns-then-number-limit-clause-value
returns-then-number-limit-clause-value c =
    let digits = c.args.digits.now in
    let next : ℕ = c.loop-c.number * 10 + (get_or digits c.loop-c.c-index 0 - 48) in
    let same : plain.decimal_behind next (drop (c.loop-c.c-index + 1) digits) ≡ plain.decimal_of digits =
    sym (decimal_behind-step c.loop-c.number c.loop-c.c-index digits c.loop-c-test.true) ∙ c.loop-c.invariant.same in
    let more : next ≤ plain.decimal_behind next (drop (c.loop-c.c-index + 1) digits) = decimal_behind-grows next (drop (c.loop-c.c-index + 1) digits) in
    decimal_below-none c.args.limit digits (omega (arith, more, same))

pub loop-c-preserved : goal.loop-c-preserved
loop-c-preserved c = record {
  same = ap (λ (d : ℕ). plain.decimal_behind (c.loop-c.number * 10 + d) (drop (c.loop-c.c-index + 1) c.args.digits.now)) c.saturating_sub.ensures
      ∙ sym (decimal_behind-step c.loop-c.number c.loop-c.c-index c.args.digits.now c.loop-c-test.true) ∙ c.loop-c.invariant.same;
  small = omega arith;
}

pub returns-then-number-limit-2-clause-value : goal.returns-then-number-limit-2-clause-value
returns-then-number-limit-2-clause-value c =
    let all : length c.args.digits.now ≤ c.loop-c.c-index = omega arith in
    decimal_below-some c.args.limit c.loop-c.number c.args.digits.now (sym (decimal_behind-end c.loop-c.number c.loop-c.c-index c.args.digits.now all) ∙ c.loop-c.invariant.same) (omega arith)

pub returns-else-number-limit-2-clause-value : goal.returns-else-number-limit-2-clause-value
returns-else-number-limit-2-clause-value c =
    let all : length c.args.digits.now ≤ c.loop-c.c-index = omega arith in
    decimal_below-none c.args.limit c.args.digits.now (omega (arith, decimal_behind-end c.loop-c.number c.loop-c.c-index c.args.digits.now all, c.loop-c.invariant.same))
