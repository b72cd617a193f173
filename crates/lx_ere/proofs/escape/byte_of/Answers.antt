use Rattle.std.proofs.Common.{◌≡◌, ℕ, ◌+◌, ◌*◌, get_or, drop, arith, sym, refl, ◌∙◌}
use Rattle.lx_ere.specs.Escapes.{number_behind, number_of, digit_of}
use Rattle.lx_ere.proofs.NumberLemmas.{number_step, number_large}
use Rattle.lx_ere.proofs.escape.byte_of.Goals as goal
use Rattle.lx_ere.proofs.escape.byte_of.Goals.{then-value-lt256, else-value-lt256}

pub loop-digit-preserved : goal.loop-digit-preserved
loop-digit-preserved c =
    elim c.if-value-lt256.branch [
      | then-value-lt256 w ↦
          let value : ℕ = c.loop-digit.value * c.args.base + digit_of (get_or c.args.digits.now c.loop-digit.digit-index 0) in
          let whole : number_behind c.args.base value (drop (c.loop-digit.digit-index + 1) c.args.digits.now) ≡ number_of c.args.base c.args.digits.now
          = sym (number_step c.args.base c.loop-digit.value c.loop-digit.digit-index c.args.digits.now c.loop-digit-test.true) ∙ c.loop-digit.invariant.small w.if-value-lt256.true in
          let is : c.if-value-lt256.value ≡ value = w.value-is ∙ rw (w.from.ensures, w.from-then-value-lt256.ensures, w.digit_of.ensures) refl in
          rw is (record { small = λ _. whole; large = λ large. rw (← whole) (number_large c.args.base value (drop (c.loop-digit.digit-index + 1) c.args.digits.now) c.requires.low large) })
      | else-value-lt256 w ↦ rw w.value-is (record { small = λ lt. absurd (omega (arith, lt, w.if-value-lt256.false)); large = c.loop-digit.invariant.large })
    ]
