use Rattle.std.proofs.Common.{◌≡◌, ◌-◌, ◌*◌, ◌/◌, ◌∙◌, ℕ, ap, arith, drop, take, take-take}
use Rattle.std.proofs.lemmas.Fmt.{length-decimal-le}
use Rattle.lx_line.specs.Decimals.{leading}
use Rattle.lx_line.proofs.ShortNumbers.{kept_digits}
use Rattle.lx_line.proofs.shared.SharedDigits.begin_long.Goals as goal

pub write_digits-from-requires : goal.write_digits-from-requires
write_digits-from-requires c =
    let few = length-decimal-le 20 (c.args.number / 1000) (omega arith) (omega arith) (omega arith) in
    (omega arith, omega arith)

pub invariant_of-self-clause-few : goal.invariant_of-self-clause-few
invariant_of-self-clause-few c =
    let few = length-decimal-le 15 (c.args.number / 1000) (omega arith) (omega arith) (omega arith) in
    let start = c.write_digits-from.ensures.start in
    omega arith

pub invariant_of-self-clause-shared : goal.invariant_of-self-clause-shared
invariant_of-self-clause-shared c =
    let high = c.args.number / 1000 in
    let from = c.write_digits-from.result in
    let digits = c.write_digits-from.new.buf in
    let few = length-decimal-le 15 high (omega arith) (omega arith) (omega arith) in
    let start = c.write_digits-from.ensures.start in
    let same : high ≡ high * 1000 / 1000 = omega arith in
    take-take (20 - from) 16 (take (36 - from) (drop from digits)) (omega arith)
    ∙ take-take (20 - from) (36 - from) (drop from digits) (omega arith)
    ∙ kept_digits high 20 from digits _ start c.write_digits-from.ensures.written (omega arith)
    ∙ ap (λ (k : ℕ). leading k) same
