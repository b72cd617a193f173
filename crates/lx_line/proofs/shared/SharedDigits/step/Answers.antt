use Rattle.std.proofs.Common.{◌≡◌, ◌+◌, ◌-◌, ◌/◌, ◌%◌, ◌<◌, ◌∙◌, ℕ, ap, arith, length, rules, take}
use Rattle.std.specs.Prelude.{slice_set}
use Rattle.lx_line.specs.Decimals.{leading}
use Rattle.lx_line.specs.declared.shared.SharedDigits.{SharedDigits}
use Rattle.lx_line.proofs.ShortNumbers.{LastDigit, last_digit}
use Rattle.lx_line.proofs.shared.SharedDigits.step.Goals as goal

last_of : (s : SharedDigits) → length s.front ≡ 16 → 0 < s.len → LastDigit s.front s.len (s.base / 1000)
last_of s long some = last_digit s.front s.len (s.base / 1000) some (omega (arith, s.few)) (omega (arith, s.small)) s.shared

pub overflow_add-self : goal.overflow_add-self
overflow_add-self c =
    let last = last_of c.args.self.now (search rules) (omega arith) in
    record { fits = omega (arith, last.digit) }

pub invariant_of-self-clause-small : goal.invariant_of-self-clause-small
invariant_of-self-clause-small c =
    let s = c.args.self.now in
    let last = last_of s (search rules) (omega arith) in
    let digit = c.if-digit-eq57.false in
    omega (arith, last.digit, digit, s.small, s.thousands)

pub invariant_of-self-clause-shared : goal.invariant_of-self-clause-shared
invariant_of-self-clause-shared c =
    let s = c.args.self.now in
    let last = last_of s (search rules) (omega arith) in
    let digit = c.if-digit-eq57.false in
    let low : s.base / 1000 % 10 < 9 = omega (arith, last.digit, digit) in
    let next : s.base / 1000 + 1 ≡ (s.base + 1000) / 1000 = omega arith in
    ap (λ (x : ℕ). take s.len (slice_set s.front (s.len - 1) (x + 1))) last.digit ∙ last.next low ∙ ap (λ (high : ℕ). leading high) next

pub invariant_of-self-clause-one : goal.invariant_of-self-clause-one
invariant_of-self-clause-one c =
    let s = c.args.self.now in
    let last = last_of s (search rules) (omega arith) in
    λ two. absurd (let short = s.one two in omega (arith, short, last.some, s.begin))

pub invariant_of-self-clause-two : goal.invariant_of-self-clause-two
invariant_of-self-clause-two c =
    let s = c.args.self.now in
    let last = last_of s (search rules) (omega arith) in
    λ three. absurd (let short = s.two three in omega (arith, short.1, last.some, s.begin))
