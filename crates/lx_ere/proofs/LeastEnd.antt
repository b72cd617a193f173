-- The meaning of `pattern_end`: the position where the pattern at the start of a text ends.
use Rattle.std.proofs.Common.{◌≡◌, ℕ, zero, suc, ◌-◌, ◌≤◌, ◌⊎◌, inl, inr, List, length, refl, subst, arith}
use Rattle.lx_ere.specs.PatternGrammar.{BehindPattern, IsPatternEnd}
use Rattle.lx_ere.specs.PatternEnd.{least, pattern_end}
use Rattle.lx_ere.specs.PatternEndLaws.{some_end, ends_or_not, end_of, one_end}

least_step : (P : ℕ → Type 0) (rest : ℕ) (first : P 0 ⊎ ¬ (P 0)) (n : ℕ) → P n → ((m : ℕ) → n ≡ suc m → P (suc rest)) → P (elim first [ inl _ ↦ 0 | inr _ ↦ suc rest ])
least_step P rest (inl here) n holds further = here
least_step P rest (inr none) zero holds further = absurd (none holds)
least_step P rest (inr none) (suc m) holds further = further m refl

-- A fact that holds of some number up to the bound holds of the least one.
least_holds : (P : ℕ → Type 0) (decided : (n : ℕ) → P n ⊎ ¬ (P n)) (bound n : ℕ) → n ≤ bound → P n → P (least P decided bound)
unfolding least
least_holds P decided zero n below holds = let none : n ≡ 0 = omega (arith, below) in subst P none holds
least_holds P decided (suc bound) n below holds =
    least_step P (least (λ k. P (suc k)) (λ k. decided (suc k)) bound) (decided 0) n holds
    (λ m is. least_holds (λ k. P (suc k)) (λ k. decided (suc k)) bound m (omega (arith, below, is)) (subst P is holds))

-- the grammar has the end of the pattern there
pub is_pattern_end : (text : List ℕ) → IsPatternEnd text (pattern_end text)
unfolding pattern_end
is_pattern_end text =
    let there = some_end text in
    least_holds (IsPatternEnd text) (ends_or_not text) (length text) (there.0) (let h = there.1 in h.within) (there.1)

-- the position, by the text after the pattern
pub pattern_end_is : (text behind : List ℕ) → BehindPattern text behind → length text - length behind ≡ pattern_end text
pattern_end_is text behind h = one_end text (length text - length behind) (pattern_end text) (end_of text behind h) (is_pattern_end text)
