-- The place at which the pattern of a rule ends, by the grammar.
use Rattle.std.specs.Prelude.{ℕ, ◌⊎◌, List, length}
use Rattle.std.proofs.Common.{zero, suc, inl, inr}
use Rattle.lx_ere.specs.PatternGrammar.{IsPatternEnd}
use Rattle.lx_ere.specs.PatternEndLaws.{ends_or_not}

-- The least number below the bound for which the fact holds, or the bound if there is none. The fact is decidable for each number.
unfoldable pub least : (P : ℕ → Type 0) → ((n : ℕ) → P n ⊎ ¬ (P n)) → ℕ → ℕ
least P decided zero = 0
least P decided (suc bound) = elim (decided 0) [ inl _ ↦ 0 | inr _ ↦ suc (least (λ n. P (suc n)) (λ n. decided (suc n)) bound) ]

-- The least place of a text at which the grammar has the end of the pattern at its front; at the latest the text's end.
unfoldable pub pattern_end : List ℕ → ℕ
pattern_end text = least (IsPatternEnd text) (ends_or_not text) (length text)
