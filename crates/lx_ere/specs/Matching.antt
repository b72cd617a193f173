-- The words that an expression matches (POSIX.1-2017, XBD 9.4). A word is a list of bytes, and a language a fact about words.
use Rattle.std.specs.Prelude.{◌≡◌, ℕ, zero, suc, ◌≤◌, ◌⊎◌, IsTrue, IfSome, Option, List, [], ◌∷◌, ◌++◌}
use Rattle.std.specs.FinSet as set
use Rattle.lx_ere.specs.Regex.{Regex, nil, one_of, then, or, times, named}

-- the word is one of the first language, then one of the second
abbrev pub Splits : (List ℕ → Type 0) → (List ℕ → Type 0) → List ℕ → Type 0
Splits L M w = (u : List ℕ) × (v : List ℕ) × L u × M v × (w ≡ u ++ v)

-- the word is k words of the language, one after the other
abbrev pub Repeats : (List ℕ → Type 0) → ℕ → List ℕ → Type 0
Repeats L zero w = w ≡ []
Repeats L (suc k) w = Splits L (Repeats L k) w

-- the word is low to high words of the language, or low words and any more
abbrev pub RepeatsBetween : (List ℕ → Type 0) → ℕ → Option ℕ → List ℕ → Type 0
RepeatsBetween L low high w = (k : ℕ) × (low ≤ k) × IfSome high (λ most. k ≤ most) × Repeats L k w

-- no name matches anything
abbrev pub no_names : List ℕ → List ℕ → Type 0
no_names name w = ⊥

-- the expression matches the word, where `names` has the words of a name
abbrev pub Matches : (List ℕ → List ℕ → Type 0) → Regex → List ℕ → Type 0
Matches names nil w = w ≡ []
Matches names (one_of s) w = (b : ℕ) × IsTrue (set.contains s b) × (w ≡ b ∷ [])
Matches names (then a b) w = Splits (Matches names a) (Matches names b) w
Matches names (or a b) w = Matches names a w ⊎ Matches names b w
Matches names (times body low high) w = RepeatsBetween (Matches names body) low high w
Matches names (named name) w = names name w
