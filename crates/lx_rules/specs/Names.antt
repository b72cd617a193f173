-- The meaning of names in braces (XCU `lex`, "Definitions in lex": `{name}`).
use Rattle.std.specs.Prelude.{◌≡◌, ℕ, zero, suc, List, [], ◌∷◌, ◌++◌, slice_get, Some}
use Rattle.lx_ere.specs.Regex.{Regex, nil, one_of, then, or, times, named}
use Rattle.lx_ere.specs.Matching.{Matches}
use Rattle.lx_rules.specs.Plain.{PlainDefinition}

-- the names in an expression, from left to right, each as often as it occurs
abbrev pub names_of : Regex → List (List ℕ)
names_of nil = []
names_of (one_of s) = []
names_of (then a b) = names_of a ++ names_of b
names_of (or a b) = names_of a ++ names_of b
names_of (times body low high) = names_of body
names_of (named name) = name ∷ []

-- the definition is one of the list, and has this name
pub record Defines (definitions : List PlainDefinition) (name : List ℕ) (d : PlainDefinition) : Type 0 where
  pub place : ℕ
  pub at : slice_get definitions place ≡ Some d
  pub is : d.name ≡ name

-- The name matches the word by a definition; `inner` gives the words of the names in that definition.
abbrev pub DefinedMatches : (List ℕ → List ℕ → Type 0) → List PlainDefinition → List ℕ → List ℕ → Type 0
DefinedMatches inner definitions name word = (d : PlainDefinition) × Defines definitions name d × Matches inner d.tree word

-- the words that a name matches, names unfolded at most n deep
abbrev pub NameMatches : List PlainDefinition → ℕ → List ℕ → List ℕ → Type 0
NameMatches definitions zero name word = ⊥
NameMatches definitions (suc n) name word = DefinedMatches (NameMatches definitions n) definitions name word
