-- The bytes between two places of a text, and the places that words lead to.
use Rattle.std.specs.Prelude.{◌≡◌, ℕ, ◌+◌, ◌≤◌, true, false, Bool, ◌&&◌, nat_lt, List, ◌++◌, length, take, drop, slice_index}
use Rattle.std.specs.FinSet as set
use Rattle.std.specs.Ordering.{nat_cmp}
use Rattle.std.specs.BTreeSet.{BTreeSet, contains}
use Rattle.lx_ere.specs.Matching.{Repeats}

-- the bytes of the text from place i to place j are a word of the language
pub record Between (L : List ℕ → Type 0) (text : List ℕ) (i j : ℕ) : Type 0 where
  pub word : List ℕ
  pub rest : List ℕ
  pub matches : L word
  pub there : drop i text ≡ word ++ rest
  pub end : j ≡ i + length word

-- from one of the starts a word of the language leads to place j
pub record IsReached (L : List ℕ → Type 0) (text : List ℕ) (starts : BTreeSet ℕ) (j : ℕ) : Type 0 where
  pub from : ℕ
  pub start : contains nat_cmp starts from ≡ true
  pub between : Between L text from j

-- the ends are the places to which words of the language lead from the starts
pub record AreEnds (L : List ℕ → Type 0) (text : List ℕ) (starts ends : BTreeSet ℕ) : Type 0 where
  pub sound : (j : ℕ) → contains nat_cmp ends j ≡ true → IsReached L text starts j
  pub whole : (j : ℕ) → IsReached L text starts j → contains nat_cmp ends j ≡ true

-- the lengths of the words of the language with which the text begins
pub record AreLengths (L : List ℕ → Type 0) (text : List ℕ) (lengths : BTreeSet ℕ) : Type 0 where
  pub within : (n : ℕ) → contains nat_cmp lengths n ≡ true → n ≤ length text
  pub sound : (n : ℕ) → contains nat_cmp lengths n ≡ true → L (take n text)
  pub whole : (n : ℕ) → n ≤ length text → L (take n text) → contains nat_cmp lengths n ≡ true

-- each place is one of the text, or its end
abbrev pub AreWithin : List ℕ → BTreeSet ℕ → Type 0
AreWithin text places = (j : ℕ) → contains nat_cmp places j ≡ true → j ≤ length text

-- any number of words of the language
abbrev pub AnyNumber : (List ℕ → Type 0) → List ℕ → Type 0
AnyNumber L w = (k : ℕ) × Repeats L k w

-- at most n words of the language
abbrev pub AtMost : (List ℕ → Type 0) → ℕ → List ℕ → Type 0
AtMost L n w = (k : ℕ) × (k ≤ n) × Repeats L k w

-- a byte of the set is at place i
abbrev pub is_byte_at : set.FinSet nat_cmp → List ℕ → ℕ → Bool
is_byte_at s text i = nat_lt i (length text) && set.contains s (slice_index text i)

-- the ends are one after the starts that have a byte of the set
pub record AreBehind (s : set.FinSet nat_cmp) (text : List ℕ) (starts ends : BTreeSet ℕ) : Type 0 where
  pub first : contains nat_cmp ends 0 ≡ false
  pub next : (i : ℕ) → contains nat_cmp ends (i + 1) ≡ (contains nat_cmp starts i && is_byte_at s text i)
