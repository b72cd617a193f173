-- The places of an expression's positions in its words (Glushkov 1961).
use Rattle.std.specs.Prelude.{◌≡◌, ℕ, ◌+◌, ◌⊎◌, ◌↔◌, true, IsTrue, List, [], ◌∷◌, ◌++◌}
use Rattle.std.specs.FinSet as set
use Rattle.lx_auto.specs.Unfolded.{Unfolded, empty, leaf, cat, alt, opt, plus, position_count, nullable, Joined, PositionWord}

-- p can be first in a word
abbrev pub First : Unfolded → ℕ → ℕ → Type 0
First empty k p = ⊥
First (leaf bytes) k p = p ≡ k
First (cat a b) k p = First a k p ⊎ ((nullable a ≡ true) × First b (k + position_count a) p)
First (alt a b) k p = First a k p ⊎ First b (k + position_count a) p
First (opt a) k p = First a k p
First (plus a) k p = First a k p

-- p can be last in a word
abbrev pub Last : Unfolded → ℕ → ℕ → Type 0
Last empty k p = ⊥
Last (leaf bytes) k p = p ≡ k
Last (cat a b) k p = Last b (k + position_count a) p ⊎ ((nullable b ≡ true) × Last a k p)
Last (alt a b) k p = Last a k p ⊎ Last b (k + position_count a) p
Last (opt a) k p = Last a k p
Last (plus a) k p = Last a k p

-- q can come directly after p in a word
abbrev pub Follow : Unfolded → ℕ → ℕ → ℕ → Type 0
Follow empty k p q = ⊥
Follow (leaf bytes) k p q = ⊥
Follow (cat a b) k p q = Follow a k p q ⊎ (Follow b (k + position_count a) p q ⊎ (Last a k p × First b (k + position_count a) q))
Follow (alt a b) k p q = Follow a k p q ⊎ Follow b (k + position_count a) p q
Follow (opt a) k p q = Follow a k p q
Follow (plus a) k p q = Follow a k p q ⊎ (Last a k p × First a k q)

-- vs completes a word, from its position p on
abbrev pub Completes : Unfolded → ℕ → ℕ → List ℕ → Type 0
Completes empty k p vs = ⊥
Completes (leaf bytes) k p vs = (p ≡ k) × (vs ≡ [])
Completes (cat a b) k p vs =
    ((xs : List ℕ) × (ys : List ℕ) × (vs ≡ xs ++ ys) × Completes a k p xs × PositionWord b (k + position_count a) ys)
    ⊎ Completes b (k + position_count a) p vs
Completes (alt a b) k p vs = Completes a k p vs ⊎ Completes b (k + position_count a) p vs
Completes (opt a) k p vs = Completes a k p vs
Completes (plus a) k p vs =
    (xs : List ℕ) × (ys : List ℕ) × (vs ≡ xs ++ ys) × Completes a k p xs × ((n : ℕ) × Joined (PositionWord a k) n ys)

-- the position p of the expression has the byte b
abbrev pub HasByte : Unfolded → ℕ → ℕ → ℕ → Type 0
HasByte empty k p b = ⊥
HasByte (leaf bytes) k p b = (p ≡ k) × IsTrue (set.contains bytes b)
HasByte (cat a b') k p b = HasByte a k p b ⊎ HasByte b' (k + position_count a) p b
HasByte (alt a b') k p b = HasByte a k p b ⊎ HasByte b' (k + position_count a) p b
HasByte (opt a) k p b = HasByte a k p b
HasByte (plus a) k p b = HasByte a k p b

-- Has gives the expression's positions, numbered from k, the bytes of its leaves
abbrev pub HasItsBytes : (ℕ → ℕ → Type 0) → Unfolded → ℕ → Type 0
HasItsBytes Has empty k = Unit {0}
HasItsBytes Has (leaf bytes) k = (b : ℕ) → Has k b ↔ IsTrue (set.contains bytes b)
HasItsBytes Has (cat a b) k = HasItsBytes Has a k × HasItsBytes Has b (k + position_count a)
HasItsBytes Has (alt a b) k = HasItsBytes Has a k × HasItsBytes Has b (k + position_count a)
HasItsBytes Has (opt a) k = HasItsBytes Has a k
HasItsBytes Has (plus a) k = HasItsBytes Has a k

-- the positions spell the word, where Has p b means that the position p has the byte b
abbrev pub Spells : (ℕ → ℕ → Type 0) → List ℕ → List ℕ → Type 0
Spells Has [] [] = Unit {0}
Spells Has (p ∷ ps) (b ∷ w) = Has p b × Spells Has ps w
Spells Has [] (b ∷ w) = ⊥
Spells Has (p ∷ ps) [] = ⊥

-- q is the last position of a list that spells the word and that is a prefix of a word of positions
pub record EndsPrefix (Has : ℕ → ℕ → Type 0) (e : Unfolded) (k : ℕ) (w : List ℕ) (q : ℕ) : Type 0 where
  pub before : List ℕ
  pub behind : List ℕ
  pub word : PositionWord e k ((before ++ q ∷ []) ++ behind)
  pub spelled : Spells Has (before ++ q ∷ []) w

-- from p, which was read, the word leads to q by the follow relation
abbrev pub LeadsTo : (ℕ → ℕ → Type 0) → Unfolded → ℕ → ℕ → List ℕ → ℕ → Type 0
LeadsTo Has e k p [] q = q ≡ p
LeadsTo Has e k p (b ∷ w) q = (r : ℕ) × Follow e k p r × Has r b × LeadsTo Has e k r w q

-- q is reached by the word: its first position can be first, and the others come by the follow relation
abbrev pub IsReached : (ℕ → ℕ → Type 0) → Unfolded → ℕ → List ℕ → ℕ → Type 0
IsReached Has e k [] q = ⊥
IsReached Has e k (b ∷ w) q = (p : ℕ) × First e k p × Has p b × LeadsTo Has e k p w q

-- some position of the set can be last in the expression
abbrev pub CanEnd : (ℕ → Type 0) → Unfolded → ℕ → Type 0
CanEnd Marked e k = (p : ℕ) × Marked p × Last e k p

-- q can be read next: as first in the expression, if that may be entered, or after a position of the set
abbrev pub CanRead : (ℕ → Type 0) → Type 0 → Unfolded → ℕ → ℕ → Type 0
CanRead Marked Enters e k q = (Enters × First e k q) ⊎ ((p : ℕ) × Marked p × Follow e k p q)
