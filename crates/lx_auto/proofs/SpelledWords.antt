-- An expression matches the words that its words of positions spell.
use Rattle.std.proofs.Common.{◌≡◌, ℕ, zero, suc, ◌+◌, inl, inr, List, [], ◌∷◌, ◌++◌, refl, ap}
use Rattle.lx_auto.specs.Unfolded.{Unfolded, empty, leaf, cat, alt, opt, plus, position_count, Joined, PositionWord, ByteWord}
use Rattle.lx_auto.specs.Positions.{Spells, HasItsBytes}

module _ (Has : ℕ → ℕ → Type 0) where
  pub spells_append : (ps u qs v : List ℕ) → Spells Has ps u → Spells Has qs v → Spells Has (ps ++ qs) (u ++ v)
  spells_append [] [] qs v s t = t
  spells_append [] (b ∷ u) qs v s t = absurd s
  spells_append (p ∷ ps) [] qs v s t = absurd s
  spells_append (p ∷ ps) (b ∷ u) qs v s t = (s.0, spells_append ps u qs v s.1 t)

  pub spells_split : (ps qs w : List ℕ) → Spells Has (ps ++ qs) w → (u : List ℕ) × (v : List ℕ) × (w ≡ u ++ v) × Spells Has ps u × Spells Has qs v
  spells_split [] qs w s = ([], w, refl, tt, s)
  spells_split (p ∷ ps) qs [] s = absurd s
  spells_split (p ∷ ps) qs (b ∷ w) s = let t = spells_split ps qs w s.1 in (b ∷ t.0, t.1, ap (λ l. b ∷ l) t.2, (s.0, t.3), t.4)

  pub spells_nil : (w : List ℕ) → Spells Has [] w → w ≡ []
  spells_nil [] s = refl
  spells_nil (b ∷ w) s = absurd s

  -- joined words, part by part
  joined_spelled : (P M : List ℕ → Type 0) → ((w : List ℕ) → M w → (ps : List ℕ) × P ps × Spells Has ps w) → (n : ℕ) (w : List ℕ) → Joined M n w → (ps : List ℕ) × Joined P n ps × Spells Has ps w
  joined_spelled P M f zero w j = ([], refl, rw j tt)
  joined_spelled P M f (suc n) w j =
      let x = f j.0 j.3 in
      let y = joined_spelled P M f n j.1 j.4 in
      (x.0 ++ y.0, (x.0, y.0, refl, x.1, y.1), rw j.2 (spells_append x.0 j.0 y.0 j.1 x.2 y.2))

  joined_matched : (P M : List ℕ → Type 0) → ((ps w : List ℕ) → P ps → Spells Has ps w → M w) → (n : ℕ) (ps w : List ℕ) → Joined P n ps → Spells Has ps w → Joined M n w
  joined_matched P M f zero ps w j s = spells_nil w (rw j at s)
  joined_matched P M f (suc n) ps w j s =
      let t = spells_split j.0 j.1 w (rw j.2 at s) in
      (t.0, t.1, t.2, f j.0 t.0 j.3 t.3, joined_matched P M f n j.1 t.1 j.4 t.4)

  pub spelled : (e : Unfolded) (k : ℕ) (w : List ℕ) → HasItsBytes Has e k → ByteWord e k w → (ps : List ℕ) × PositionWord e k ps × Spells Has ps w
  spelled empty k w h m = ([], refl, rw m tt)
  spelled (leaf bytes) k w h m = (k ∷ [], refl, rw m.2 ((h m.0).1 m.1, tt))
  spelled (cat a b) k w h m =
      let x = spelled a k m.0 h.0 m.3 in
      let y = spelled b (k + position_count a) m.1 h.1 m.4 in
      (x.0 ++ y.0, (x.0, y.0, refl, x.1, y.1), rw m.2 (spells_append x.0 m.0 y.0 m.1 x.2 y.2))
  spelled (alt a b) k w h m = elim m [
    | inl x ↦ let y = spelled a k w h.0 x in (y.0, inl y.1, y.2)
    | inr x ↦ let y = spelled b (k + position_count a) w h.1 x in (y.0, inr y.1, y.2)
  ]
  spelled (opt a) k w h m = elim m [
    | inl x ↦ ([], inl refl, rw x tt)
    | inr x ↦ let y = spelled a k w h x in (y.0, inr y.1, y.2)
  ]
  spelled (plus a) k w h m =
      let y = joined_spelled (PositionWord a k) (ByteWord a k) (λ u x. spelled a k u h x) (suc m.0) w m.1 in
      (y.0, (m.0, y.1), y.2)

  pub matched : (e : Unfolded) (k : ℕ) (ps w : List ℕ) → HasItsBytes Has e k → PositionWord e k ps → Spells Has ps w → ByteWord e k w
  matched empty k ps w h p s = spells_nil w (rw p at s)
  matched (leaf bytes) k ps [] h p s = absurd (rw p at s)
  matched (leaf bytes) k ps (b ∷ w) h p s = let t = rw p at s in (b, (h b).0 t.0, ap (λ l. b ∷ l) (spells_nil w t.1))
  matched (cat a b) k ps w h p s =
      let t = spells_split p.0 p.1 w (rw p.2 at s) in
      (t.0, t.1, t.2, matched a k p.0 t.0 h.0 p.3 t.3, matched b (k + position_count a) p.1 t.1 h.1 p.4 t.4)
  matched (alt a b) k ps w h p s = elim p [
    | inl x ↦ inl (matched a k ps w h.0 x s)
    | inr x ↦ inr (matched b (k + position_count a) ps w h.1 x s)
  ]
  matched (opt a) k ps w h p s = elim p [
    | inl x ↦ inl (spells_nil w (rw x at s))
    | inr x ↦ inr (matched a k ps w h x s)
  ]
  matched (plus a) k ps w h p s =
      (p.0, joined_matched (PositionWord a k) (ByteWord a k) (λ us u x t. matched a k us u h x t) (suc p.0) ps w p.1 s)
