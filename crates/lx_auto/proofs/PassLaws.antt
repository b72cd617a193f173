-- Upwards, an expression's ends follow from those of its parts. Downwards, the entries of a part follow from those of the whole.
use Rattle.std.proofs.Common.{◌≡◌, ℕ, ◌+◌, ◌⊎◌, ◌↔◌, inl, inr, true}
use Rattle.lx_auto.specs.Unfolded.{Unfolded, cat, alt, plus, position_count, nullable}
use Rattle.lx_auto.specs.Positions.{CanEnd, CanRead}

module _ (Marked : ℕ → Type 0) (a b : Unfolded) (k : ℕ) where
  -- upwards
  pub end_of_cat : CanEnd Marked (cat a b) k ↔ (CanEnd Marked b (k + position_count a) ⊎ ((nullable b ≡ true) × CanEnd Marked a k))
  end_of_cat = (
    (λ h. elim h.2 [ inl x ↦ inl (h.0, h.1, x) | inr x ↦ inr (x.0, (h.0, h.1, x.1)) ]),
    (λ h. elim h [ inl x ↦ (x.0, x.1, inl x.2) | inr x ↦ (x.1.0, x.1.1, inr (x.0, x.1.2)) ]),
  )

  pub end_of_alt : CanEnd Marked (alt a b) k ↔ (CanEnd Marked a k ⊎ CanEnd Marked b (k + position_count a))
  end_of_alt = (
    (λ h. elim h.2 [ inl x ↦ inl (h.0, h.1, x) | inr x ↦ inr (h.0, h.1, x) ]),
    (λ h. elim h [ inl x ↦ (x.0, x.1, inl x.2) | inr x ↦ (x.0, x.1, inr x.2) ]),
  )

  -- downwards
  pub read_in_cat : (Enters : Type 0) (q : ℕ) → CanRead Marked Enters (cat a b) k q ↔
      (CanRead Marked Enters a k q ⊎ CanRead Marked ((Enters × (nullable a ≡ true)) ⊎ CanEnd Marked a k) b (k + position_count a) q)
  read_in_cat Enters q = (
    (λ h. elim h [
      | inl x ↦ elim x.1 [ inl y ↦ inl (inl (x.0, y)) | inr y ↦ inr (inl (inl (x.0, y.0), y.1)) ]
      | inr x ↦ elim x.2 [
        | inl y ↦ inl (inr (x.0, x.1, y))
        | inr y ↦ elim y [ inl z ↦ inr (inr (x.0, x.1, z)) | inr z ↦ inr (inl (inr (x.0, x.1, z.0), z.1)) ]
      ]
    ]),
    (λ h. elim h [
      | inl x ↦ elim x [ inl y ↦ inl (y.0, inl y.1) | inr y ↦ inr (y.0, y.1, inl y.2) ]
      | inr x ↦ elim x [
        | inl y ↦ elim y.0 [ inl z ↦ inl (z.0, inr (z.1, y.1)) | inr z ↦ inr (z.0, z.1, inr (inr (z.2, y.1))) ]
        | inr y ↦ inr (y.0, y.1, inr (inl y.2))
      ]
    ]),
  )

  pub read_in_alt : (Enters : Type 0) (q : ℕ) → CanRead Marked Enters (alt a b) k q ↔
      (CanRead Marked Enters a k q ⊎ CanRead Marked Enters b (k + position_count a) q)
  read_in_alt Enters q = (
    (λ h. elim h [
      | inl x ↦ elim x.1 [ inl y ↦ inl (inl (x.0, y)) | inr y ↦ inr (inl (x.0, y)) ]
      | inr x ↦ elim x.2 [ inl y ↦ inl (inr (x.0, x.1, y)) | inr y ↦ inr (inr (x.0, x.1, y)) ]
    ]),
    (λ h. elim h [
      | inl x ↦ elim x [ inl y ↦ inl (y.0, inl y.1) | inr y ↦ inr (y.0, y.1, inl y.2) ]
      | inr x ↦ elim x [ inl y ↦ inl (y.0, inr y.1) | inr y ↦ inr (y.0, y.1, inr y.2) ]
    ]),
  )

  pub read_in_plus : (Enters : Type 0) (q : ℕ) → CanRead Marked Enters (plus a) k q ↔ CanRead Marked (Enters ⊎ CanEnd Marked a k) a k q
  read_in_plus Enters q = (
    (λ h. elim h [
      | inl x ↦ inl (inl x.0, x.1)
      | inr x ↦ elim x.2 [ inl y ↦ inr (x.0, x.1, y) | inr y ↦ inl (inr (x.0, x.1, y.0), y.1) ]
    ]),
    (λ h. elim h [
      | inl x ↦ elim x.0 [ inl y ↦ inl (y, x.1) | inr y ↦ inr (y.0, y.1, inr (y.2, x.1)) ]
      | inr x ↦ inr (x.0, x.1, inl x.2)
    ]),
  )
