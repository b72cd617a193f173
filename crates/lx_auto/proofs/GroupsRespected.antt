-- Leaves that don't distinguish a byte from its representative.
use Rattle.std.proofs.Common.{◌≡◌, ℕ, ◌+◌, ◌≤◌, ◌<◌, inl, inr, List, Some, length, sym, ◌∙◌, ap, subst, arith}
use Rattle.std.proofs.lemmas.Bool.{cases_lt}
use Rattle.std.proofs.lemmas.Option.{slice_get_past}
use Rattle.std.specs.Prelude.{slice_get}
use Rattle.lx_auto.specs.Leaves.{PlainLeaf, leaf_has_at, has_byte}
use Rattle.lx_auto.specs.Grouping.{representative_of, RespectsGroups, RespectGroupsBelow}
use Rattle.lx_auto.proofs.StepAll.{some_at}

pub respected_more : (leaves : List PlainLeaf) (n : ℕ) (leaf : PlainLeaf) (classes representatives new_classes new_representatives : List ℕ) →
    slice_get leaves n ≡ Some leaf → RespectGroupsBelow leaves classes representatives n → RespectsGroups leaf new_classes new_representatives →
    ((other : PlainLeaf) → RespectsGroups other classes representatives → RespectsGroups other new_classes new_representatives) →
    RespectGroupsBelow leaves new_classes new_representatives (n + 1)
respected_more leaves n leaf classes representatives new_classes new_representatives here so_far own others = record {
  each = λ q l h at. elim (cases_lt q n) [
    | inl less ↦ others l (so_far.each q l less at)
    | inr more ↦
        let e : q ≡ n = omega arith in
        let f : Some l ≡ Some leaf = sym at ∙ ap (λ k. slice_get leaves k) e ∙ here in
        let g : leaf ≡ l = cc in
        subst (λ x. RespectsGroups x new_classes new_representatives) g own
  ];
}

pub all_respected : (leaves : List PlainLeaf) (n : ℕ) (classes representatives : List ℕ) → length leaves ≤ n → RespectGroupsBelow leaves classes representatives n →
    (q b : ℕ) → b < 256 → has_byte leaves q b ≡ has_byte leaves q (representative_of classes representatives b)
all_respected leaves n classes representatives all respected q b h = elim (cases_lt q (length leaves)) [
  | inl less ↦
      let s = some_at leaves q less in
      ap (λ o. leaf_has_at o b) s.1 ∙ ((respected.each q s.0 (omega arith) s.1).each b h ∙ ap (λ o. leaf_has_at o (representative_of classes representatives b)) (sym s.1))
  | inr more ↦
      let none = slice_get_past leaves q more in
      ap (λ o. leaf_has_at o b) none ∙ ap (λ o. leaf_has_at o (representative_of classes representatives b)) (sym none)
]
