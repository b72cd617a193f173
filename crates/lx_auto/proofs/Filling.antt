-- Fragments, one more of which is filled.
use Rattle.std.proofs.Common.{◌≡◌, ◌∙◌, ℕ, zero, suc, ◌⊎◌, inl, inr, List, [], ◌∷◌, ◌++◌, Option, Some, None, map, refl, ap, sym, subst}
use Rattle.std.specs.Prelude.{slice_get, slice_set}
use Rattle.lx_ere.specs.Regex.{regex_of}
use Rattle.lx_rules.specs.views.Rules.{definition_view}
use Rattle.lx_rules.specs.declared.definition.Definition.{Definition}
use Rattle.lx_auto.specs.NodeViews.{nodes_view}
use Rattle.lx_auto.specs.Unfolding.{Unfolds, AreFragments}
use Rattle.lx_auto.specs.declared.unfolding.fragment.Fragment.{Fragment}

-- no fragment is filled
pub record AreNone (fragments : List (Option Fragment)) : Type 0 where
  pub at : (i : ℕ) (f : Fragment) → slice_get fragments i ≡ Some (Some f) → ⊥

pub none-first : AreNone []
none-first = record { at = λ i f e. let g : None ≡ Some (Some f) = e in cc }

none-at : (xs : List (Option Fragment)) → ((i : ℕ) (f : Fragment) → slice_get xs i ≡ Some (Some f) → ⊥) → (i : ℕ) (f : Fragment) → slice_get (xs ++ None ∷ []) i ≡ Some (Some f) → ⊥
none-at [] h zero f e = let g : Some None ≡ Some (Some f) = e in cc
none-at [] h (suc i) f e = let g : None ≡ Some (Some f) = e in cc
none-at (x ∷ xs) h zero f e = h 0 f e
none-at (x ∷ xs) h (suc i) f e = none-at xs (λ k. h (suc k)) i f e

pub none-more : (xs ys : List (Option Fragment)) → AreNone xs → ys ≡ xs ++ None ∷ [] → AreNone ys
none-more xs ys h e = subst AreNone (sym e) (record { at = none-at xs h.at })

pub none-filled : (definitions : List Definition) (fragments : List (Option Fragment)) → AreNone fragments → AreFragments definitions fragments
none-filled definitions fragments h = record { at = λ i f d e g. absurd (h.at i f e) }

-- one fragment is set
set-at : (xs : List (Option Fragment)) (n : ℕ) (g : Fragment) (i : ℕ) (f : Fragment) → slice_get (slice_set xs n (Some g)) i ≡ Some (Some f) → ((i ≡ n) × (f ≡ g)) ⊎ (slice_get xs i ≡ Some (Some f))
set-at [] n g i f e = inr e
set-at (x ∷ xs) zero g zero f e = inl (refl, (let h : Some (Some g) ≡ Some (Some f) = e in cc))
set-at (x ∷ xs) zero g (suc i) f e = inr e
set-at (x ∷ xs) (suc n) g zero f e = inr e
set-at (x ∷ xs) (suc n) g (suc i) f e = elim (set-at xs n g i f e) [
  | inl h ↦ inl (ap suc h.0, h.1)
  | inr h ↦ inr h
]

pub filled : (definitions : List Definition) (old new : List (Option Fragment)) (n : ℕ) (g : Fragment) (d : Definition) → AreFragments definitions old → slice_get definitions n ≡ Some d
    → Unfolds (map definition_view definitions) 32 (regex_of d.expr) [] (nodes_view g.nodes.items) g.part → new ≡ slice_set old n (Some g) → AreFragments definitions new
filled definitions old new n g d h at u e = subst (AreFragments definitions) (sym e) (record {
  at = λ i f c x y. elim (set-at old n g i f x) [
    | inl z ↦
        let same : c ≡ d = (let p : slice_get definitions n ≡ Some c = subst (λ (k : ℕ). slice_get definitions k ≡ Some c) z.0 y in let q : Some c ≡ Some d = sym p ∙ at in cc) in
        subst (λ (v : Fragment). Unfolds (map definition_view definitions) 32 (regex_of c.expr) [] (nodes_view v.nodes.items) v.part) (sym z.1)
        (subst (λ (v : Definition). Unfolds (map definition_view definitions) 32 (regex_of v.expr) [] (nodes_view g.nodes.items) g.part) (sym same) u)
    | inr z ↦ h.at i f c z y
  ];
})
