-- The rules of sets, set by set.
use Rattle.std.proofs.Common.{◌≡◌, ℕ, zero, suc, ◌+◌, ◌<◌, inl, inr, List, [], ◌∷◌, ◌++◌, Option, None, length, get_or, refl, sym, ◌∙◌, ap, subst, arith}
use Rattle.std.proofs.lemmas.Bool.{cases_lt}
use Rattle.std.proofs.Math.Seq.{get_or-append_seam}
use Rattle.lx_ere.specs.Regex.{Regex}
use Rattle.lx_rules.specs.Plain.{PlainSpec}
use Rattle.lx_auto.specs.Unfolded.{Unfolded}
use Rattle.lx_auto.specs.PositionSets.{numbered}
use Rattle.lx_auto.specs.SetTable.{Positions, set_of}
use Rattle.lx_auto.specs.Sets.{IsEarliestMatched}
use Rattle.lx_auto.specs.PositionTables.{AreMatchedBelow}
use Rattle.lx_auto.proofs.FlagLemmas.{length_joined}

get_or_left : (xs : List (Option ℕ)) (x : Option ℕ) (i : ℕ) → i < length xs → get_or (xs ++ x ∷ []) i None ≡ get_or xs i None
get_or_left [] x i h = absurd (omega arith)
get_or_left (y ∷ xs) x zero h = refl
get_or_left (y ∷ xs) x (suc i) h = get_or_left xs x i (omega arith)

pub matched_push : (spec : PlainSpec) (tree_of : Regex → Unfolded) (old new : List Positions) (matched : List (Option ℕ)) (n : ℕ) (found : Option ℕ) → n < length old →
    ((i : ℕ) → i < length old → set_of new i ≡ set_of old i) → AreMatchedBelow spec tree_of old matched n →
    IsEarliestMatched (numbered tree_of 0 spec.rules) (set_of old n) found → AreMatchedBelow spec tree_of new (matched ++ found ∷ []) (n + 1)
matched_push spec tree_of old new matched n found inside kept are is = record {
  long = let l = are.long in length_joined matched (found ∷ []) ∙ (omega arith);
  each = λ j h. let l = are.long in elim (cases_lt j n) [
    | inl k ↦
        subst (λ s. IsEarliestMatched (numbered tree_of 0 spec.rules) s (get_or (matched ++ found ∷ []) j None)) (sym (kept j (omega arith)))
        (subst (λ f. IsEarliestMatched (numbered tree_of 0 spec.rules) (set_of old j) f) (sym (get_or_left matched found j (omega arith))) (are.each j k))
    | inr k ↦
        let at : j ≡ length matched = omega arith in
        let here : j ≡ n = omega arith in
        subst (λ s. IsEarliestMatched (numbered tree_of 0 spec.rules) s (get_or (matched ++ found ∷ []) j None)) (sym (kept j (omega arith)))
        (subst (λ f. IsEarliestMatched (numbered tree_of 0 spec.rules) (set_of old j) f)
        (sym (ap (λ i. get_or (matched ++ found ∷ []) i None) at ∙ get_or-append_seam matched found [] None))
        (subst (λ i. IsEarliestMatched (numbered tree_of 0 spec.rules) (set_of old i) found) (sym here) is))
  ];
}

pub matched_none : (spec : PlainSpec) (tree_of : Regex → Unfolded) (sets : List Positions) (matched : List (Option ℕ)) → matched ≡ [] → AreMatchedBelow spec tree_of sets matched 0
matched_none spec tree_of sets matched e = record { long = ap length e; each = λ j h. absurd (omega arith) }
