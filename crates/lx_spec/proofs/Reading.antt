-- The definitions that were read.
use Rattle.std.proofs.Common.{◌≡◌, ℕ, zero, suc, ◌+◌, ◌≤◌, Bool, List, [], ◌∷◌, ◌++◌, length, map, take, Option, Some, refl, ap, sym, subst, ◌∙◌, append_assoc, arith, add-one, length-append}
use Rattle.std.specs.Prelude.{slice_get}
use Rattle.std.proofs.lemmas.List.{append-nil, map_push}
use Rattle.lx_ere.specs.Regex.{Regex}
use Rattle.lx_spec.specs.Sections.{RawDefinition}
use Rattle.lx_spec.specs.Dictionary.{IsTreeOf, AreTrees, mentions_in, mentions_from, is_incomplete, incomplete_marks}
use Rattle.lx_spec.specs.views.Dictionaries.{Known, AddsTree, IsDictionary}
use Rattle.lx_spec.specs.declared.graph.Mention.{Mention}

-- The first i definitions were read.
pub record ReadSome (raw_definitions : List RawDefinition) (i : ℕ) (known : Known) : Type 0 where
  pub count : length known.trees ≡ i
  pub trees : AreTrees (take i raw_definitions) known.trees
  pub mentions : known.mentions ≡ mentions_from raw_definitions 0 known.trees
  pub incomplete : known.incomplete ≡ incomplete_marks raw_definitions known.trees

trees-push : (raw_definitions : List RawDefinition) (i : ℕ) (d : RawDefinition) (trees : List (Option Regex)) (t : Option Regex) → slice_get raw_definitions i ≡ Some d → length trees ≡ i → AreTrees (take i raw_definitions) trees → IsTreeOf d.substitute t
    → AreTrees (take (suc i) raw_definitions) (trees ++ t ∷ [])
trees-push [] i d trees t at len are is = cc
trees-push (x ∷ raw_definitions) zero d [] t at len are is = let same : x ≡ d = cc in (subst (λ (y : RawDefinition). IsTreeOf y.substitute t) (sym same) is, tt)
trees-push (x ∷ raw_definitions) zero d (y ∷ trees) t at len are is = absurd (omega arith)
trees-push (x ∷ raw_definitions) (suc i) d [] t at len are is = absurd (omega arith)
trees-push (x ∷ raw_definitions) (suc i) d (y ∷ trees) t at len are is = (are.0, trees-push raw_definitions i d trees t at (omega arith) are.1 is)

mentions-push : (raw_definitions : List RawDefinition) (i : ℕ) (trees : List (Option Regex)) (t : Option Regex) → mentions_from raw_definitions i (trees ++ t ∷ []) ≡ mentions_from raw_definitions i trees ++ mentions_in raw_definitions (i + length trees) t
mentions-push raw_definitions i [] t = append-nil (mentions_in raw_definitions i t) ∙ ap (λ (n : ℕ). mentions_in raw_definitions n t) (omega arith)
mentions-push raw_definitions i (y ∷ trees) t =
    let n : suc i + length trees ≡ i + suc (length trees) = omega arith in
    ap (λ (l : List Mention). mentions_in raw_definitions i y ++ l) (mentions-push raw_definitions (suc i) trees t ∙ ap (λ (k : ℕ). mentions_from raw_definitions (suc i) trees ++ mentions_in raw_definitions k t) n)
    ∙ sym (append_assoc (mentions_in raw_definitions i y) (mentions_from raw_definitions (suc i) trees) (mentions_in raw_definitions (i + suc (length trees)) t))

pub ReadSome-start : (raw_definitions : List RawDefinition) → ReadSome raw_definitions 0 (record { trees = []; mentions = []; incomplete = [] })
ReadSome-start definitions = record { count = refl; trees = tt; mentions = refl; incomplete = refl }

pub ReadSome-more : (raw_definitions : List RawDefinition) (i : ℕ) (old new : Known) → ReadSome raw_definitions i old → AddsTree raw_definitions i old new → ReadSome raw_definitions (i + 1) new
ReadSome-more raw_definitions i old new r a = subst (λ (n : ℕ). ReadSome raw_definitions n new) (sym (add-one i)) (record {
  count = ap length a.trees ∙ length-append old.trees (a.tree ∷ []) ∙ (let h = r.count in omega arith);
  trees = subst (AreTrees (take (suc i) raw_definitions)) (sym a.trees) (trees-push raw_definitions i a.definition old.trees a.tree a.at r.count r.trees a.reads);
  mentions = a.mentions ∙ ap (λ (l : List Mention). l ++ mentions_in raw_definitions i a.tree) r.mentions
      ∙ ap (λ (k : ℕ). mentions_from raw_definitions 0 old.trees ++ mentions_in raw_definitions k a.tree) (let h = r.count in let e : i ≡ 0 + length old.trees = omega arith in e)
      ∙ sym (mentions-push raw_definitions 0 old.trees a.tree) ∙ ap (mentions_from raw_definitions 0) (sym a.trees);
  incomplete = a.incomplete ∙ ap (λ (l : List Bool). l ++ is_incomplete raw_definitions a.tree ∷ []) r.incomplete ∙ sym (map_push (is_incomplete raw_definitions) old.trees a.tree) ∙ ap (map (is_incomplete raw_definitions)) (sym a.trees);
})

trees-all : (raw_definitions : List RawDefinition) (i : ℕ) (trees : List (Option Regex)) → length raw_definitions ≤ i → AreTrees (take i raw_definitions) trees → AreTrees raw_definitions trees
trees-all [] zero trees all are = are
trees-all [] (suc i) trees all are = are
trees-all (d ∷ raw_definitions) zero trees all are = absurd (omega arith)
trees-all (d ∷ raw_definitions) (suc i) [] all are = are
trees-all (d ∷ raw_definitions) (suc i) (t ∷ trees) all are = (are.0, trees-all raw_definitions i trees (omega arith) are.1)

pub ReadSome-all : (raw_definitions : List RawDefinition) (i : ℕ) (known : Known) → length raw_definitions ≤ i → ReadSome raw_definitions i known → IsDictionary raw_definitions known
ReadSome-all raw_definitions i known all r = record { trees = trees-all raw_definitions i known.trees all r.trees; mentions = r.mentions; incomplete = r.incomplete }
