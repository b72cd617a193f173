-- The meaning of the two passes over the nodes of a rule's expression.
use Rattle.std.proofs.Common.{◌≡◌, ℕ, ◌+◌, ◌-◌, inl, inr, Bool, List, [], ◌∷◌, length, refl, sym, ◌∙◌, ap, arith, append-nil}
use Rattle.std.specs.Prelude.{reverse}
use Rattle.lx_auto.specs.Unfolded.{Unfolded, empty, position_count}
use Rattle.lx_auto.specs.Nodes.{nodes_of}
use Rattle.lx_auto.specs.Marking.{flag, nulls_from, ends_from, reads_from}
use Rattle.lx_auto.specs.Passing.{HasNoEmptyPart, IsSimplified, null_list, ended, end_list, NullsAt, EndsAt, read_list}
use Rattle.lx_auto.proofs.PassResults.{some_nodes, nulls_pass, nulls_at, end_length, end_last, ends_pass, ends_at, reads_pass}

module _ (marks : List Bool) (e : Unfolded) (base : ℕ) where
  pub no_empty_nulls : HasNoEmptyPart e → nulls_from (nodes_of e) [] ≡ null_list e
  no_empty_nulls s = ap (λ l. nulls_from l []) (sym (append-nil (nodes_of e))) ∙ nulls_pass e [] [] s

  pub nulls_hold : HasNoEmptyPart e → NullsAt (nulls_from (nodes_of e) []) 0 e
  nulls_hold s = nulls_at e [] [] (nulls_from (nodes_of e) []) 0 s (no_empty_nulls s ∙ sym (append-nil (null_list e))) refl

  pub no_empty_ends : HasNoEmptyPart e → ends_from (nulls_from (nodes_of e) []) marks base (nodes_of e) [] ≡ end_list marks e base
  no_empty_ends s = ap (λ l. ends_from (nulls_from (nodes_of e) []) marks base l []) (sym (append-nil (nodes_of e)))
      ∙ ends_pass marks (nulls_from (nodes_of e) []) e [] [] base 0 s refl (nulls_hold s)

  pub ended_at_last : (ends : List Bool) → IsSimplified e → ends ≡ ends_from (nulls_from (nodes_of e) []) marks base (nodes_of e) [] →
      flag ends (length ends - 1) ≡ ended marks e base
  ended_at_last ends t is = elim t [
    | inl none ↦
        let all : ends ≡ ends_from (nulls_from (nodes_of empty) []) marks base (nodes_of empty) [] =
        is ∙ ap (λ x. ends_from (nulls_from (nodes_of x) []) marks base (nodes_of x) []) none in
        ap (λ l. flag l (length l - 1)) all ∙ sym (ap (λ x. ended marks x base) none)
    | inr s ↦
        let long = end_length marks e base in
        let some = some_nodes e s in
        ap (λ l. flag l (length l - 1)) (is ∙ no_empty_ends s) ∙ end_last marks [] e base (length (end_list marks e base) - 1) s (omega arith)
  ]

  pub reads_are : (ends reads : List Bool) (f : Bool) → IsSimplified e → ends ≡ ends_from (nulls_from (nodes_of e) []) marks base (nodes_of e) [] →
      reads_from (nulls_from (nodes_of e) []) ends (reverse (nodes_of e)) (f ∷ []) (base + position_count e) reads ≡ read_list marks e f base reads
  reads_are ends reads f t is = elim t [
    | inl none ↦
        ap (λ x. reads_from (nulls_from (nodes_of x) []) ends (reverse (nodes_of x)) (f ∷ []) (base + position_count x) reads) none
        ∙ sym (ap (λ x. read_list marks x f base reads) none)
    | inr s ↦
        let at : EndsAt marks ends 0 e base = ends_at marks e [] [] ends 0 base s (is ∙ no_empty_ends s ∙ sym (append-nil (end_list marks e base))) refl in
        ap (λ l. reads_from (nulls_from (nodes_of e) []) ends l (f ∷ []) (base + position_count e) reads) (sym (append-nil (reverse (nodes_of e))))
        ∙ reads_pass marks (nulls_from (nodes_of e) []) ends e [] f [] base (base + position_count e) reads s refl (nulls_hold s) at
  ]
