-- One start and one target more.
use Rattle.std.proofs.Common.{◌≡◌, ℕ, ◌+◌, ◌*◌, ◌<◌, List, [], ◌∷◌, ◌++◌, slice_index, slice_index_or, sym, ◌∙◌, ap, arith, inl, inr}
use Rattle.std.proofs.lemmas.Bool.{cases_lt}
use Rattle.std.proofs.lemmas.List.{get_or_append_left, get_or_push, length_push}
use Rattle.lx_minimize.specs.Completion.{step_of}
use Rattle.lx_minimize.specs.Partitions.{block}
use Rattle.lx_minimize.specs.Quotients.{number_of, AreStarts, AreTargets}
use Rattle.lx_minimize.specs.declared.complete.Complete.{Complete}
use Rattle.lx_minimize.specs.declared.partition.Partition.{Partition}
use Rattle.lx_automaton.proofs.RowMajor.{same_row}

pub target_push : (m : Complete) (p : Partition) (rows targets : List ℕ) (i c x : ℕ) → AreTargets m p rows targets (i * m.width + c) → c < m.width →
    x ≡ block p (step_of m (slice_index rows i) c) → AreTargets m p rows (targets ++ x ∷ []) (i * m.width + (c + 1))
target_push m p rows targets i c x are l e = record {
  long = (let a = length_push targets x in let b = are.long in omega arith);
  each = λ t k hk h. elim (cases_lt (t * m.width + k) (i * m.width + c)) [
    | inl j ↦ rw (get_or_append_left targets (x ∷ []) 0 (t * m.width + k) (let b = are.long in omega arith)) (are.each t k hk j)
    | inr j ↦ let n : t * m.width + k ≡ i * m.width + c = omega arith in
        let r = same_row t i k c m.width hk l n in
        rw (get_or_push targets x 0 (t * m.width + k) (are.long ∙ sym n)) (rw (r.0, r.1) e)
  ];
}

pub start_push : (p : Partition) (old new : List (ℕ × ℕ)) (n : ℕ) (y : ℕ × ℕ) → AreStarts p old new n →
    y.0 ≡ number_of p (block p ((slice_index_or old n (0, 0)).0 + 1)) → y.1 ≡ number_of p (block p ((slice_index_or old n (0, 0)).1 + 1)) → AreStarts p old (new ++ y ∷ []) (n + 1)
start_push p old new n y are e f =
    let kept : (c : ℕ) → c < n → slice_index_or (new ++ y ∷ []) c (0, 0) ≡ slice_index_or new c (0, 0) =
    λ c h. get_or_append_left new (y ∷ []) (0, 0) c (let g = are.long in omega arith) in
    let last : slice_index_or (new ++ y ∷ []) n (0, 0) ≡ y = get_or_push new y (0, 0) n are.long in
    record {
      long = length_push new y ∙ ap (λ k. k + 1) are.long;
      elsewhere = λ c h. elim (cases_lt c n) [
        | inl k ↦ rw (kept c k) (are.elsewhere c k)
        | inr k ↦ let i : c ≡ n = omega arith in rw (i, last) e
      ];
      at_begin = λ c h. elim (cases_lt c n) [
        | inl k ↦ rw (kept c k) (are.at_begin c k)
        | inr k ↦ let i : c ≡ n = omega arith in rw (i, last) f
      ];
    }
