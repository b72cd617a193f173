-- One state more: given a block by its label, given a number.
use Rattle.std.proofs.Common.{◌≡◌, ◌≢◌, ℕ, ◌+◌, ◌<◌, List, length, slice_index, slice_set, sym, ◌∙◌, ap, arith, inl, inr}
use Rattle.std.proofs.lemmas.Bool.{cases_lt, cases_eq}
use Rattle.std.proofs.lemmas.List.{length-set, get_or-set_same, get_or-set_other}
use Rattle.lx_minimize.specs.Completion.{total, step_of}
use Rattle.lx_minimize.specs.Partitions.{block, member_of, IsStable, AreRenumbered, StepsLikeRepresentative}
use Rattle.lx_minimize.specs.declared.complete.Complete.{Complete}
use Rattle.lx_minimize.specs.declared.partition.Partition.{Partition}

pub renumber_more : (old new ms : List ℕ) (fresh n : ℕ) → AreRenumbered old new ms fresh n → slice_index ms n < length old →
    AreRenumbered old (slice_set new (slice_index ms n) fresh) ms fresh (n + 1)
renumber_more old new ms fresh n are l =
    let y = slice_index ms n in
    let here : slice_index (slice_set new y fresh) y ≡ fresh = get_or-set_same new y fresh 0 (let g = are.long in omega arith) in
    let there : (x : ℕ) → x ≢ y → slice_index (slice_set new y fresh) x ≡ slice_index new x = λ x ne. get_or-set_other new y x fresh 0 ne in
    record {
      long = length-set new y fresh ∙ are.long;
      moved = λ j h. elim (cases_eq (slice_index ms j) y) [
        | inl e ↦ rw e here
        | inr ne ↦ elim (cases_lt j n) [
          | inl k ↦ there (slice_index ms j) ne ∙ are.moved j k
          | inr k ↦ let i : j ≡ n = omega arith in absurd (ne (ap (λ x. slice_index ms x) i))
        ]
      ];
      other = λ s none. there s (λ e. none n (omega arith) (sym e)) ∙ are.other s (λ j h. none j (omega arith));
    }

-- if each state steps like its representative, states of one block step alike
pub stable_from : (m : Complete) (p : Partition) → ((s : ℕ) → s < total m → StepsLikeRepresentative m p s m.width) → IsStable m p
stable_from m p like = record {
  steps = λ s t c hs ht hc e. like s hs c hc ∙ ap (λ b. block p (step_of m (member_of p b) c)) e ∙ sym (like t ht c hc);
}
