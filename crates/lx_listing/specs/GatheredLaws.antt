-- Gathered bytes, and then more.
use Rattle.std.proofs.Common.{ℕ, ◌≡◌, inl, inr, Bool, true, false, List, [], ◌++◌, refl, sym, ◌∙◌, ap, subst, append_assoc, append-nil}
use Rattle.std.proofs.lemmas.Bool.{both_ways, cases_Bool}
use Rattle.lx_piece.specs.Pieces.{IsPrefix}
use Rattle.lx_listing.specs.AppendingLaws.{prefix_before, prefix_behind, prefix_then}
use Rattle.lx_listing.specs.Gathered.{Gathered, Gathers, gathered}
use Rattle.lx_listing.specs.Printing.{WrotePrefix}

pub gathers_nothing : {S : Type 0} (wrote : S → List ℕ → S → Type 0) (nothing : (s : S) → wrote s [] s) (s : Gathered S) → Gathers wrote s [] s
gathers_nothing wrote nothing s =
    record {
      given = [];
      written = nothing s.sink;
      held = λ _. append-nil s.held;
      part = λ _. (s.held ++ [], refl);
      stopped = λ failed. (failed, refl);
    }

-- a prefix of some written bytes and further ones, if the first were gathered
part_on : {S : Type 0} (wrote : S → List ℕ → S → Type 0) (s t u : Gathered S) (xs ys : List ℕ) (f : Gathers wrote s xs t) (h : Gathers wrote t ys u) → u.failed ≡ true → IsPrefix (f.given ++ h.given) (s.held ++ (xs ++ ys))
part_on wrote s t u xs ys f h failed = elim (cases_Bool t.failed) [
  | inl before ↦
      subst (λ (bs : List ℕ). IsPrefix (f.given ++ bs) (s.held ++ (xs ++ ys))) (sym (h.stopped before).1)
      (subst (λ (bs : List ℕ). IsPrefix bs (s.held ++ (xs ++ ys))) (sym (append-nil f.given))
      (subst (λ (bs : List ℕ). IsPrefix f.given bs) (append_assoc s.held xs ys)
      (prefix_then f.given (s.held ++ xs) ((s.held ++ xs) ++ ys) (f.part before) (prefix_before (s.held ++ xs) ys))))
  | inr working ↦
      subst (λ (bs : List ℕ). IsPrefix (f.given ++ h.given) bs)
      (sym (append_assoc f.given t.held ys) ∙ ap (λ bs. bs ++ ys) (sym (f.held working)) ∙ append_assoc s.held xs ys)
      (prefix_behind f.given h.given (t.held ++ ys) (h.part failed))
]

-- once it failed it remains failed
works_before : {S : Type 0} (wrote : S → List ℕ → S → Type 0) (t u : Gathered S) (ys : List ℕ) → Gathers wrote t ys u → u.failed ≡ false → t.failed ≡ false
works_before wrote t u ys h working = elim (cases_Bool t.failed) [
  | inl before ↦ absurd (both_ways u.failed working (h.stopped before).0)
  | inr going ↦ going
]

pub gathers_on : {S : Type 0} (wrote : S → List ℕ → S → Type 0) (on : (s t u : S) (xs ys : List ℕ) → wrote s xs t → wrote t ys u → wrote s (xs ++ ys) u) (s t u : Gathered S) (xs ys : List ℕ) → Gathers wrote s xs t → Gathers wrote t ys u → Gathers wrote s (xs ++ ys) u
gathers_on wrote on s t u xs ys f h =
    record {
      given = f.given ++ h.given;
      written = on s.sink t.sink u.sink f.given h.given f.written h.written;
      held = λ working.
          sym (append_assoc s.held xs ys)
          ∙ ap (λ bs. bs ++ ys) (f.held (works_before wrote t u ys h working))
          ∙ append_assoc f.given t.held ys
          ∙ ap (λ bs. f.given ++ bs) (h.held working)
          ∙ sym (append_assoc f.given h.given u.held);
      part = part_on wrote s t u xs ys f h;
      stopped = λ before.
          let first = f.stopped before in
          let then = h.stopped first.0 in
          (then.0, ap (λ bs. bs ++ h.given) first.1 ∙ then.1);
    }

-- If all held bytes were written, or that failed, a prefix of the gathered bytes was written.
gathered_part : {S : Type 0} (wrote : S → List ℕ → S → Type 0) (s t : S) (failed : Bool) (bytes : List ℕ) → Gathers wrote (gathered [] false s) bytes (gathered [] failed t) → WrotePrefix wrote s bytes t
gathered_part wrote s t true bytes f = (f.given, f.part refl, f.written)
gathered_part wrote s t false bytes f = (f.given, ([], sym (f.held refl)), f.written)

pub finished_part : {S : Type 0} (wrote : S → List ℕ → S → Type 0) (on : (s t u : S) (xs ys : List ℕ) → wrote s xs t → wrote t ys u → wrote s (xs ++ ys) u) (s t : S) (first then : Gathered S) (failed : Bool) (bytes : List ℕ) → first ≡ gathered [] false s → WrotePrefix (Gathers wrote) first bytes then → Gathers wrote then [] (gathered [] failed t) → WrotePrefix wrote s bytes t
finished_part {S} wrote on s t first then failed bytes fresh p h =
    let front = p.0 in
    let all = gathers_on wrote on (gathered [] false s) then (gathered [] failed t) front [] (subst (λ (old : Gathered S). Gathers wrote old front then) fresh p.2) h in
    let part = gathered_part wrote s t failed front (subst (λ (bs : List ℕ). Gathers wrote (gathered [] false s) bs (gathered [] failed t)) (append-nil front) all) in
    (part.0, prefix_then part.0 front bytes part.1 p.1, part.2)
