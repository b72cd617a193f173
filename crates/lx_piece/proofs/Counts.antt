-- The numbers of pieces delivered of each file.
use Rattle.std.proofs.Common.{ℕ, suc, ◌≡◌, List, [], ◌∷◌, length, map, Some, refl, ◌∙◌, ap}
use Rattle.std.specs.Prelude.{slice_get, slice_index}
use Rattle.std.proofs.lemmas.Option.{slice_get_within, get_or_from_slice_get}
use Rattle.std.proofs.lemmas.List.{get_or-map}
use Rattle.lx_piece.specs.Kept.{Buffered}

-- the counts of these buffers
abbrev pub nexts : {C : Type 0} → List (Buffered C) → List ℕ
nexts {C} buffers = map (λ (buffer : Buffered C). buffer.next) buffers

pub length-nexts : {C : Type 0} (buffers : List (Buffered C)) → length (nexts buffers) ≡ length buffers
length-nexts [] = refl
length-nexts (buffer ∷ buffers) = ap suc (length-nexts buffers)

-- a file's count
pub count_at : {C : Type 0} (buffers : List (Buffered C)) (file : ℕ) (buffer : Buffered C) → slice_get buffers file ≡ Some buffer → slice_index (nexts buffers) file ≡ buffer.next
count_at {C} buffers file buffer h =
    get_or-map (λ (l : Buffered C). l.next) buffers file buffer 0 (slice_get_within buffers file buffer h)
    ∙ ap (λ (l : Buffered C). l.next) (get_or_from_slice_get buffers file buffer buffer h)
