use Rattle.std.proofs.Common.{ℕ, ◌≡◌, ◌<◌, ◌↔◌, Bool, true, List, Some, length, get_or, sym, ◌∙◌, subst}
use Rattle.std.specs.Prelude.{slice_get, slice_index, All}
use Rattle.std.proofs.lemmas.Bool.{ltb-true, lt-ltb}
use Rattle.std.proofs.lemmas.List.{get_or_default}
use Rattle.std.proofs.lemmas.List.Elements.{All-get_or}
use Rattle.std.proofs.lemmas.Option.{slice_get-get_or}
use Rattle.lx_piece.specs.declared.piece.Piece.{Piece}
use Rattle.lx_piece.specs.Arrivals.{accepted_of, IsClosedBelow, IsTruncatedBelow}
use Rattle.lx_piece.specs.Kept.{Buffered, Kept, BufferStandsFor, StandsFor, shape_of_kept, delivered_counts, fresh_buffer, is_buffer_closed, is_buffer_truncated}
use Rattle.lx_piece.proofs.Buffers.{number_closes, closing_number}
use Rattle.lx_piece.proofs.Counts.{count_at}

-- a buffer is closed if and only if a closing piece was accepted among those that were delivered
pub buffer_closed : {C : Type 0} (buffer : Buffered C) (file : ℕ) (accepted : List (Piece C)) → BufferStandsFor buffer file accepted → (is_buffer_closed buffer ≡ true) ↔ IsClosedBelow accepted file buffer.next
buffer_closed buffer file accepted s =
    (λ h. let k = closing_number buffer.closing buffer.next h in (k.0, ltb-true k.0 buffer.next k.2, s.closing k.0 ∙ k.1), λ w. number_closes buffer.closing w.0 buffer.next (sym (s.closing w.0) ∙ w.2) (lt-ltb w.0 buffer.next w.1))

-- the same of the buffer of a file, by the count of the file
pub buffer_closed_at : {C : Type 0} (kept : Kept C) (came : List (Piece C)) (file : ℕ) (buffer : Buffered C) → StandsFor kept came → slice_get kept.buffers file ≡ Some buffer → (is_buffer_closed buffer ≡ true) ↔ IsClosedBelow (accepted_of (shape_of_kept kept) came) file (slice_index (delivered_counts kept) file)
buffer_closed_at kept came file buffer s at =
    let accepted = accepted_of (shape_of_kept kept) came in
    let both = buffer_closed buffer file accepted (s.each file buffer at) in
    let count : slice_index (delivered_counts kept) file ≡ buffer.next = count_at kept.buffers file buffer at in
    (λ h. subst (λ (n : ℕ). IsClosedBelow accepted file n) (sym count) (both.0 h), λ w. both.1 (subst (λ (n : ℕ). IsClosedBelow accepted file n) count w))

-- a flag that is true if and only if a file's buffer is closed is true if and only if the file is
pub file_closed : {C : Type 0} (kept : Kept C) (came : List (Piece C)) (file : ℕ) (closed : Bool) → StandsFor kept came → file < length kept.buffers → ((buffer : Buffered C) → slice_get kept.buffers file ≡ Some buffer → closed ≡ is_buffer_closed buffer) → (closed ≡ true) ↔ IsClosedBelow (accepted_of (shape_of_kept kept) came) file (slice_index (delivered_counts kept) file)
file_closed kept came file closed s within tells =
    let buffer = get_or kept.buffers file fresh_buffer in
    let at : slice_get kept.buffers file ≡ Some buffer = slice_get-get_or kept.buffers file fresh_buffer within in
    let both = buffer_closed_at kept came file buffer s at in
    (λ h. both.0 (sym (tells buffer at) ∙ h), λ w. tells buffer at ∙ both.1 w)

-- every buffer is closed if and only if every file is
pub files_closed : {C : Type 0} (kept : Kept C) (came : List (Piece C)) (closed : Bool) → StandsFor kept came → (closed ≡ true) ↔ All (λ (buffer : Buffered C). is_buffer_closed buffer ≡ true) kept.buffers → (closed ≡ true) ↔ ((file : ℕ) → file < length kept.buffers → IsClosedBelow (accepted_of (shape_of_kept kept) came) file (slice_index (delivered_counts kept) file))
files_closed {C} kept came closed s all =
    let buffer : ℕ → (Buffered C) = λ file. get_or kept.buffers file fresh_buffer in
    let at : (file : ℕ) → file < length kept.buffers → slice_get kept.buffers file ≡ Some (buffer file) = λ file within. slice_get-get_or kept.buffers file fresh_buffer within in (
      λ h file within. (buffer_closed_at kept came file (buffer file) s (at file within)).0 (All-get_or (λ (l : Buffered C). is_buffer_closed l ≡ true) kept.buffers file fresh_buffer within (all.0 h)),
      λ each. all.1 (λ file d within. subst (λ (l : Buffered C). is_buffer_closed l ≡ true) (get_or_default kept.buffers file fresh_buffer d within) ((buffer_closed_at kept came file (buffer file) s (at file within)).1 (each file within))),
    )

-- a buffer is truncated if and only if a piece marked Cut was accepted among those that were delivered
buffer_truncated : {C : Type 0} (buffer : Buffered C) (file : ℕ) (accepted : List (Piece C)) → BufferStandsFor buffer file accepted → (is_buffer_truncated buffer ≡ true) ↔ IsTruncatedBelow accepted file buffer.next
buffer_truncated buffer file accepted s =
    (λ h. let k = closing_number buffer.truncated buffer.next h in (k.0, ltb-true k.0 buffer.next k.2, s.truncated k.0 ∙ k.1), λ w. number_closes buffer.truncated w.0 buffer.next (sym (s.truncated w.0) ∙ w.2) (lt-ltb w.0 buffer.next w.1))

-- a flag that is true if and only if a file's buffer is truncated is true if and only if the file is
pub file_truncated : {C : Type 0} (kept : Kept C) (came : List (Piece C)) (file : ℕ) (truncated : Bool) → StandsFor kept came → file < length kept.buffers → ((buffer : Buffered C) → slice_get kept.buffers file ≡ Some buffer → truncated ≡ is_buffer_truncated buffer) → (truncated ≡ true) ↔ IsTruncatedBelow (accepted_of (shape_of_kept kept) came) file (slice_index (delivered_counts kept) file)
file_truncated kept came file truncated s within tells =
    let accepted = accepted_of (shape_of_kept kept) came in
    let buffer = get_or kept.buffers file fresh_buffer in
    let at : slice_get kept.buffers file ≡ Some buffer = slice_get-get_or kept.buffers file fresh_buffer within in
    let both = buffer_truncated buffer file accepted (s.each file buffer at) in
    let count : slice_index (delivered_counts kept) file ≡ buffer.next = count_at kept.buffers file buffer at in
    (λ h. subst (λ (n : ℕ). IsTruncatedBelow accepted file n) (sym count) (both.0 (sym (tells buffer at) ∙ h)), λ w. tells buffer at ∙ both.1 (subst (λ (n : ℕ). IsTruncatedBelow accepted file n) count w))
