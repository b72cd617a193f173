use Rattle.std.proofs.Common.{ℕ, zero, suc, ◌≡◌, ◌<◌, ◌≤◌, inl, inr, true, false, List, [], ◌∷◌, ◌++◌, length, Option, Some, None, refl, sym, ◌∙◌, ap, subst, arith, nat_eq, nat_lt, get_or, is_some, replicate}
use Rattle.std.specs.Prelude.{slice_get, slice_index, All, Contains}
use Rattle.std.proofs.lemmas.Bool.{and_parts, cases_lt, eqb-true, ltb-true, lt-ltb, le-ltb, or_left, or_from, not-false}
use Rattle.std.proofs.lemmas.Option.{slice_get-get_or}
use Rattle.std.proofs.lemmas.List.Elements.{All-nil, All-head, All-tail, All-push, All-contains}
use Rattle.std.proofs.lemmas.List.{get_or-replicate, length-replicate, length_push, same_from_push}
use Rattle.lx_piece.specs.declared.piece.Piece.{Piece}
use Rattle.lx_piece.specs.declared.reply.Why.{Why}
use Rattle.lx_piece.specs.Plans.{Planned, files_of}
use Rattle.lx_piece.specs.Pieces.{Making, IsPieceBy, pieces_of}
use Rattle.lx_piece.specs.Arrivals.{RunShape, shape_of, IsHonestBy, AreHonestBy, accepted_behind, accepted_of, with_arrival, joined, cause_against, has_piece, is_numbered, reply_to, replies_of, IsLeastMissing}
use Rattle.lx_piece.specs.Kept.{Kept, BufferStandsFor, StandsFor, NoneReady, shape_of_kept, held_at, delivered_counts, is_ready_at, fresh_buffer}
use Rattle.lx_piece.specs.declared.reply.Reply.{Reply}
use Rattle.lx_piece.specs.Delivered.{HoldsPlanned, AreAtMost}
use Rattle.lx_piece.specs.Relayed.{TakesAllInOrder, AllDelivered, AtMostDelivered, RelayedInPartBy}
use Rattle.lx_piece.proofs.SoFar.{SoFar}
use Rattle.lx_piece.proofs.AnyOf.{any_last, any_of}
use Rattle.lx_piece.specs.PieceLaws.{takes_in_order}
use Rattle.lx_piece.proofs.Standing.{known, accepted_last, replies_last}
use Rattle.lx_piece.proofs.Counts.{nexts, length-nexts, count_at}

-- after an honest arrival the accepted pieces are still the plan's
pub with_planned : {C : Type 0} (made : Making C) (plan : Planned) (accepted : List (Piece C)) (p : Piece C) → All (IsPieceBy made plan) accepted → IsHonestBy made plan p → All (IsPieceBy made plan) (with_arrival (shape_of plan) accepted p)
with_planned made plan accepted p h first =
    let go : (cause : Option Why) → cause ≡ cause_against (shape_of plan) accepted p → All (IsPieceBy made plan) (joined cause accepted p) = elim [
      | None ↦ λ e.
          let k = known (shape_of plan) accepted p e in
          All-push (IsPieceBy made plan) accepted p h (first (eqb-true p.run plan.run (not-false (nat_eq p.run plan.run) k.0)) (ltb-true p.file (files_of plan) (not-false (nat_lt p.file (files_of plan)) k.1)))
      | Some why ↦ λ e. h
    ] in
    go (cause_against (shape_of plan) accepted p) refl

-- the pieces accepted from an honest list are the plan's
accepted_planned : {C : Type 0} (made : Making C) (plan : Planned) (accepted came : List (Piece C)) → All (IsPieceBy made plan) accepted → AreHonestBy made plan came → All (IsPieceBy made plan) (accepted_behind (shape_of plan) accepted came)
accepted_planned made plan accepted [] h honest = h
accepted_planned made plan accepted (p ∷ came) h honest =
    accepted_planned made plan (with_arrival (shape_of plan) accepted p) came (with_planned made plan accepted p h (All-head (IsHonestBy made plan) p came honest)) (All-tail (IsHonestBy made plan) p came honest)

-- so are the pieces held by a collector that represents the list
pub planned_from : {C : Type 0} (made : Making C) (plan : Planned) (kept : Kept C) (came : List (Piece C)) → shape_of_kept kept ≡ shape_of plan → StandsFor kept came → AreHonestBy made plan came → HoldsPlanned made plan kept.buffers
planned_from made plan kept came e s honest =
    record {
      files = ap (λ (shape : RunShape). shape.files) e;
      each = λ file buffer at n p held.
          let is = (s.each file buffer at).held n p held in
          let there = subst (λ shape. Contains (accepted_of shape came) p) e is.2 in
          (All-contains (IsPieceBy made plan) (accepted_of (shape_of plan) came) p (accepted_planned made plan [] came (All-nil (IsPieceBy made plan)) honest) there, is.0, is.1);
    }

-- if nothing more can be delivered, all was
pub all_delivered : {C : Type 0} (shape : RunShape) (kept : Kept C) (came : List (Piece C)) (counts : List ℕ) → shape_of_kept kept ≡ shape → StandsFor kept came → NoneReady kept.buffers → counts ≡ delivered_counts kept → AllDelivered shape came counts
all_delivered shape kept came counts e s ready c =
    record {
      files = ap length c ∙ length-nexts kept.buffers ∙ ap (λ (t : RunShape). t.files) e;
      each = λ file within.
          let inside : file < length kept.buffers = (let f = ap (λ (t : RunShape). t.files) e in omega arith) in
          let buffer = get_or kept.buffers file fresh_buffer in
          let at : slice_get kept.buffers file ≡ Some buffer = slice_get-get_or kept.buffers file fresh_buffer inside in
          let stands : BufferStandsFor buffer file (accepted_of shape came) = subst (λ t. BufferStandsFor buffer file (accepted_of t came)) e (s.each file buffer at) in
          let count : slice_index counts file ≡ buffer.next = ap (λ (ns : List ℕ). slice_index ns file) c ∙ count_at kept.buffers file buffer at in
          record {
            below = λ j l. stands.numbers j ∙ or_left (nat_lt j buffer.next) (is_some (held_at buffer j)) (lt-ltb j buffer.next (omega arith));
            missing = ap (λ (n : ℕ). has_piece file n (accepted_of shape came)) count ∙ stands.numbers buffer.next ∙ or_from (nat_lt buffer.next buffer.next) (is_some (held_at buffer buffer.next)) (le-ltb buffer.next buffer.next (omega arith)) (sym (ap is_ready_at at) ∙ ready file);
          };
    }

-- each delivered piece was accepted
pub at_most_delivered : {C : Type 0} (shape : RunShape) (kept : Kept C) (came : List (Piece C)) (counts : List ℕ) → shape_of_kept kept ≡ shape → StandsFor kept came → AreAtMost counts (delivered_counts kept) → AtMostDelivered shape came counts
at_most_delivered shape kept came counts e s c =
    record {
      files = c.files ∙ length-nexts kept.buffers ∙ ap (λ (t : RunShape). t.files) e;
      each = λ file j within l.
          let inside : file < length kept.buffers = (let f = ap (λ (t : RunShape). t.files) e in omega arith) in
          let buffer = get_or kept.buffers file fresh_buffer in
          let at : slice_get kept.buffers file ≡ Some buffer = slice_get-get_or kept.buffers file fresh_buffer inside in
          let stands : BufferStandsFor buffer file (accepted_of shape came) = subst (λ t. BufferStandsFor buffer file (accepted_of t came)) e (s.each file buffer at) in
          let count : slice_index (delivered_counts kept) file ≡ buffer.next = count_at kept.buffers file buffer at in
          let bound = c.each file in
          stands.numbers j ∙ or_left (nat_lt j buffer.next) (is_some (held_at buffer j)) (lt-ltb j buffer.next (omega arith));
    }

pub same_at_most : (counts others : List ℕ) → counts ≡ others → AreAtMost counts others
same_at_most counts others e = record { files = ap length e; each = λ file. (let f = ap (λ (ns : List ℕ). slice_index ns file) e in omega arith) }

pub has_more : {C : Type 0} (shape : RunShape) (accepted : List (Piece C)) (p : Piece C) (file j : ℕ) (cause : Option Why) → has_piece file j accepted ≡ true → has_piece file j (joined cause accepted p) ≡ true
has_more shape accepted p file j None h = any_last (is_numbered file j) accepted p ∙ or_left (has_piece file j accepted) (is_numbered file j p) h
has_more shape accepted p file j (Some why) h = h

-- an arrival more takes no delivery back
pub at_most_more : {C : Type 0} (shape : RunShape) (came : List (Piece C)) (counts : List ℕ) (p : Piece C) → AtMostDelivered shape came counts → AtMostDelivered shape (came ++ p ∷ []) counts
at_most_more shape came counts p h =
    record {
      files = h.files;
      each = λ file j within l. ap (has_piece file j) (accepted_last shape [] came p) ∙ has_more shape (accepted_of shape came) p file j (cause_against shape (accepted_of shape came) p) (h.each file j within l);
    }

-- at the start no file is ready, and every count is 0
pub fresh_ready : (C : Type 0) (n g : ℕ) → is_ready_at (slice_get (replicate n (fresh_buffer {C = C})) g) ≡ false
fresh_ready C zero g = refl
fresh_ready C (suc n) zero = refl
fresh_ready C (suc n) (suc g) = fresh_ready C n g

pub fresh_counts : (C : Type 0) (n : ℕ) → nexts (replicate n (fresh_buffer {C = C})) ≡ replicate n 0
fresh_counts C zero = refl
fresh_counts C (suc n) = ap (λ (ns : List ℕ). 0 ∷ ns) (fresh_counts C n)

pub fresh_shape : {C : Type 0} (plan : Planned) (kept : Kept C) (run files : ℕ) → kept ≡ record { run = run; buffers = replicate files fresh_buffer } → run ≡ plan.run → files ≡ files_of plan → shape_of_kept kept ≡ shape_of plan
fresh_shape plan kept run files k r f =
    ap shape_of_kept k
    ∙ ap (λ (n : ℕ). record { run = run; files = n }) (length-replicate files fresh_buffer ∙ f)
    ∙ ap (λ (n : ℕ). record { run = n; files = files_of plan }) r

pub fresh_delivered : {C : Type 0} (plan : Planned) (kept : Kept C) (run files : ℕ) → kept ≡ record { run = run; buffers = replicate files fresh_buffer } → files ≡ files_of plan → replicate (files_of plan) 0 ≡ delivered_counts kept
fresh_delivered plan kept run files k f = sym (ap delivered_counts k ∙ fresh_counts _ files ∙ ap (λ (n : ℕ). replicate n 0) f)

-- all pieces that the list before its last arrival delivers were taken
abbrev pub IsEager : {C : Type 0} → Planned → List (Piece C) → List ℕ → Type 0
IsEager {C} plan came counts = (before : List (Piece C)) (last : Piece C) → came ≡ before ++ last ∷ [] → (file k : ℕ) → file < files_of plan → IsLeastMissing (accepted_of (shape_of plan) before) file k → k ≤ slice_index counts file

-- so it is if all of the list before was delivered and no count has fallen since
eager_behind : {C : Type 0} (plan : Planned) (came : List (Piece C)) (p : Piece C) (counts after : List ℕ) → AllDelivered (shape_of plan) came counts → AreAtMost counts after → IsEager plan (came ++ p ∷ []) after
eager_behind {C} plan came p counts after h rise = λ before last e file k within least.
    let here = subst (λ (list : List (Piece C)). IsLeastMissing (accepted_of (shape_of plan) list) file k) (sym (same_from_push came before p last e).0) least in
    let risen = rise.each file in
    elim (cases_lt (slice_index counts file) k) [
      | inl below ↦ let there = here.below (slice_index counts file) below in let missing = (h.each file within).missing in absurd (cc)
      | inr least_ ↦ omega arith
    ]

-- one arrival more
pub so_far_with : {C : Type 0} {S : Type 0} (made : Making C) (plan : Planned) (leads : S → List (Piece C) → S → Type 0) (goes_on : (s t u : S) (xs ys : List (Piece C)) → leads s xs t → leads t ys u → leads s (xs ++ ys) u) (s t u : S) (old new : Kept C) (replies : List Reply) (p : Piece C) (reply : Reply) → SoFar made plan (λ came. leads s came t) old replies → leads t (p ∷ []) u → IsHonestBy made plan p → shape_of_kept old ≡ shape_of plan → ((came : List (Piece C)) → StandsFor old came → reply ≡ reply_to (shape_of_kept old) (accepted_of (shape_of_kept old) came) p) → ((came : List (Piece C)) → StandsFor old came → StandsFor new (came ++ p ∷ [])) → SoFar made plan (λ came. leads s came u) new (replies ++ reply ∷ [])
so_far_with made plan leads goes_on s t u old new replies p reply so led honest e answers stands =
    record {
      came = so.came ++ p ∷ [];
      led = goes_on s t u so.came (p ∷ []) so.led led;
      honest = All-push (IsHonestBy made plan) so.came p so.honest honest;
      replied =
          ap (λ rs. rs ++ reply ∷ []) so.replied
          ∙ ap (λ r. replies_of (shape_of plan) so.came ++ r ∷ []) (answers so.came so.stands ∙ ap (λ shape. reply_to shape (accepted_of shape so.came) p) e)
          ∙ sym (replies_last (shape_of plan) [] so.came p);
      stands = stands so.came so.stands;
    }

-- a delivery changes nothing of that
pub so_far_still : {C : Type 0} (made : Making C) (plan : Planned) (leads : List (Piece C) → Type 0) (old new : Kept C) (replies : List Reply) → SoFar made plan leads old replies → ((came : List (Piece C)) → StandsFor old came → StandsFor new came) → SoFar made plan leads new replies
so_far_still made plan leads old new replies so stands = record { came = so.came; led = so.led; honest = so.honest; replied = so.replied; stands = stands so.came so.stands }

-- no more pieces of a file were taken than it has
pub taken_from : {C : Type 0} (made : Making C) (plan : Planned) (came : List (Piece C)) (counts : List ℕ) → 0 < plan.per_piece → AreHonestBy made plan came → AtMostDelivered (shape_of plan) came counts → TakesAllInOrder plan counts
taken_from made plan came counts some honest h =
    let within : (file : ℕ) → file < files_of plan → slice_index counts file ≤ pieces_of plan file = λ file l.
    elim (cases_lt (pieces_of plan file) (slice_index counts file)) [
      | inl more ↦
          let found = any_of (IsPieceBy made plan) (is_numbered file (pieces_of plan file)) (accepted_of (shape_of plan) came)
          (accepted_planned made plan [] came (All-nil (IsPieceBy made plan)) honest) (h.each file (pieces_of plan file) l more) in
          let at = and_parts (nat_eq found.0.file file) (nat_eq found.0.number (pieces_of plan file)) found.2 in
          let below = subst (λ (f : ℕ). found.0.number < pieces_of plan f) (eqb-true found.0.file file at.0) found.1.number in
          let same = eqb-true found.0.number (pieces_of plan file) at.1 in
          absurd (omega arith)
      | inr less ↦ less
    ] in
    record { within = within; each = λ file l. takes_in_order plan file (slice_index counts file) some (within file l) }

in_part : {C : Type 0} (made : Making C) (plan : Planned) (leads : List (Piece C) → Type 0) (kept : Kept C) (replies : List Reply) (counts : List ℕ) → 0 < plan.per_piece → (so : SoFar made plan leads kept replies) → shape_of_kept kept ≡ shape_of plan → AreAtMost counts (delivered_counts kept) → IsEager plan so.came counts → RelayedInPartBy made plan leads counts
in_part made plan leads kept replies counts some so e c eager =
    let delivered = at_most_delivered (shape_of plan) kept so.came counts e so.stands c in
    record { came = so.came; led = so.led; honest = so.honest; delivered = delivered; eager = eager; taken = taken_from made plan so.came counts some so.honest delivered }

-- an arrival after which pieces were delivered until the reader failed
pub in_part_behind : {C : Type 0} {S : Type 0} (made : Making C) (plan : Planned) (leads : S → List (Piece C) → S → Type 0) (goes_on : (s t u : S) (xs ys : List (Piece C)) → leads s xs t → leads t ys u → leads s (xs ++ ys) u) (s t u : S) (old mid new : Kept C) (replies : List Reply) (before counts : List ℕ) (p : Piece C) (reply : Reply) → 0 < plan.per_piece → SoFar made plan (λ came. leads s came t) old replies → leads t (p ∷ []) u → IsHonestBy made plan p → shape_of_kept old ≡ shape_of plan → NoneReady old.buffers → before ≡ delivered_counts old → ((came : List (Piece C)) → StandsFor old came → reply ≡ reply_to (shape_of_kept old) (accepted_of (shape_of_kept old) came) p) → ((came : List (Piece C)) → StandsFor old came → StandsFor mid (came ++ p ∷ [])) → ((came : List (Piece C)) → StandsFor mid came → StandsFor new came) → shape_of_kept new ≡ shape_of plan → AreAtMost counts (delivered_counts new) → AreAtMost before counts → RelayedInPartBy made plan (λ came. leads s came u) counts
unfolding so_far_with so_far_still
in_part_behind made plan leads goes_on s t u old mid new replies before counts p reply some so led honest e ready c answers stands still shape most risen =
    let with = so_far_with made plan leads goes_on s t u old mid replies p reply so led honest e answers stands in
    let then = so_far_still made plan (λ came. leads s came u) mid new (replies ++ reply ∷ []) with still in
    in_part made plan (λ came. leads s came u) new (replies ++ reply ∷ []) counts some then shape most
    (eager_behind plan so.came p before counts (all_delivered (shape_of plan) old so.came before e so.stands ready c) risen)

-- an arrival that no reply was given to
pub in_part_with : {C : Type 0} {S : Type 0} (made : Making C) (plan : Planned) (leads : S → List (Piece C) → S → Type 0) (goes_on : (s t u : S) (xs ys : List (Piece C)) → leads s xs t → leads t ys u → leads s (xs ++ ys) u) (s t u : S) (kept : Kept C) (replies : List Reply) (counts : List ℕ) (p : Piece C) → 0 < plan.per_piece → SoFar made plan (λ came. leads s came t) kept replies → leads t (p ∷ []) u → IsHonestBy made plan p → shape_of_kept kept ≡ shape_of plan → NoneReady kept.buffers → counts ≡ delivered_counts kept → RelayedInPartBy made plan (λ came. leads s came u) counts
in_part_with made plan leads goes_on s t u kept replies counts p some so led honest e ready c =
    let delivered = at_most_delivered (shape_of plan) kept so.came counts e so.stands (same_at_most counts (delivered_counts kept) c) in
    record {
      came = so.came ++ p ∷ [];
      led = goes_on s t u so.came (p ∷ []) so.led led;
      honest = All-push (IsHonestBy made plan) so.came p so.honest honest;
      delivered = at_most_more (shape_of plan) so.came counts p delivered;
      eager = eager_behind plan so.came p counts counts (all_delivered (shape_of plan) kept so.came counts e so.stands ready c) (same_at_most counts counts refl);
      taken = taken_from made plan so.came counts some so.honest delivered;
    }

-- before anything came no piece was taken
pub part_at_start : {C : Type 0} (made : Making C) (plan : Planned) (leads : List (Piece C) → Type 0) (counts : List ℕ) → 0 < plan.per_piece → leads [] → counts ≡ replicate (files_of plan) 0 → RelayedInPartBy made plan leads counts
part_at_start made plan leads counts some led e =
    let delivered : AtMostDelivered (shape_of plan) [] counts =
    record {
      files = ap length e ∙ length-replicate (files_of plan) 0;
      each = λ file j within l.
          let none : slice_index counts file ≡ 0 = ap (λ (ns : List ℕ). slice_index ns file) e ∙ get_or-replicate (files_of plan) file 0 0 within in
          absurd (omega arith);
    } in
    record { came = []; led = led; honest = All-nil (IsHonestBy made plan); delivered = delivered; eager = λ before last e_ file k within least. absurd (omega (arith, ap length e_, length_push before last)); taken = taken_from made plan [] counts some (All-nil (IsHonestBy made plan)) delivered }
