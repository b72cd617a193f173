-- The notes that the delivering thread has received, and the pieces that the reader took of them.
use Rattle.std.proofs.Common.{◌≡◌, ℕ, ◌<◌, false, List, [], ◌++◌, Option, None, Some, is_some, slice_index, replicate, refl, sym, ap, ◌∙◌, subst, arith}
use Rattle.std.proofs.lemmas.List.{get_or-replicate}
use Rattle.lx_piece.specs.declared.reply.Reply.{Reply}
use Rattle.lx_piece.specs.Plans.{Planned, files_of, items_of}
use Rattle.lx_piece.specs.Pieces.{Making, pieces_of, TakesInOrder}
use Rattle.lx_piece.specs.Relayed.{AreAllAmongBy, RelayedBy, TakesAllInOrder}
use Rattle.lx_post.specs.declared.note.WorkerFault.{WorkerFault}
use Rattle.lx_post.specs.Collected.{AreAllReceived, IsCollected, IsWhole}
use Rattle.lx_post.specs.Notes.{first_fault, pieces_among}
use Rattle.lx_post.specs.Posted.{Arriving, CameBetween, Posted, Taken, fresh_take}

none_of : (fault : Option WorkerFault) → is_some fault ≡ false → fault ≡ None
none_of None e = refl
none_of (Some fault) e = absurd (cc)

-- a reader that took nothing
pub none_taken : (plan : Planned) (counts : List ℕ) → counts ≡ replicate (files_of plan) 0 → TakesAllInOrder plan counts
none_taken plan counts e =
    record {
      within = λ file below. let zero : slice_index counts file ≡ 0 = ap (λ (ns : List ℕ). slice_index ns file) e ∙ get_or-replicate (files_of plan) file 0 0 below in omega arith;
      each = λ file below.
          let zero : slice_index counts file ≡ 0 = ap (λ (ns : List ℕ). slice_index ns file) e ∙ get_or-replicate (files_of plan) file 0 0 below in
          subst (TakesInOrder plan file) (sym zero)
          (record {
            prefix = (items_of plan file, refl);
            closed = ((λ t. absurd (cc)), (λ t. absurd (let some : 0 < pieces_of plan file = omega arith in omega arith)));
            whole = λ t. absurd (cc);
            cut = λ t. absurd (cc);
          });
    }

-- the pieces that came by new arrivals are those among all that was received
pub collected : {C : Type 0} (made : Making C) (post : Posted) (plan : Planned) (old new : Arriving C) (take : Taken C) (fault : Option WorkerFault) (replies : List Reply) (counts : List ℕ)
    → old.pass ≡ fresh_take post plan → old.since ≡ [] → take ≡ new.pass → fault ≡ first_fault new.since → is_some fault ≡ false
    → RelayedBy made plan (λ came. CameBetween old came new) replies counts → IsCollected made plan take counts
collected made post plan old new take fault replies counts first nothing is named none relayed =
    let between = relayed.led in
    let received : take.received ≡ between.notes =
    ap (λ (t : Taken _). t.received) is ∙ ap (λ (t : Taken _). t.received) between.received ∙ ap (λ (t : Taken _). t.received ++ between.notes) first in
    let since : new.since ≡ between.notes = between.since ∙ ap (λ ns. ns ++ between.notes) nothing in
    record {
      faultless = ap first_fault (received ∙ sym since) ∙ sym named ∙ none_of fault none;
      whole = λ file below all. relayed.whole file below (subst (AreAllAmongBy made plan file) (ap pieces_among received ∙ sym between.pieces) all);
    }

-- if every piece of every file was received, and the reader took those files whole, it took all
pub all_whole : {C : Type 0} (made : Making C) (plan : Planned) (take : Taken C) (counts : List ℕ) → IsCollected made plan take counts → AreAllReceived made plan take → IsWhole plan counts
all_whole made plan take counts collected received = record { each = λ file below. collected.whole file below (received.each file below) }
