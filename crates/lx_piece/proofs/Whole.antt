use Rattle.std.proofs.Common.{ℕ, ◌≡◌, ◌<◌, List, [], ◌++◌, subst, append-nil}
use Rattle.lx_piece.specs.declared.piece.Piece.{Piece}
use Rattle.lx_piece.specs.declared.reply.Reply.{Reply}
use Rattle.lx_piece.specs.Plans.{Planned}
use Rattle.lx_piece.specs.Pieces.{Making}
use Rattle.lx_piece.specs.Arrivals.{RunShape, shape_of}
use Rattle.lx_piece.specs.Kept.{Kept, NoneReady, shape_of_kept, delivered_counts}
use Rattle.lx_piece.specs.Relayed.{AllDelivered, AtMostDelivered, RelayedBy}
use Rattle.lx_piece.proofs.SoFar.{SoFar}
use Rattle.lx_piece.proofs.Deliveries.{all_delivered, taken_from}
use Rattle.lx_piece.proofs.Arrived.{taken_whole}

-- if the counts are exactly those delivered, they are at most those
at_most_all : {C : Type 0} (shape : RunShape) (came : List (Piece C)) (counts : List ℕ) → AllDelivered shape came counts → AtMostDelivered shape came counts
at_most_all shape came counts h = record { files = h.files; each = λ file j within l. (h.each file within).below j l }

pub whole : {C : Type 0} {S : Type 0} (made : Making C) (plan : Planned) (leads : S → List (Piece C) → S → Type 0) (goes_on : (s t u : S) (xs ys : List (Piece C)) → leads s xs t → leads t ys u → leads s (xs ++ ys) u) (s t u : S) (kept : Kept C) (replies : List Reply) (counts : List ℕ) → 0 < plan.per_piece → SoFar made plan (λ came. leads s came t) kept replies → leads t [] u → shape_of_kept kept ≡ shape_of plan → NoneReady kept.buffers → counts ≡ delivered_counts kept → RelayedBy made plan (λ came. leads s came u) replies counts
whole made plan leads goes_on s t u kept replies counts some so led e ready c =
    let delivered = all_delivered (shape_of plan) kept so.came counts e so.stands ready c in
    let taken = taken_from made plan so.came counts some so.honest (at_most_all (shape_of plan) so.came counts delivered) in
    record {
      came = so.came;
      led = subst (λ came. leads s came u) (append-nil so.came) (goes_on s t u so.came [] so.led led);
      honest = so.honest;
      replied = so.replied;
      delivered = delivered;
      taken = taken;
      whole = λ file within all. taken_whole made plan so.came counts file so.honest delivered within (taken.within file within) all;
    }
