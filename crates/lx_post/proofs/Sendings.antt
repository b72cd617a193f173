-- The notes that a worker has sent and the files it has drawn, after one piece or one file more.
use Rattle.std.proofs.Common.{◌≡◌, ◌⊎◌, ⊎_elim, ℕ, ◌+◌, ◌<◌, true, false, List, [], ◌∷◌, ◌++◌, Option, None, All, Contains, length, cond, eqb, sym, refl, ap, ◌∙◌, subst, arith, append_assoc, append-nil}
use mathlib.Core.Logic.{dite}
use native.Mathlib.Decide.{dec_lt}
use Rattle.std.proofs.lemmas.List.{length_push}
use Rattle.std.proofs.lemmas.List.Elements.{All-contains, Contains-push, Contains-append_left}
use Rattle.std.proofs.lemmas.Bool.Decides.{nat_tests}
use Rattle.lx_piece.specs.declared.piece.Piece.{Piece}
use Rattle.lx_piece.specs.Plans.{Planned}
use Rattle.lx_piece.specs.Pieces.{Making, IsPieceBy, is_closing, piece_by, pieces_of}
use Rattle.lx_piece.specs.PieceLaws.{marked_last}
use Rattle.lx_post.specs.declared.note.Note.{Note}
use Rattle.lx_post.specs.declared.note.Note.TheVariants.{Piece as note_piece, End as note_end}
use Rattle.lx_post.specs.declared.note.WorkerFault.{WorkerFault}
use Rattle.lx_post.specs.declared.job.Job.{Job}
use Rattle.lx_post.specs.Arrived.{pieces_of_both}
use Rattle.lx_post.specs.Claimed.{Claimed, Drawn, IsSeatOf, times}
use Rattle.lx_post.specs.Notes.{has_end, pieces_among}
use Rattle.lx_post.specs.Posted.{Posted, Sent, MaySend, with_sent}
use Rattle.lx_post.specs.Working.{IsGoing, HasSent, HasSentTo, SendsPieces, IsSparse, HasDrawn, IsReady, HasWorked}
use Rattle.lx_post.proofs.DrawSteps.{times-push}
use Rattle.lx_post.proofs.NoteLists.{end_append}

pub sends_nothing : {C : Type 0} (s : Sent C) → SendsPieces s s
sends_nothing s = record { notes = []; pass = ap (λ ns. record s { sent = ns }) (sym (append-nil s.sent)); pieces = refl }

-- no end among two lists is none in both
no_end : {C : Type 0} (xs ys : List (Note C)) → has_end xs ≡ false → has_end ys ≡ false → has_end (xs ++ ys) ≡ false
no_end xs ys a b = rw (end_append xs ys, a, b) refl

pub sends_on : {C : Type 0} (s t u : Sent C) → SendsPieces s t → SendsPieces t u → SendsPieces s u
sends_on s t u f g =
    record {
      notes = f.notes ++ g.notes;
      pass =
          g.pass
          ∙ ap (λ (pass : Sent _). record pass { sent = pass.sent ++ g.notes }) f.pass
          ∙ ap (λ ns. record s { sent = ns }) (append_assoc s.sent f.notes g.notes);
      pieces = no_end f.notes g.notes f.pieces g.pieces;
    }

pub sends_piece : {C : Type 0} (s t : Sent C) (worker : ℕ) (piece : Piece C) → SendsPieces s t → SendsPieces s (with_sent t (note_piece worker piece))
sends_piece s t worker piece f = sends_on s t (with_sent t (note_piece worker piece)) f record { notes = note_piece worker piece ∷ []; pass = refl; pieces = refl }

-- the pass goes on, so it hasn't ended
pub still_going : {C : Type 0} (s t : Sent C) → SendsPieces s t → has_end s.sent ≡ false → has_end t.sent ≡ false
still_going s t f going = ap (λ (pass : Sent _). has_end pass.sent) f.pass ∙ no_end s.sent f.notes going f.pieces

-- sent pieces remain sent
pub kept_sent : {C : Type 0} (made : Making C) (plan : Planned) (file : ℕ) (s t : Sent C) (notes : List (Note C)) → t.sent ≡ s.sent ++ notes → HasSent made plan file s → HasSent made plan file t
kept_sent made plan file s t notes is has =
    record {
      all = λ number below.
          subst (λ ps. Contains ps (piece_by made plan file number)) (sym (ap pieces_among is ∙ pieces_of_both s.sent notes))
          (Contains-append_left (pieces_among s.sent) (pieces_among notes) (piece_by made plan file number) (has.all number below));
    }

pub still_sent : {C : Type 0} (made : Making C) (plan : Planned) (file : ℕ) (s t : Sent C) → SendsPieces s t → HasSent made plan file s → HasSent made plan file t
still_sent made plan file s t f has = kept_sent made plan file s t f.notes (ap (λ (pass : Sent _). pass.sent) f.pass) has

pub goes_on : {C : Type 0} (post : Posted) (plan : Planned) (s t : Sent C) → SendsPieces s t → IsGoing post plan s → IsGoing post plan t
goes_on post plan s t f going =
    record {
      queue = ap (λ (pass : Sent _). pass.queue) f.pass ∙ going.queue;
      plan_of = ap (λ (pass : Sent _). pass.plan) f.pass ∙ going.plan_of;
      going = still_going s t f going.going;
    }

-- a piece of the plan may be sent
pub may_send_piece : {C : Type 0} (made : Making C) (post : Posted) (plan : Planned) (s t : Sent C) (worker : ℕ) (piece : Piece C) → IsGoing post plan s → SendsPieces s t → worker ≡ s.worker → IsPieceBy made plan piece
    → MaySend made t (note_piece worker piece)
may_send_piece made post plan s t worker piece going f own is =
    let now = goes_on post plan s t f going in
    record {
      worker = own ∙ sym (ap (λ (pass : Sent _). pass.worker) f.pass);
      honest = λ _ _. subst (λ p. IsPieceBy made p piece) (sym now.plan_of) is;
      going = now.going;
    }

pub sent_none : {C : Type 0} (made : Making C) (plan : Planned) (file : ℕ) (s : Sent C) → HasSentTo made plan file 0 s
sent_none made plan file s = record { each = λ number below. absurd (omega arith) }

pieces_push : {C : Type 0} (ns : List (Note C)) (worker : ℕ) (piece : Piece C) → pieces_among (ns ++ note_piece worker piece ∷ []) ≡ pieces_among ns ++ piece ∷ []
pieces_push ns worker piece = pieces_of_both ns (note_piece worker piece ∷ [])

-- one piece more was sent
pub sent_one : {C : Type 0} (made : Making C) (plan : Planned) (file count : ℕ) (s : Sent C) (worker : ℕ) (piece : Piece C) → piece ≡ piece_by made plan file count → HasSentTo made plan file count s
    → HasSentTo made plan file (count + 1) (with_sent s (note_piece worker piece))
sent_one made plan file count s worker piece is has =
    record {
      each = λ number below.
          subst (λ ps. Contains ps (piece_by made plan file number)) (sym (pieces_push s.sent worker piece)) (dite (dec_lt number count)
          (λ lt. Contains-append_left (pieces_among s.sent) (piece ∷ []) (piece_by made plan file number) (has.each number lt))
          (λ not.
          let same : count ≡ number = omega arith in
          subst (λ p. Contains (pieces_among s.sent ++ piece ∷ []) p) (is ∙ ap (piece_by made plan file) same) (Contains-push (pieces_among s.sent) piece)));
    }

-- all pieces were sent
pub sent_all : {C : Type 0} (made : Making C) (plan : Planned) (file count : ℕ) (s : Sent C) → count ≡ pieces_of plan file → HasSentTo made plan file count s → HasSent made plan file s
sent_all made plan file count s is has = record { all = λ number below. has.each number (omega arith) }

-- a closing piece is the last one
eqb_true : (a b : ℕ) → eqb a b ≡ true → a ≡ b
eqb_true a b h = grind (arith, nat_tests)

pub last_number : {C : Type 0} (made : Making C) (plan : Planned) (file count : ℕ) (piece : Piece C) → piece ≡ piece_by made plan file count → is_closing piece ≡ true → count + 1 ≡ pieces_of plan file
last_number made plan file count piece is closing = eqb_true (count + 1) (pieces_of plan file) (sym (marked_last plan file count) ∙ ap is_closing (sym is) ∙ closing)

-- with the last piece all were sent
pub sent_last : {C : Type 0} (made : Making C) (plan : Planned) (file count : ℕ) (s : Sent C) (worker : ℕ) (piece : Piece C) → piece ≡ piece_by made plan file count → is_closing piece ≡ true → HasSentTo made plan file count s
    → HasSent made plan file (with_sent s (note_piece worker piece))
sent_last made plan file count s worker piece is closing has =
    sent_all made plan file (count + 1) (with_sent s (note_piece worker piece)) (last_number made plan file count piece is closing) (sent_one made plan file count s worker piece is has)

pub drawn_none : {C : Type 0} (made : Making C) (plan : Planned) (seat : Drawn) (s : Sent C) → seat.drawn ≡ [] → HasDrawn made plan 0 seat s
drawn_none made plan seat s none =
    record {
      count = sym (ap length none);
      sparse = λ n all. let no : length seat.drawn ≡ 0 = ap length none in omega arith;
      sent = λ file some. let no : times file seat.drawn ≡ 0 = ap (times file) none in absurd (omega arith);
    }

-- the same of a seat with the same list
pub drawn_same : {C : Type 0} (made : Making C) (plan : Planned) (files : ℕ) (seat seat' : Drawn) (s : Sent C) → HasDrawn made plan files seat s → seat'.drawn ≡ seat.drawn → HasDrawn made plan files seat' s
drawn_same made plan files seat seat' s has same =
    record {
      count = has.count ∙ sym (ap length same);
      sparse = subst IsSparse (sym same) has.sparse;
      sent = λ file some. has.sent file (subst (λ (xs : List ℕ). 0 < times file xs) same some);
    }

-- a list with one number more, above all others, is sparse
sparse_push : (xs : List ℕ) (m : ℕ) → IsSparse xs → All (λ x. x < m) xs → IsSparse (xs ++ m ∷ [])
sparse_push xs m sparse below n all =
    let few = sparse m below in
    let last : m < n = All-contains (λ x. x < n) (xs ++ m ∷ []) m all (Contains-push xs m) in
    let one = length_push xs m in
    omega arith

one_of : (file x old new : ℕ) → new ≡ old + cond (eqb x file) 1 0 → 0 < new → (0 < old) ⊎ (x ≡ file)
one_of file x old new is some = grind (arith, nat_tests)

-- one file more was drawn, and its pieces were sent
pub drawn_one : {C : Type 0} (made : Making C) (plan : Planned) (files file : ℕ) (seat seat' : Drawn) (s t : Sent C) → HasDrawn made plan files seat s → All (λ x. x < file) seat.drawn → seat'.drawn ≡ seat.drawn ++ file ∷ []
    → SendsPieces s t → HasSent made plan file t → HasDrawn made plan (files + 1) seat' t
drawn_one made plan files file seat seat' s t has below is sends sent =
    record {
      count = (let a = has.count in let b = length_push seat.drawn file in let c = ap length is in omega arith);
      sparse = subst IsSparse (sym is) (sparse_push seat.drawn file has.sparse below);
      sent = λ other some.
          ⊎_elim (λ old. still_sent made plan other s t sends (has.sent other old)) (λ same. subst (λ f. HasSent made plan f t) same sent)
          (one_of other file (times other seat.drawn) (times other (seat.drawn ++ file ∷ [])) (times-push other seat.drawn file) (subst (λ (xs : List ℕ). 0 < times other xs) is some));
    }

-- with its end sent, a worker has worked
pub worked : {C : Type 0} (made : Making C) (claims : Claimed) (post : Posted) (plan : Planned) (job : Job C) (seat : Drawn) (s t : Sent C) (worker files : ℕ) (fault : Option WorkerFault)
    → IsReady claims post plan job → IsSeatOf claims seat → SendsPieces job.pass s → (fault ≡ None → (seat.done ≡ true) × HasDrawn made plan files seat s)
    → worker ≡ s.worker → t ≡ with_sent s (note_end worker files fault) → HasWorked made job (record { seat = seat; pass = t })
worked made claims post plan job seat s t worker files fault ready this f done own is =
    let named : job.pass.plan ≡ plan = ap (λ (pass : Sent _). pass.plan) ready.pass in
    let going : has_end job.pass.sent ≡ false = ap (λ (pass : Sent _). has_end pass.sent) ready.pass in
    let whose : worker ≡ job.pass.worker = own ∙ ap (λ (pass : Sent _). pass.worker) f.pass in
    record {
      word = this.0 ∙ sym (ap (λ (d : Drawn). d.word) ready.seat);
      total = this.1 ∙ sym (ap (λ (d : Drawn). d.files) ready.seat);
      before = s.sent;
      files = files;
      fault = fault;
      pieces = still_going job.pass s f going;
      pass =
          is
          ∙ ap (λ (pass : Sent _). record pass { sent = s.sent ++ note_end worker files fault ∷ [] }) f.pass
          ∙ ap (λ w. record job.pass { sent = s.sent ++ note_end w files fault ∷ [] }) whose;
      done = λ none. (done none).0;
      drawn = λ none. subst (λ p. HasDrawn made p files seat t) (sym named)
          (let had = (done none).1 in record {
            count = had.count;
            sparse = had.sparse;
            sent = λ file some. kept_sent made plan file s t (note_end worker files fault ∷ []) (ap (λ (pass : Sent _). pass.sent) is) (had.sent file some);
          });
    }
