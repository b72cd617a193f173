-- From the draws and notes of each worker to the notes received of all.
use Rattle.std.proofs.Common.{◌≡◌, ⊎_elim, ℕ, suc, ◌<◌, Bool, true, false, List, [], ◌∷◌, ◌++◌, None, Some, Contains, map, All, cond, eqb, sym, refl, ap, ◌∙◌, subst, arith}
use mathlib.Core.Logic.{dite}
use native.Mathlib.Decide.{dec_lt}
use Rattle.std.proofs.lemmas.Bool.Decides.{nat_tests}
use Rattle.std.specs.List.{sum_by}
use Rattle.std.specs.Option.{option_or}
use Rattle.std.proofs.lemmas.List.Sums.{sum_by-cons}
use Rattle.std.proofs.lemmas.List.Elements.{All-append, Contains-append_left, Contains-append_right, Contains-append_cases, Contains-push, All-nil, All-cons, All-map, All-same, All-get_or, All-contains}
use Rattle.lx_piece.specs.declared.piece.Piece.{Piece}
use Rattle.lx_piece.specs.Plans.{Planned, files_of}
use Rattle.lx_piece.specs.Pieces.{Making, piece_by}
use Rattle.lx_piece.specs.Relayed.{AreAllAmongBy}
use Rattle.lx_post.specs.declared.job.Job.{Job}
use Rattle.lx_post.specs.declared.note.Note.{Note}
use Rattle.lx_post.specs.declared.note.Note.TheVariants.{Piece as note_piece, End as note_end}
use Rattle.lx_post.specs.Claimed.{Claimed, Drawn, IsSeatOf, times, times_drawn, once_below}
use Rattle.lx_post.specs.Collected.{AreAllReceived}
use Rattle.lx_post.specs.Notes.{worker_of, has_end, first_fault, notes_of, pieces_among}
use Rattle.lx_post.specs.Posted.{Posted, Sent, Taken, IsAllReceived, IsSendPassOf}
use Rattle.lx_post.specs.Working.{HasSent, IsReady, HasWorked, IsDone, IsIdle}
use Rattle.lx_post.proofs.Comings.{fault_push}

keeps_piece : {C : Type 0} (b : Bool) (n : Note C) (xs ns : List (Note C)) (p : Piece C) → (Contains (pieces_among xs) p → Contains (pieces_among ns) p) → Contains (pieces_among (cond b (n ∷ xs) xs)) p → Contains (pieces_among (n ∷ ns)) p
keeps_piece true (note_piece w q) xs ns p more c =
    ⊎_elim (λ here. Contains-append_left (q ∷ []) (pieces_among ns) p here) (λ there. Contains-append_right (q ∷ []) (pieces_among ns) p (more there)) (Contains-append_cases (q ∷ []) (pieces_among xs) p c)
keeps_piece true (note_end w f x) xs ns p more c = more c
keeps_piece false (note_piece w q) xs ns p more c = Contains-append_right (q ∷ []) (pieces_among ns) p (more c)
keeps_piece false (note_end w f x) xs ns p more c = more c

-- a piece among one worker's notes is among all
pub piece_of_one : {C : Type 0} (worker : ℕ) (ns : List (Note C)) (p : Piece C) → Contains (pieces_among (notes_of worker ns)) p → Contains (pieces_among ns) p
piece_of_one worker [] p c = c
piece_of_one worker (n ∷ ns) p c = keeps_piece (eqb (worker_of n) worker) n (notes_of worker ns) ns p (piece_of_one worker ns p) c

keeps_faultless : {C : Type 0} (b : Bool) (n : Note C) (xs ns : List (Note C)) → (first_fault ns ≡ None → first_fault xs ≡ None) → first_fault (n ∷ ns) ≡ None → first_fault (cond b (n ∷ xs) xs) ≡ None
keeps_faultless true (note_piece w q) xs ns more e = more e
keeps_faultless false (note_piece w q) xs ns more e = more e
keeps_faultless true (note_end w f None) xs ns more e = more e
keeps_faultless false (note_end w f None) xs ns more e = more e
keeps_faultless true (note_end w f (Some x)) xs ns more e = e
keeps_faultless false (note_end w f (Some x)) xs ns more e = absurd (cc)

-- if no end names a fault, none of one worker's does
pub faultless_of_one : {C : Type 0} (worker : ℕ) (ns : List (Note C)) → first_fault ns ≡ None → first_fault (notes_of worker ns) ≡ None
faultless_of_one worker [] e = refl
faultless_of_one worker (n ∷ ns) e = keeps_faultless (eqb (worker_of n) worker) n (notes_of worker ns) ns (faultless_of_one worker ns) e

-- if there is no end, there is no fault
no_end_no_fault : {C : Type 0} (ns : List (Note C)) → has_end ns ≡ false → first_fault ns ≡ None
no_end_no_fault [] e = refl
no_end_no_fault (note_piece w q ∷ ns) e = no_end_no_fault ns e
no_end_no_fault (note_end w f x ∷ ns) e = absurd (cc)

-- a sum that isn't 0 has a part that isn't
pub some_part : {X : Type 0} (f : X → ℕ) (xs : List X) → 0 < sum_by f xs → (x : X) × Contains xs x × (0 < f x)
some_part f [] lt = absurd (omega arith)
some_part f (x ∷ xs) lt =
    dite (dec_lt 0 (f x))
    (λ here. (x, Contains-append_left (x ∷ []) xs x (Contains-push [] x), here))
    (λ not.
    let rest : 0 < sum_by f xs = omega (arith, sum_by-cons f x xs) in
    let found = some_part f xs rest in
    (found.0, Contains-append_right (x ∷ []) xs found.0 found.1, found.2))

-- a worker that ended well drew until no file was left, and sent every piece of each that it drew
pub done_of : {C : Type 0} (made : Making C) (claims : Claimed) (post : Posted) (plan : Planned) (old new : Job C) → IsReady claims post plan old → HasWorked made old new → IsDone made claims post plan new
done_of made claims post plan old new ready has =
    let named : old.pass.plan ≡ plan = ap (λ (pass : Sent _). pass.plan) ready.pass in
    let none : first_fault new.pass.sent ≡ None → has.fault ≡ None = λ e.
    sym (ap (λ first. option_or first has.fault) (no_end_no_fault has.before has.pieces))
    ∙ sym (fault_push has.before (note_end old.pass.worker has.files has.fault))
    ∙ sym (ap (λ (pass : Sent _). first_fault pass.sent) has.pass)
    ∙ e in
    record {
      word = has.word ∙ ap (λ (d : Drawn). d.word) ready.seat;
      total = has.total ∙ ap (λ (d : Drawn). d.files) ready.seat;
      queue = ap (λ (pass : Sent _). pass.queue) has.pass ∙ ap (λ (pass : Sent _). pass.queue) ready.pass;
      worker = (let same = ap (λ (pass : Sent _). pass.worker) has.pass in let lt = ready.worker in omega arith);
      done = λ e. has.done (none e);
      sent = λ e file some. subst (λ p. HasSent made p file new.pass) named ((has.drawn (none e)).sent file some);
    }

-- the pieces received of a worker that sent all pieces of a file
pub all_received : {C : Type 0} (made : Making C) (plan : Planned) (file : ℕ) (take : Taken C) (pass : Sent C) → IsAllReceived take pass → HasSent made plan file pass → AreAllAmongBy made plan file (pieces_among take.received)
all_received made plan file take pass is has number below = piece_of_one pass.worker take.received (piece_by made plan file number) (subst (λ ns. Contains (pieces_among ns) (piece_by made plan file number)) (sym is) (has.all number below))

sum_mapped : {X Y : Type 0} (f : Y → ℕ) (g : X → Y) (xs : List X) → sum_by f (map g xs) ≡ sum_by (λ x. f (g x)) xs
sum_mapped f g [] = refl
sum_mapped f g (x ∷ xs) = let a = sum_by-cons f (g x) (map g xs) in let b = sum_mapped f g xs in let c = sum_by-cons (λ x. f (g x)) x xs in omega arith

-- a property of each element of a mapped list
all_of_map : {X Y : Type 0} (P : Y → Type 0) (f : X → Y) (xs : List X) → All P (map f xs) → All (λ x. P (f x)) xs
all_of_map P f [] all = All-nil (λ x. P (f x))
all_of_map P f (x ∷ xs) all =
    All-cons (λ x. P (f x)) x xs (All-get_or P (f x ∷ map f xs) 0 (f x) (omega arith) all) (all_of_map P f xs (λ k d lt. all (suc k) d (omega (arith, lt))))

-- the seats and the passes of ended jobs are of the claims and of the post
pub seats_of : {C : Type 0} (made : Making C) (claims : Claimed) (post : Posted) (plan : Planned) (jobs : List (Job C)) (seats : List Drawn) → All (IsDone made claims post plan) jobs → seats ≡ map (λ (job : Job C). job.seat) jobs → All (IsSeatOf claims) seats
seats_of made claims post plan jobs seats done s =
    All-same (IsSeatOf claims) seats (map (λ (job : Job _). job.seat) jobs) s (All-map (IsSeatOf claims) (λ (job : Job _). job.seat) jobs (λ k d lt. ((done k d lt).word, (done k d lt).total)))

pub passes_of : {C : Type 0} (made : Making C) (claims : Claimed) (post : Posted) (plan : Planned) (jobs : List (Job C)) (passes : List (Sent C)) → All (IsDone made claims post plan) jobs → passes ≡ map (λ (job : Job C). job.pass) jobs → All (IsSendPassOf post) passes
passes_of made claims post plan jobs passes done p =
    All-same (IsSendPassOf post) passes (map (λ (job : Job _). job.pass) jobs) p (All-map (IsSendPassOf post) (λ (job : Job _). job.pass) jobs (λ k d lt. ((done k d lt).queue, (done k d lt).worker)))

drawn_once : (file files n : ℕ) → n ≡ once_below file files → file < files → 0 < n
drawn_once file files n is lt = grind (arith, nat_tests)

-- Every piece of every file was received, if all seats together drew each file once, and all notes of each pass were received without a fault.
pub every_file_received : {C : Type 0} (made : Making C) (claims : Claimed) (post : Posted) (plan : Planned) (take : Taken C) (jobs : List (Job C)) (seats : List Drawn) (passes : List (Sent C)) (files : ℕ)
    → All (IsDone made claims post plan) jobs → seats ≡ map (λ (job : Job C). job.seat) jobs → passes ≡ map (λ (job : Job C). job.pass) jobs → files ≡ files_of plan
    → ((file : ℕ) → times_drawn file seats ≡ once_below file files) → All (IsAllReceived take) passes → first_fault take.received ≡ None → AreAllReceived made plan take
every_file_received made claims post plan take jobs seats passes files done s p f once received faultless =
    let here : All (λ (job : Job _). IsAllReceived take job.pass) jobs =
    all_of_map (IsAllReceived take) (λ (job : Job _). job.pass) jobs (All-same (IsAllReceived take) (map (λ (job : Job _). job.pass) jobs) passes (sym p) received) in
    record {
      each = λ file below.
          let count = λ (seat : Drawn). times file seat.drawn in
          let is = sym (ap (sum_by count) s ∙ sum_mapped count (λ (job : Job _). job.seat) jobs) ∙ once file in
          let found = some_part (λ (job : Job _). times file job.seat.drawn) jobs (drawn_once file files _ is (omega (arith, below, f))) in
          let own = All-contains (IsDone made claims post plan) jobs found.0 done found.1 in
          let all = All-contains (λ (job : Job _). IsAllReceived take job.pass) jobs found.0 here found.1 in
          let none : first_fault found.0.pass.sent ≡ None = sym (ap first_fault all) ∙ faultless_of_one found.0.pass.worker take.received faultless in
          all_received made plan file take found.0.pass all (own.sent none file found.2);
    }

-- a list that gets one element more, if there is room
pub all_pushed : {X : Type 0} (P : X → Type 0) (b : Bool) (xs ys : List X) (x : X) → All P xs → P x → ys ≡ cond b (xs ++ x ∷ []) xs → All P ys
all_pushed P true xs ys x all one is = All-same P ys (xs ++ x ∷ []) is (All-append P xs (x ∷ []) all (All-cons P x [] one (All-nil P)))
all_pushed P false xs ys x all one is = All-same P ys xs is all

-- a worker that never began is done once its seat was answered that no file is left
pub done_idle : {C : Type 0} (made : Making C) (claims : Claimed) (post : Posted) (plan : Planned) (job : Job C) (seat : Drawn) → IsIdle claims post plan job → seat ≡ record job.seat { done = true }
    → IsDone made claims post plan (record { seat = seat; pass = job.pass })
done_idle made claims post plan job seat idle is =
    record {
      word = ap (λ (d : Drawn). d.word) is ∙ ap (λ (d : Drawn). d.word) idle.seat;
      total = ap (λ (d : Drawn). d.files) is ∙ ap (λ (d : Drawn). d.files) idle.seat;
      queue = ap (λ (pass : Sent _). pass.queue) idle.pass;
      worker = idle.worker;
      done = λ _. ap (λ (d : Drawn). d.done) is;
      sent = λ _ file some.
          let none : times file seat.drawn ≡ 0 = ap (λ (d : Drawn). times file d.drawn) is ∙ ap (λ (d : Drawn). times file d.drawn) idle.seat in
          absurd (omega arith);
    }
