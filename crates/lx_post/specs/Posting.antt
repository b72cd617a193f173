-- The rule of the post: the facts that its passes know, for any contents of its queue.
use Rattle.std.specs.Prelude.{◌≡◌, ◌≢◌, ℕ, ◌+◌, ◌<◌, ◌≤◌, ◌⊎◌, true, false, List, [], ◌∷◌, ◌++◌}
use mathlib.Core.Option.{some}
use lib.ListN.{get_elem?}
use Rattle.lx_piece.specs.Pieces.{Making}
use Rattle.lx_piece.specs.Plans.{Planned}
use Rattle.lx_post.specs.declared.note.Note.{Note}
use Rattle.lx_post.specs.declared.post_rule.PassView.{PassView}
use Rattle.lx_post.specs.declared.post_rule.Role.TheVariants.{Blank, Sends, Takes, Spent}
use Rattle.lx_post.specs.Notes.{worker_of, IsHonestNote, AreHonestNotes, notes_of, has_end, NothingFollowsEnd}

abbrev pub no_plan : Planned
no_plan =
    record {
      run = 0;
      per_piece = 0;
      table = record { machine = record { starts = []; classes = []; width = 0; accepted = []; targets = [] }; kinds = []; rules = [] };
      inputs = [];
    }

-- the first pass, which names no plan
abbrev pub blank : {C : Type 0} → PassView C
blank = record { role = Blank; plan = no_plan; worker = 0; sent = []; given = 0; received = [] }

-- a pass that was joined to another one
abbrev pub spent_pass : {C : Type 0} → PassView C
spent_pass = record { role = Spent; plan = no_plan; worker = 0; sent = []; given = 0; received = [] }

-- the pass of a worker
abbrev pub sender : {C : Type 0} → Planned → ℕ → List (Note C) → PassView C
sender plan worker sent = record { role = Sends; plan = plan; worker = worker; sent = sent; given = 0; received = [] }

-- the pass that takes, with the worker whose pass was joined to it last, and the notes that that one sent
abbrev pub taker : {C : Type 0} → Planned → ℕ → List (Note C) → ℕ → List (Note C) → PassView C
taker plan given received worker sent = record { role = Takes; plan = plan; worker = worker; sent = sent; given = given; received = received }

-- no worker has this number, and none has a greater one
abbrev pub no_worker : ℕ
no_worker = 256

-- the pass that takes, before any worker has one
abbrev pub opened : {C : Type 0} → Planned → PassView C
opened plan = taker plan 0 [] no_worker []

-- the pass that takes once the next worker has one, and that worker's
abbrev pub with_next_worker : {C : Type 0} → PassView C → PassView C
with_next_worker v = taker v.plan (v.given + 1) v.received v.worker v.sent

abbrev pub next_worker : {C : Type 0} → PassView C → PassView C
next_worker v = sender v.plan v.given []

-- the pass that takes, joined by a worker's
abbrev pub joined : {C : Type 0} → PassView C → PassView C → PassView C
joined v w = taker v.plan v.given v.received w.worker w.sent

-- a note is appended to those that the worker sent
abbrev pub Sending : {C : Type 0} → PassView C → Note C → PassView C → Type 0
Sending v n w = w ≡ sender v.plan v.worker (v.sent ++ n ∷ [])

-- a note is appended to the received ones; it is honest, and of a worker that has a pass and hasn't ended
pub record Taking {C : Type 0} (made : Making C) (v : PassView C) (n : Note C) (w : PassView C) : Type 0 where
  pub view : w ≡ taker v.plan v.given (v.received ++ n ∷ []) v.worker v.sent
  pub honest : IsHonestNote made v.plan n
  pub has_pass : worker_of n < v.given
  pub going : has_end (notes_of (worker_of n) v.received) ≡ false

-- if the end of the worker that joined last was received, all its notes were
abbrev pub IsWhole : {C : Type 0} → PassView C → Type 0
IsWhole v = has_end (notes_of v.worker v.received) ≡ true → notes_of v.worker v.received ≡ v.sent

-- The facts that all passes share: the plan, the number of the pass that takes, the number of each worker's pass, the number of workers that have
-- one, and the received notes.
pub record Shared (C : Type 0) : Type 0 where
  pub plan : Planned
  pub taker : ℕ
  pub pass_of : ℕ → ℕ
  pub given : ℕ
  pub received : List (Note C)

-- A worker's pass, given all notes: the received ones, followed by those in the queue. It is its worker's only pass, and knows all that the worker
-- sent.
pub record IsSender {C : Type 0} (shared : Shared C) (all : List (Note C)) (id : ℕ) (v : PassView C) : Type 0 where
  pub plan : v.plan ≡ shared.plan
  pub alone : shared.pass_of v.worker ≡ id
  pub has_pass : v.worker < shared.given
  pub sent : v.sent ≡ notes_of v.worker all

-- The pass that takes is the only one. It knows the number of workers that have a pass, the received notes, and the notes of the worker that joined
-- last.
pub record IsTaker {C : Type 0} (shared : Shared C) (all : List (Note C)) (id : ℕ) (v : PassView C) : Type 0 where
  pub plan : v.plan ≡ shared.plan
  pub alone : shared.taker ≡ id
  pub given : v.given ≡ shared.given
  pub received : v.received ≡ shared.received
  pub joined : shared.pass_of v.worker ≡ id
  pub sent : v.sent ≡ notes_of v.worker all

pub record Fits {C : Type 0} (shared : Shared C) (all : List (Note C)) (id : ℕ) (v : PassView C) : Type 0 where
  pub not_blank : v.role ≢ Blank
  pub sends : v.role ≡ Sends → IsSender shared all id v
  pub takes : v.role ≡ Takes → IsTaker shared all id v

-- Once the plan is named: all that was sent is honest, nothing follows a worker's end, a worker without a pass sent nothing, and each pass knows its part.
pub record IsRunning {C : Type 0} (made : Making C) (items : List (Note C)) (views : List (PassView C)) : Type 0 where
  pub shared : Shared C
  pub honest : AreHonestNotes made shared.plan (shared.received ++ items)
  pub ended : (worker : ℕ) → NothingFollowsEnd (notes_of worker (shared.received ++ items))
  pub unmade : (worker : ℕ) → shared.given ≤ worker → notes_of worker (shared.received ++ items) ≡ []
  pub fits : (id : ℕ) (v : PassView C) → get_elem? views id ≡ some v → Fits shared (shared.received ++ items) id v

-- the facts about the notes in the queue and about all passes
abbrev pub IsPosting : {C : Type 0} → Making C → List (Note C) → List (PassView C) → Type 0
IsPosting made items views = ((items ≡ []) × (views ≡ blank ∷ [])) ⊎ IsRunning made items views
