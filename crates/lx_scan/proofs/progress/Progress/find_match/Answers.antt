use Rattle.std.proofs.Common.{◌+◌, Bool, List, ℕ, drop, sym, subst}
use Rattle.std.proofs.lemmas.List.{take_rest}
use Rattle.lx_scan.specs.Streams.{GoesOnBy, IsDecided, IsStopped}
use Rattle.lx_scan.proofs.Streaming.{gives_match, parts_next}
use Rattle.lx_scan.proofs.Walking.{stopped_dead, stopped_ended, walk_decided}
use Rattle.lx_scan.proofs.progress.Progress.find_match.Goals as goal
use Rattle.lx_scan.proofs.progress.Progress.find_match.Goals.{else-not-is_stopped-via-else-not-is_stopped, else-not-is_stopped-via-then-not-is_stopped+else-not-self, else-not-is_stopped-via-then-not-is_stopped+then-not-self+else-has_step}

pub remember-requires-clause-stopped : goal.remember-requires-clause-stopped
remember-requires-clause-stopped c =
    let m = c.args.tables.now.machine in
    let at = c.args.self.now in
    let held : List ℕ = drop at.start c.args.bytes.now in
    let walk = c.over-is_stopped.result.0 in
    let facts = c.over-is_stopped.ensures in
    elim c.else-not-is_stopped.branch as (λ _. IsStopped m held at.has_ended walk.read walk.state.0) [
      | else-not-is_stopped-via-then-not-is_stopped+then-not-self+else-has_step w ↦
          stopped_dead m held at.has_ended walk.read walk.state.0 (facts.all w.if-not-is_stopped.true) (w.has_step.ensures.none w.if-has_step.false)
      | else-not-is_stopped-via-then-not-is_stopped+else-not-self w ↦
          subst (λ (ended : Bool). IsStopped m held ended walk.read walk.state.0) (sym w.if-not-self.false) (stopped_ended m held walk.read walk.state.0 (facts.all w.if-not-is_stopped.true))
      | else-not-is_stopped-via-else-not-is_stopped w ↦ facts.stopped w.if-not-is_stopped.false
    ]

pub decide-requires-clause-decided : goal.decide-requires-clause-decided
decide-requires-clause-decided c =
    let table = c.args.tables.now in
    let at = c.args.self.now in
    let held : List ℕ = drop at.start c.args.bytes.now in
    let walk = c.over-is_stopped.result.0 in
    let facts = c.over-is_stopped.ensures in
    let stopped : IsStopped table.machine held at.has_ended walk.read walk.state.0
    = elim c.else-not-is_stopped.branch as (λ _. IsStopped table.machine held at.has_ended walk.read walk.state.0) [
      | else-not-is_stopped-via-then-not-is_stopped+then-not-self+else-has_step w ↦
          stopped_dead table.machine held at.has_ended walk.read walk.state.0 (facts.all w.if-not-is_stopped.true) (w.has_step.ensures.none w.if-has_step.false)
      | else-not-is_stopped-via-then-not-is_stopped+else-not-self w ↦
          subst (λ (ended : Bool). IsStopped table.machine held ended walk.read walk.state.0) (sym w.if-not-self.false) (stopped_ended table.machine held walk.read walk.state.0 (facts.all w.if-not-is_stopped.true))
      | else-not-is_stopped-via-else-not-is_stopped w ↦ facts.stopped w.if-not-is_stopped.false
    ] in
    subst (λ (w : List ℕ). IsDecided table at.cursor.place w at.has_ended walk.found.last) (sym (take_rest c.args.bytes.now at.start))
    (walk_decided table at.cursor.place held at.has_ended walk.read walk.state.0 walk.found.last facts.walked stopped)

goes : (c : goal.After-begin) → GoesOnBy c.args.tables.now c.args.self.now.cursor.place (drop c.args.self.now.start c.args.bytes.now) c.args.self.now.has_ended c.decide.result.0 c.decide.result.1
goes c = subst (λ (held : List ℕ). GoesOnBy c.args.tables.now c.args.self.now.cursor.place held c.args.self.now.has_ended c.decide.result.0 c.decide.result.1) (take_rest c.args.bytes.now c.args.self.now.start) c.decide.ensures

pub returns-clause-progress : goal.returns-clause-progress
returns-clause-progress c =
    let at = c.args.self.now in
    let walk = c.begin.result in
    record {
      parts = parts_next c.args.tables.now c.args.bytes.now at.start at.cursor at.walk.read at.walk.state.0 at.walk.found.last at.has_ended c.decide.result.0 c.decide.result.1 c.requires.progress.parts c.requires.none_due (goes c)
          walk.read walk.state.0 walk.found.last (c.begin.ensures.walked (drop (at.start + c.decide.result.0.len) c.args.bytes.now));
      silent = c.begin.ensures.silent (drop (at.start + c.decide.result.0.len) c.args.bytes.now);
    }

pub returns-clause-gives : goal.returns-clause-gives
returns-clause-gives c =
    let at = c.args.self.now in
    gives_match c.args.tables.now c.args.bytes.now at.start at.cursor at.walk.read at.walk.state.0 at.walk.found.last at.has_ended c.decide.result.0 c.decide.result.1 c.requires.progress.parts c.requires.none_due (goes c)
