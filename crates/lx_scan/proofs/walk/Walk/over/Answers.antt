use Rattle.std.proofs.Common.{◌≡◌, ◌<◌, ℕ, Some, ap, arith, drop, length, sym, ◌∙◌}
use Rattle.std.specs.Prelude.{slice_index}
use Rattle.std.proofs.lemmas.List.{get_or-drop, length-drop}
use Rattle.lx_automaton.specs.Automata.{target_of}
use Rattle.lx_scan.proofs.Walking.{silent_on, stopped_known, stopped_stuck, walks_on}
use Rattle.lx_scan.proofs.walk.Walk.over.Goals as goal

pub returns-then-has_failed-clause-stopped : goal.returns-then-has_failed-clause-stopped
returns-then-has_failed-clause-stopped c stopped =
    let walk = c.loop-walk.walk in
    stopped_known c.args.tables.now c.args.bytes.now c.args.has_ended c.args.start walk.read walk.state.0 c.args.memory.now c.requires.within c.requires.memory (c.has_failed.ensures c.if-has_failed.true)

pub returns-in_default-clause-stopped : goal.returns-in_default-clause-stopped
returns-in_default-clause-stopped c stopped =
    let walk = c.loop-walk.walk in
    let more = c.loop-walk-test.true in
    stopped_stuck c.args.tables.now.machine (drop c.args.start c.args.bytes.now) c.args.has_ended walk.read walk.state.0 (omega (arith, length-drop c.args.start c.args.bytes.now))
    (ap (λ (b : ℕ). target_of c.args.tables.now.machine walk.state.0 b) (get_or-drop c.args.start c.args.bytes.now walk.read 0) ∙ sym c.in_default.ensures.target)

pub loop-walk-preserved : goal.loop-walk-preserved
loop-walk-preserved c =
    let table = c.args.tables.now in
    let walk = c.loop-walk.walk in
    let found = c.accept_at.new.found in
    let more = c.loop-walk-test.true in
    let inside : walk.read < length (drop c.args.start c.args.bytes.now) = omega (arith, length-drop c.args.start c.args.bytes.now) in
    let step : Some c.in-Some.next.0 ≡ target_of table.machine walk.state.0 (slice_index (drop c.args.start c.args.bytes.now) walk.read)
    = c.in-Some.ensures.target ∙ sym (ap (λ (b : ℕ). target_of table.machine walk.state.0 b) (get_or-drop c.args.start c.args.bytes.now walk.read 0)) in
    record {
      walked = walks_on table c.args.place (drop c.args.start c.args.bytes.now) walk.read walk.state.0 c.in-Some.next.0 walk.found.last found.last inside step c.in-Some.ensures.state
          c.accept_at.ensures.last c.loop-walk.invariant.walked;
      silent = silent_on table.machine (drop c.args.start c.args.bytes.now) walk.read walk.state.0 c.in-Some.next.0 walk.found.since walk.found.state.0 found.since found.state.0 inside (sym step) c.in-Some.ensures.state
          c.accept_at.ensures.since c.loop-walk.invariant.silent;
    }
