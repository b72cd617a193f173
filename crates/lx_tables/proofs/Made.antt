-- The tables made of a specification and its automaton.
use Rattle.std.proofs.Common.{◌≡◌, ℕ, ◌*◌, ◌≤◌, List, length, map, refl, ◌∙◌, arith}
use Rattle.lx_rules.specs.Plain.{PlainSpec}
use Rattle.lx_rules.specs.Invariant.{IsWellFormed}
use Rattle.lx_automaton.specs.Automata.{Machine, IsMachine, HasByteClasses, state_count}
use Rattle.lx_automaton.specs.Equivalence.{AreEquivalentMachines}
use Rattle.lx_automaton.specs.Leading.{AreAllLedTo}
use Rattle.lx_automaton.specs.Meaning.{IsAutomatonOf}
use Rattle.lx_automaton.specs.EncodedOptions.{machine_of}
use Rattle.lx_tables.specs.Model.{Table, IsTable, AreTablesOf, table_rule}
use Rattle.lx_automaton.specs.Numbered.{AreAllMet, AreStarts, AreAccepted, AreRows}
use Rattle.lx_tables.proofs.Kept.{table_kept}
use Rattle.lx_automaton.proofs.Reordered.{reordered_machine, reordered_classes, reordered_automaton, reordered_alike, reordered_led, accepts_below}

module _ (m : Machine) (states encoded_options : List ℕ) (starts : List (ℕ × ℕ)) (accepted targets : List ℕ) (rules : ℕ)
    (is : IsMachine m) (has : HasByteClasses m) (all : AreAllMet states encoded_options) (long : length encoded_options ≡ state_count m)
    (are_starts : AreStarts m encoded_options starts (length m.starts)) (are_accepted : AreAccepted m rules states accepted (length states))
    (are_rows : AreRows m states encoded_options targets (length states * m.width)) (few : rules ≤ 4096)
    (spec : PlainSpec) (of : IsAutomatonOf spec m) (same : rules ≡ length spec.rules) (well : IsWellFormed spec) where
  abbrev table : Table
  table = record { machine = machine_of starts m.classes m.width accepted targets; kinds = spec.kinds; rules = map table_rule spec.rules }

  pub made_table : IsTable table
  made_table = table_kept spec table.machine well
      (reordered_machine m states encoded_options starts accepted targets rules is has all long are_starts are_accepted are_rows few)
      (reordered_classes m states encoded_options starts accepted targets rules is has all long are_starts are_accepted are_rows few)
      (are_starts.long ∙ of.conditions)
      (λ s r e. let l = accepts_below m states encoded_options starts accepted targets rules is has all long are_starts are_accepted are_rows few s r e in omega arith)

  pub made_of : AreTablesOf spec table
  made_of = record {
    automaton = reordered_automaton m states encoded_options starts accepted targets rules is has all long are_starts are_accepted are_rows few spec of same;
    kinds = refl;
    rules = refl;
  }

  pub made_alike : AreEquivalentMachines m table.machine
  made_alike = reordered_alike m states encoded_options starts accepted targets rules is has all long are_starts are_accepted are_rows few spec of same

  pub made_led : AreAllLedTo m → AreAllLedTo table.machine
  made_led = reordered_led m states encoded_options starts accepted targets rules is has all long are_starts are_accepted are_rows few
