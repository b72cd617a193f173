-- The tables choose as the rules do.
use Rattle.std.proofs.Common.{◌≡◌, ◌↔◌, ℕ, ◌<◌, Bool, List, Option, All, length, sym, subst}
use Rattle.lx_rules.specs.Choice.{IsChoice}
use Rattle.lx_rules.specs.Plain.{PlainSpec}
use Rattle.lx_tables.specs.Model.{AreTablesOf, Table}
use Rattle.lx_scan.specs.Answers.{choice_of}
use Rattle.lx_reach.specs.Chosen.{IsChosenBy, IsChosenIn, IsEverChosen, IsEverChosenBy}

-- the theorem of lx_scan about the choice
abbrev pub ByRules : Type 0
ByRules = (spec : PlainSpec) (table : Table) (condition : ℕ) (begin : Bool) (text : List ℕ) → AreTablesOf spec table → condition < length spec.conditions → All (λ b. b < 256) text →
    IsChoice spec condition begin text (choice_of table condition begin text)

abbrev pub OneChoice : Type 0
OneChoice = (spec : PlainSpec) (condition : ℕ) (begin : Bool) (text : List ℕ) (x y : Option (ℕ × ℕ)) → IsChoice spec condition begin text x → IsChoice spec condition begin text y → x ≡ y

forth : ByRules → (spec : PlainSpec) (table : Table) (condition rule : ℕ) → AreTablesOf spec table → condition < length spec.conditions → IsChosenIn table condition rule → IsChosenBy spec condition rule
forth by spec table condition rule of known chosen = record {
  begin = chosen.begin;
  text = chosen.text;
  bytes = chosen.bytes;
  len = chosen.len;
  choice = subst (λ found. IsChoice spec condition chosen.begin chosen.text found) chosen.choice (by spec table condition chosen.begin chosen.text of known chosen.bytes);
}

back : ByRules → OneChoice → (spec : PlainSpec) (table : Table) (condition rule : ℕ) → AreTablesOf spec table → condition < length spec.conditions → IsChosenBy spec condition rule → IsChosenIn table condition rule
back by one spec table condition rule of known chosen = record {
  begin = chosen.begin;
  text = chosen.text;
  bytes = chosen.bytes;
  len = chosen.len;
  choice = one spec condition chosen.begin chosen.text _ _ (by spec table condition chosen.begin chosen.text of known chosen.bytes) chosen.choice;
}

pub by_one : ByRules → OneChoice → (spec : PlainSpec) (table : Table) (condition rule : ℕ) → AreTablesOf spec table → condition < length spec.conditions → IsChosenIn table condition rule ↔ IsChosenBy spec condition rule
by_one by one spec table condition rule of known = (forth by spec table condition rule of known, back by one spec table condition rule of known)

pub by_some : ByRules → OneChoice → (spec : PlainSpec) (table : Table) (rule : ℕ) → AreTablesOf spec table → IsEverChosen table rule ↔ IsEverChosenBy spec rule
by_some by one spec table rule of = (
  (λ ever.
      let known : ever.condition < length spec.conditions = subst (λ n. ever.condition < n) of.automaton.conditions ever.known in
      record { condition = ever.condition; known = known; chosen = forth by spec table ever.condition rule of known ever.chosen }),
  (λ ever. record {
    condition = ever.condition;
    known = subst (λ n. ever.condition < n) (sym of.automaton.conditions) ever.known;
    chosen = back by one spec table ever.condition rule of ever.known ever.chosen;
  }),
)
