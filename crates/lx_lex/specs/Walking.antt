-- The arrays as C reads them, and the rule that a walk over them finds.
use Rattle.std.specs.Prelude.{◌≡◌, ◌↔◌, ℕ, zero, suc, ◌+◌, ◌*◌, ◌==◌, ◌<◌, if◌then◌else◌, IsTrue, Bool, true, false, Option, Some, None, is_some, List, [], ◌∷◌, length, slice_get, slice_index, All}
use Rattle.lx_automaton.specs.Automata.{Machine, start_of, state_count}
use Rattle.lx_automaton.specs.Meaning.{IsAnswer}
use Rattle.lx_c.specs.Reading.{read_words}
use Rattle.lx_ere.specs.Matching.{Matches, no_names}
use Rattle.lx_lex.specs.Arrays.{class_entries, end_class, row_of, rows_text, start_lines}
use Rattle.lx_lex.specs.Cuts.{Part, parts_of}
use Rattle.lx_lex.specs.Translation.{FileRule}
use Rattle.lx_rules.specs.Plain.{PlainSpec}
use Rattle.lx_tables.specs.Model.{Table}

-- the numbers of the arrays of classes, rows and starts; the class of a NUL of the text, and the column in which a row has its rule
pub record Numbers : Type 0 where
  pub classes : List ℕ
  pub rows : List ℕ
  pub first : List ℕ
  pub nul_class : ℕ
  pub rule_column : ℕ

-- the numbers between the braces of the printed arrays (C99, 6.7.8)
abbrev pub numbers_of : Machine → Numbers
numbers_of m = record {
  classes = read_words 0 (class_entries m);
  rows = read_words 0 (rows_text m);
  first = read_words 0 (start_lines m);
  nul_class = slice_index m.classes 0;
  rule_column = m.width;
}

-- the class of a byte of the text
abbrev pub class_in : Numbers → ℕ → ℕ
class_in a b = if b == 0 then a.nul_class else slice_index a.classes b

-- the place of the row to which a text leads from that of another row
abbrev pub walk : Numbers → ℕ → List ℕ → ℕ
walk a place [] = place
walk a place (b ∷ w) = walk a (slice_index a.rows (place + class_in a b)) w

-- the rule that a number in a row's column of rules says
abbrev pub numbered_rule : ℕ → Option ℕ
numbered_rule zero = None
numbered_rule (suc r) = Some r

abbrev pub number_of_flag : Bool → ℕ
number_of_flag true = 1
number_of_flag false = 0

-- the rule after a text, from the start of a condition, at line begin or not
abbrev pub walked_rule : Numbers → ℕ → Bool → List ℕ → Option ℕ
walked_rule a condition begin text =
    numbered_rule (slice_index a.rows (walk a (slice_index a.first (condition * 2 + number_of_flag begin)) text + a.rule_column))

-- The walk over the printed numbers finds the earliest rule of the specification that matches the text, or none. Byte 0 of the array of classes leads nowhere.
pub record FindRules (spec : PlainSpec) (table : Table) : Type 0 where
  pub answers : (condition : ℕ) (begin : Bool) (text : List ℕ) → condition < length spec.conditions → All (λ b. b < 256) text →
      IsAnswer spec condition begin text (walked_rule (numbers_of table.machine) condition begin text)
  pub sentinel : slice_index (numbers_of table.machine).classes 0 ≡ end_class table.machine
  pub nowhere : (s : ℕ) → s < state_count table.machine → slice_index (numbers_of table.machine).rows (row_of table.machine s + end_class table.machine) ≡ 0

-- the rule after a text, from the row at a place
abbrev pub rule_from : Numbers → ℕ → List ℕ → Option ℕ
rule_from a place text = numbered_rule (slice_index a.rows (walk a place text + a.rule_column))

-- From the row in which the condition of a part starts, the walk over a text that isn't empty finds a rule exactly where the part matches the text.
abbrev pub FindsPart : Table → ℕ → Part → List ℕ → Type 0
FindsPart table i part text = IsTrue (is_some (rule_from (numbers_of table.machine) (row_of table.machine (start_of table.machine (i + 1) false)) text)) ↔ Matches no_names part.tree text

-- It does so for each part of the rules with trailing context of several lengths.
abbrev pub FindParts : List FileRule → Table → Type 0
FindParts rules table = (i : ℕ) (part : Part) (text : List ℕ) → slice_get (parts_of rules) i ≡ Some part → 0 < length text → All (λ b. b < 256) text → FindsPart table i part text
