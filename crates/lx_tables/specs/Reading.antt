-- The result of reading tables from a text.
use Rattle.std.specs.Prelude.{◌≡◌, ℕ, ◌==◌, ◌⊎◌, if◌then◌else◌, List, slice_index}
use Rattle.lx_automaton.specs.Automata.{HasSameSteps}
use Rattle.lx_tables.specs.Model.{Table, IsTable}
use Rattle.lx_tables.specs.Texts.{text_1, text_2}

-- the text is one of the table's two
abbrev pub IsTextOf : Table → List ℕ → Type 0
IsTextOf table text = (text ≡ text_1 table) ⊎ (text ≡ text_2 table)

-- the text is no table's
pub record IsNoText (text : List ℕ) : Type 0 where
  pub none : (table : Table) → IsTable table → IsTextOf table text → ⊥

-- the table's text of the version that this text has
abbrev pub own_text : List ℕ → Table → List ℕ
own_text text table = if slice_index text 10 == 50 then text_2 table else text_1 table

-- A table that steps on every byte as another one does, over byte classes, with its kinds and rules.
pub record IsClassed (raw classed : Table) : Type 0 where
  pub is_table : IsTable classed
  pub steps : HasSameSteps raw.machine classed.machine
  pub kinds : classed.kinds ≡ raw.kinds
  pub rules : classed.rules ≡ raw.rules
