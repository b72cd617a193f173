-- A mirror of the scanner: the items of a text by tables, match after match. Each match is a choice by answers, with the chosen rule's steps. A law,
-- `items_are_by_rules`, says that they are the items by the rules of a specification (XCU `lex`, "Rules in lex" and "Actions in lex").
use Rattle.std.specs.Prelude.{ℕ, zero, suc, ◌+◌, ◌-◌, true, nat_eq, List, [], ◌∷◌, ◌++◌, Option, Some, None, slice_index, drop, take}
use Rattle.lx_rules.specs.declared.rule.Step.{Step}
use Rattle.lx_rules.specs.declared.rule.Step.TheVariants.{Echo}
use Rattle.lx_tables.specs.Model.{Table, rule_at}
use Rattle.lx_scan.specs.declared.item.Item.{Item}
use Rattle.lx_scan.specs.declared.place.Place.{Place}
use Rattle.lx_scan.specs.Answers.{choice_of}
use Rattle.lx_scan.specs.Steps.{condition_after, items_of_steps, newlines}

-- before the first byte: in INITIAL, at line begin, on line 1
abbrev pub first_place : Place
first_place = record { offset = 0; condition = 0; at_line_begin = true; line = 1 }

-- the choice at a place, with the rest of the text from there on
abbrev pub choice_at : Table → List ℕ → Place → Option (ℕ × ℕ)
choice_at table rest place = choice_of table place.condition place.at_line_begin rest

-- the steps at a choice: without one the byte is echoed
abbrev pub steps_at : Table → Option (ℕ × ℕ) → List Step
steps_at table None = Echo ∷ []
steps_at table (Some found) = (rule_at table found.0).steps

-- the number of bytes taken at it
abbrev pub len_at : Option (ℕ × ℕ) → ℕ
len_at None = 1
len_at (Some found) = found.1

-- the items that it gives
abbrev pub items_at : Table → Place → Option (ℕ × ℕ) → List Item
items_at table place choice = items_of_steps (steps_at table choice) place.line place.offset (len_at choice)

-- the place after it: at line begin if and only if the last byte taken is a newline
abbrev pub place_after : Table → List ℕ → Place → Option (ℕ × ℕ) → Place
place_after table rest place choice = record {
  offset = place.offset + len_at choice;
  condition = condition_after (steps_at table choice) place.condition;
  at_line_begin = nat_eq (slice_index rest (len_at choice - 1)) 10;
  line = place.line + newlines (take (len_at choice) rest);
}

-- The items of the rest of a text. This number of its bytes was taken by the match before.
abbrev pub items_from : Table → List ℕ → ℕ → Place → List Item
items_from table [] taken place = []
items_from table (byte ∷ rest) (suc taken) place = items_from table rest taken place
items_from table (byte ∷ rest) zero place =
    let choice = choice_at table (byte ∷ rest) place in
    items_at table place choice ++ items_from table rest (len_at choice - 1) (place_after table (byte ∷ rest) place choice)

-- the items of a text from a place on
abbrev pub items_after : Table → List ℕ → Place → List Item
items_after table text place = items_from table (drop place.offset text) 0 place

-- the items of a text
unfoldable pub items_of : Table → List ℕ → List Item
items_of table text = items_after table text first_place
