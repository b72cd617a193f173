-- The matches that a scanner finds at a place of a text.
use Rattle.std.specs.Prelude.{◌≡◌, ℕ, ◌+◌, ◌<◌, ◌≤◌, ◌++◌, List, Option, None, length, drop}
use Rattle.std.specs.Option.{option_map, ForSome}
use Rattle.lx_tables.specs.Model.{Table}
use Rattle.lx_scan.specs.declared.place.Match.{Match}
use Rattle.lx_scan.specs.declared.place.Place.{Place}
use Rattle.lx_scan.specs.Answers.{IsByAnswers}
use Rattle.lx_scan.specs.Items.{choice_at, items_after, place_after, steps_at}
use Rattle.lx_scan.specs.Steps.{items_of_steps}

-- a match as a choice: a rule and the length of its token, or nothing for a byte that is echoed
abbrev pub choice_in : Match → Option (ℕ × ℕ)
choice_in m = option_map (λ rule. (rule, m.len)) m.rule

-- At a place with this non-empty rest of the text, this match is found: the choice by the answers of the tables, or one byte alone if there is none.
pub record IsFound (table : Table) (rest : List ℕ) (place : Place) (m : Match) : Type 0 where
  pub start : m.start ≡ place.offset
  pub choice : choice_in m ≡ choice_at table rest place
  pub by_answers : IsByAnswers table place.condition place.at_line_begin rest (choice_in m)
  pub alone : m.rule ≡ None → m.len ≡ 1
  pub some : 0 < m.len
  pub within : m.len ≤ length rest
  pub rule : ForSome m.rule (λ i. i < length table.rules)

-- At a place before the end of the text this match is found, and the scanner continues at the next place. That place is further on in the text, in a
-- condition that exists and on a possible line. The items from the place on are those of the match, and then those from the next place on.
pub record GoesOn (table : Table) (text : List ℕ) (place : Place) (m : Match) (next : Place) : Type 0 where
  pub more : place.offset < length text
  pub found : IsFound table (drop place.offset text) place m
  pub after : next ≡ place_after table (drop place.offset text) place (choice_in m)
  pub further : place.offset < next.offset
  pub within : next.offset ≤ length text
  pub known : next.condition < length table.machine.starts
  pub line_some : 1 ≤ next.line
  pub line_few : next.line ≤ next.offset + 1
  pub items : items_after table text place ≡ items_of_steps (steps_at table (choice_in m)) place.line m.start m.len ++ items_after table text next
