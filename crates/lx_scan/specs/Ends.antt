-- The ends of consecutive matches, as a run over the joined table finds them, and the items that are made of them.
use Rattle.std.specs.Prelude.{◌≡◌, ℕ, ◌+◌, ◌-◌, ◌<◌, ◌≤◌, nat_eq, if◌then◌else◌, List, [], ◌∷◌, ◌++◌, Option, Some, None, length, map, slice_index}
use Rattle.lx_rules.specs.declared.rule.Step.{Step}
use Rattle.lx_rules.specs.declared.rule.Step.TheVariants.{Echo}
use Rattle.lx_tables.specs.Joined.{echoed, item_count}
use Rattle.lx_tables.specs.Model.{Table, rule_at}
use Rattle.lx_scan.specs.declared.ends.End.{End}
use Rattle.lx_scan.specs.declared.item.Item.{Item}
use Rattle.lx_scan.specs.declared.place.Place.{Place}
use Rattle.lx_scan.specs.Items.{items_after}
use Rattle.lx_scan.specs.Steps.{items_of_steps}

-- the rule of the match that ended, by its code; none if a byte is echoed that no rule matches
abbrev pub rule_of_code : Table → ℕ → Option ℕ
rule_of_code table code = if nat_eq code (echoed table) then None else Some (code - 1)

-- the steps at it
abbrev pub steps_of_rule : Table → Option ℕ → List Step
steps_of_rule table None = Echo ∷ []
steps_of_rule table (Some rule) = (rule_at table rule).steps

abbrev pub steps_of_code : Table → ℕ → List Step
steps_of_code table code = steps_of_rule table (rule_of_code table code)

-- A match from this place on ended there, of a rule that exists, or of a byte that no rule matches. It gives at most one item. No more newlines are before
-- its end than bytes.
pub record IsEnd (table : Table) (start : ℕ) (e : End) : Type 0 where
  pub further : start < e.offset
  pub line_few : e.line ≤ e.offset + 1
  pub some : 0 < e.code
  pub known : e.code ≤ echoed table
  pub few : item_count (steps_of_code table e.code) ≤ 1

-- each of the matches begins at the end of the one before it
abbrev pub AreEnds : Table → ℕ → List End → Type 0
AreEnds table start [] = Unit {0}
AreEnds table start (e ∷ es) = IsEnd table start e × AreEnds table e.offset es

-- their items, from a place and its line on
abbrev pub items_of_ends : Table → ℕ → ℕ → List End → List Item
items_of_ends table start line [] = []
items_of_ends table start line (e ∷ es) = items_of_steps (steps_of_code table e.code) line start (e.offset - start) ++ items_of_ends table e.offset e.line es

-- the end of the last one, and its line
abbrev pub end_of : ℕ → List End → ℕ
end_of start [] = start
end_of start (e ∷ es) = end_of e.offset es

abbrev pub line_of : ℕ → List End → ℕ
line_of line [] = line
line_of line (e ∷ es) = line_of e.line es

-- the end of a match in a part of a text, as one in the text: further on by this number of bytes and of lines
abbrev pub shift_end : ℕ → ℕ → End → End
shift_end bytes lines e = record { code = e.code; offset = bytes + e.offset; line = lines + e.line }

-- ends that are counted from a place, as ends in the text
abbrev pub ends_from : Place → List End → List End
ends_from place ends = map (shift_end place.offset (place.line - 1)) ends

-- the place after them, under a condition
abbrev pub place_behind : List ℕ → Place → List End → ℕ → Place
place_behind text place ends condition = record {
  offset = end_of place.offset ends;
  condition = condition;
  at_line_begin = nat_eq (slice_index text (end_of place.offset ends - 1)) 10;
  line = line_of place.line ends;
}

-- a place of a scanner in the text
pub record IsPlace (table : Table) (text : List ℕ) (place : Place) : Type 0 where
  pub within : place.offset ≤ length text
  pub known : place.condition < length table.machine.starts
  pub line_some : 1 ≤ place.line
  pub line_few : place.line ≤ place.offset + 1

-- The matches from a place on end there, and the scanner continues at the next place. The items from the place on are theirs, and then those from the
-- next place on.
pub record LeadTo (table : Table) (text : List ℕ) (place : Place) (ends : List End) (next : Place) : Type 0 where
  pub are_ends : AreEnds table place.offset ends
  pub is_place : IsPlace table text next
  pub items : items_after table text place ≡ items_of_ends table place.offset place.line ends ++ items_after table text next

-- Items were added to a list, and taken from those that are left.
pub record Appends (old new left_old left_new : List Item) : Type 0 where
  pub added : List Item
  pub new_is : new ≡ old ++ added
  pub left_is : left_old ≡ added ++ left_new
