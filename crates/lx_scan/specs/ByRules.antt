-- The items of a text by the rules of a specification (XCU `lex`, "Rules in lex" and "Actions in lex"). They are given by matches that cover the text
-- from begin to end, and by the steps at each. The choice of a match is an argument.
use Rattle.std.specs.Prelude.{◌≡◌, ℕ, ◌+◌, ◌-◌, ◌<◌, Bool, nat_eq, List, [], ◌∷◌, ◌++◌, Option, Some, None, slice_index, slice_index_or, length, drop, take, map}
use Rattle.lx_rules.specs.declared.rule.Step.{Step}
use Rattle.lx_rules.specs.declared.rule.Step.TheVariants.{Echo}
use Rattle.lx_rules.specs.Choice.{IsChoice}
use Rattle.lx_rules.specs.Plain.{PlainSpec}
use Rattle.lx_scan.specs.declared.item.Item.{Item}
use Rattle.lx_scan.specs.declared.place.Match.{Match}
use Rattle.lx_scan.specs.declared.place.Place.{Place}
use Rattle.lx_scan.specs.Items.{first_place}
use Rattle.lx_scan.specs.Matching.{choice_in}
use Rattle.lx_scan.specs.Steps.{condition_after, items_of_steps, newlines}

-- the steps at a match: a byte that no rule matches is echoed
abbrev pub steps_of : List (List Step) → Option ℕ → List Step
steps_of actions None = Echo ∷ []
steps_of actions (Some rule) = slice_index_or actions rule []

-- At this place the scanner finds this match, by a choice among the rules that fit the text from there on; without one it takes one byte.
pub record IsNext (Chooses : ℕ → Bool → List ℕ → Option (ℕ × ℕ) → Type 0) (text : List ℕ) (place : Place) (m : Match) : Type 0 where
  pub more : place.offset < length text
  pub start : m.start ≡ place.offset
  pub choice : Chooses place.condition place.at_line_begin (drop place.offset text) (choice_in m)
  pub alone : m.rule ≡ None → m.len ≡ 1

-- The place at which the scanner continues after a match. A newline ends a line, and the next line begins after it.
abbrev pub place_behind : List (List Step) → List ℕ → Place → Match → Place
place_behind actions text place m = record {
  offset = place.offset + m.len;
  condition = condition_after (steps_of actions m.rule) place.condition;
  at_line_begin = nat_eq (slice_index text (place.offset + m.len - 1)) 10;
  line = place.line + newlines (take m.len (drop place.offset text));
}

-- the matches from one place to another
abbrev pub Run : (ℕ → Bool → List ℕ → Option (ℕ × ℕ) → Type 0) → List (List Step) → List ℕ → Place → List Match → Place → Type 0
Run Chooses actions text from [] to = to ≡ from
Run Chooses actions text from (m ∷ ms) to = IsNext Chooses text from m × Run Chooses actions text (place_behind actions text from m) ms to

-- the items of the matches from a place on
abbrev pub items_of_run : List (List Step) → List ℕ → Place → List Match → List Item
items_of_run actions text place [] = []
items_of_run actions text place (m ∷ ms) =
    items_of_steps (steps_of actions m.rule) place.line m.start m.len ++ items_of_run actions text (place_behind actions text place m) ms

-- The items of the text: those of the matches that cover it from its begin to its end.
pub record AreItems (Chooses : ℕ → Bool → List ℕ → Option (ℕ × ℕ) → Type 0) (actions : List (List Step)) (text : List ℕ) (items : List Item) : Type 0 where
  pub matches : List Match
  pub end : Place
  pub run : Run Chooses actions text first_place matches end
  pub whole : end.offset ≡ length text
  pub items_are : items ≡ items_of_run actions text first_place matches

-- the steps of each rule
abbrev pub actions_of : PlainSpec → List (List Step)
actions_of spec = map (λ rule. rule.steps) spec.rules

-- the items of the text by the rules of the specification
abbrev pub AreItemsBy : PlainSpec → List ℕ → List Item → Type 0
AreItemsBy spec text items = AreItems (IsChoice spec) (actions_of spec) text items
