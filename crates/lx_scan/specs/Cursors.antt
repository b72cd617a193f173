-- Between two items of a text.
use Rattle.std.specs.Prelude.{◌≡◌, ℕ, ◌+◌, ◌<◌, ◌≤◌, List, [], ◌∷◌, ◌++◌, Option, Some, None, length, drop}
use Rattle.std.specs.Option.{ForSome}
use Rattle.lx_rules.specs.declared.rule.Step.{Step}
use Rattle.lx_rules.specs.declared.rule.Step.TheVariants.{Echo, Begin, Return}
use Rattle.lx_tables.specs.Model.{Table}
use Rattle.lx_scan.specs.declared.cursor.Cursor.{Cursor}
use Rattle.lx_scan.specs.declared.item.Item.{Item}
use Rattle.lx_scan.specs.declared.item.Item.TheVariants as item
use Rattle.lx_scan.specs.Items.{items_after, steps_at}
use Rattle.lx_scan.specs.Matching.{choice_in}
use Rattle.lx_scan.specs.Steps.{items_of_steps}

-- the item, if there is one, as a list
abbrev pub listed : Option Item → List Item
listed None = []
listed (Some i) = i ∷ []

-- the item that a step gives of len bytes from start, which are on this line
abbrev pub item_of_step : Step → ℕ → ℕ → ℕ → Option Item
item_of_step Echo line start len = Some (item.Echo line start len)
item_of_step (Begin next) line start len = None
item_of_step (Return kind) line start len = Some (item.Token line start len kind)

-- the steps that are left at its match
abbrev pub steps_left : Table → Cursor → List Step
steps_left table c = drop c.done (steps_at table (choice_in c.found))

-- the items after it: those of the steps that are left, and then those from the place after its match on
abbrev pub items_left : Table → List ℕ → Cursor → List Item
items_left table text c = items_of_steps (steps_left table c) c.line c.found.start c.found.len ++ items_after table text c.place

-- It is in this text, after its match, and its rule is one of the tables.
pub record IsInText (table : Table) (text : List ℕ) (c : Cursor) : Type 0 where
  pub within : c.place.offset ≤ length text
  pub behind : c.found.start + c.found.len ≡ c.place.offset
  pub known : c.place.condition < length table.machine.starts
  pub line_some : 1 ≤ c.place.line
  pub line_few : c.place.line ≤ c.place.offset + 1
  pub rule : ForSome c.found.rule (λ i. i < length table.rules)
