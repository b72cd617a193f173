-- The effect of an action's steps (XCU `lex`, "Actions in lex": ECHO, BEGIN, return).
use Rattle.std.specs.Prelude.{ℕ, ◌+◌, nat_eq, if◌then◌else◌, List, [], ◌∷◌}
use Rattle.lx_rules.specs.declared.rule.Step.{Step}
use Rattle.lx_rules.specs.declared.rule.Step.TheVariants.{Echo, Begin, Return}
use Rattle.lx_scan.specs.declared.item.Item.{Item}
use Rattle.lx_scan.specs.declared.item.Item.TheVariants as item

-- the condition after the steps
abbrev pub condition_after : List Step → ℕ → ℕ
condition_after [] condition = condition
condition_after (Echo ∷ steps) condition = condition_after steps condition
condition_after (Begin next ∷ steps) condition = condition_after steps next
condition_after (Return kind ∷ steps) condition = condition_after steps condition

-- the items that the steps give of len bytes from start, which are on this line
abbrev pub items_of_steps : List Step → ℕ → ℕ → ℕ → List Item
items_of_steps [] line start len = []
items_of_steps (Echo ∷ steps) line start len = item.Echo line start len ∷ items_of_steps steps line start len
items_of_steps (Begin next ∷ steps) line start len = items_of_steps steps line start len
items_of_steps (Return kind ∷ steps) line start len = item.Token line start len kind ∷ items_of_steps steps line start len

-- the number of newlines among the bytes
abbrev pub newlines : List ℕ → ℕ
newlines [] = 0
newlines (byte ∷ bytes) = (if nat_eq byte 10 then 1 else 0) + newlines bytes
