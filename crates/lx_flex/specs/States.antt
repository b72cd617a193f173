-- The state of reading a rules section: the place in the text, the open scopes, and the conditions of the rules before it.
use Rattle.std.specs.Prelude.{◌≡◌, if◌then◌else◌, ℕ, Bool, false, List, [], ◌∷◌, ◌++◌, Option, length, drop, map, reverse}
use Rattle.std.specs.Option.{option_map}
use Rattle.lx_flex.specs.declared.cursor.TextCursor.{TextCursor}
use Rattle.lx_flex.specs.declared.definitions.Declared.{Declared}
use Rattle.lx_flex.specs.declared.rules.FlexRule.{FlexRule}
use Rattle.lx_flex.specs.declared.rules.Rules.{Rules}
use Rattle.lx_flex.specs.declared.scopes.Scopes.{Scopes}
use Rattle.lx_flex.specs.Activity.{joined}
use Rattle.lx_flex.specs.ConditionLists.{IsList}
use Rattle.lx_flex.specs.RulesSections.{Line, code, plain, opening, closing, IsFurther, IsLine, Follows, if_any, opens_scope}

-- the text from the cursor on
abbrev pub left : TextCursor → List ℕ
left c = drop c.at c.text.now

-- the names of the conditions
abbrev pub names_of : Declared → List (List ℕ)
names_of d = map (λ c. c.name.items) d.conditions.items

-- the conditions of each rule
abbrev pub conditions_of : List FlexRule → List (Option (List ℕ))
conditions_of rules = map (λ r. option_map (λ v. v.items) r.conditions) rules

-- the conditions of each open scope with those around it, the innermost first
abbrev pub open_of : Scopes → List (List ℕ)
open_of s = reverse (map (λ x. x.conditions.items) s.list.items)

-- the conditions of the innermost scope, or none
abbrev pub innermost : List (List ℕ) → List ℕ
innermost [] = []
innermost (top ∷ outer) = top

pub record State : Type 0 where
  -- true before the first line that is no code
  pub first : Bool
  pub scopes : List (List ℕ)
  pub given : List (Option (List ℕ))

abbrev pub state_of : Rules → State
state_of r = record { first = r.prologue; scopes = open_of r.scopes; given = conditions_of r.list.items }

-- a line that is no code was met
abbrev pub begun : State → State
begun s = record s { first = false }

-- a rule with this list was read
abbrev pub with_rule : ℕ → List ℕ → State → State
with_rule count own s = record s { given = s.given ++ if_any (joined count (innermost s.scopes) own) ∷ [] }

-- a scope with this list was opened
abbrev pub with_scope : ℕ → List ℕ → State → State
with_scope count own s = record s { scopes = joined count (innermost s.scopes) own ∷ s.scopes }

-- The innermost scope was closed.
pub record IsClosed (old new : State) : Type 0 where
  pub top : List ℕ
  pub scopes : old.scopes ≡ top ∷ new.scopes
  pub first : new.first ≡ old.first
  pub given : new.given ≡ old.given

-- the effect of a line
abbrev pub Does : ℕ → Line → State → State → Type 0
Does count code old new = new ≡ old
Does count (plain own) old new = new ≡ with_rule count own (begun old)
Does count (opening own) old new = new ≡ with_scope count own (begun old)
Does count closing old new = IsClosed (begun old) new

-- One line was read.
pub record HasRead (declared : List (List ℕ)) (text rest : List ℕ) (old new : State) : Type 0 where
  pub line : Line
  pub is_line : IsLine declared old.first text line rest
  pub does : Does (length declared) line old new

-- After the `<` of a list, what it is for was read.
pub record IsListRead (declared : List (List ℕ)) (text rest : List ℕ) (old new : State) : Type 0 where
  pub own : List ℕ
  pub after : List ℕ
  pub next : List ℕ
  pub list : IsList declared (drop 1 text) own after
  pub follows : Follows after next
  pub further : IsFurther next rest
  pub does : new ≡ (if opens_scope next then with_scope (length declared) own old else with_rule (length declared) own old)

-- If no report is fatal afterwards, none was before, and this holds.
pub record IfNoFault (before after : Bool) (P : Type 0) : Type 0 where
  pub facts : after ≡ false → (before ≡ false) × P
