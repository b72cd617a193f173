-- Progress in reading a pattern.
use Rattle.std.specs.Prelude.{◌≡◌, ℕ, ◌+◌, List, [], Option, Some}
use Rattle.lx_ere.specs.Grammar.{Lexeme}
use Rattle.lx_ere.specs.Groups.{groups_of}
use Rattle.lx_ere.specs.Regex.{Regex}
use Rattle.lx_ere.specs.Stacks.{Stack, stack, empty_frame, run}
use Rattle.lx_flex_pattern.specs.declared.options.PatternOptions.{PatternOptions}
use Rattle.lx_flex_pattern.specs.declared.reading.PlaceInText.{PlaceInText}
use Rattle.lx_flex_pattern.specs.declared.reading.RowStop as code_stop
use Rattle.lx_flex_pattern.specs.declared.reading.RowStop.TheVariants as stops
use Rattle.lx_flex_pattern.specs.declared.reading.RowEnd as code_end
use Rattle.lx_flex_pattern.specs.declared.reading.RowEnd.TheVariants as ends
use Rattle.lx_flex_pattern.specs.declared.reading.RowPart as code_part
use Rattle.lx_flex_pattern.specs.declared.reading.RowPart.TheVariants as part
use Rattle.lx_flex_pattern.specs.Intervals.{IsKeptAs}
use Rattle.lx_flex_pattern.specs.KeptStacks.{IsKeptStack}
use Rattle.lx_flex_pattern.specs.Lexing.{Definition}
use Rattle.lx_flex_pattern.specs.Pieces.{state_of}
use Rattle.lx_flex_pattern.specs.Reading.{Place, place, Stop, at_end, at_dollar, at_slash, before, row, Lexes, Reads}

abbrev pub place_of : PlaceInText → Place
place_of p = place (state_of p.state) p.inserted p.text.items

abbrev pub stop_of : code_stop.RowStop → Stop
stop_of stops.End = at_end
stop_of stops.Dollar = at_dollar
stop_of stops.Slash = at_slash

-- From one place another one was reached. The stack took the lexemes of the parts between, and is kept as this one.
pub record Reached (o : PatternOptions) (names : List ℕ → Option Definition) (from : Place) (groups : Stack) (here : Place) : Type 0 where
  pub read : List Lexeme
  pub parts : ℕ
  pub written : Stack
  pub leads : run read (stack empty_frame []) ≡ Some written
  pub kept : IsKeptStack written groups
  pub follows : (k : ℕ) → row (parts + k) o names from ≡ before read (row k o names here)

-- The row that begins at the place was read. The stack took its lexemes, and is kept as this one.
pub record Stopped (o : PatternOptions) (names : List ℕ → Option Definition) (from : Place) (groups : Stack) (stop : Stop) (last : Place) : Type 0 where
  pub read : List Lexeme
  pub written : Stack
  pub leads : run read (stack empty_frame []) ≡ Some written
  pub kept : IsKeptStack written groups
  pub lexed : Lexes o names from read stop last

-- the outcome of parts that were read: the stack and the next place, or the stack, the stop and the place after it
pub data Outcome : Type 0 where
  arrives : Stack → Place → Outcome
  halts : Stack → Stop → Place → Outcome

abbrev pub end_of : code_end.RowEnd → Outcome
end_of (ends.Inserts groups next) = arrives (groups_of groups) (place_of next)
end_of (ends.Stops groups stop last) = halts (groups_of groups) (stop_of stop) (place_of last)

-- The same of one part, after which the row goes on or not.
abbrev pub outcome_of : code_part.RowPart → Outcome
outcome_of (part.Goes groups state inserted rest) = arrives (groups_of groups) (place (state_of state) inserted rest.now)
outcome_of (part.Done end) = end_of end

abbrev pub Tells : PatternOptions → (List ℕ → Option Definition) → Place → Outcome → Type 0
Tells o names from (arrives groups next) = Reached o names from groups next
Tells o names from (halts groups stop last) = Stopped o names from groups stop last

-- From the place on an alternation is read, and its tree is kept as this one.
pub record ReadsKept (o : PatternOptions) (names : List ℕ → Option Definition) (from : Place) (kept : Regex) (stop : Stop) (last : Place) : Type 0 where
  pub written : Regex
  pub reads : Reads o names from written stop last
  pub is_kept : IsKeptAs written kept

-- no alternation is read from the place on
abbrev pub ReadsNothing : PatternOptions → (List ℕ → Option Definition) → Place → Type 0
ReadsNothing o names from = (tree : Regex) (stop : Stop) (last : Place) → Reads o names from tree stop last → ⊥
