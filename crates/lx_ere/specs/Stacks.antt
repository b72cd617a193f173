-- Reading lexemes from left to right with a stack of open groups. The result is the grammar's one tree (StackLaws.antt).
use Rattle.std.specs.Prelude.{ℕ, List, [], ◌∷◌, Option, Some, None}
use Rattle.std.specs.Option.{option_map, option_and_then}
use Rattle.lx_ere.specs.Bytes.{byte_set}
use Rattle.lx_ere.specs.Regex.{Regex, nil, one_of, then, or, times, named}
use Rattle.lx_ere.specs.Grammar.{Lexeme, set_of, quoted, name, interval, repeat, empty_word, open_group, close_group, bar, joined}

-- the part of an open group that was read: the alternatives before the last bar, the branch, and its last unit
pub record Frame : Type 0 where
  pub before : Option Regex
  pub branch : Option Regex
  pub unit : Option Regex

abbrev pub frame : Option Regex → Option Regex → Option Regex → Frame
frame a b u = record { before = a; branch = b; unit = u }

abbrev pub empty_frame : Frame
empty_frame = frame None None None

-- the branch with its last unit
abbrev pub whole : Option Regex → Option Regex → Option Regex
whole None None = None
whole None (Some u) = Some u
whole (Some b) None = Some b
whole (Some b) (Some u) = Some (then b u)

abbrev pub either : Option Regex → Regex → Regex
either None r = r
either (Some a) r = or a r

-- the alternation, if something follows its last bar
abbrev pub total : Frame → Option Regex
total f = option_map (either f.before) (whole f.branch f.unit)

abbrev pub push : Frame → Regex → Frame
push f r = frame f.before (whole f.branch f.unit) (Some r)

-- the innermost open group, and those around it
pub record Stack : Type 0 where
  pub top : Frame
  pub below : List Frame

abbrev pub stack : Frame → List Frame → Stack
stack f fs = record { top = f; below = fs }

-- the last unit is repeated from low to high times
abbrev pub again : ℕ → Option ℕ → Stack → Option Stack
again low high s = option_map (λ u. stack (frame s.top.before s.top.branch (Some (times u low high))) s.below) s.top.unit

abbrev pub closed : Option Regex → List Frame → Option Stack
closed None fs = None
closed (Some r) [] = None
closed (Some r) (f ∷ fs) = Some (stack (push f r) fs)

abbrev pub step : Lexeme → Stack → Option Stack
step (set_of s) st = Some (stack (push st.top (one_of s)) st.below)
step (quoted first more) st = Some (stack (push st.top (joined (one_of (byte_set first)) more)) st.below)
step (name n) st = Some (stack (push st.top (named n)) st.below)
step (interval low high) st = option_map (λ b. stack (frame st.top.before (Some (times b low high)) None) st.below) (whole st.top.branch st.top.unit)
step open_group st = Some (stack empty_frame (st.top ∷ st.below))
step close_group st = closed (total st.top) st.below
step (repeat low high) st = again low high st
step empty_word st = Some (stack (push st.top nil) st.below)
step bar st = option_map (λ r. stack (frame (Some r) None None) st.below) (total st.top)

abbrev pub run : List Lexeme → Stack → Option Stack
run [] st = Some st
run (l ∷ ls) st = option_and_then (run ls) (step l st)

abbrev pub finish : Frame → List Frame → Option Regex
finish f [] = total f
finish f (g ∷ fs) = None

abbrev pub parse : List Lexeme → Option Regex
parse ls = option_and_then (λ st. finish st.top st.below) (run ls (stack empty_frame []))
