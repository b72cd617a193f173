-- Code for each state. It reads the next byte, or goes through a loop as long as bytes lead back to the state. A state with few other steps then
-- tests them one by one, and at last the steps to a state that goes on by the same bytes, as keywords do with names. Any other state has a case for
-- each target; one in which matches begin first tests the step to a state that goes on by the same bytes, as blanks do. If no step is left, the code
-- stops by the rule that the state accepts. In a text that ends with a NUL, byte 0 leads nowhere.
use Rattle.std.specs.Prelude.{ℕ, zero, suc, ◌+◌, ◌-◌, ◌*◌, ◌/◌, ◌%◌, ◌==◌, ◌&&◌, ◌||◌, nat_eq, nat_le, nat_lt, not, Bool, true, false, if◌then◌else◌, List, [], ◌∷◌, ◌++◌, Option, Some, None, codes}
use Rattle.std.specs.List.{flat_map, list_any, range_with_len}
use Rattle.std.specs.Option.{option_eq}
use Rattle.lx_automaton.specs.Automata.{Machine, state_count, accepted_by, class_target, target_of}
use Rattle.lx_tables.specs.Texts.{number}
use Rattle.lx_c.specs.Options.{Options}
use Rattle.lx_c.specs.Rows.{entry_text}
use Rattle.lx_c.specs.Words.{rule_word}
use Rattle.lx_c.specs.Templates.{filled, number_then, numbered}
use Rattle.lx_c.specs.declared.state_templates.TheConstants.{MARKS, LABEL, LOOP, RANGES, LOW, HIGH, READ, NEXT, CASE, SWITCH, TEST, SINGLE, KEEP, NEWLINE, GO, STOP, LAST}

-- ---- the steps of a state

-- the step of a state in its code; byte 0 leads nowhere if it ends the text
abbrev pub step_of : Bool → Machine → ℕ → ℕ → Option ℕ
step_of nul_ends m s b = if nul_ends && b == 0 then None else target_of m s b

-- true if there is a step, and it leads to the wanted state, if one is
abbrev pub leads : Option ℕ → Option ℕ → Bool
leads wanted None = false
leads None (Some t) = true
leads (Some s) (Some t) = t == s

-- the number of numbers below n that pass a test
abbrev pub count_below : (ℕ → Bool) → ℕ → ℕ
count_below test zero = 0
count_below test (suc n) = count_below test n + (if test n then 1 else 0)

-- the number of classes on which a state has such a step
abbrev pub step_count : Machine → ℕ → Option ℕ → ℕ
step_count m s wanted = count_below (λ class. leads wanted (class_target m s class)) m.width

-- true if a match begins in a state
abbrev pub starts_in : ℕ → ℕ × ℕ → Bool
starts_in s start = start.0 == s || start.1 == s

abbrev pub is_start : Machine → ℕ → Bool
is_start m s = list_any (starts_in s) m.starts

-- true if one of the first n states has a step to a state
abbrev pub is_entered_by : Machine → ℕ → ℕ → Bool
is_entered_by m s zero = false
is_entered_by m s (suc n) = is_entered_by m s n || not (step_count m n (Some s) == 0)

-- ---- the marks: for each eight states a line of bytes, in which each state has a bit

-- 1 for a byte on which a state steps to itself
abbrev pub mark : Bool → Machine → ℕ → ℕ → ℕ
mark nul_ends m s b = if leads (Some s) (step_of nul_ends m s b) then 1 else 0

abbrev pub mark_of : Bool → Machine → ℕ → ℕ → ℕ
mark_of nul_ends m s b = if nat_lt s (state_count m) then mark nul_ends m s b else 0

-- the greatest number of a group of eight states of which each has a number of 32 bits
abbrev pub max_group : ℕ
max_group = 536870911

-- the marks of four states
abbrev pub four_marks : Bool → Machine → ℕ → ℕ → ℕ
four_marks nul_ends m s b = mark_of nul_ends m s b + 2 * mark_of nul_ends m (s + 1) b + 4 * mark_of nul_ends m (s + 2) b + 8 * mark_of nul_ends m (s + 3) b

abbrev pub mark_byte : Bool → Machine → ℕ → ℕ → ℕ
mark_byte nul_ends m g b = four_marks nul_ends m (8 * g) b + 16 * four_marks nul_ends m (8 * g + 4) b

abbrev pub mark_line : Bool → Machine → ℕ → List ℕ
mark_line nul_ends m g = flat_map (λ b. entry_text (mark_byte nul_ends m g b)) (range_with_len 0 256) ++ codes "\n"

unfoldable pub marks_text : Options → Bool → Machine → List ℕ
marks_text o nul_ends m = filled o.prefix MARKS.now ++ flat_map (mark_line nul_ends m) (range_with_len 0 (state_count m / 8 + 1)) ++ codes "0};\n"

-- ---- the loop of a state

-- true if a state steps to itself on a byte, or, for false, if it doesn't
abbrev pub stays : Bool → Machine → ℕ → Bool → ℕ → Bool
stays nul_ends m s true b = leads (Some s) (step_of nul_ends m s b)
stays nul_ends m s false b = not (leads (Some s) (step_of nul_ends m s b))

-- true if a range of such bytes begins with a byte, or ends with it
abbrev pub begins : Bool → Machine → ℕ → Bool → ℕ → Bool
begins nul_ends m s staying b = stays nul_ends m s staying b && (b == 0 || not (stays nul_ends m s staying (b - 1)))

abbrev pub ends : Bool → Machine → ℕ → Bool → ℕ → Bool
ends nul_ends m s staying b = stays nul_ends m s staying b && (b == 255 || not (stays nul_ends m s staying (b + 1)))

-- the number of such ranges
unfoldable pub range_count : Bool → Machine → ℕ → Bool → ℕ
range_count nul_ends m s staying = count_below (begins nul_ends m s staying) 256

-- a range, as a test of the byte. It doesn't compare with 0 and 255, since compilers warn of that
abbrev pub low_bound : Options → Bool → Machine → ℕ → Bool → ℕ → List ℕ
low_bound o nul_ends m s staying b =
    if not (begins nul_ends m s staying b) then [] else if b == 0 then codes "(1" else filled o.prefix LOW.now ++ number b

abbrev pub high_bound : Options → Bool → Machine → ℕ → Bool → ℕ → List ℕ
high_bound o nul_ends m s staying b =
    if not (ends nul_ends m s staying b) then [] else if b == 255 then codes ") || " else filled o.prefix HIGH.now ++ number_then b (codes ") || ")

abbrev pub range_text : Options → Bool → Machine → ℕ → Bool → ℕ → List ℕ
range_text o nul_ends m s staying b = low_bound o nul_ends m s staying b ++ high_bound o nul_ends m s staying b

abbrev pub ranges_text : Options → Bool → Machine → ℕ → Bool → List ℕ
ranges_text o nul_ends m s staying = flat_map (range_text o nul_ends m s staying) (range_with_len 0 256) ++ codes "0"

-- The loop of a state, up to the rule that it accepts: by comparisons if the bytes on which it steps to itself are at most two ranges, or all others
-- are, and else by the marks.
abbrev pub loop_head : Options → Bool → Machine → ℕ → List ℕ
loop_head o nul_ends m s =
    if nat_lt (range_count nul_ends m s true) 3 then numbered o RANGES.now s (codes ", ") ++ ranges_text o nul_ends m s true
    else if nat_lt (range_count nul_ends m s false) 3 then numbered o RANGES.now s (codes ", !(") ++ ranges_text o nul_ends m s false ++ codes ")"
    else numbered o LOOP.now s (codes "")

-- the next byte. Before a state in which matches begin, and to which no step leads, the text isn't at its end
abbrev pub read_code : Options → Machine → ℕ → List ℕ
read_code o m s =
    if is_start m s && not (is_entered_by m s (state_count m)) then filled o.prefix NEXT.now
    else numbered o READ.now (rule_word (accepted_by m s)) (codes ")\n")

abbrev pub loop_code : Options → Bool → Machine → ℕ → List ℕ
loop_code o nul_ends m s =
    if step_count m s (Some s) == 0 then read_code o m s
    else loop_head o nul_ends m s ++ codes ", " ++ number_then (rule_word (accepted_by m s)) (codes ")\n")

-- ---- a step

-- the last place where a rule matched is kept on a step from a state that accepts a rule to one that accepts none
abbrev pub keep_text : Options → ℕ → ℕ → List ℕ
keep_text o before after = if before == 0 then [] else if after == 0 then numbered o KEEP.now before (codes ") ") else []

-- if the byte may be a newline, the code notes that. Lines of a text that ends with a NUL are counted elsewhere
abbrev pub newline_text : Options → Bool → Machine → ℕ → ℕ → List ℕ
newline_text o nul_ends m s t = if nul_ends then [] else if leads (Some t) (target_of m s 10) then filled o.prefix NEWLINE.now else []

abbrev pub edge_text : Options → Bool → Machine → ℕ → ℕ → List ℕ
edge_text o nul_ends m s t =
    keep_text o (rule_word (accepted_by m s)) (rule_word (accepted_by m t)) ++ newline_text o nul_ends m s t ++ numbered o GO.now t (codes ")")

-- the test if a state goes on by the byte, and the step there
abbrev pub test_code : Options → Bool → Machine → ℕ → Option ℕ → List ℕ
test_code o nul_ends m s None = []
test_code o nul_ends m s (Some t) = numbered o TEST.now t (codes ")) { ") ++ edge_text o nul_ends m s t ++ codes " }\n"

-- ---- the steps that are tested by the marks of their target

-- True if the marks of a state t are wrong on a class of bytes in state s. If the test by them comes last, s leads to t, and t doesn't step to
-- itself; or t steps to itself, and s has no step. If it comes first, t steps to itself, and s doesn't lead to t.
abbrev pub is_misfit : Machine → ℕ → Bool → ℕ → ℕ → Bool
is_misfit m s comes_last t class =
    if not (leads (Some t) (class_target m t class)) then comes_last && leads (Some t) (class_target m s class)
    else not (leads (if comes_last then None else Some t) (class_target m s class))

unfoldable pub misfit_count : Machine → ℕ → Bool → ℕ → ℕ
misfit_count m s comes_last t = count_below (is_misfit m s comes_last t) m.width

-- true if the steps from s to t can be tested by the marks of t
abbrev pub fits : Machine → ℕ → Bool → ℕ → Bool
fits m s comes_last t = not (t == s) && (not (step_count m t (Some t) == 0) && misfit_count m s comes_last t == 0)

abbrev pub earlier_fit : Machine → ℕ → Bool → Option ℕ → Option ℕ → Option ℕ
earlier_fit m s comes_last (Some t) target = Some t
earlier_fit m s comes_last None None = None
earlier_fit m s comes_last None (Some t) = if fits m s comes_last t then Some t else None

-- the first such state to which the first n classes lead
abbrev pub first_fit : Machine → ℕ → Bool → ℕ → Option ℕ
first_fit m s comes_last zero = None
first_fit m s comes_last (suc n) = earlier_fit m s comes_last (first_fit m s comes_last n) (class_target m s n)

abbrev pub fitting_target : Machine → ℕ → Bool → Option ℕ
fitting_target m s comes_last = first_fit m s comes_last m.width

-- the target that is tested before all cases
abbrev pub first_target : Machine → ℕ → Option ℕ
first_target m s = if is_start m s then fitting_target m s false else None

-- the target that is tested after all others
abbrev pub marked_target : Machine → ℕ → Option ℕ
marked_target m s = fitting_target m s true

-- ---- the steps one by one

-- a target that is neither the state itself nor the marked one
abbrev pub other_of : ℕ → Option ℕ → Option ℕ → Option ℕ
other_of s marked None = None
other_of s marked (Some t) = if t == s then None else if option_eq nat_eq marked (Some t) then None else Some t

abbrev pub other_target : Bool → Machine → ℕ → Option ℕ → ℕ → Option ℕ
other_target nul_ends m s marked b = other_of s marked (step_of nul_ends m s b)

abbrev pub is_single : Bool → Machine → ℕ → Option ℕ → ℕ → Bool
is_single nul_ends m s marked b = leads None (other_target nul_ends m s marked b)

-- the number of bytes that lead to other states
unfoldable pub single_count : Bool → Machine → ℕ → Option ℕ → ℕ
single_count nul_ends m s marked = count_below (is_single nul_ends m s marked) 256

-- true for the quote and the backslash, before which C wants a backslash
abbrev pub is_escaped : ℕ → Bool
is_escaped b = b == 39 || b == 92

-- true for the bytes of printable characters
abbrev pub is_printable : ℕ → Bool
is_printable b = nat_le 32 b && nat_le b 126

-- a byte in C: the newline, a character, or a number
abbrev pub byte_text : ℕ → List ℕ
byte_text b =
    if b == 10 then codes "'\\n'" else if is_escaped b then codes "'\\" ++ b ∷ codes "'" else if is_printable b then codes "'" ++ b ∷ codes "'"
    else number b

abbrev pub single_code : Options → Bool → Machine → ℕ → ℕ → Option ℕ → List ℕ
single_code o nul_ends m s b None = []
single_code o nul_ends m s b (Some t) = filled o.prefix SINGLE.now ++ byte_text b ++ codes ") { " ++ edge_text o nul_ends m s t ++ codes " }\n"

abbrev pub single_codes : Options → Bool → Machine → ℕ → Option ℕ → List ℕ
single_codes o nul_ends m s marked = flat_map (λ b. single_code o nul_ends m s b (other_target nul_ends m s marked b)) (range_with_len 0 256)

-- ---- the steps as cases

-- true for the bytes that lead to another state, or, for None, for those that lead nowhere
abbrev pub in_group : Bool → Machine → ℕ → Option ℕ → ℕ → Bool
in_group nul_ends m s None b = not (leads None (step_of nul_ends m s b))
in_group nul_ends m s (Some t) b = leads (Some t) (other_target nul_ends m s None b)

-- the number of such bytes below n
unfoldable pub group_count : Bool → Machine → ℕ → Option ℕ → ℕ → ℕ
group_count nul_ends m s group n = count_below (in_group nul_ends m s group) n

-- the space before a label of which this number of labels come before; 16 bytes have a line
abbrev pub label_begin : ℕ → ℕ → List ℕ
label_begin before b = if before == 0 then CASE.now else if b % 16 == 0 then codes "\n        case " else codes " case "

abbrev pub label_text : ℕ → ℕ → List ℕ
label_text before b = label_begin before b ++ byte_text b ++ codes ":"

abbrev pub label : Bool → Machine → ℕ → Option ℕ → ℕ → List ℕ
label nul_ends m s group b = if in_group nul_ends m s group b then label_text (group_count nul_ends m s group b) b else []

abbrev pub labels : Bool → Machine → ℕ → Option ℕ → List ℕ
labels nul_ends m s group = flat_map (label nul_ends m s group) (range_with_len 0 256)

-- a target, if more than half of all bytes lead there
abbrev pub most_of : Bool → Machine → ℕ → Option ℕ → Option ℕ
most_of nul_ends m s None = None
most_of nul_ends m s (Some t) = if nat_lt 128 (group_count nul_ends m s (Some t) 256) then Some t else None

-- the state to which more than half of all bytes lead, byte 255 among them
abbrev pub main_target : Bool → Machine → ℕ → Option ℕ
main_target nul_ends m s = most_of nul_ends m s (other_target nul_ends m s None 255)

abbrev pub group_code : Options → Bool → Machine → ℕ → ℕ → List ℕ
group_code o nul_ends m s t = labels nul_ends m s (Some t) ++ codes " " ++ edge_text o nul_ends m s t ++ codes "\n"

-- the cases of a target, at the first byte that leads there
abbrev pub case_code : Options → Bool → Machine → ℕ → Option ℕ → ℕ → Option ℕ → List ℕ
case_code o nul_ends m s main b None = []
case_code o nul_ends m s main b (Some t) =
    if option_eq nat_eq main (Some t) then []
    else if group_count nul_ends m s (Some t) b == 0 then group_code o nul_ends m s t
    else []

abbrev pub case_codes : Options → Bool → Machine → ℕ → Option ℕ → List ℕ
case_codes o nul_ends m s main = flat_map (λ b. case_code o nul_ends m s main b (other_target nul_ends m s None b)) (range_with_len 0 256)

-- the bytes that lead nowhere
abbrev pub stop_cases : Bool → Machine → ℕ → List ℕ
stop_cases nul_ends m s = if group_count nul_ends m s None 256 == 0 then [] else labels nul_ends m s None ++ codes " break;\n"

-- the steps to the main target, after all others
abbrev pub main_code : Options → Bool → Machine → ℕ → Option ℕ → List ℕ
main_code o nul_ends m s None = codes "        }\n"
main_code o nul_ends m s (Some t) = stop_cases nul_ends m s ++ codes "        default: " ++ edge_text o nul_ends m s t ++ codes "\n        }\n"

abbrev pub switch_code : Options → Bool → Machine → ℕ → Option ℕ → List ℕ
switch_code o nul_ends m s main = filled o.prefix SWITCH.now ++ case_codes o nul_ends m s main ++ main_code o nul_ends m s main

-- ---- the code of a state

-- the most bytes that are tested one by one
abbrev pub most_singles : ℕ
most_singles = 4

abbrev pub cases_code : Options → Bool → Machine → ℕ → List ℕ
cases_code o nul_ends m s = test_code o nul_ends m s (first_target m s) ++ switch_code o nul_ends m s (main_target nul_ends m s)

abbrev pub tests_code : Options → Bool → Machine → ℕ → Option ℕ → List ℕ
tests_code o nul_ends m s marked =
    if nat_lt most_singles (single_count nul_ends m s marked) then cases_code o nul_ends m s
    else single_codes o nul_ends m s marked ++ test_code o nul_ends m s marked

-- the end of a walk, by the rule that the state accepts
abbrev pub end_code : Options → List ℕ → Machine → ℕ → List ℕ
end_code o template m s = numbered o template s (codes ", ") ++ number_then (rule_word (accepted_by m s)) (codes ")\n")

abbrev pub steps_code : Options → Bool → Machine → ℕ → List ℕ
steps_code o nul_ends m s = loop_code o nul_ends m s ++ tests_code o nul_ends m s (marked_target m s) ++ end_code o STOP.now m s

-- true for a state without steps that accepts a rule
abbrev pub is_last : Machine → ℕ → Bool
is_last m s = step_count m s None == 0 && not (rule_word (accepted_by m s) == 0)

-- The code of a state after its label. In a last state it doesn't look at the next byte. In one without steps that accepts nothing it does, as a
-- condition without rules begins in such a state: the text may be at its end.
abbrev pub walk_code : Options → Bool → Machine → ℕ → List ℕ
walk_code o nul_ends m s = if is_last m s then end_code o LAST.now m s else steps_code o nul_ends m s

abbrev pub state_code : Options → Bool → Machine → ℕ → List ℕ
state_code o nul_ends m s = numbered o LABEL.now s (codes ":\n") ++ walk_code o nul_ends m s

unfoldable pub state_codes : Options → Bool → Machine → List ℕ
state_codes o nul_ends m = flat_map (state_code o nul_ends m) (range_with_len 0 (state_count m))
