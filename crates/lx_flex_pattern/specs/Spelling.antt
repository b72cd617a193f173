-- The spelling at the front of a flex pattern's text, by computation (flex's manual, "Patterns"). Each function gives what is spelled and the text after it,
-- or None if nothing of the kind is spelled.
use Rattle.std.specs.Prelude.{codes, ℕ, Bool, true, false, not, ◌&&◌, ◌||◌, nat_eq, nat_le, if◌then◌else◌, List, [], ◌∷◌, length, take, drop, is_some, Option, Some, None}
use Rattle.std.specs.Option.{option_map, option_and_then}
use Rattle.std.specs.Ordering.{nat_cmp}
use Rattle.std.specs.Str.{bytes_eq}
use Rattle.std.specs.FinSet as set
use Rattle.lx_ere.specs.Brackets.{begins_with, class_ranges}
use Rattle.lx_ere.specs.Escapes.{is_digit, number_of, letter_byte}
use Rattle.lx_ere.specs.Lexing.{run_len, number_at, behind_byte, begins_pair, opened_at, all_items_at}
use Rattle.lx_ere.specs.Spelling.{is_name_start, is_name_byte}
use Rattle.lx_flex_pattern.specs.Sets.{is_letter, Member, range, among, outside, members_set, others_set}

-- A byte after a backslash, if it isn't a letter with a meaning: one to three octal digits; `x` and at most two hexadecimal digits, 0 if there is none; any
-- other byte but a newline for itself. The digits spell a byte.
abbrev pub unlettered_at : ℕ → List ℕ → Option (ℕ × List ℕ)
unlettered_at c text =
    if is_digit 8 c then number_at 8 (run_len (is_digit 8) 3 (c ∷ text)) (c ∷ text)
    else if nat_eq c 120 then number_at 16 (run_len (is_digit 16) 2 text) text
    else if nat_eq c 10 then None
    else Some (c, text)

abbrev pub letter_or_other : Option ℕ → ℕ → List ℕ → Option (ℕ × List ℕ)
letter_or_other (Some byte) c text = Some (byte, text)
letter_or_other None c text = unlettered_at c text

-- the byte of an escape, starting after the backslash
abbrev pub escape_at : List ℕ → Option (ℕ × List ℕ)
escape_at [] = None
escape_at (c ∷ text) = letter_or_other (letter_byte c) c text

-- a byte of a quoted string, of brackets: an escape, or any byte but a newline for itself
abbrev pub point_at : List ℕ → Option (ℕ × List ℕ)
point_at [] = None
point_at (c ∷ text) = if nat_eq c 92 then escape_at text else if nat_eq c 10 then None else Some (c, text)

-- the bytes of a quoted string, starting after its opening quote
abbrev pub string_at : List ℕ → Option (List ℕ × List ℕ)
string_at text = all_items_at point_at 34 text

-- a byte of a definition's name
abbrev pub is_inner_name_byte : ℕ → Bool
is_inner_name_byte c = is_name_byte c || nat_eq c 45

abbrev pub starts_name : List ℕ → Bool
starts_name [] = false
starts_name (c ∷ text) = is_name_start c

abbrev pub name_of : ℕ → List ℕ → Option (List ℕ × List ℕ)
name_of n text = if starts_name text then option_map (λ behind. (take n text, behind)) (behind_byte 125 (drop n text)) else None

-- a definition's name and the closing brace, starting after the opening one
abbrev pub name_at : List ℕ → Option (List ℕ × List ℕ)
name_at text = name_of (run_len is_inner_name_byte (length text) text) text

-- the number that the first n digits spell, and the text after them
abbrev pub bound_of : ℕ → List ℕ → Option (ℕ × List ℕ)
bound_of n text = if nat_eq n 0 then None else Some (number_of 10 (take n text), drop n text)

-- a bound of an interval, which may be any number
abbrev pub bound_at : List ℕ → Option (ℕ × List ℕ)
bound_at text = bound_of (run_len (is_digit 10) (length text) text) text

-- the end of an interval after its comma: at least this many, or from one number to another, of which the last isn't 0
abbrev pub high_at : ℕ → ℕ × List ℕ → Option ((ℕ × Option ℕ) × List ℕ)
high_at low f = if nat_le low f.0 && not (nat_eq f.0 0) then option_map (λ behind. ((low, Some f.0), behind)) (behind_byte 125 f.1) else None

abbrev pub behind_comma_at : ℕ → List ℕ → Option ((ℕ × Option ℕ) × List ℕ)
behind_comma_at low text =
    if begins_with 125 text then (if nat_eq low 0 then None else Some ((low, None), drop 1 text))
    else option_and_then (high_at low) (bound_at text)

abbrev pub behind_low_at : ℕ × List ℕ → Option ((ℕ × Option ℕ) × List ℕ)
behind_low_at f =
    if begins_with 125 f.1 then (if nat_eq f.0 0 then None else Some ((f.0, Some f.0), drop 1 f.1))
    else option_and_then (behind_comma_at f.0) (behind_byte 44 f.1)

-- the bounds of an interval and the closing brace, starting after the opening one
abbrev pub interval_at : List ℕ → Option ((ℕ × Option ℕ) × List ℕ)
interval_at text = option_and_then behind_low_at (bound_at text)

-- the name of a class and its `:]`, starting after `[:` or `[:^`
abbrev pub class_of : ℕ → List ℕ → Option (List ℕ × List ℕ)
class_of n text = if not (nat_eq n 0) && begins_pair 58 93 (drop n text) then Some (take n text, drop 2 (drop n text)) else None

abbrev pub class_name_at : List ℕ → Option (List ℕ × List ℕ)
class_name_at text = class_of (run_len is_letter (length text) text) text

-- the class at the start, of which the flag says that it has a `^`: its name, and the text after it
abbrev pub class_at : List ℕ → Option ((Bool × List ℕ) × List ℕ)
class_at text =
    if begins_pair 91 58 text then
    (if begins_with 94 (drop 2 text) then option_map (λ f. ((true, f.0), f.1)) (class_name_at (drop 3 text))
    else option_map (λ f. ((false, f.0), f.1)) (class_name_at (drop 2 text)))
    else None

abbrev pub is_cased : List ℕ → Bool
is_cased name = bytes_eq name (codes "upper") || bytes_eq name (codes "lower")

-- The bytes of a class. If case is ignored, `upper` and `lower` have all letters, and with `^` they add no byte.
abbrev pub class_member : Bool → Bool → List ℕ → Option Member
class_member fold negated name =
    if fold && is_cased name then Some (if negated then among [] else among ((65, 90) ∷ (97, 122) ∷ []))
    else option_map (λ ranges. if negated then outside ranges else among ranges) (class_ranges name)

-- the next byte is none that makes a `-` before it stand for itself
abbrev pub ends_range : List ℕ → Bool
ends_range [] = false
ends_range (c ∷ text) = not (nat_eq c 93 || nat_eq c 10)

-- a `-` that means a range: a byte but the closing bracket and a newline follows it
abbrev pub starts_range : List ℕ → Bool
starts_range [] = false
starts_range (c ∷ text) = nat_eq c 45 && ends_range text

-- the last byte of a range, starting after its `-`: not another such `-`, and no class
abbrev pub range_end_at : List ℕ → Option (ℕ × List ℕ)
range_end_at text = if starts_range text || is_some (class_at text) then None else point_at text

abbrev pub range_from : ℕ → ℕ × List ℕ → Option (Member × List ℕ)
range_from low f = if nat_le low f.0 then Some (range low f.0, f.1) else None

abbrev pub member_from : ℕ × List ℕ → Option (Member × List ℕ)
member_from f = if starts_range f.1 then option_and_then (range_from f.0) (range_end_at (drop 1 f.1)) else Some (range f.0 f.0, f.1)

-- a byte or a range. Only first in the brackets a `-` stands for itself before another byte.
abbrev pub bytes_at : Bool → List ℕ → Option (Member × List ℕ)
bytes_at first text = if not first && starts_range text then None else option_and_then member_from (point_at text)

abbrev pub class_or_bytes : (first fold : Bool) → Option ((Bool × List ℕ) × List ℕ) → List ℕ → Option (Member × List ℕ)
class_or_bytes first fold None text = bytes_at first text
class_or_bytes first fold (Some f) text = option_map (λ member. (member, f.1)) (class_member fold f.0.0 f.0.1)

-- a member of brackets: a class, a byte or a range
abbrev pub member_at : (first fold : Bool) → List ℕ → Option (Member × List ℕ)
member_at first fold text = class_or_bytes first fold (class_at text) text

-- The members, starting after `[` or `[^`. The first may be a `]`.
abbrev pub members_at : Bool → List ℕ → Option (Member × List Member × List ℕ)
members_at fold text = opened_at (member_at true fold) (member_at false fold) 93 text

abbrev pub goes_on : List ℕ → Bool
goes_on [] = false
goes_on (c ∷ text) = not (nat_eq c 10)

-- a `^` at the start, with a byte but a newline after it
abbrev pub is_excluding : List ℕ → Bool
is_excluding [] = false
is_excluding (c ∷ text) = nat_eq c 94 && goes_on text

-- the set of brackets, starting after the `[`
abbrev pub brackets_at : Bool → List ℕ → Option (set.FinSet nat_cmp × List ℕ)
brackets_at fold text =
    if is_excluding text then option_map (λ f. (others_set fold (f.0 ∷ f.1), f.2)) (members_at fold (drop 1 text))
    else option_map (λ f. (members_set fold (f.0 ∷ f.1), f.2)) (members_at fold text)
