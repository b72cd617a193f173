-- Each line of a rules section takes at least one byte, so there are no more lines than bytes.
use Rattle.std.proofs.Common.{ℕ, suc, ◌≡◌, ◌+◌, ◌<◌, ◌≤◌, Bool, true, false, List, [], ◌∷◌, length, drop, refl, arith}
use Rattle.std.specs.Char.{is_ascii_whitespace}
use Rattle.std.specs.List.{prefix_len}
use Rattle.lx_flex.specs.ConditionLists.{name_len, after_name, unspaced, IsSpacedName, AreNames, last_name, more_names, IsList, all, named}
use Rattle.lx_flex.specs.RulesSections.{IsLater, IsFurther, IsAfterCode, at_end, no_code, more_code, Follows, on_its_line, on_a_later_line, Line, IsLine, code_line, closing_line, plain_line, listed_line, opening_line, IsListed, is_blank, unblanked, is_end}
use Rattle.lx_flex.specs.States.{State, HasRead}
use Rattle.lx_flex.proofs.Advancing.{later_by, later_then, later_of_further, further_after, further_shorter}
use Rattle.lx_flex.proofs.Nesting.{IsReached, reached_next}

name_later : (c : ℕ) (text name rest : List ℕ) → IsSpacedName text name (c ∷ rest) → IsLater text rest
name_later c text name rest s =
    let first = later_by (prefix_len is_ascii_whitespace text) text (unspaced text) refl in
    let second = later_by (name_len (unspaced text)) (unspaced text) (after_name (unspaced text)) refl in
    let third = later_by (prefix_len is_ascii_whitespace (after_name (unspaced text))) (after_name (unspaced text)) (c ∷ rest) s.rest_is in
    let to_mark = later_then text (after_name (unspaced text)) (c ∷ rest) (later_then text (unspaced text) (after_name (unspaced text)) first second) third in
    later_then text (c ∷ rest) rest to_mark (later_by 1 (c ∷ rest) rest refl)

names_later : (text : List ℕ) (names : List (List ℕ)) (rest : List ℕ) → AreNames text names rest → IsLater text rest
names_later text names rest (last_name s) = name_later 62 text _ rest s
names_later text names rest (more_names {next = next} {names = more} s a) = later_then text next rest (name_later 44 text _ next s) (names_later next more rest a)

list_later : (declared : List (List ℕ)) (text own rest : List ℕ) → IsList declared text own rest → IsLater text rest
list_later declared text own rest (all star) = later_by 2 text (drop 2 text) refl
list_later declared text own rest (named no_star a) = names_later text _ rest a

after_code_later : (text rest : List ℕ) → IsAfterCode text rest → IsLater text rest
after_code_later text rest at_end = later_by 0 [] [] refl
after_code_later text rest (no_code is) = later_by 0 text text refl
after_code_later text rest (more_code {next = next} is further a) = later_then text next rest (later_of_further text next further) (after_code_later next rest a)

unblanked_later : (text : List ℕ) → IsLater text (unblanked text)
unblanked_later text = later_by (prefix_len is_blank text) text (unblanked text) refl

follows_later : (after next : List ℕ) → Follows after next → IsLater after next
follows_later after next (on_its_line is) = later_by 0 after after refl
follows_later after next (on_a_later_line {text = text} is a) = later_then after text (unblanked text) (after_code_later after text a) (unblanked_later text)

listed_later : (declared : List (List ℕ)) (first : Bool) (text own next : List ℕ) → IsListed declared first text own next → IsLater text next
listed_later declared first text own next l =
    let marked = later_then text (unblanked text) (drop 1 (unblanked text)) (unblanked_later text) (later_by 1 (unblanked text) (drop 1 (unblanked text)) refl) in
    let list = list_later declared (drop 1 (unblanked text)) own l.after l.list in
    later_then text l.after next (later_then text (drop 1 (unblanked text)) l.after marked list) (follows_later l.after next l.follows)

line_further : (declared : List (List ℕ)) (first : Bool) (text : List ℕ) (line : Line) (rest : List ℕ) → IsLine declared first text line rest → IsFurther text rest
line_further declared first text line rest (code_line is further) = further
line_further declared first text line rest (closing_line is begins further) = further
line_further declared first text line rest (plain_line is no_end no_list further) = further
line_further declared first text line rest (listed_line {own = own} {next = next} listed is further) = further_after text next rest (listed_later declared first text own next listed) further
line_further declared first text line rest (opening_line {own = own} {next = next} listed is further) = further_after text next rest (listed_later declared first text own next listed) further

-- A place of the section that was reached in this many turns, of at most `bound`.
pub record IsReachedIn (turns bound : ℕ) (declared : List (List ℕ)) (start text : List ℕ) (state : State) : Type 0 where
  pub reached : IsReached declared start text state
  pub enough : turns + length text < suc bound

some_left : (text : List ℕ) → is_end text ≡ false → 0 < length text
some_left [] h = absurd (cc)
some_left (b ∷ text) h = omega arith

pub reached_in_next : (turns bound : ℕ) (declared : List (List ℕ)) (start text next : List ℕ) (old new : State) → IsReachedIn turns bound declared start text old →
    is_end text ≡ false → HasRead declared text next old new → IsReachedIn (turns + 1) bound declared start next new
reached_in_next turns bound declared start text next old new r no_end read = record {
  reached = reached_next declared start text next old new r.reached read;
  enough = further_shorter text next turns bound (line_further declared old.first text read.line next read.is_line) r.enough (some_left text no_end);
}

pub ends_in_time : (turns bound : ℕ) (declared : List (List ℕ)) (start text : List ℕ) (state : State) → IsReachedIn turns bound declared start text state → bound ≤ turns → is_end text ≡ true
ends_in_time turns bound declared start text state r late = let few = r.enough in go text (omega arith)
  where
    go : (t : List ℕ) → length t < 1 → is_end t ≡ true
    go [] h = refl
    go (b ∷ t) h = absurd (omega arith)
