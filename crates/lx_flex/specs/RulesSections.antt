-- A rules section, and the conditions in which each of its rules is active (flex's manual, "Format of the Rules Section", "Start Conditions").
use Rattle.std.specs.Prelude.{◌≡◌, ◌+◌, ◌&&◌, ◌||◌, if◌then◌else◌, ℕ, nat_eq, Bool, true, false, not, List, [], ◌∷◌, ◌++◌, Option, Some, None, length, drop, codes}
use Rattle.std.specs.Char.{is_ascii_digit}
use Rattle.std.specs.List.{prefix_len}
use Rattle.lx_ere.specs.Brackets.{begins_with}
use Rattle.lx_flex.specs.Activity.{joined}
use Rattle.lx_flex.specs.ConditionLists.{starts, name_len, after_name, IsList}

-- ---- the conditions of rules

-- Rules and scopes in the order of the text, each with its own list of conditions (none if it has no list). A scope has a section inside it.
pub data Section : Type 0 where
  end : Section
  rule : List ℕ → Section → Section
  scope : List ℕ → Section → Section → Section

abbrev pub if_any : List ℕ → Option (List ℕ)
if_any [] = None
if_any (n ∷ ns) = Some (n ∷ ns)

-- The conditions of each rule, if scopes with these conditions are around the section: those of the scopes and its own, ascending, each once, below
-- this number. None where there are none.
abbrev pub active : ℕ → List ℕ → Section → List (Option (List ℕ))
active count around end = []
active count around (rule own more) = if_any (joined count around own) ∷ active count around more
active count around (scope own inside more) = active count (around ++ own) inside ++ active count around more

-- ---- the lines of a text

abbrev pub is_blank : ℕ → Bool
is_blank b = nat_eq b 32 || nat_eq b 9

-- the text after the blanks at its start
abbrev pub unblanked : List ℕ → List ℕ
unblanked text = drop (prefix_len is_blank text) text

abbrev pub begins_blank : List ℕ → Bool
begins_blank [] = false
begins_blank (b ∷ text) = is_blank b

abbrev pub is_newline : List ℕ → Bool
is_newline [] = true
is_newline (b ∷ text) = nat_eq b 10

abbrev pub is_in_line : ℕ → Bool
is_in_line b = not (nat_eq b 10)

-- the text after the line at its start
abbrev pub after_line : List ℕ → List ℕ
after_line text = drop (prefix_len is_in_line text + 1) text

-- nothing is left of the line, but a carriage return
abbrev pub is_line_end : List ℕ → Bool
is_line_end [] = true
is_line_end (b ∷ text) = nat_eq b 10 || (nat_eq b 13 && is_newline text)

abbrev pub is_blank_line : List ℕ → Bool
is_blank_line text = is_line_end (unblanked text)

-- before the first rule: a block of C text, or an indented line
abbrev pub is_first_code : List ℕ → Bool
is_first_code text = starts (codes "%{") text || begins_blank text

-- after it: a block of C text, or an indented comment
abbrev pub is_later_code : List ℕ → Bool
is_later_code text = starts (codes "%{") (unblanked text) || (begins_blank text && starts (codes "/*") (unblanked text))

-- a line that is no rule and no scope
abbrev pub is_code : Bool → List ℕ → Bool
is_code first text = is_blank_line text || (if first then is_first_code text else is_later_code text)

-- a list of conditions begins
abbrev pub begins_list : List ℕ → Bool
begins_list text = begins_with 60 text && not (starts (codes "<<EOF>>") text)

-- a name in braces, after its `{`
abbrev pub is_braced_name : List ℕ → Bool
is_braced_name text = not (nat_eq (name_len text) 0) && begins_with 125 (after_name text)

abbrev pub begins_digit : List ℕ → Bool
begins_digit [] = false
begins_digit (b ∷ text) = is_ascii_digit b

-- a `{` that opens a scope: neither a name in braces nor a number in braces begins there
abbrev pub opens_scope : List ℕ → Bool
opens_scope text = begins_with 123 text && not (is_braced_name (drop 1 text) || begins_digit (drop 1 text))

-- `rest` is what is left of the text after some bytes.
pub record IsLater (text rest : List ℕ) : Type 0 where
  pub count : ℕ
  pub is : rest ≡ drop count text

-- `rest` is what is left of the text after one or more bytes.
pub record IsFurther (text rest : List ℕ) : Type 0 where
  pub count : ℕ
  pub is : rest ≡ drop (count + 1) text

-- `rest` is what is left after the lines of code at the start of the text, if the first rule was met.
pub data IsAfterCode : List ℕ → List ℕ → Type 0 where
  at_end : IsAfterCode [] []
  no_code : {text : List ℕ} → is_code false text ≡ false → IsAfterCode text text
  more_code : {text next rest : List ℕ} → is_code false text ≡ true → IsFurther text next → IsAfterCode next rest → IsAfterCode text rest

-- The text with which a rule or a scope begins, after a list: directly, or after lines of code if nothing follows the list on its line.
pub data Follows (after : List ℕ) : List ℕ → Type 0 where
  on_its_line : is_blank_line after ≡ false → Follows after after
  on_a_later_line : {text : List ℕ} → is_blank_line after ≡ true → IsAfterCode after text → Follows after (unblanked text)

-- A line that isn't code begins with this list, and what it is for follows.
pub record IsListed (declared : List (List ℕ)) (first : Bool) (text own next : List ℕ) : Type 0 where
  pub after : List ℕ
  pub no_code : is_code first text ≡ false
  pub begins : begins_list (unblanked text) ≡ true
  pub list : IsList declared (drop 1 (unblanked text)) own after
  pub follows : Follows after next

-- a line: code, a rule or the opening of a scope, with the conditions of its own list, or the closing of a scope
pub data Line : Type 0 where
  code : Line
  plain : List ℕ → Line
  opening : List ℕ → Line
  closing : Line

-- The line at the start of the text, with all that belongs to it, as the action of a rule, and what is left after it. `first` is true before the
-- first line that is no code.
pub data IsLine (declared : List (List ℕ)) (first : Bool) (text : List ℕ) : Line → List ℕ → Type 0 where
  code_line : {rest : List ℕ} → is_code first text ≡ true → IsFurther text rest → IsLine declared first text code rest
  closing_line : {rest : List ℕ} → is_code first text ≡ false → begins_with 125 (unblanked text) ≡ true → IsFurther text rest → IsLine declared first text closing rest
  plain_line : {rest : List ℕ} → is_code first text ≡ false → begins_with 125 (unblanked text) ≡ false → begins_list (unblanked text) ≡ false →
      IsFurther text rest → IsLine declared first text (plain []) rest
  listed_line : {own next rest : List ℕ} → IsListed declared first text own next → opens_scope next ≡ false → IsFurther next rest → IsLine declared first text (plain own) rest
  opening_line : {own next rest : List ℕ} → IsListed declared first text own next → opens_scope next ≡ true → IsFurther next rest → IsLine declared first text (opening own) rest

-- The text begins with the lines of the section, and this is what is left after them.
pub data Reads (declared : List (List ℕ)) : Bool → List ℕ → Section → List ℕ → Type 0 where
  nothing : {first : Bool} {text : List ℕ} → Reads declared first text end text
  code_first : {first : Bool} {text next rest : List ℕ} {section : Section} → IsLine declared first text code next → Reads declared first next section rest →
      Reads declared first text section rest
  rule_first : {first : Bool} {text next rest own : List ℕ} {more : Section} → IsLine declared first text (plain own) next → Reads declared false next more rest →
      Reads declared first text (rule own more) rest
  scope_first : {first : Bool} {text own begin last next rest : List ℕ} {inside more : Section} → IsLine declared first text (opening own) begin →
      Reads declared false begin inside last → IsLine declared false last closing next → Reads declared false next more rest →
      Reads declared first text (scope own inside more) rest

abbrev pub is_end : List ℕ → Bool
is_end [] = true
is_end (b ∷ text) = starts (codes "%%") (b ∷ text)

-- The text is a rules section up to the rest, and its rules have these conditions, where conditions with these names are declared.
pub record IsRulesSection (declared : List (List ℕ)) (text rest : List ℕ) (conditions : List (Option (List ℕ))) : Type 0 where
  pub section : Section
  pub reads : Reads declared true text section rest
  pub ends : is_end rest ≡ true
  pub conditions_are : conditions ≡ active (length declared) [] section

-- A text that begins after a line `%%` of the file.
pub record IsAfterMark (file text : List ℕ) : Type 0 where
  pub before : ℕ
  pub mark : starts (codes "%%") (drop before file) ≡ true
  pub text_is : text ≡ after_line (drop before file)

-- The rules of the file have these conditions: they are those of a rules section after a line `%%`.
pub record HasRules (declared : List (List ℕ)) (file : List ℕ) (conditions : List (Option (List ℕ))) : Type 0 where
  pub text : List ℕ
  pub rest : List ℕ
  pub begins : IsAfterMark file text
  pub section : IsRulesSection declared text rest conditions
