-- The list of start conditions before a rule or a scope, from after its `<` (flex's manual, "Start Conditions").
use Rattle.std.specs.Prelude.{◌≡◌, ◌≢◌, ◌||◌, if◌then◌else◌, ℕ, nat_eq, Bool, true, false, is_some, List, [], ◌∷◌, length, drop, take, filter_map, codes}
use Rattle.std.specs.Char.{is_ascii_alphabetic, is_ascii_digit, is_ascii_whitespace}
use Rattle.std.specs.Cmp.Lexicographic.{pointwise}
use Rattle.std.specs.List.{list_all, prefix_len, range_with_len}
use Rattle.lx_flex.specs.Activity.{condition_number}

-- the text begins with these bytes
abbrev pub starts : List ℕ → List ℕ → Bool
starts mark text = pointwise nat_eq (take (length mark) text) mark

abbrev pub starts_name : ℕ → Bool
starts_name b = is_ascii_alphabetic b || nat_eq b 95

abbrev pub continues_name : ℕ → Bool
continues_name b = starts_name b || (is_ascii_digit b || nat_eq b 45)

-- The number of bytes of the name at the start of a text: a letter or `_`, then letters, digits, `_` and hyphens. 0 if there is none.
abbrev pub name_len : List ℕ → ℕ
name_len [] = 0
name_len (b ∷ text) = if starts_name b then prefix_len continues_name (b ∷ text) else 0

-- the name at the start of a text
abbrev pub name_of : List ℕ → List ℕ
name_of text = take (name_len text) text

-- the text after its name
abbrev pub after_name : List ℕ → List ℕ
after_name text = drop (name_len text) text

-- the text after the white space at its start
abbrev pub unspaced : List ℕ → List ℕ
unspaced text = drop (prefix_len is_ascii_whitespace text) text

-- A name with white space around it, and the text after these.
pub record IsSpacedName (text name rest : List ℕ) : Type 0 where
  pub some : name_len (unspaced text) ≢ 0
  pub name_is : name ≡ name_of (unspaced text)
  pub rest_is : rest ≡ unspaced (after_name (unspaced text))

-- Names with commas between them and `>` after the last one. The last list is the text after that.
pub data AreNames : List ℕ → List (List ℕ) → List ℕ → Type 0 where
  last_name : {text name rest : List ℕ} → IsSpacedName text name (62 ∷ rest) → AreNames text (name ∷ []) rest
  more_names : {text name next rest : List ℕ} {names : List (List ℕ)} → IsSpacedName text name (44 ∷ next) → AreNames next names rest → AreNames text (name ∷ names) rest

-- the numbers of those of the names that are declared, in their order
abbrev pub numbers_of : List (List ℕ) → List (List ℕ) → List ℕ
numbers_of declared names = filter_map (condition_number declared) names

-- each name is that of a condition
abbrev pub are_declared : List (List ℕ) → List (List ℕ) → Bool
are_declared declared names = list_all (λ name. is_some (condition_number declared name)) names

-- The conditions of a list, where conditions with these names are declared, and the text after it: all for `*`, else those that it names.
pub data IsList (declared : List (List ℕ)) : List ℕ → List ℕ → List ℕ → Type 0 where
  all : {text : List ℕ} → starts (codes "*>") text ≡ true → IsList declared text (range_with_len 0 (length declared)) (drop 2 text)
  named : {text rest : List ℕ} {names : List (List ℕ)} → starts (codes "*>") text ≡ false → AreNames text names rest → IsList declared text (numbers_of declared names) rest

-- The text begins with no list.
pub record IsNoList (declared : List (List ℕ)) (text : List ℕ) : Type 0 where
  pub none : (own rest : List ℕ) → IsList declared text own rest → ⊥

-- Each name of the list is that of a condition.
pub record AreAllDeclared (declared : List (List ℕ)) (text : List ℕ) : Type 0 where
  pub all_are : (names : List (List ℕ)) (rest : List ℕ) → AreNames text names rest → are_declared declared names ≡ true
