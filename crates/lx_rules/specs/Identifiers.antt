-- Identifiers, and their bytes.
use Rattle.std.specs.Prelude.{ℕ, Bool, false, ◌&&◌, ◌||◌, nat_eq, nat_le, List, [], ◌∷◌}
use Rattle.std.specs.List.{list_all}

abbrev pub is_between : ℕ → ℕ → ℕ → Bool
is_between low high c = nat_le low c && nat_le c high

abbrev pub is_digit : ℕ → Bool
is_digit c = is_between 48 57 c

abbrev pub is_letter : ℕ → Bool
is_letter c = is_between 65 90 c || is_between 97 122 c

abbrev pub is_alphanumeric : ℕ → Bool
is_alphanumeric c = is_letter c || is_digit c

-- a letter, a digit or _
abbrev pub is_word_byte : ℕ → Bool
is_word_byte c = is_alphanumeric c || nat_eq c 95

abbrev pub begins_identifier : ℕ → Bool
begins_identifier c = is_letter c || nat_eq c 95

-- a letter or _, and then letters, digits or _
abbrev pub is_identifier : List ℕ → Bool
is_identifier [] = false
is_identifier (c ∷ text) = begins_identifier c && list_all is_word_byte text
