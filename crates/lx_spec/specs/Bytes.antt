-- Bytes, words and lines.
use Rattle.std.specs.Prelude.{ℕ, Bool, false, not, ◌&&◌, ◌||◌, nat_eq, if◌then◌else◌, List, [], ◌∷◌, map, take, drop, Option, Some, None}
use Rattle.std.specs.List.{prefix_len}
use Rattle.bstr.specs.Text.{lines_of, without_terminator}

-- the lines of a text, without LF, or CR LF, at their ends
abbrev pub lines : List ℕ → List (List ℕ)
lines text = map without_terminator (lines_of text)

-- a space or a tab
abbrev pub is_blank : ℕ → Bool
is_blank c = nat_eq c 32 || nat_eq c 9

-- the first byte passes the test
abbrev pub begins : (ℕ → Bool) → List ℕ → Bool
begins p [] = false
begins p (c ∷ text) = p c

-- the text begins with these two bytes
abbrev pub begins_with : ℕ → ℕ → List ℕ → Bool
begins_with a b [] = false
begins_with a b (c ∷ text) = nat_eq c a && begins (λ d. nat_eq d b) text

-- the two bytes occur in the text, one after the other
abbrev pub has_pair : ℕ → ℕ → List ℕ → Bool
has_pair a b [] = false
has_pair a b (c ∷ text) = begins_with a b (c ∷ text) || has_pair a b text

-- the text from the first byte on that fails the test
abbrev pub behind_run : (ℕ → Bool) → List ℕ → List ℕ
behind_run p text = drop (prefix_len p text) text

-- the longest run at the front of bytes that pass the test
abbrev pub run : (ℕ → Bool) → List ℕ → List ℕ
run p text = take (prefix_len p text) text

abbrev pub keep : ℕ → List ℕ → List ℕ
keep c [] = if is_blank c then [] else c ∷ []
keep c (d ∷ text) = c ∷ d ∷ text

-- the text without the blanks at its end
abbrev pub trimmed : List ℕ → List ℕ
trimmed [] = []
trimmed (c ∷ text) = keep c (trimmed text)

abbrev pub onto_first : ℕ → List (List ℕ) → List (List ℕ)
onto_first c [] = (c ∷ []) ∷ []
onto_first c (word ∷ words) = (c ∷ word) ∷ words

abbrev pub with_byte : ℕ → List ℕ → List (List ℕ) → List (List ℕ)
with_byte c [] words = (c ∷ []) ∷ words
with_byte c (d ∷ text) words = if is_blank d then (c ∷ []) ∷ words else onto_first c words

-- the words of a text, with blanks between
abbrev pub words_of : List ℕ → List (List ℕ)
words_of [] = []
words_of (c ∷ text) = if is_blank c then words_of text else with_byte c text (words_of text)

abbrev pub is_no_blank : ℕ → Bool
is_no_blank c = not (is_blank c)

abbrev pub word_at : List ℕ → Option (List ℕ × List ℕ)
word_at [] = None
word_at (c ∷ text) = Some (run is_no_blank (c ∷ text), behind_run is_no_blank (c ∷ text))

-- the first word, and the text after it
abbrev pub next_word : List ℕ → Option (List ℕ × List ℕ)
next_word text = word_at (behind_run is_blank text)
