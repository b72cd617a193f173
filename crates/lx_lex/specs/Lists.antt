-- The arrays for REJECT. The rule column of a row has the number of a list, from 1, or 0. One array has the places of the lists in another one, which has their rules: each list
-- has its rules from 1, in ascending order, and then a 0. Number 0 has place 0, where an empty list is.
use Rattle.std.specs.Prelude.{◌≡◌, ◌↔◌, ℕ, zero, suc, ◌+◌, ◌*◌, ◌<◌, List, [], ◌∷◌, ◌++◌, length, codes, drop, slice_index, slice_index_or, Bool, All, Contains}
use Rattle.std.specs.List.{flat_map, range_with_len}
use Rattle.lx_automaton.specs.Automata.{Machine}
use Rattle.lx_automaton.specs.Lists.{IsAscending}
use Rattle.lx_automaton.specs.Meaning.{ReachesWhole}
use Rattle.lx_c.specs.Reading.{read_words}
use Rattle.lx_lex.specs.Arrays.{arrays_text, entry_text}
use Rattle.lx_lex.specs.Walking.{Numbers, number_of_flag, numbers_of, walk}
use Rattle.lx_rules.specs.Plain.{PlainSpec}

abbrev pub list_at : List (List ℕ) → ℕ → List ℕ
list_at lists k = slice_index_or lists k []

-- the rules of a list, and a 0 after them
abbrev pub list_entries : List ℕ → List ℕ
list_entries rules = flat_map (λ i. entry_text (slice_index rules i + 1)) (range_with_len 0 (length rules)) ++ codes "0,\n"

abbrev pub rule_entries : List (List ℕ) → List ℕ
rule_entries lists = codes "0,\n" ++ flat_map (λ k. list_entries (list_at lists k)) (range_with_len 0 (length lists))

-- the place of a list, after the empty one and all lists before it
abbrev pub place_of : List (List ℕ) → ℕ → ℕ
place_of lists zero = 1
place_of lists (suc k) = place_of lists k + (length (list_at lists k) + 1)

abbrev pub place_entries : List (List ℕ) → List ℕ
place_entries lists = codes "0," ++ flat_map (λ k. entry_text (place_of lists k)) (range_with_len 0 (length lists))

abbrev pub place_array : List (List ℕ) → List ℕ
place_array lists = codes "static const unsigned int yy_list_places[] = {\n" ++ place_entries lists ++ codes "0};\n"

abbrev pub rule_array : List (List ℕ) → List ℕ
rule_array lists = codes "static const unsigned short yy_lists[] = {\n" ++ rule_entries lists ++ codes "0};\n"

-- the arrays of the automaton, the places of the lists, and their rules
unfoldable pub list_arrays_text : Machine → List (List ℕ) → List ℕ
list_arrays_text m lists = arrays_text (codes "yy_reject_") m (length lists) ++ place_array lists ++ rule_array lists

-- each place is a number of C
abbrev pub HasSmallPlaces : List (List ℕ) → Type 0
HasSmallPlaces lists = place_of lists (length lists) < 4294967296

-- The text has these arrays, and each place is a number of C.
pub record HasListArrays (m : Machine) (lists : List (List ℕ)) (text : List ℕ) : Type 0 where
  pub before : List ℕ
  pub after : List ℕ
  pub parts : text ≡ before ++ (list_arrays_text m lists ++ after)
  pub small : HasSmallPlaces lists

-- ---- the arrays as C reads them

-- the rules of a list, up to its 0
abbrev pub rules_before_zero : List ℕ → List ℕ
rules_before_zero [] = []
rules_before_zero (zero ∷ words) = []
rules_before_zero (suc r ∷ words) = r ∷ rules_before_zero words

-- the numbers of the arrays of the automaton, of places and of rules
pub record ListNumbers : Type 0 where
  pub numbers : Numbers
  pub places : List ℕ
  pub rules : List ℕ

abbrev pub list_numbers_of : Machine → List (List ℕ) → ListNumbers
list_numbers_of m lists = record {
  numbers = numbers_of m;
  places = read_words 0 (place_entries lists);
  rules = read_words 0 (rule_entries lists);
}

-- the number in the rule column of the row to which a text leads, from the start of a condition, at line begin or not
abbrev pub walked_number : Numbers → ℕ → Bool → List ℕ → ℕ
walked_number a condition begin text = slice_index a.rows (walk a (slice_index a.first (condition * 2 + number_of_flag begin)) text + a.rule_column)

-- the rules of the list with this number
abbrev pub walked_rules : ListNumbers → ℕ → Bool → List ℕ → List ℕ
walked_rules a condition begin text = rules_before_zero (drop (slice_index a.places (walked_number a.numbers condition begin text)) a.rules)

-- The walk over the printed numbers finds all rules that match the text, in ascending order.
pub record FindAllRules (spec : PlainSpec) (m : Machine) (lists : List (List ℕ)) : Type 0 where
  pub ascending : (condition : ℕ) (begin : Bool) (text : List ℕ) → condition < length spec.conditions → All (λ b. b < 256) text →
      IsAscending (walked_rules (list_numbers_of m lists) condition begin text)
  pub each : (condition : ℕ) (begin : Bool) (text : List ℕ) (i : ℕ) → condition < length spec.conditions → All (λ b. b < 256) text →
      Contains (walked_rules (list_numbers_of m lists) condition begin text) i ↔ ReachesWhole spec condition begin text i
