-- The walk over the arrays for REJECT finds all rules that match.
use Rattle.std.proofs.Common.{ℕ, zero, suc, ◌≡◌, ◌<◌, ◌≤◌, ◌+◌, ◌↔◌, inl, inr, Bool, List, [], ◌∷◌, ◌++◌, Option, Some, None, length, map, get_or, refl, sym, ◌∙◌, ap, subst, arith, append_assoc, append-nil, All}
use Rattle.std.specs.Prelude.{codes, drop, slice_index, Contains}
use Rattle.std.specs.List.{flat_map, range_with_len}
use Rattle.std.proofs.Math.Seq.{drop-append_seam}
use Rattle.std.proofs.lemmas.Bool.{cases_lt}
use Rattle.std.proofs.lemmas.List.{ext_get_or, length-append}
use Rattle.std.proofs.lemmas.List.Elements.{Contains-get_or}
use Rattle.std.proofs.lemmas.List.FromFn.{length-map-range_with_len, get_or-map-range_with_len}
use Rattle.std.proofs.lemmas.Option.{slice_get_within}
use Rattle.lx_automaton.specs.Automata.{Machine, IsMachine, answer}
use Rattle.lx_automaton.specs.Lists.{IsAscending, IsListAnswer, IsListAutomatonOf}
use Rattle.lx_automaton.specs.Meaning.{ReachesWhole}
use Rattle.lx_automaton.proofs.Members.{contains_nil}
use Rattle.lx_c.proofs.Reading.{entries_read}
use Rattle.lx_c.proofs.Texts.{texts_all, texts_to}
use Rattle.lx_c.specs.Reading.{read_words}
use Rattle.lx_c.specs.Words.{rule_word}
use Rattle.lx_lex.specs.Arrays.{entry_text}
use Rattle.lx_lex.specs.Lists.{FindAllRules, HasSmallPlaces, list_at, list_entries, list_numbers_of, place_entries, place_of, rule_entries, rules_before_zero, walked_rules}
use Rattle.lx_lex.proofs.Walking.{walked_word}
use Rattle.lx_rules.specs.Plain.{PlainSpec}

-- the words of a list: its rules from 1, and a 0
abbrev rule_words : List ℕ → List ℕ
rule_words rules = map (λ i. slice_index rules i + 1) (range_with_len 0 (length rules))

abbrev list_words : List (List ℕ) → ℕ → List ℕ
list_words lists k = rule_words (list_at lists k) ++ 0 ∷ []

-- the list with this number; none is the empty one
abbrev list_or_none : List (List ℕ) → Option ℕ → List ℕ
list_or_none lists None = []
list_or_none lists (Some k) = list_at lists k

-- ---- a list, read up to its 0

read_up : (g : ℕ → ℕ) (a n : ℕ) (rest : List ℕ) → rules_before_zero (map (λ i. g i + 1) (range_with_len a n) ++ 0 ∷ rest) ≡ map g (range_with_len a n)
read_up g a zero rest = refl
read_up g a (suc n) rest =
    let next : g a + 1 ≡ suc (g a) = omega arith in
    ap (λ (r : ℕ). rules_before_zero (r ∷ (map (λ i. g i + 1) (range_with_len (a + 1) n) ++ 0 ∷ rest))) next ∙ ap (λ rs. g a ∷ rs) (read_up g (a + 1) n rest)

elements : (rules : List ℕ) → map (λ i. slice_index rules i) (range_with_len 0 (length rules)) ≡ rules
elements rules =
    let at : ℕ → ℕ = λ i. slice_index rules i in
    ext_get_or 0 (map at (range_with_len 0 (length rules))) rules (length-map-range_with_len at 0 (length rules))
    (λ i l. get_or-map-range_with_len at 0 (length rules) i i 0 (subst (λ n. i < n) (length-map-range_with_len at 0 (length rules)) l) (omega arith))

-- ---- texts, one after the other

record HasText (text : ℕ → List ℕ) (n k : ℕ) : Type 0 where
  rest : List ℕ
  parts : texts_to text n ≡ texts_to text k ++ (text k ++ rest)

text_of : (text : ℕ → List ℕ) (n k : ℕ) → k < n → HasText text n k
text_of text zero k l = absurd (omega arith)
text_of text (suc n) k l = elim (cases_lt k n) [
  | inl below ↦
      let before = text_of text n k below in
      record {
        rest = before.rest ++ text n;
        parts = ap (λ xs. xs ++ text n) before.parts ∙ (append_assoc (texts_to text k) (text k ++ before.rest) (text n) ∙ ap (λ xs. texts_to text k ++ xs) (append_assoc (text k) before.rest (text n)));
      }
  | inr last ↦
      let same : n ≡ k = omega arith in
      record {
        rest = [];
        parts = ap (λ (j : ℕ). texts_to text j ++ text j) same ∙ ap (λ xs. texts_to text k ++ xs) (sym (append-nil (text k)));
      }
]

module _ (lists : List (List ℕ)) where
  words_length : (k : ℕ) → length (list_words lists k) ≡ length (list_at lists k) + 1
  words_length k =
      length-append (rule_words (list_at lists k)) (0 ∷ []) ∙ ap (λ (n : ℕ). n + 1) (length-map-range_with_len (λ i. slice_index (list_at lists k) i + 1) 0 (length (list_at lists k)))

  -- the place of a list is the number of words before it
  place_is : (k : ℕ) → place_of lists k ≡ suc (length (texts_to (list_words lists) k))
  place_is zero = refl
  place_is (suc k) = omega (arith, place_is k, words_length k, length-append (texts_to (list_words lists) k) (list_words lists k))

  place_rises : (k n : ℕ) → k ≤ n → place_of lists k ≤ place_of lists n
  place_rises k zero l = let same : k ≡ zero = omega arith in omega (arith, ap (place_of lists) same)
  place_rises k (suc n) l = elim (cases_lt k (suc n)) [
    | inl below ↦ omega (arith, place_rises k n (omega arith))
    | inr last ↦ let same : k ≡ suc n = omega arith in omega (arith, ap (place_of lists) same)
  ]

  -- ---- the arrays, read

  places_read : HasSmallPlaces lists → read_words 0 (place_entries lists) ≡ 0 ∷ map (place_of lists) (range_with_len 0 (length lists))
  places_read small =
      let more = flat_map (λ k. entry_text (place_of lists k)) (range_with_len 0 (length lists)) in
      ap (λ bs. 0 ∷ read_words 0 bs) (sym (append-nil more))
      ∙ ap (λ ns. 0 ∷ ns) (entries_read (place_of lists) 0 (length lists) [] (λ k l. omega (arith, small, place_rises k (length lists) (omega arith))) ∙ append-nil (map (place_of lists) (range_with_len 0 (length lists))))

  module _ (fit : (k i : ℕ) → k < length lists → i < length (list_at lists k) → slice_index (list_at lists k) i + 1 < 4294967296) where
    list_read : (k : ℕ) (rest : List ℕ) → k < length lists → read_words 0 (list_entries (list_at lists k) ++ rest) ≡ list_words lists k ++ read_words 0 rest
    list_read k rest l =
        let rules = list_at lists k in
        let word : ℕ → ℕ = λ i. slice_index rules i + 1 in
        ap (λ bs. read_words 0 bs) (append_assoc (flat_map (λ i. entry_text (word i)) (range_with_len 0 (length rules))) (codes "0,\n") rest)
        ∙ (entries_read word 0 (length rules) (48 ∷ 44 ∷ 10 ∷ rest) (λ i j. fit k i l (omega arith)) ∙ sym (append_assoc (rule_words rules) (0 ∷ []) (read_words 0 rest)))

    lists_read : (a n : ℕ) → a + n ≤ length lists → read_words 0 (flat_map (λ k. list_entries (list_at lists k)) (range_with_len a n)) ≡ flat_map (list_words lists) (range_with_len a n)
    lists_read a zero l = refl
    lists_read a (suc n) l =
        list_read a (flat_map (λ k. list_entries (list_at lists k)) (range_with_len (a + 1) n)) (omega (arith, l)) ∙ ap (λ ns. list_words lists a ++ ns) (lists_read (a + 1) n (omega (arith, l)))

    rules_read : read_words 0 (rule_entries lists) ≡ 0 ∷ texts_to (list_words lists) (length lists)
    rules_read = ap (λ ns. 0 ∷ ns) (lists_read 0 (length lists) (omega arith) ∙ texts_all (list_words lists) (length lists))

    -- ---- the list of a number

    list_of_word : HasSmallPlaces lists → (o : Option ℕ) → ((k : ℕ) → o ≡ Some k → k < length lists) →
        rules_before_zero (drop (slice_index (read_words 0 (place_entries lists)) (rule_word o)) (read_words 0 (rule_entries lists))) ≡ list_or_none lists o
    list_of_word small None there =
        ap (λ ns. rules_before_zero (drop (slice_index ns 0) (read_words 0 (rule_entries lists)))) (places_read small) ∙ ap (λ ns. rules_before_zero ns) rules_read
    list_of_word small (Some k) there =
        let l = there k refl in
        let words = texts_to (list_words lists) (length lists) in
        let next : k + 1 ≡ suc k = omega arith in
        let place : slice_index (read_words 0 (place_entries lists)) (k + 1) ≡ suc (length (texts_to (list_words lists) k)) =
        ap (λ ns. slice_index ns (k + 1)) (places_read small)
        ∙ (ap (λ (i : ℕ). get_or (0 ∷ map (place_of lists) (range_with_len 0 (length lists))) i 0) next
        ∙ (get_or-map-range_with_len (place_of lists) 0 (length lists) k k 0 l (omega arith) ∙ place_is k)) in
        let has = text_of (list_words lists) (length lists) k l in
        let behind : drop (length (texts_to (list_words lists) k)) words ≡ rule_words (list_at lists k) ++ 0 ∷ has.rest =
        ap (λ (ns : List ℕ). drop (length (texts_to (list_words lists) k)) ns) has.parts
        ∙ (drop-append_seam (texts_to (list_words lists) k) (list_words lists k ++ has.rest) ∙ append_assoc (rule_words (list_at lists k)) (0 ∷ []) has.rest) in
        ap (λ (n : ℕ). rules_before_zero (drop n (read_words 0 (rule_entries lists)))) place
        ∙ (ap (λ (ns : List ℕ). rules_before_zero (drop (suc (length (texts_to (list_words lists) k))) ns)) rules_read
        ∙ (ap (λ (ns : List ℕ). rules_before_zero ns) behind
        ∙ (read_up (λ i. slice_index (list_at lists k) i) 0 (length (list_at lists k)) has.rest ∙ elements (list_at lists k))))

module _ (spec : PlainSpec) (m : Machine) (lists : List (List ℕ)) (h : IsMachine m) (of : IsListAutomatonOf spec m lists) (few : length spec.rules ≤ 4096) (small : HasSmallPlaces lists) where
  -- a rule of a list is one of the specification's
  fit : (k i : ℕ) → k < length lists → i < length (list_at lists k) → slice_index (list_at lists k) i + 1 < 4294967296
  fit k i l j =
      let some = of.lists_are.each k l in
      let reaches = (some.is.each (slice_index (list_at lists k) i)).0 (Contains-get_or (list_at lists k) i 0 j) in
      omega (arith, few, slice_get_within spec.rules (slice_index (list_at lists k) i) reaches.rule reaches.at)

  below : (c : ℕ) (begin : Bool) (w : List ℕ) (o : Option ℕ) → IsListAnswer spec lists c begin w o → (k : ℕ) → o ≡ Some k → k < length lists
  below c begin w None none k e = absurd (cc)
  below c begin w (Some j) some k e = let same : j ≡ k = (cc) in subst (λ (i : ℕ). i < length lists) same some.0

  rules_are : (c : ℕ) (begin : Bool) (w : List ℕ) → c < length spec.conditions → All (λ b. b < 256) w → walked_rules (list_numbers_of m lists) c begin w ≡ list_or_none lists (answer m c begin w)
  rules_are c begin w l bytes =
      let there : c < length m.starts = omega (arith, l, of.conditions) in
      ap (λ (n : ℕ). rules_before_zero (drop (slice_index (read_words 0 (place_entries lists)) n) (read_words 0 (rule_entries lists)))) (walked_word m h c begin w there bytes)
      ∙ list_of_word lists fit small (answer m c begin w) (below c begin w (answer m c begin w) (of.answers c begin w l bytes))

  ascending_of : (c : ℕ) (begin : Bool) (w : List ℕ) (o : Option ℕ) → IsListAnswer spec lists c begin w o → IsAscending (list_or_none lists o)
  ascending_of c begin w None none = λ i j h l. absurd (omega arith)
  ascending_of c begin w (Some k) some = some.1.ascending

  each_of : (c : ℕ) (begin : Bool) (w : List ℕ) (o : Option ℕ) (i : ℕ) → IsListAnswer spec lists c begin w o → Contains (list_or_none lists o) i ↔ ReachesWhole spec c begin w i
  each_of c begin w None i none = ((λ has. absurd (contains_nil i has)), (λ reaches. absurd (none i reaches)))
  each_of c begin w (Some k) i some = some.1.each i

  pub find_all_rules : FindAllRules spec m lists
  find_all_rules = record {
    ascending = λ c begin w l bytes. subst (λ (rules : List ℕ). IsAscending rules) (sym (rules_are c begin w l bytes)) (ascending_of c begin w (answer m c begin w) (of.answers c begin w l bytes));
    each = λ c begin w i l bytes. subst (λ (rules : List ℕ). Contains rules i ↔ ReachesWhole spec c begin w i) (sym (rules_are c begin w l bytes)) (each_of c begin w (answer m c begin w) i (of.answers c begin w l bytes));
  }
