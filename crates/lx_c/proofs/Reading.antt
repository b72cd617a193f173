-- A printed automaton is read again.
use Rattle.std.proofs.Common.{ℕ, zero, suc, ◌≡◌, ◌<◌, ◌≤◌, ◌+◌, ◌*◌, ◌-◌, Bool, true, false, List, [], ◌∷◌, ◌++◌, Option, Some, None, length, map, refl, sym, ◌∙◌, ap, subst, arith, append_assoc, append-nil, rules}
use Rattle.std.specs.Prelude.{decimal, slice_index}
use Rattle.std.specs.Str.{all_ascii_digits}
use Rattle.std.specs.Char.{is_ascii_digit}
use Rattle.std.specs.List.{flat_map, range_with_len}
use Rattle.std.proofs.lemmas.Str.Parse.{IsNumeralModel, numerals_by_fold}
use Rattle.std.proofs.lemmas.Fmt.{digits_decimal, digits_value-decimal}
use Rattle.std.proofs.lemmas.Bool.{and_parts}
use Rattle.std.proofs.lemmas.Nat.{mul-le}
use Rattle.std.proofs.lemmas.List.{ext_get_or}
use Rattle.std.proofs.lemmas.List.FromFn.{length-map-range_with_len, get_or-map-range_with_len}
use Rattle.lx_automaton.specs.Automata.{Machine, IsMachine, state_count, start_of, accepted_by, class_target}
use Rattle.lx_c.specs.Rows.{entry_text, step_entries, row_text, row_lines, rows_text, class_entries, start_line}
use Rattle.lx_c.specs.Words.{row_width, row_of, target_word, rule_word}
use Rattle.lx_c.specs.Reading.{read_words, row_words, rows_words, HaveTheWords}

abbrev pub read_on : ℕ → List ℕ → ℕ
read_on n [] = n
read_on n (c ∷ cs) = read_on (10 * n + (c - 48)) cs

pub own : IsNumeralModel (λ ds. all_ascii_digits ds ≡ true) (read_on 0)
own = numerals_by_fold _ (search rules) read_on (search rules)

digits_read : (n : ℕ) (ds behind : List ℕ) → all_ascii_digits ds ≡ true → read_words n (ds ++ (44 ∷ behind)) ≡ read_on n ds ∷ read_words 0 behind
digits_read n [] behind d = refl
digits_read n (c ∷ ds) behind d =
    let parts = and_parts (is_ascii_digit c) (all_ascii_digits ds) d in
    let digit : is_ascii_digit c ≡ true = parts.0 in
    rw digit (digits_read (10 * n + (c - 48)) ds behind parts.1)

pub entry_read : (n : ℕ) (behind : List ℕ) → n < 4294967296 → read_words 0 (entry_text n ++ behind) ≡ n ∷ read_words 0 behind
entry_read n behind small =
    let value : read_on 0 (decimal n) ≡ n = digits_value-decimal own n (omega arith) in
    ap (λ bs. read_words 0 bs) (append_assoc (decimal n) (44 ∷ []) behind)
    ∙ (digits_read 0 (decimal n) behind (digits_decimal own n (omega arith)) ∙ ap (λ (v : ℕ). v ∷ read_words 0 behind) value)

-- n entries, from number a on
pub entries_read : (word : ℕ → ℕ) (a n : ℕ) (behind : List ℕ) → ((k : ℕ) → k < a + n → word k < 4294967296) →
    read_words 0 (flat_map (λ k. entry_text (word k)) (range_with_len a n) ++ behind) ≡ map word (range_with_len a n) ++ read_words 0 behind
entries_read word a zero behind small = refl
entries_read word a (suc n) behind small =
    let more = flat_map (λ k. entry_text (word k)) (range_with_len (a + 1) n) in
    ap (λ bs. read_words 0 bs) (append_assoc (entry_text (word a)) more behind)
    ∙ (entry_read (word a) (more ++ behind) (small a (omega arith)) ∙ ap (λ ns. word a ∷ ns) (entries_read word (a + 1) n behind (λ k l. small k (omega arith))))

-- no word is too great for a number of C
record AreSmall (m : Machine) : Type 0 where
  pub steps : (s c : ℕ) → s < state_count m → c < m.width → target_word m (class_target m s c) < 4294967296
  pub rules : (s : ℕ) → rule_word (accepted_by m s) < 4294967296
  pub starts : (c : ℕ) (begin : Bool) → c < length m.starts → row_of m (start_of m c begin) < 4294967296
  pub classes : (b : ℕ) → b < 256 → slice_index m.classes b < 4294967296

row_read : (m : Machine) (s : ℕ) (behind : List ℕ) → AreSmall m → s < state_count m → read_words 0 (row_text m s ++ behind) ≡ row_words m s ++ read_words 0 behind
row_read m s behind h l =
    let rule = rule_word (accepted_by m s) in
    ap (λ bs. read_words 0 bs) (append_assoc (step_entries m s ++ entry_text rule) (10 ∷ []) behind)
    ∙ (ap (λ bs. read_words 0 bs) (append_assoc (step_entries m s) (entry_text rule) (10 ∷ behind))
    ∙ (entries_read (λ c. target_word m (class_target m s c)) 0 m.width (entry_text rule ++ (10 ∷ behind)) (λ c k. h.steps s c l (omega (arith, k)))
    ∙ (ap (λ ns. map (λ c. target_word m (class_target m s c)) (range_with_len 0 m.width) ++ ns) (entry_read rule (10 ∷ behind) (h.rules s))
    ∙ sym (append_assoc (map (λ c. target_word m (class_target m s c)) (range_with_len 0 m.width)) (rule ∷ []) (read_words 0 behind)))))

-- n rows, from state a on
row_lines_read : (m : Machine) (a n : ℕ) → AreSmall m → a + n ≤ state_count m → read_words 0 (flat_map (row_text m) (range_with_len a n)) ≡ flat_map (row_words m) (range_with_len a n)
row_lines_read m a zero h l = refl
row_lines_read m a (suc n) h l = row_read m a (flat_map (row_text m) (range_with_len (a + 1) n)) h (omega arith) ∙ ap (λ ns. row_words m a ++ ns) (row_lines_read m (a + 1) n h (omega arith))

rows_read : (m : Machine) → AreSmall m → read_words 0 (rows_text m) ≡ rows_words m
rows_read m h =
    ap (λ bs. read_words 0 bs) (append_assoc (flat_map (λ c. entry_text 0) (range_with_len 0 (row_width m))) (10 ∷ []) (row_lines m))
    ∙ (entries_read (λ c. 0) 0 (row_width m) (10 ∷ row_lines m) (λ c l. omega arith)
    ∙ ap (λ ns. map (λ c. 0) (range_with_len 0 (row_width m)) ++ ns) (row_lines_read m 0 (state_count m) h (omega arith)))

classes_read : (m : Machine) → AreSmall m → length m.classes ≡ 256 → read_words 0 (class_entries m) ≡ m.classes
classes_read m h all =
    let word : ℕ → ℕ = λ b. slice_index m.classes b in
    let listed : map word (range_with_len 0 256) ≡ m.classes =
    ext_get_or 0 (map word (range_with_len 0 256)) m.classes (length-map-range_with_len word 0 256 ∙ sym all)
    (λ i l. get_or-map-range_with_len word 0 256 i i 0 (subst (λ n. i < n) (length-map-range_with_len word 0 256) l) (omega arith)) in
    ap (λ bs. read_words 0 bs) (sym (append-nil (class_entries m)))
    ∙ (entries_read word 0 256 [] (λ b l. h.classes b l) ∙ (append-nil (map word (range_with_len 0 256)) ∙ listed))

start_read : (m : Machine) (c : ℕ) (behind : List ℕ) → AreSmall m → c < length m.starts →
    read_words 0 (start_line m c ++ behind) ≡ row_of m (start_of m c false) ∷ (row_of m (start_of m c true) ∷ read_words 0 behind)
start_read m c behind h l =
    let first = row_of m (start_of m c false) in
    let second = row_of m (start_of m c true) in
    ap (λ bs. read_words 0 bs) (append_assoc (entry_text first ++ entry_text second) (10 ∷ []) behind)
    ∙ (ap (λ bs. read_words 0 bs) (append_assoc (entry_text first) (entry_text second) (10 ∷ behind))
    ∙ (entry_read first (entry_text second ++ (10 ∷ behind)) (h.starts c false l) ∙ ap (λ ns. first ∷ ns) (entry_read second (10 ∷ behind) (h.starts c true l))))

-- n starts, from condition a on
starts_read : (m : Machine) (a n : ℕ) → AreSmall m → a + n ≤ length m.starts →
    read_words 0 (flat_map (start_line m) (range_with_len a n)) ≡ flat_map (λ c. row_of m (start_of m c false) ∷ (row_of m (start_of m c true) ∷ [])) (range_with_len a n)
starts_read m a zero h l = refl
starts_read m a (suc n) h l =
    start_read m a (flat_map (start_line m) (range_with_len (a + 1) n)) h (omega arith)
    ∙ ap (λ ns. row_of m (start_of m a false) ∷ (row_of m (start_of m a true) ∷ ns)) (starts_read m (a + 1) n h (omega arith))

row_small : (m : Machine) (s : ℕ) → IsMachine m → s < state_count m → row_of m s < 4294967296
row_small m s h l = omega (arith, mul-le (s + 1) (m.width + 1) 16512 257 (omega (arith, l, h.states)) (omega (arith, h.narrow)))

target_small : (m : Machine) (target : Option ℕ) → IsMachine m → ((t : ℕ) → target ≡ Some t → t < state_count m) → target_word m target < 4294967296
target_small m None h below = omega arith
target_small m (Some t) h below = row_small m t h (below t refl)

rule_small : (rule : Option ℕ) → ((r : ℕ) → rule ≡ Some r → r < 4096) → rule_word rule < 4294967296
rule_small None below = omega arith
rule_small (Some r) below = omega (arith, below r refl)

are_small : (m : Machine) → IsMachine m → AreSmall m
are_small m h = record {
  steps = λ s c l k. target_small m (class_target m s c) h (λ t e. h.closed s c t l k e);
  rules = λ s. rule_small (accepted_by m s) (λ r e. h.rules s r e);
  starts = λ c begin l. row_small m (start_of m c begin) h (h.starts c begin l);
  classes = λ b l. omega (arith, h.below b l, h.narrow);
}

pub have_the_words : (m : Machine) → IsMachine m → HaveTheWords m
have_the_words m h = record {
  classes = classes_read m (are_small m h) h.bytes;
  rows = rows_read m (are_small m h);
  starts = starts_read m 0 (length m.starts) (are_small m h) (omega arith);
}
