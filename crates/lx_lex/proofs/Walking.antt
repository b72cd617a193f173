-- The walk over the printed numbers does the steps of the automaton.
use Rattle.std.proofs.Common.{ℕ, zero, suc, ◌≡◌, ◌<◌, ◌≤◌, ◌+◌, ◌*◌, Bool, true, false, List, [], ◌∷◌, ◌++◌, Option, Some, None, length, map, get_or, refl, sym, ◌∙◌, ap, subst, arith, append_assoc, append-nil, All}
use Rattle.std.specs.Prelude.{slice_index, ◌==◌}
use Rattle.std.proofs.lemmas.Bool.Decides.{nat_tests}
use Rattle.std.specs.List.{flat_map, range_with_len}
use Rattle.std.proofs.Math.Nat.{suc-mul}
use Rattle.std.proofs.lemmas.List.Elements.{All-head, All-tail}
use Rattle.std.proofs.lemmas.List.FromFn.{length-map-range_with_len, get_or-map-range_with_len}
use Rattle.std.proofs.lemmas.List.{get_or_append_left, get_or-append-add, length-append}
use Rattle.std.proofs.lemmas.Nat.{mul-le}
use Rattle.lx_automaton.specs.Automata.{Machine, IsMachine, state_count, start_of, accepted_at, accepted_by, answer, class_target, state_after, target_of}
use Rattle.lx_automaton.specs.Meaning.{IsAnswer}
use Rattle.lx_c.proofs.Reading.{entries_read, entry_read}
use Rattle.lx_c.specs.Reading.{read_words}
use Rattle.lx_c.specs.Words.{rule_word}
use Rattle.lx_lex.specs.Arrays.{class_entries, class_word, end_class, entry_text, row_of, row_text, row_width, rows_text, start_line, step_entries, target_word}
use Rattle.lx_lex.specs.Walking.{FindRules, class_in, number_of_flag, numbered_rule, numbers_of, walk, walked_rule}
use Rattle.lx_rules.specs.Plain.{PlainSpec}
use Rattle.lx_tables.specs.Model.{AreTablesOf, IsTable, Table}

-- ---- the words of the arrays

abbrev step_word : Machine → ℕ → ℕ → ℕ
step_word m s c = target_word m (class_target m s c)

abbrev row_words : Machine → ℕ → List ℕ
row_words m s = map (step_word m s) (range_with_len 0 m.width) ++ (rule_word (accepted_by m s) ∷ 0 ∷ [])

abbrev rows_words : Machine → List ℕ
rows_words m = map (λ c. 0) (range_with_len 0 (row_width m)) ++ flat_map (row_words m) (range_with_len 0 (state_count m))

abbrev first_words : Machine → ℕ → List ℕ
first_words m c = row_of m (start_of m c false) ∷ row_of m (start_of m c true) ∷ []

-- ---- no word is too great for a number of C

row_small : (m : Machine) (s : ℕ) → IsMachine m → s < state_count m → row_of m s < 4294967296
row_small m s h l = omega (arith, mul-le (s + 1) (m.width + 2) 16512 258 (omega (arith, l, h.states)) (omega (arith, h.narrow)))

target_small : (m : Machine) (target : Option ℕ) → IsMachine m → ((t : ℕ) → target ≡ Some t → t < state_count m) → target_word m target < 4294967296
target_small m None h below = omega arith
target_small m (Some t) h below = row_small m t h (below t refl)

rule_small : (rule : Option ℕ) → ((r : ℕ) → rule ≡ Some r → r < 4096) → rule_word rule < 4294967296
rule_small None below = omega arith
rule_small (Some r) below = omega (arith, below r refl)

not_zero : (b : ℕ) → (suc b == 0) ≡ false
not_zero b = grind (arith, nat_tests)

class_small : (m : Machine) (b : ℕ) → IsMachine m → b < 256 → class_word m b < 4294967296
class_small m zero h l = omega (arith, h.narrow)
class_small m (suc b) h l = rw (not_zero b) (omega (arith, h.below (suc b) l, h.narrow))

module _ (m : Machine) (h : IsMachine m) where
  -- ---- the texts, read

  row_read : (s : ℕ) (rest : List ℕ) → s < state_count m → read_words 0 (row_text m s ++ rest) ≡ row_words m s ++ read_words 0 rest
  row_read s rest l =
      let rule = rule_word (accepted_by m s) in
      let steps = map (step_word m s) (range_with_len 0 m.width) in
      let tail = 48 ∷ 44 ∷ 10 ∷ rest in
      ap (λ bs. read_words 0 bs) (append_assoc (step_entries m s ++ entry_text rule) (48 ∷ 44 ∷ 10 ∷ []) rest ∙ append_assoc (step_entries m s) (entry_text rule) tail)
      ∙ (entries_read (step_word m s) 0 m.width (entry_text rule ++ tail) (λ c k. target_small m (class_target m s c) h (λ t e. h.closed s c t l (omega (arith, k)) e))
      ∙ (ap (λ ns. steps ++ ns) (entry_read rule tail (rule_small (accepted_by m s) (λ r e. h.rules s r e)))
      ∙ sym (append_assoc steps (rule ∷ 0 ∷ []) (read_words 0 rest))))

  lines_read : (a n : ℕ) → a + n ≤ state_count m → read_words 0 (flat_map (row_text m) (range_with_len a n)) ≡ flat_map (row_words m) (range_with_len a n)
  lines_read a zero l = refl
  lines_read a (suc n) l = row_read a (flat_map (row_text m) (range_with_len (a + 1) n)) (omega (arith, l)) ∙ ap (λ ns. row_words m a ++ ns) (lines_read (a + 1) n (omega (arith, l)))

  rows_read : read_words 0 (rows_text m) ≡ rows_words m
  rows_read =
      let lines = flat_map (row_text m) (range_with_len 0 (state_count m)) in
      let none : ℕ → ℕ = λ c. 0 in
      ap (λ bs. read_words 0 bs) (append_assoc (flat_map (λ c. entry_text 0) (range_with_len 0 (row_width m))) (10 ∷ []) lines)
      ∙ entries_read none 0 (row_width m) (10 ∷ lines) (λ c l. omega arith)
      ∙ ap (λ ns. map (λ c. 0) (range_with_len 0 (row_width m)) ++ ns) (lines_read 0 (state_count m) (omega arith))

  classes_read : read_words 0 (class_entries m) ≡ map (class_word m) (range_with_len 0 256)
  classes_read =
      ap (λ bs. read_words 0 bs) (sym (append-nil (class_entries m)))
      ∙ (entries_read (class_word m) 0 256 [] (λ b l. class_small m b h (omega (arith, l))) ∙ append-nil (map (class_word m) (range_with_len 0 256)))

  first_read : (c : ℕ) (rest : List ℕ) → c < length m.starts → read_words 0 (start_line m c ++ rest) ≡ first_words m c ++ read_words 0 rest
  first_read c rest l =
      let one = row_of m (start_of m c false) in
      let two = row_of m (start_of m c true) in
      ap (λ bs. read_words 0 bs) (append_assoc (entry_text one ++ entry_text two) (10 ∷ []) rest ∙ append_assoc (entry_text one) (entry_text two) (10 ∷ rest))
      ∙ (entry_read one (entry_text two ++ (10 ∷ rest)) (row_small m (start_of m c false) h (h.starts c false l))
      ∙ ap (λ ns. one ∷ ns) (entry_read two (10 ∷ rest) (row_small m (start_of m c true) h (h.starts c true l))))

  starts_read : (a n : ℕ) → a + n ≤ length m.starts → read_words 0 (flat_map (start_line m) (range_with_len a n)) ≡ flat_map (first_words m) (range_with_len a n)
  starts_read a zero l = refl
  starts_read a (suc n) l = first_read a (flat_map (start_line m) (range_with_len (a + 1) n)) (omega (arith, l)) ∙ ap (λ ns. first_words m a ++ ns) (starts_read (a + 1) n (omega (arith, l)))

-- ---- blocks of one length, joined

block_at : (f : ℕ → List ℕ) (wide : ℕ) → ((s : ℕ) → length (f s) ≡ wide) → (a n j k : ℕ) → j < n → k < wide →
    get_or (flat_map f (range_with_len a n)) (j * wide + k) 0 ≡ get_or (f (a + j)) k 0
block_at f wide len a zero j k l h = absurd (omega (arith, l))
block_at f wide len a (suc n) zero k l h =
    let place : zero * wide + k ≡ k = omega arith in
    ap (λ (i : ℕ). get_or (flat_map f (range_with_len a (suc n))) i 0) place ∙
    (get_or_append_left (f a) (flat_map f (range_with_len (a + 1) n)) 0 k (omega (arith, h, len a)) ∙ ap (λ (s : ℕ). get_or (f s) k 0) (omega arith))
block_at f wide len a (suc n) (suc j) k l h =
    let rest = flat_map f (range_with_len (a + 1) n) in
    let place : suc j * wide + k ≡ length (f a) + (j * wide + k) = omega (arith, suc-mul j wide, len a) in
    ap (λ (i : ℕ). get_or (f a ++ rest) i 0) place
    ∙ (get_or-append-add (f a) rest (j * wide + k) 0
    ∙ (block_at f wide len (a + 1) n j k (omega (arith, l)) h ∙ ap (λ (s : ℕ). get_or (f s) k 0) (omega arith)))

module _ (m : Machine) (h : IsMachine m) where
  -- ---- the word at a place

  rule_of_word : (o : Option ℕ) → numbered_rule (rule_word o) ≡ o
  rule_of_word None = refl
  rule_of_word (Some r) = let e : r + 1 ≡ suc r = omega arith in ap numbered_rule e

  steps_length : (s : ℕ) → length (map (step_word m s) (range_with_len 0 m.width)) ≡ m.width
  steps_length s = length-map-range_with_len (step_word m s) 0 m.width

  row_length : (s : ℕ) → length (row_words m s) ≡ row_width m
  row_length s = length-append (map (step_word m s) (range_with_len 0 m.width)) (rule_word (accepted_by m s) ∷ 0 ∷ []) ∙ ap (λ (l : ℕ). l + 2) (steps_length s)

  zero_at : (k : ℕ) → k < row_width m → get_or (rows_words m) k 0 ≡ 0
  zero_at k l =
      let none : ℕ → ℕ = λ c. 0 in
      get_or_append_left (map none (range_with_len 0 (row_width m))) (flat_map (row_words m) (range_with_len 0 (state_count m))) 0 k (omega (arith, l, length-map-range_with_len none 0 (row_width m)))
      ∙ get_or-map-range_with_len none 0 (row_width m) k k 0 l (omega arith)

  row_at : (s k : ℕ) → s < state_count m → k < row_width m → get_or (rows_words m) (row_of m s + k) 0 ≡ get_or (row_words m s) k 0
  row_at s k l w =
      let none : ℕ → ℕ = λ c. 0 in
      let zeros = map none (range_with_len 0 (row_width m)) in
      let lines = flat_map (row_words m) (range_with_len 0 (state_count m)) in
      let next : s + 1 ≡ suc s = omega arith in
      let here : 0 + s ≡ s = omega arith in
      let place : row_of m s + k ≡ length zeros + (s * row_width m + k) =
      omega (arith, length-map-range_with_len none 0 (row_width m), suc-mul s (row_width m), ap (λ (j : ℕ). j * row_width m) next) in
      ap (λ (i : ℕ). get_or (zeros ++ lines) i 0) place
      ∙ (get_or-append-add zeros lines (s * row_width m + k) 0 ∙ (block_at (row_words m) (row_width m) row_length 0 (state_count m) s k l w ∙ ap (λ (t : ℕ). get_or (row_words m t) k 0) here))

  step_at : (s c : ℕ) → c < m.width → get_or (row_words m s) c 0 ≡ step_word m s c
  step_at s c l =
      get_or_append_left (map (step_word m s) (range_with_len 0 m.width)) (rule_word (accepted_by m s) ∷ 0 ∷ []) 0 c (omega (arith, l, steps_length s))
      ∙ get_or-map-range_with_len (step_word m s) 0 m.width c c 0 l (omega arith)

  behind_steps : (s k : ℕ) → get_or (row_words m s) (m.width + k) 0 ≡ get_or (rule_word (accepted_by m s) ∷ 0 ∷ []) k 0
  behind_steps s k =
      let place : m.width + k ≡ length (map (step_word m s) (range_with_len 0 m.width)) + k = omega (arith, steps_length s) in
      ap (λ (i : ℕ). get_or (row_words m s) i 0) place
      ∙ get_or-append-add (map (step_word m s) (range_with_len 0 m.width)) (rule_word (accepted_by m s) ∷ 0 ∷ []) k 0

  class_at : (b : ℕ) → b < 256 → get_or (map (class_word m) (range_with_len 0 256)) b 0 ≡ class_word m b
  class_at b l = get_or-map-range_with_len (class_word m) 0 256 b b 0 l (omega arith)

  class_is : (b : ℕ) → b < 256 → class_in (numbers_of m) b ≡ slice_index m.classes b
  class_is zero l = refl
  class_is (suc b) l =
      let read : get_or (read_words 0 (class_entries m)) (suc b) 0 ≡ slice_index m.classes (suc b) = ap (λ ns. get_or ns (suc b) 0) (classes_read m h) ∙ (class_at (suc b) l ∙ rw (not_zero b) refl) in
      rw (not_zero b) read

  abbrev pub IsState : Option ℕ → Type 0
  IsState o = (s : ℕ) → o ≡ Some s → s < state_count m

  -- the place of the row of a state, or that of the row of zeros
  pub walk_is : (o : Option ℕ) (w : List ℕ) → IsState o → All (λ b. b < 256) w → walk (numbers_of m) (target_word m o) w ≡ target_word m (state_after m o w)
  walk_is None [] states bytes = refl
  walk_is (Some s) [] states bytes = refl
  walk_is None (b ∷ w) states bytes =
      let low = All-head (λ b. b < 256) b w bytes in
      let stays : slice_index (numbers_of m).rows (0 + class_in (numbers_of m) b) ≡ 0 =
      ap (λ ns. get_or ns (0 + class_in (numbers_of m) b) 0) (rows_read m h)
      ∙ (ap (λ (k : ℕ). get_or (rows_words m) (0 + k) 0) (class_is b low) ∙ zero_at (0 + slice_index m.classes b) (omega (arith, h.below b low))) in
      ap (λ (place : ℕ). walk (numbers_of m) place w) stays ∙ walk_is None w (λ s e. absurd (cc)) (All-tail (λ b. b < 256) b w bytes)
  walk_is (Some s) (b ∷ w) states bytes =
      let low = All-head (λ b. b < 256) b w bytes in
      let there = states s refl in
      let goes : slice_index (numbers_of m).rows (row_of m s + class_in (numbers_of m) b) ≡ target_word m (target_of m s b) =
      ap (λ ns. get_or ns (row_of m s + class_in (numbers_of m) b) 0) (rows_read m h)
      ∙ (ap (λ (k : ℕ). get_or (rows_words m) (row_of m s + k) 0) (class_is b low)
      ∙ (row_at s (slice_index m.classes b) there (omega (arith, h.below b low)) ∙ step_at s (slice_index m.classes b) (h.below b low))) in
      ap (λ (place : ℕ). walk (numbers_of m) place w) goes
      ∙ walk_is (target_of m s b) w (λ t e. h.closed s (slice_index m.classes b) t there (h.below b low) e) (All-tail (λ b. b < 256) b w bytes)

  pub after_is : (o : Option ℕ) (w : List ℕ) → IsState o → All (λ b. b < 256) w → IsState (state_after m o w)
  after_is None w states bytes = states
  after_is (Some s) [] states bytes = states
  after_is (Some s) (b ∷ w) states bytes =
      let low = All-head (λ b. b < 256) b w bytes in
      after_is (target_of m s b) w (λ t e. h.closed s (slice_index m.classes b) t (states s refl) (h.below b low) e) (All-tail (λ b. b < 256) b w bytes)

  word_at : (o : Option ℕ) → IsState o → slice_index (numbers_of m).rows (target_word m o + m.width) ≡ rule_word (accepted_at m o)
  word_at None states = ap (λ ns. get_or ns (0 + m.width) 0) (rows_read m h) ∙ zero_at (0 + m.width) (omega arith)
  word_at (Some s) states =
      let place : m.width ≡ m.width + 0 = omega arith in
      ap (λ ns. get_or ns (row_of m s + m.width) 0) (rows_read m h)
      ∙ (row_at s m.width (states s refl) (omega arith) ∙ (ap (λ (k : ℕ). get_or (row_words m s) k 0) place ∙ behind_steps s 0))

  pub rule_at : (o : Option ℕ) → IsState o → numbered_rule (slice_index (numbers_of m).rows (target_word m o + m.width)) ≡ accepted_at m o
  rule_at o states = ap numbered_rule (word_at o states) ∙ rule_of_word (accepted_at m o)

  first_at : (c : ℕ) (begin : Bool) → c < length m.starts → slice_index (numbers_of m).first (c * 2 + number_of_flag begin) ≡ row_of m (start_of m c begin)
  first_at c begin l =
      ap (λ ns. get_or ns (c * 2 + number_of_flag begin) 0) (starts_read m h 0 (length m.starts) (omega arith))
      ∙ (block_at (first_words m) 2 (λ s. refl) 0 (length m.starts) c (number_of_flag begin) l (below begin) ∙ chosen begin) where
        below : (flag : Bool) → number_of_flag flag < 2
        below true = omega arith
        below false = omega arith

        chosen : (flag : Bool) → get_or (first_words m (0 + c)) (number_of_flag flag) 0 ≡ row_of m (start_of m c flag)
        chosen true = let same : 0 + c ≡ c = omega arith in ap (λ (s : ℕ). row_of m (start_of m s true)) same
        chosen false = let same : 0 + c ≡ c = omega arith in ap (λ (s : ℕ). row_of m (start_of m s false)) same

  walked_place : (c : ℕ) (begin : Bool) (w : List ℕ) → c < length m.starts → All (λ b. b < 256) w →
      walk (numbers_of m) (slice_index (numbers_of m).first (c * 2 + number_of_flag begin)) w ≡ target_word m (state_after m (Some (start_of m c begin)) w)
  walked_place c begin w l bytes =
      let states : IsState (Some (start_of m c begin)) = λ s e. subst (λ (t : ℕ). t < state_count m) (cc) (h.starts c begin l) in
      ap (λ (place : ℕ). walk (numbers_of m) place w) (first_at c begin l) ∙ walk_is (Some (start_of m c begin)) w states bytes

  walked_after : (c : ℕ) (begin : Bool) (w : List ℕ) → c < length m.starts → All (λ b. b < 256) w → IsState (state_after m (Some (start_of m c begin)) w)
  walked_after c begin w l bytes = after_is (Some (start_of m c begin)) w (λ s e. subst (λ (t : ℕ). t < state_count m) (cc) (h.starts c begin l)) bytes

  -- the number in the rule column of the row to which a text leads
  pub walked_word : (c : ℕ) (begin : Bool) (w : List ℕ) → c < length m.starts → All (λ b. b < 256) w →
      slice_index (numbers_of m).rows (walk (numbers_of m) (slice_index (numbers_of m).first (c * 2 + number_of_flag begin)) w + m.width) ≡ rule_word (answer m c begin w)
  walked_word c begin w l bytes =
      ap (λ (place : ℕ). slice_index (numbers_of m).rows (place + m.width)) (walked_place c begin w l bytes)
      ∙ word_at (state_after m (Some (start_of m c begin)) w) (walked_after c begin w l bytes)

  walked : (c : ℕ) (begin : Bool) (w : List ℕ) → c < length m.starts → All (λ b. b < 256) w → walked_rule (numbers_of m) c begin w ≡ answer m c begin w
  walked c begin w l bytes = ap numbered_rule (walked_word c begin w l bytes) ∙ rule_of_word (answer m c begin w)

  sentinel_is : slice_index (numbers_of m).classes 0 ≡ end_class m
  sentinel_is = ap (λ ns. get_or ns 0 0) (classes_read m h) ∙ class_at 0 (omega arith)

  nowhere_is : (s : ℕ) → s < state_count m → slice_index (numbers_of m).rows (row_of m s + end_class m) ≡ 0
  nowhere_is s l = ap (λ ns. get_or ns (row_of m s + end_class m) 0) (rows_read m h) ∙ (row_at s (end_class m) l (omega arith) ∙ behind_steps s 1)

pub find_rules : (spec : PlainSpec) (table : Table) → IsTable table → AreTablesOf spec table → FindRules spec table
find_rules spec table is_table of =
    let m = table.machine in
    record {
      answers = λ condition begin text l bytes.
          let there : condition < length m.starts = omega (arith, l, of.automaton.conditions) in
          subst (λ (found : Option ℕ). IsAnswer spec condition begin text found) (sym (walked m is_table.machine condition begin text there bytes)) (of.automaton.answers condition begin text l bytes);
      sentinel = sentinel_is m is_table.machine;
      nowhere = nowhere_is m is_table.machine;
    }
