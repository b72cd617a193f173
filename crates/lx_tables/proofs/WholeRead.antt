-- Whole texts of version 2 that were written are read again, so each is that of one table.
use Rattle.std.proofs.Common.{ℕ, zero, suc, ◌≡◌, ◌<◌, ◌≤◌, ◌+◌, Bool, true, false, List, [], ◌∷◌, ◌++◌, Option, Some, None, length, drop, map, get_or, refl, sym, ◌∙◌, ap, ap₂, subst, arith, append_assoc}
use Rattle.std.specs.Prelude.{IsTrue, ◌&&◌, if◌then◌else◌, slice_index, codes}
use Rattle.std.specs.List.{flat_map, list_all, range_with_len}
use Rattle.std.proofs.lemmas.Bool.{lt-ltb}
use Rattle.std.proofs.lemmas.List.{length-map, get_or-map}
use Rattle.std.proofs.lemmas.List.FromFn.{fill_by_all}
use Rattle.lx_rules.specs.Identifiers.{is_identifier}
use Rattle.lx_rules.specs.Invariant.{are_steps}
use Rattle.lx_automaton.specs.Automata.{Machine, state_count, accepted_by, class_target}
use Rattle.lx_tables.specs.Model.{TableRule, Table, IsTable}
use Rattle.lx_tables.specs.Texts.{start_line, kind_line, rule_line, count_line, front_text, accepts_text, entries_text, all_bytes, ranges_text, byte_ranges, class_line, state_line_2, states_text, text_2}
use Rattle.lx_tables.specs.Uniqueness.{IsOneToOne}
use Rattle.lx_tables.specs.declared.version.Version.TheVariants.{First, Second}
use Rattle.lx_tables.proofs.NumbersRead.{start_read, IsSmall, ranges_read}
use Rattle.lx_tables.proofs.LinesRead.{with_rest, many_read, kind_read, AreSmall, are_small, rule_read, accepts_read, entries_stop, entries_read}
use Rattle.lx_tables.proofs.StatesRead.{count_is, list_is, line_long, states_read}
use Rattle.lx_tables.proofs.Onto.{pair, text_second}
use Rattle.lx_tables.proofs.Ranges.{byte_count, byte_at}
use Rattle.lx_tables.specs.Readers.{Front, read_front, read_list, read_count, read_start, read_many, read_kind, read_rule, read_accepts, read_row, read_state, read_states, read_classes, read_2, read_text, class_of, table_of}
use Rattle.lx_tables.proofs.RowLists.{rows_are}

map_same : {A : Type 0} (xs : List A) → map (λ x. x) xs ≡ xs
map_same [] = refl
map_same {A} (x ∷ xs) = ap (λ (ys : List A). x ∷ ys) (map_same xs)

left-of : (a b : Bool) → IsTrue (a && b) → IsTrue a
left-of true b h = refl
left-of false b h = h

right-of : (a b : Bool) → IsTrue (a && b) → IsTrue b
right-of true b h = h
right-of false b h = cc

each_true : {A : Type 0} (p : A → Bool) (d : A) (xs : List A) → IsTrue (list_all p xs) → (k : ℕ) → k < length xs → IsTrue (p (get_or xs k d))
each_true p d [] h k l = absurd (omega arith)
each_true p d (x ∷ xs) h zero l = left-of (p x) (list_all p xs) h
each_true p d (x ∷ xs) h (suc k) l = each_true p d xs (right-of (p x) (list_all p xs) h) k (omega arith)

right_6 : (a b c d e f r : List ℕ) → (a ++ b ++ c ++ d ++ e ++ f) ++ r ≡ a ++ (b ++ (c ++ (d ++ (e ++ (f ++ r)))))
right_6 a b c d e f r = simp append_assoc

pub right_3 : (a b c d : List ℕ) → a ++ b ++ c ++ d ≡ a ++ (b ++ (c ++ d))
right_3 a b c d = simp append_assoc

abbrev IsSmallStart : ℕ × ℕ → Type 0
IsSmallStart s = (s.0 < 2147483648) × (s.1 < 2147483648)

abbrev rules_then : List (ℕ × ℕ) → List (List ℕ) → List TableRule × List ℕ → Front × List ℕ
rules_then starts kinds rules = (record { starts = starts; kinds = kinds; rules = rules.0 }, rules.1)

abbrev kinds_then : List (ℕ × ℕ) → List (List ℕ) × List ℕ → Front × List ℕ
kinds_then starts kinds = rules_then starts kinds.0 (read_list 4096 6 read_rule kinds.1)

abbrev starts_then : List (ℕ × ℕ) × List ℕ → Front × List ℕ
starts_then starts = kinds_then starts.0 (read_list 4096 6 read_kind starts.1)

abbrev classes_then : Front → ℕ → List ℕ × List ℕ → Table
classes_then front width classes = table_of front classes.0 width (read_states Second width (drop 1 classes.1))

abbrev width_then : Front → ℕ × List ℕ → Table
width_then front width = classes_then front width.0 (read_classes (drop 5 width.1))

abbrev front_then : Front × List ℕ → Table
front_then front = width_then front.0 (read_count 256 8 front.1)

module _ (t : Table) (is : IsTable t) where
  abbrev m : Machine
  m = t.machine

  front_is : Front
  front_is = record { starts = m.starts; kinds = t.kinds; rules = t.rules }

  starts_read : (behind : List ℕ) → read_many read_start (length m.starts) (flat_map start_line m.starts ++ behind) ≡ with_rest m.starts behind
  starts_read behind =
      many_read read_start start_line (λ s. s) (0, 0) IsSmallStart (λ s rest h. start_read s rest h.0 h.1) m.starts behind
      (λ k l. (let a = is.machine.starts k false l in let n = is.machine.states in omega arith, let a = is.machine.starts k true l in let n = is.machine.states in omega arith))
      ∙ ap (λ (xs : List (ℕ × ℕ)). with_rest xs behind) (map_same m.starts)

  kinds_read : (behind : List ℕ) → read_many read_kind (length t.kinds) (flat_map kind_line t.kinds ++ behind) ≡ with_rest t.kinds behind
  kinds_read behind =
      many_read read_kind kind_line (λ s. s) [] (λ name. IsTrue (is_identifier name)) kind_read t.kinds behind (each_true is_identifier [] t.kinds is.identifiers)
      ∙ ap (λ (xs : List (List ℕ)). with_rest xs behind) (map_same t.kinds)

  no_rule : TableRule
  no_rule = record { line_end = false; steps = [] }

  rules_read : (behind : List ℕ) → read_many read_rule (length t.rules) (flat_map rule_line t.rules ++ behind) ≡ with_rest t.rules behind
  rules_read behind =
      many_read read_rule rule_line (λ s. s) no_rule (λ rule. AreSmall rule.steps) rule_read t.rules behind
      (λ k l. are_small (length m.starts) (length t.kinds) (get_or t.rules k no_rule).steps is.machine.few is.few_kinds
      (each_true (λ rule. are_steps (length m.starts) (length t.kinds) rule.steps) no_rule t.rules is.steps k l))
      ∙ ap (λ (xs : List TableRule). with_rest xs behind) (map_same t.rules)

  pub front_read : (behind : List ℕ) → read_front (front_text t ++ behind) ≡ with_rest (record { starts = m.starts; kinds = t.kinds; rules = t.rules }) behind
  front_read behind =
      let starts = flat_map start_line m.starts in
      let kinds = flat_map kind_line t.kinds in
      let rules = flat_map rule_line t.rules in
      let c = count_line (codes "conditions ") (length m.starts) in
      let k = count_line (codes "kinds ") (length t.kinds) in
      let r = count_line (codes "rules ") (length t.rules) in
      ap read_front (right_6 c starts k kinds r rules behind)
      ∙ ap starts_then (list_is 64 11 read_start m.starts (c ++ (starts ++ (k ++ (kinds ++ (r ++ (rules ++ behind)))))) starts (k ++ (kinds ++ (r ++ (rules ++ behind)))) refl
      (let n = is.machine.few in omega arith) is.machine.few (starts_read (k ++ (kinds ++ (r ++ (rules ++ behind))))))
      ∙ ap (kinds_then m.starts) (list_is 4096 6 read_kind t.kinds (k ++ (kinds ++ (r ++ (rules ++ behind)))) kinds (r ++ (rules ++ behind)) refl
      (let n = is.few_kinds in omega arith) is.few_kinds (kinds_read (r ++ (rules ++ behind))))
      ∙ ap (rules_then m.starts t.kinds) (list_is 4096 6 read_rule t.rules (r ++ (rules ++ behind)) rules behind refl (let n = is.few_rules in omega arith) is.few_rules (rules_read behind))

  -- the line of a state
  abbrev row : ℕ → List (Option ℕ)
  row s = map (λ c. class_target m s c) (range_with_len 0 m.width)

  abbrev row_then : Option ℕ → List (Option ℕ) × List ℕ → (Option ℕ × List (Option ℕ)) × List ℕ
  row_then rule targets = ((rule, targets.0), drop 1 targets.1)

  abbrev accepts_then : Option ℕ × List ℕ → (Option ℕ × List (Option ℕ)) × List ℕ
  accepts_then rule = row_then rule.0 (read_row Second m.width m.width 0 rule.1)

  small_target : (s : ℕ) → s < state_count m → (c u : ℕ) → c < m.width → class_target m s c ≡ Some u → u < 16512
  small_target s h c u hc e = let l = is.machine.closed s c u h hc e in let n = is.machine.states in omega arith

  state_read : (s : ℕ) (behind : List ℕ) → s < state_count m → read_state Second m.width (state_line_2 m s ++ behind) ≡ with_rest (pair (accepted_by m s) (row s)) behind
  state_read s behind h =
      let rule = accepts_text (accepted_by m s) in
      let targets = entries_text m s in
      let f : ℕ → Option ℕ = λ c. class_target m s c in
      ap (λ text. accepts_then (read_accepts text)) (right_3 rule targets (codes "\n") behind)
      ∙ ap accepts_then (accepts_read (accepted_by m s) (targets ++ (10 ∷ behind)) (is.machine.rules s) (entries_stop f m.width is.machine.narrow (small_target s h) 0 m.width behind))
      ∙ ap (row_then (accepted_by m s)) (entries_read f m.width is.machine.narrow (small_target s h) m.width 0 m.width 0 behind (omega arith) (omega arith) (omega arith))

  pub accepted_are : map (λ s. accepted_by m s) (range_with_len 0 (state_count m)) ≡ m.accepted
  accepted_are = sym (fill_by_all (λ s. accepted_by m s) m.accepted (state_count m) None refl (λ k l. refl))

  pub line_is_long : (s : ℕ) (row : List ℕ) → 8 ≤ length (codes "state " ++ accepts_text (accepted_by m s) ++ row ++ codes "\n")
  line_is_long s row = line_long (accepted_by m s) row (is.machine.rules s)

  rows_read : read_states Second m.width (states_text state_line_2 m) ≡ pair m.accepted m.targets
  rows_read =
      states_read Second m.width (state_count m) (λ s. state_line_2 m s) (λ s. accepted_by m s) row state_read (λ s h. line_is_long s (entries_text m s)) (codes "end\n") is.machine.states
      ∙ ap₂ (λ (xs ys : List (Option ℕ)). pair xs ys) accepted_are (rows_are m.targets m.width (state_count m) is.machine.rows)

  -- the classes
  class_value : ℕ → Option ℕ
  class_value b = Some (slice_index m.classes b)

  pub ranges_all : (values : List (Option ℕ)) (behind : List ℕ) → length values ≡ 256 → ((k : ℕ) (d : Option ℕ) → k < length values → IsSmall (get_or values k d)) →
      read_row First 256 256 0 (ranges_text values ++ (10 ∷ behind)) ≡ with_rest values (10 ∷ behind)
  ranges_all [] behind e h = absurd (omega arith)
  ranges_all (v ∷ more) behind e h =
      ranges_read more 256 0 0 0 v behind (omega arith) (omega arith) (omega arith) (omega arith) (h 0 v (omega arith)) (λ k d l. h (suc k) d (omega arith))

  small_class : (k : ℕ) → k < 256 → IsSmall (Some (slice_index m.classes k))
  small_class k l = (let b = is.machine.below k l in let n = is.machine.narrow in omega arith)

  class_is : (b : ℕ) → b < 256 → class_of (Some (slice_index m.classes b)) ≡ slice_index m.classes b
  class_is b l =
      let class = slice_index m.classes b in
      let small : class < 256 = (let n = is.machine.narrow in let h = is.machine.below b l in omega arith) in
      ap (λ (c : Bool). if c then class else 0) (lt-ltb class 256 small)

  all_classes : (n c : ℕ) → c + n ≤ 256 → map class_of (map (λ b. Some (slice_index m.classes b)) (range_with_len c n)) ≡ map (λ b. slice_index m.classes b) (range_with_len c n)
  all_classes zero c l = refl
  all_classes (suc n) c l = ap₂ (λ (x : ℕ) (xs : List ℕ). x ∷ xs) (class_is c (omega arith)) (all_classes n (c + 1) (omega arith))

  classes_are : map class_of (map (λ b. Some (slice_index m.classes b)) all_bytes) ≡ m.classes
  unfolding all_bytes
  classes_are = all_classes 256 0 (omega arith) ∙ sym (fill_by_all (λ b. slice_index m.classes b) m.classes 256 0 is.machine.bytes (λ k l. refl))

  classes_read : (behind : List ℕ) → read_classes (byte_ranges (λ b. Some (slice_index m.classes b)) ++ (10 ∷ behind)) ≡ with_rest m.classes (10 ∷ behind)
  classes_read behind =
      let value : ℕ → Option ℕ = λ b. Some (slice_index m.classes b) in
      let long : length (map value all_bytes) ≡ 256 = length-map all_bytes value ∙ byte_count in
      ap (λ (row : List (Option ℕ) × List ℕ). with_rest (map class_of row.0) row.1)
      (ranges_all (map value all_bytes) behind long
      (λ k d l. let e : get_or (map value all_bytes) k d ≡ value k = get_or-map value all_bytes k 0 d (omega (arith, byte_count)) ∙ ap value (byte_at k (omega arith)) in
      subst IsSmall (sym e) (small_class k (omega arith))))
      ∙ ap (λ (xs : List ℕ). with_rest xs (10 ∷ behind)) classes_are

  read_again : read_2 (text_2 t) ≡ t
  read_again =
      let front : Front = record { starts = m.starts; kinds = t.kinds; rules = t.rules } in
      let n = count_line (codes "classes ") m.width in
      let states = states_text state_line_2 m in
      let ranges = byte_ranges (λ b. Some (slice_index m.classes b)) in
      ap (λ text. front_then (read_front text)) (right_3 (front_text t) n (class_line m) states)
      ∙ ap front_then (front_read (n ++ (class_line m ++ states)))
      ∙ ap (width_then front) (count_is 256 8 m.width (n ++ (class_line m ++ states)) (class_line m ++ states) refl (let l = is.machine.narrow in omega arith) is.machine.narrow)
      ∙ ap (λ text. classes_then front m.width (read_classes text)) (append_assoc ranges (codes "\n") states)
      ∙ ap (classes_then front m.width) (classes_read states)
      ∙ ap (table_of front m.classes m.width) rows_read

  -- a text of version 2 is read as its table
  pub second_again : read_text (text_2 t) ≡ t
  second_again = sym (text_second (text_2 t) refl) ∙ read_again

pub one_table_2 : IsOneToOne text_2
one_table_2 = record { same = λ s t hs ht e. sym (second_again s hs) ∙ ap read_text e ∙ second_again t ht }
