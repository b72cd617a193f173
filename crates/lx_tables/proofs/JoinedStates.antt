-- The joined table: its states and their numbers, and its lists while they are made.
use Rattle.std.proofs.Common.{◌≡◌, ℕ, zero, suc, ◌+◌, ◌-◌, ◌*◌, ◌/◌, ◌%◌, ◌<◌, ◌≤◌, Bool, true, false, nat_eq, nat_lt, if◌then◌else◌, List, [], ◌∷◌, ◌++◌, Option, Some, None, length, slice_index, slice_index_or, inl, inr, refl, sym, ap, subst, ◌∙◌, arith}
use Rattle.std.specs.List.{list_all}
use Rattle.std.proofs.lemmas.Bool.{and_parts, cases_eq, cases_lt, eq-eqb, ltb-true, ne_eqb, true≢false}
use Rattle.std.proofs.lemmas.List.{get_or_append_left, get_or_push, length_push, get_or_past}
use Rattle.std.proofs.lemmas.Nat.{div-mul-add, div_below, mod-mul-add, row_fits}
use Rattle.std.proofs.Math.Nat.{mul-le-mul}
use Rattle.lx_rules.specs.declared.rule.Step.{Step}
use Rattle.lx_rules.specs.declared.rule.Step.TheVariants.{Echo, Begin, Return}
use Rattle.lx_rules.specs.Invariant.{are_steps}
use Rattle.lx_automaton.specs.Automata.{state_count, accepted_at}
use Rattle.lx_automaton.specs.EncodedOptions.{decoded_option}
use Rattle.lx_tables.specs.Joined.{AreEntries, AreLabels, IsJoined, IsJoinedState, begun, class_of_column, column_of, condition_behind, condition_behind_rule, encoded, joined_entry, joined_len, joined_number, joined_state_at, joined_states, joined_step, joined_width, stepped, target_from}
use Rattle.lx_tables.specs.Model.{Table, IsTable, rule_at}
use Rattle.lx_tables.specs.declared.joined.JoinedState.{JoinedState}
use Rattle.lx_tables.specs.declared.joined.Transition.{Transition}
use Rattle.lx_automaton.proofs.RowMajor.{in_row}
use Rattle.lx_automaton.proofs.Rows.{same_row}

-- ---- states
-- a target is a state
pub target_known : (table : Table) → IsTable table → (state : Option ℕ) (class t : ℕ) → ((s : ℕ) → state ≡ Some s → s < state_count table.machine) → class < table.machine.width →
    target_from table.machine state class ≡ Some t → t < state_count table.machine
target_known table is None class t known below e = absurd (let f : None ≡ Some t = e in cc)
target_known table is (Some s) class t known below e = is.machine.closed s class t (known s refl) below e

steps_lead : (steps : List Step) (condition conditions kinds : ℕ) → condition < conditions → are_steps conditions kinds steps ≡ true → condition_behind steps condition < conditions
steps_lead [] condition conditions kinds h is = h
steps_lead (Echo ∷ steps) condition conditions kinds h is = steps_lead steps condition conditions kinds h is
steps_lead (Begin next ∷ steps) condition conditions kinds h is =
    let both = and_parts (nat_lt next conditions) (are_steps conditions kinds steps) is in
    steps_lead steps next conditions kinds (ltb-true next conditions both.0) both.1
steps_lead (Return kind ∷ []) condition conditions kinds h is = h
steps_lead (Return kind ∷ step ∷ steps) condition conditions kinds h is = absurd (true≢false (sym is))

all_or : {X : Type 0} (test : X → Bool) (xs : List X) (i : ℕ) (d : X) → list_all test xs ≡ true → test d ≡ true → test (slice_index_or xs i d) ≡ true
all_or test [] i d all default = default
all_or test (x ∷ xs) zero d all default = (and_parts (test x) (list_all test xs) all).0
all_or test (x ∷ xs) (suc i) d all default = all_or test xs i d ((and_parts (test x) (list_all test xs) all).1) default

-- a rule leads to a condition that exists
pub condition_known : (table : Table) → IsTable table → (rule : Option ℕ) (condition : ℕ) → condition < length table.machine.starts → condition_behind_rule table rule condition < length table.machine.starts
condition_known table is None condition h = h
condition_known table is (Some rule) condition h =
    steps_lead (rule_at table rule).steps condition (length table.machine.starts) (length table.kinds) h
    (all_or (λ r. are_steps (length table.machine.starts) (length table.kinds) r.steps) table.rules rule _ is.steps refl)

pub begun_known : (table : Table) → IsTable table → (condition class : ℕ) (begin newline : Bool) → condition < length table.machine.starts → class < table.machine.width →
    IsJoinedState table (begun table condition begin class newline)
begun_known table is condition class begin newline h below = record {
  condition = h;
  state = λ t e. is.machine.closed _ class t (is.machine.starts condition begin h) below e;
}

-- a step leads to a state of the joined table
pub step_known : (table : Table) → IsTable table → (q : JoinedState) (class : ℕ) (newline : Bool) → IsJoinedState table q → class < table.machine.width → IsJoinedState table (joined_step table q class newline).1
step_known table is q class newline known below = on (target_from table.machine q.state class) refl
  where
    on : (next : Option ℕ) → target_from table.machine q.state class ≡ next → IsJoinedState table (stepped table q class newline next).1
    on None e = begun_known table is _ class q.newline newline (condition_known table is (accepted_at table.machine q.state) q.condition known.condition) below
    on (Some t) e = record {
      condition = known.condition;
      state = λ s f. let same : t ≡ s = cc in subst (λ (n : ℕ). n < state_count table.machine) same (target_known table is q.state class t known.state below e);
    }

-- ---- numbers
encoded_below : (state : Option ℕ) (n : ℕ) → ((s : ℕ) → state ≡ Some s → s < n) → encoded state < n + 1
encoded_below None n known = omega arith
encoded_below (Some s) n known = let h = known s refl in omega arith

bit_below : (newline : Bool) → (if newline then 1 else 0) < 2
bit_below true = omega arith
bit_below false = omega arith

number_below : (table : Table) (q : JoinedState) → IsJoinedState table q → joined_number table q < joined_states table
number_below table q known =
    let bit = bit_below q.newline in
    let there = known.condition in
    in_row (q.condition * 2 + (if q.newline then 1 else 0)) (encoded q.state) (length table.machine.starts * 2) (state_count table.machine + 1) (omega arith) (encoded_below q.state (state_count table.machine) known.state)

pub row_within : (table : Table) (q : JoinedState) → IsJoinedState table q → joined_number table q * joined_width table + joined_width table ≤ joined_len table
row_within table q known = row_fits (joined_number table q) (joined_width table) (joined_states table) (joined_width table) (number_below table q known) (omega arith)

-- all rows have room in a machine word
pub rows_few : (table : Table) → IsTable table → joined_len table ≤ 543211648
rows_few table is =
    let conditions = is.machine.few in
    let states = is.machine.states in
    let narrow = is.machine.narrow in
    let pairs : length table.machine.starts * 2 ≤ 128 = omega arith in
    let all : joined_states table ≤ 128 * 16513 = mul-le-mul pairs (let l : state_count table.machine + 1 ≤ 16513 = omega arith in l) in
    let whole : joined_len table ≤ 128 * 16513 * 257 = mul-le-mul all (let l : joined_width table ≤ 257 = omega arith in l) in
    omega (arith, whole)

pub condition_below : (table : Table) (number : ℕ) → number < joined_states table → number / (state_count table.machine + 1) / 2 < length table.machine.starts
condition_below table number h =
    div_below (number / (state_count table.machine + 1)) 2 (length table.machine.starts) (omega arith)
    (div_below number (state_count table.machine + 1) (length table.machine.starts * 2) (omega arith) h)

encoded_is : (state : Option ℕ) → decoded_option (encoded state) ≡ state
encoded_is None = refl
encoded_is (Some s) = let some : nat_eq (s + 1) 0 ≡ false = ne_eqb (s + 1) 0 (λ e. absurd (omega arith)) in rw some (let less : s + 1 - 1 ≡ s = omega arith in ap (λ (n : ℕ). Some n) less)

bit_is : (newline : Bool) → nat_eq (if newline then 1 else 0) 1 ≡ newline
bit_is true = refl
bit_is false = refl

-- a state of the joined table is the one with its number
pub start_is : (table : Table) (q : JoinedState) → IsJoinedState table q → joined_number table q / (state_count table.machine + 1) ≡ q.condition * 2 + (if q.newline then 1 else 0)
start_is table q known = div-mul-add (q.condition * 2 + (if q.newline then 1 else 0)) (state_count table.machine + 1) (encoded q.state) (encoded_below q.state (state_count table.machine) known.state)

condition_is : (table : Table) (q : JoinedState) → IsJoinedState table q → joined_number table q / (state_count table.machine + 1) / 2 ≡ q.condition
condition_is table q known = ap (λ n. n / 2) (start_is table q known) ∙ div-mul-add q.condition 2 (if q.newline then 1 else 0) (bit_below q.newline)

state_is : (table : Table) (q : JoinedState) → IsJoinedState table q → joined_state_at table (joined_number table q) ≡ q
state_is table q known =
    parts _ _ _ _ _ _ (condition_is table q known)
    (ap (λ n. nat_eq (n % 2) 1) (start_is table q known) ∙ ap (λ n. nat_eq n 1) (mod-mul-add q.condition 2 (if q.newline then 1 else 0) (bit_below q.newline)) ∙ bit_is q.newline)
    (ap decoded_option (mod-mul-add (q.condition * 2 + (if q.newline then 1 else 0)) (state_count table.machine + 1) (encoded q.state) (encoded_below q.state (state_count table.machine) known.state)) ∙ encoded_is q.state)
  where
    parts : (c d : ℕ) (a b : Bool) (s t : Option ℕ) → c ≡ d → a ≡ b → s ≡ t → ◌≡◌ {A = JoinedState} (record { condition = c; newline = a; state = s }) (record { condition = d; newline = b; state = t })
    parts c d a b s t e f g = cc

-- the condition of the state whose row begins there
pub row_condition : (table : Table) (row : ℕ) (q : JoinedState) → IsJoinedState table q → row ≡ joined_number table q * joined_width table → row / joined_width table / (state_count table.machine + 1) / 2 ≡ q.condition
row_condition table row q known e =
    let whole : row ≡ joined_number table q * joined_width table + 0 = omega (arith, e) in
    ap (λ n. n / (state_count table.machine + 1) / 2) (ap (λ n. n / joined_width table) whole ∙ div-mul-add (joined_number table q) (joined_width table) 0 (omega arith)) ∙ condition_is table q known

pub row_condition_below : (table : Table) (row : ℕ) → row < joined_len table → row / joined_width table / (state_count table.machine + 1) / 2 < length table.machine.starts
row_condition_below table row h = condition_below table (row / joined_width table) (div_below row (joined_width table) (joined_states table) (omega arith) h)

-- ---- the lists while they are made
--  the entry past the end
abbrev nothing : Transition
nothing = record { row = 0; code = 0 }

pub entries_none : (table : Table) → IsTable table → AreEntries table [] 0
entries_none table is =
    let some = is.machine.some in
    record {
      long = refl;
      rows = λ k. let r = row_fits 0 (joined_width table) (joined_states table) (joined_width table) (row_fits_some (length table.machine.starts * 2) (state_count table.machine) (omega arith)) (omega arith) in omega arith;
      each = λ i c hc h. absurd (omega arith);
    }
  where
    row_fits_some : (a b : ℕ) → 0 < a → 0 < a * (b + 1)
    row_fits_some a b h = let r = row_fits 0 (b + 1) a (b + 1) h (omega arith) in omega arith

pub entry_push : (table : Table) (entries : List Transition) (i c : ℕ) (x : Transition) → AreEntries table entries (i * joined_width table + c) → c < joined_width table →
    x ≡ joined_entry table (joined_step table (joined_state_at table i) (class_of_column table c) (nat_eq c table.machine.width)) → x.row + joined_width table ≤ joined_len table →
    AreEntries table (entries ++ x ∷ []) (i * joined_width table + (c + 1))
entry_push table entries i c x are l e fits = record {
  long = (let a = length_push entries x in let b = are.long in omega arith);
  rows = λ k. elim (cases_lt k (length entries)) [
    | inl j ↦ rw (get_or_append_left entries (x ∷ []) nothing k j) (are.rows k)
    | inr j ↦ elim (cases_eq k (length entries)) [
      | inl same ↦ rw (get_or_push entries x nothing k (sym same)) fits
      | inr other ↦ rw (get_or_past (entries ++ x ∷ []) k nothing (let a = length_push entries x in omega arith)) (let r = are.rows k in rw (get_or_past entries k nothing j) at r)
    ]
  ];
  each = λ t k hk h. elim (cases_lt (t * joined_width table + k) (i * joined_width table + c)) [
    | inl j ↦ rw (get_or_append_left entries (x ∷ []) nothing (t * joined_width table + k) (let b = are.long in omega arith)) (are.each t k hk j)
    | inr j ↦ let n : t * joined_width table + k ≡ i * joined_width table + c = omega arith in
        let r = same_row t i k c (joined_width table) hk l n in
        rw (get_or_push entries x nothing (t * joined_width table + k) (are.long ∙ sym n)) (rw (r.0, r.1) e)
  ];
}

-- ---- the lists when they are made
--  the column of a byte represents its class, and the last column a newline
columns_tell : (table : Table) (b : ℕ) → slice_index table.machine.classes b < table.machine.width →
    (class_of_column table (column_of table b) ≡ slice_index table.machine.classes b) × (nat_eq (column_of table b) table.machine.width ≡ nat_eq b 10)
columns_tell table b below = elim (cases_eq b 10) [
  | inl e ↦ subst (λ (n : ℕ). (class_of_column table (column_of table n) ≡ slice_index table.machine.classes n) × (nat_eq (column_of table n) table.machine.width ≡ nat_eq n 10)) (sym e)
      (let same : nat_eq table.machine.width table.machine.width ≡ true = eq-eqb table.machine.width table.machine.width refl in (rw same refl, same))
  | inr ne ↦
      let other : nat_eq b 10 ≡ false = ne_eqb b 10 ne in
      let less : nat_eq (slice_index table.machine.classes b) table.machine.width ≡ false = ne_eqb (slice_index table.machine.classes b) table.machine.width (λ e. absurd (omega arith)) in
      (rw (other, less) refl, rw (other, less) refl)
]

column_below : (table : Table) (b : ℕ) → slice_index table.machine.classes b < table.machine.width → column_of table b < joined_width table
column_below table b below = on (nat_eq b 10)
  where
    on : (newline : Bool) → (if newline then table.machine.width else slice_index table.machine.classes b) < joined_width table
    on true = omega arith
    on false = omega arith

pub is_joined : (table : Table) (columns : List ℕ) (entries : List Transition) (labels : List ℕ) → IsTable table → AreLabels table labels → length columns ≡ 256 → ((b : ℕ) → b < 256 → slice_index columns b ≡ column_of table b) →
    AreEntries table entries (joined_len table) → IsJoined table columns entries labels
is_joined table columns entries labels is are_labels bytes are_columns are = record {
  are_labels = are_labels;
  bytes = bytes;
  byte_columns = are_columns;
  below = λ k. elim (cases_lt k 256) [
    | inl h ↦ rw (are_columns k h) (column_below table k (is.machine.below k h))
    | inr h ↦ rw (get_or_past columns k 0 (omega (arith, bytes))) (let w : 0 < joined_width table = omega arith in w)
  ];
  long = are.long;
  rows = λ k. let r = are.rows k in omega (arith, are.long);
  known = λ q b known h. step_known table is q (slice_index table.machine.classes b) (nat_eq b 10) known (is.machine.below b h);
  each = λ q b known h.
      let below = is.machine.below b h in
      let tell = columns_tell table b below in
      are.each (joined_number table q) (column_of table b) (column_below table b below) (in_row (joined_number table q) (column_of table b) (joined_states table) (joined_width table) (number_below table q known) (column_below table b below))
      ∙ ap (λ (p : JoinedState). joined_entry table (joined_step table p (class_of_column table (column_of table b)) (nat_eq (column_of table b) table.machine.width))) (state_is table q known)
      ∙ ap (λ (n : ℕ). joined_entry table (joined_step table q n (nat_eq (column_of table b) table.machine.width))) tell.0
      ∙ ap (λ (l : Bool). joined_entry table (joined_step table q (slice_index table.machine.classes b) l)) tell.1;
}
