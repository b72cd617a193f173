-- Printed actions are read again.
use Rattle.std.proofs.Common.{ℕ, zero, suc, ◌≡◌, ◌<◌, ◌≤◌, ◌+◌, ◌*◌, ◌-◌, Bool, true, false, List, [], ◌∷◌, ◌++◌, None, length, map, get_or, refl, sym, ◌∙◌, ap, subst, arith, append_assoc, append-nil}
use Rattle.std.specs.Prelude.{decimal, codes, IsTrue, if◌then◌else◌}
use Rattle.std.specs.Str.{all_ascii_digits}
use Rattle.std.specs.Char.{is_ascii_digit}
use Rattle.std.specs.List.{flat_map, list_all, range_with_len}
use Rattle.std.proofs.Math.Nat.{max-le}
use Rattle.std.proofs.lemmas.Fmt.{digits_decimal, digits_value-decimal}
use Rattle.std.proofs.lemmas.Bool.{and_parts, ltb-true}
use Rattle.lx_rules.specs.Invariant.{are_steps, is_kind}
use Rattle.lx_rules.specs.declared.rule.Kind.TheVariants.{Name, Number}
use Rattle.lx_rules.specs.declared.rule.Step.{Step}
use Rattle.lx_rules.specs.declared.rule.Step.TheVariants.{Echo, Begin, Return}
use Rattle.lx_tables.specs.Model.{TableRule, Table, IsTable, rule_at}
use Rattle.lx_c.specs.Options.{Options, has_file}
use Rattle.lx_c.specs.Numbers.{above, first_kind, returned_by}
use Rattle.lx_c.specs.Actions.{step_word, step_entry, action_word, action_entry, line_end_entry}
use Rattle.lx_c.specs.Reading.{read_words, read_signed, step_number, action_number, HaveTheActions}
use Rattle.lx_c.proofs.Numbers.{above-append}
use Rattle.lx_c.proofs.Reading.{read_on, own}

digits_read : (minus : Bool) (n : ℕ) (ds behind : List ℕ) → all_ascii_digits ds ≡ true → read_signed minus n (ds ++ (44 ∷ behind)) ≡ (minus, read_on n ds) ∷ read_signed false 0 behind
digits_read minus n [] behind d = refl
digits_read minus n (c ∷ ds) behind d =
    let parts = and_parts (is_ascii_digit c) (all_ascii_digits ds) d in
    let digit : is_ascii_digit c ≡ true = parts.0 in
    rw digit (digits_read minus (10 * n + (c - 48)) ds behind parts.1)

number_read : (minus : Bool) (n : ℕ) (behind : List ℕ) → n < 8589934592 → read_signed minus 0 (decimal n ++ (44 ∷ behind)) ≡ (minus, n) ∷ read_signed false 0 behind
number_read minus n behind small =
    let value : read_on 0 (decimal n) ≡ n = digits_value-decimal own n (omega arith) in
    digits_read minus 0 (decimal n) behind (digits_decimal own n (omega arith)) ∙ ap (λ (v : ℕ). (minus, v) ∷ read_signed false 0 behind) value

-- a step as a word, and a comma
word_read : (o : Options) (first : ℕ) (table : Table) (step : Step) (behind : List ℕ) → has_file o.include ≡ false → (step_number first step).1 < 8589934592 →
    read_signed false 0 (step_word o first table step ++ (44 ∷ behind)) ≡ step_number first step ∷ read_signed false 0 behind
word_read o first table Echo behind e small = refl
word_read o first table (Begin c) behind e small = number_read true (4 + c) behind small
word_read o first table (Return (Name k)) behind e small = rw e (number_read false (first + k) behind small)
word_read o first table (Return (Number n)) behind e small = number_read false n behind small

abbrev AreSmall : ℕ → List Step → Type 0
AreSmall first [] = Unit {0}
AreSmall first (step ∷ steps) = ((step_number first step).1 < 8589934592) × AreSmall first steps

steps_read : (o : Options) (first : ℕ) (table : Table) (steps : List Step) (behind : List ℕ) → has_file o.include ≡ false → AreSmall first steps →
    read_signed false 0 (flat_map (step_entry o first table) steps ++ behind) ≡ map (step_number first) steps ++ read_signed false 0 behind
steps_read o first table [] behind e small = refl
steps_read o first table (step ∷ steps) behind e small =
    let more = flat_map (step_entry o first table) steps in
    ap (λ bs. read_signed false 0 bs) (append_assoc (step_entry o first table step) more behind ∙ append_assoc (step_word o first table step) (44 ∷ []) (more ++ behind))
    ∙ (word_read o first table step (more ++ behind) e small.0 ∙ ap (λ ns. step_number first step ∷ ns) (steps_read o first table steps behind e small.1))

action_read : (o : Options) (first : ℕ) (table : Table) (steps : List Step) (behind : List ℕ) → has_file o.include ≡ false → AreSmall first steps →
    read_signed false 0 (action_word o first table steps ++ (44 ∷ behind)) ≡ action_number first steps ∷ read_signed false 0 behind
action_read o first table [] behind e small = refl
action_read o first table (Echo ∷ steps) behind e small = refl
action_read o first table (Begin c ∷ steps) behind e small = refl
action_read o first table (Return kind ∷ steps) behind e small = word_read o first table (Return kind) behind e small.0

-- a law of all rules, from number a on
actions_read : (o : Options) (first : ℕ) (table : Table) (a n : ℕ) → has_file o.include ≡ false → ((r : ℕ) → r < a + n → AreSmall first (rule_at table r).steps) →
    read_signed false 0 (flat_map (λ r. action_entry o first table (rule_at table r).steps) (range_with_len a n)) ≡ map (λ r. action_number first (rule_at table r).steps) (range_with_len a n)
actions_read o first table a zero e small = refl
actions_read o first table a (suc n) e small =
    let steps = (rule_at table a).steps in
    let more = flat_map (λ r. action_entry o first table (rule_at table r).steps) (range_with_len (a + 1) n) in
    ap (λ bs. read_signed false 0 bs) (append_assoc (action_word o first table steps) (44 ∷ (10 ∷ [])) more)
    ∙ (action_read o first table steps (10 ∷ more) e (small a (omega arith))
    ∙ ap (λ ns. action_number first steps ∷ ns) (actions_read o first table (a + 1) n e (λ r l. small r (omega (arith, l)))))

line_end_read : (line_end : Bool) (behind : List ℕ) → read_words 0 (line_end_entry line_end ++ behind) ≡ (if line_end then 1 else 0) ∷ read_words 0 behind
line_end_read true behind = refl
line_end_read false behind = refl

line_ends_read : (table : Table) (a n : ℕ) → read_words 0 (flat_map (λ r. line_end_entry (rule_at table r).line_end) (range_with_len a n)) ≡ map (λ r. if (rule_at table r).line_end then 1 else 0) (range_with_len a n)
line_ends_read table a zero = refl
line_ends_read table a (suc n) =
    line_end_read (rule_at table a).line_end (flat_map (λ r. line_end_entry (rule_at table r).line_end) (range_with_len (a + 1) n))
    ∙ ap (λ (ns : List ℕ). (if (rule_at table a).line_end then 1 else 0) ∷ ns) (line_ends_read table (a + 1) n)

-- steps that name conditions and kinds that are there have small numbers
small_kind : (first kinds : ℕ) (kind : _) → first ≤ 2147483648 → kinds ≤ 4096 → is_kind kinds kind ≡ true → (step_number first (Return kind)).1 < 8589934592
small_kind first kinds (Name k) f b h = omega (arith, ltb-true k kinds h)
small_kind first kinds (Number n) f b h = omega (arith, ltb-true n 2147483648 h)

small_steps : (first conditions kinds : ℕ) (steps : List Step) → first ≤ 2147483648 → conditions ≤ 64 → kinds ≤ 4096 → IsTrue (are_steps conditions kinds steps) → AreSmall first steps
small_steps first conditions kinds [] f l b h = tt
small_steps first conditions kinds (Echo ∷ steps) f l b h = (omega arith, small_steps first conditions kinds steps f l b h)
small_steps first conditions kinds (Begin c ∷ steps) f l b h =
    let parts = and_parts _ (are_steps conditions kinds steps) h in
    (omega (arith, ltb-true c conditions parts.0), small_steps first conditions kinds steps f l b parts.1)
small_steps first conditions kinds (Return kind ∷ []) f l b h = (small_kind first kinds kind f b h, tt)
small_steps first conditions kinds (Return kind ∷ (step ∷ steps)) f l b h = absurd (omega (arith, ap {B = ℕ} (λ (t : Bool). if t then 1 else 0) h))

-- the number above those that rules return
above_steps : (n conditions kinds : ℕ) (steps : List Step) → n ≤ 2147483648 → IsTrue (are_steps conditions kinds steps) → above n (returned_by steps) ≤ 2147483648
above_steps n conditions kinds [] f h = f
above_steps n conditions kinds (Echo ∷ steps) f h = above_steps n conditions kinds steps f h
above_steps n conditions kinds (Begin c ∷ steps) f h = above_steps n conditions kinds steps f (and_parts _ (are_steps conditions kinds steps) h).1
above_steps n conditions kinds (Return (Name k) ∷ []) f h = f
above_steps n conditions kinds (Return (Number m) ∷ []) f h = max-le f (omega (arith, ltb-true m 2147483648 h))
above_steps n conditions kinds (Return kind ∷ (step ∷ steps)) f h = absurd (omega (arith, ap {B = ℕ} (λ (t : Bool). if t then 1 else 0) h))

above_rules : (n conditions kinds : ℕ) (rs : List TableRule) → n ≤ 2147483648 → IsTrue (list_all (λ rule. are_steps conditions kinds rule.steps) rs) →
    above n (flat_map (λ rule. returned_by rule.steps) rs) ≤ 2147483648
above_rules n conditions kinds [] f h = f
above_rules n conditions kinds (rule ∷ rs) f h =
    let parts = and_parts (are_steps conditions kinds rule.steps) (list_all (λ r. are_steps conditions kinds r.steps) rs) h in
    subst (λ (k : ℕ). k ≤ 2147483648) (sym (above-append n (returned_by rule.steps) (flat_map (λ r. returned_by r.steps) rs)))
    (above_rules (above n (returned_by rule.steps)) conditions kinds rs (above_steps n conditions kinds rule.steps f parts.0) parts.1)

-- the steps of one of the rules
steps_at : (conditions kinds : ℕ) (rs : List TableRule) (r : ℕ) (d : TableRule) → IsTrue (list_all (λ rule. are_steps conditions kinds rule.steps) rs) → r < length rs → IsTrue (are_steps conditions kinds (get_or rs r d).steps)
steps_at conditions kinds [] r d h l = absurd (omega (arith, l))
steps_at conditions kinds (rule ∷ rs) zero d h l = (and_parts (are_steps conditions kinds rule.steps) (list_all (λ q. are_steps conditions kinds q.steps) rs) h).0
steps_at conditions kinds (rule ∷ rs) (suc r) d h l = steps_at conditions kinds rs r d (and_parts (are_steps conditions kinds rule.steps) (list_all (λ q. are_steps conditions kinds q.steps) rs) h).1 (omega (arith, l))

pub have_the_actions : (o : Options) (table : Table) → IsTable table → o.include ≡ None → HaveTheActions o table
have_the_actions o table h e =
    let first = first_kind table in
    let conditions = length table.machine.starts in
    let kinds = length table.kinds in
    let none : has_file o.include ≡ false = ap has_file e in
    let below : first ≤ 2147483648 = above_rules 256 conditions kinds table.rules (omega arith) h.steps in
    let small : (r : ℕ) → r < length table.rules → AreSmall first (rule_at table r).steps =
    λ r l. small_steps first conditions kinds (rule_at table r).steps below h.machine.few h.few_kinds (steps_at conditions kinds table.rules r (record { line_end = false; steps = [] }) h.steps l) in
    record {
      steps = λ r l. steps_read o first table (rule_at table r).steps (codes "-1};\n") none (small r l) ∙ append-nil (map (step_number first) (rule_at table r).steps);
      actions = actions_read o first table 0 (length table.rules) none (λ r l. small r (omega (arith, l)));
      line_ends = line_ends_read table 0 (length table.rules);
    }
