-- Tables by bytes, each byte a class of its own. They have all properties of tables except byte classes.
use Rattle.std.proofs.Common.{ℕ, zero, suc, ◌≡◌, ◌<◌, ◌+◌, ◌*◌, List, ◌++◌, Option, None, length, map, get_or, sym, ◌∙◌, ap, refl, arith}
use Rattle.std.specs.Prelude.{slice_index}
use Rattle.std.specs.List.{flat_map, range_with_len}
use Rattle.std.proofs.lemmas.List.{get_or_append_left, get_or-append-add, length-append}
use Rattle.std.proofs.lemmas.List.FromFn.{get_or-map-range_with_len, length-map-range_with_len}
use Rattle.lx_automaton.specs.Automata.{Machine, IsMachine, HasByteClasses, HasSameSteps, state_count, class_target, target_of}
use Rattle.lx_tables.specs.Model.{TableRule, Table, IsTable}
use Rattle.lx_tables.specs.Limits.{HasLimits}
use Rattle.lx_tables.specs.Texts.{text_1, all_bytes}
use Rattle.lx_tables.specs.Readers.{by_bytes, read_text}
use Rattle.lx_tables.proofs.FirstRead.{first_again}
use Rattle.lx_tables.proofs.OneMachine.{one_machine}
use Rattle.lx_tables.proofs.Ranges.{byte_count, byte_at}

abbrev table_with : Machine → List (List ℕ) → List TableRule → Table
table_with machine kinds rules = record { machine = machine; kinds = kinds; rules = rules }

module _ (f : ℕ → ℕ → Option ℕ) (w : ℕ) where
  abbrev row : ℕ → List (Option ℕ)
  row s = map (λ b. f s b) (range_with_len 0 w)

  abbrev rows : ℕ → ℕ → List (Option ℕ)
  rows k n = flat_map row (range_with_len k n)

  row_long : (s : ℕ) → length (row s) ≡ w
  row_long s = length-map-range_with_len (λ b. f s b) 0 w

  suc_row : (a : ℕ) → suc a * w ≡ w + a * w
  suc_row a = grind arith

  rows_long : (n k : ℕ) → length (rows k n) ≡ n * w
  rows_long zero k = grind arith
  rows_long (suc n) k = length-append (row k) (rows (k + 1) n) ∙ (let a = row_long k in let b = rows_long n (k + 1) in let c = suc_row n in omega arith)

  rows_at : (n k s b i : ℕ) → b < w → s < n → i ≡ s * w + b → get_or (rows k n) i None ≡ f (k + s) b
  rows_at zero k s b i hb hs e = absurd (omega arith)
  rows_at (suc n) k zero b i hb hs e =
      let none : zero * w ≡ 0 = grind arith in
      let same : i ≡ b = omega arith in
      let here : k ≡ k + 0 = omega arith in
      get_or_append_left (row k) (rows (k + 1) n) None i (omega (arith, row_long k))
      ∙ get_or-map-range_with_len (λ b. f k b) 0 w i b None (omega arith) (omega arith) ∙ ap (λ j. f j b) here
  rows_at (suc n) k (suc s) b i hb hs e =
      let j = s * w + b in
      let same : i ≡ length (row k) + j = (let a = row_long k in let c = suc_row s in omega arith) in
      let next : k + 1 + s ≡ k + suc s = omega arith in
      ap (λ x. get_or (row k ++ rows (k + 1) n) x None) same ∙ get_or-append-add (row k) (rows (k + 1) n) j None
      ∙ rows_at n (k + 1) s b j hb (omega arith) refl ∙ ap (λ x. f x b) next

module _ (t : Table) (is : IsTable t) where
  abbrev m : Machine
  m = t.machine

  abbrev q : Machine
  q = (by_bytes t).machine

  entry : (s b : ℕ) → s < state_count m → b < 256 → class_target q s b ≡ target_of m s b
  unfolding all_bytes
  entry s b hs hb = rows_at (λ s b. target_of m s b) 256 (state_count m) 0 s b (s * 256 + b) hb hs refl ∙ ap (λ k. target_of m k b) (let z : 0 + s ≡ s = omega arith in z)

  pub step : (s b : ℕ) → s < state_count m → b < 256 → target_of q s b ≡ target_of m s b
  step s b hs hb = ap (λ c. class_target q s c) (byte_at b hb) ∙ entry s b hs hb

  rows_are : length q.targets ≡ state_count q * q.width
  unfolding all_bytes
  rows_are = rows_long (λ s b. target_of m s b) 256 (state_count m) 0

  is_machine : IsMachine q
  is_machine = record {
    some = is.machine.some;
    few = is.machine.few;
    starts = is.machine.starts;
    bytes = byte_count;
    below = λ b h. (let e = byte_at b h in omega arith);
    narrow = omega arith;
    rows = rows_are;
    closed = λ s class u hs hc e. is.machine.closed s (slice_index m.classes class) u hs (is.machine.below class hc) (sym (entry s class hs hc) ∙ e);
    states = is.machine.states;
    rules = is.machine.rules;
  }

  pub limits_by_bytes : HasLimits (by_bytes t)
  limits_by_bytes = record {
    machine = record { machine = is_machine; accepted = is.accepted };
    kinds = record { few = is.few_kinds; identifiers = is.identifiers; distinct = is.distinct };
    few_rules = is.few_rules;
    steps = is.steps;
  }

  pub limits : HasLimits t
  limits = record {
    machine = record { machine = is.machine; accepted = is.accepted };
    kinds = record { few = is.few_kinds; identifiers = is.identifiers; distinct = is.distinct };
    few_rules = is.few_rules;
    steps = is.steps;
  }

  module _ (a : Machine) (ia : IsMachine a) (ha : HasByteClasses a) where
    pub same_machine : HasSameSteps m a → a ≡ m
    same_machine alike = one_machine a m ia ha is.machine is.classes alike.starts alike.accepted (λ s b hs hb. alike.steps s b (let e = ap length alike.accepted in omega arith) hb)

    pub same_by_bytes : HasSameSteps q a → a ≡ m
    same_by_bytes alike =
        one_machine a m ia ha is.machine is.classes alike.starts alike.accepted
        (λ s b hs hb. let l : s < state_count m = (let e = ap length alike.accepted in omega arith) in alike.steps s b l hb ∙ step s b l hb)

-- tables with one text of version 1 are one by bytes, and so the same
module _ (s t : Table) (hs : IsTable s) (ht : IsTable t) (e : text_1 s ≡ text_1 t) where
  same : by_bytes s ≡ by_bytes t
  same = sym (first_again s hs) ∙ ap read_text e ∙ first_again t ht

  machines : s.machine ≡ t.machine
  machines =
      one_machine s.machine t.machine hs.machine hs.classes ht.machine ht.classes (ap (λ (x : Table). x.machine.starts) same) (ap (λ (x : Table). x.machine.accepted) same)
      (λ i b hi hb. sym (step s hs i b hi hb) ∙ ap (λ (x : Table). target_of x.machine i b) same
      ∙ step t ht i b (let n = ap (λ (x : Table). length x.machine.accepted) same in omega arith) hb)

  pub same_first : s ≡ t
  same_first = ap (λ (x : Table). table_with s.machine x.kinds x.rules) same ∙ ap (λ (m : Machine). table_with m t.kinds t.rules) machines
