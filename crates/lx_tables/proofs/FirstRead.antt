-- Whole texts of version 1 that were written are read again: the steps by bytes, which fix the classes.
use Rattle.std.proofs.Common.{ℕ, ◌≡◌, ◌<◌, ◌+◌, Bool, true, false, List, [], ◌∷◌, ◌++◌, Option, Some, None, length, drop, map, get_or, refl, sym, ◌∙◌, ap, subst, arith}
use Rattle.std.specs.Prelude.{slice_index, codes, ◌==◌, if◌then◌else◌}
use Rattle.std.specs.List.{flat_map, range_with_len}
use Rattle.std.proofs.lemmas.List.{length-map, get_or-map}
use Rattle.lx_automaton.specs.Automata.{Machine, state_count, accepted_by, target_of}
use Rattle.lx_tables.specs.Model.{Table, IsTable}
use Rattle.lx_tables.specs.Texts.{accepts_text, all_bytes, ranges_text, ranges_from, byte_ranges, range_text, same_value, state_line_1, states_text, text_1}
use Rattle.lx_tables.specs.declared.version.Version.TheVariants.{First}
use Rattle.lx_tables.proofs.LinesRead.{with_rest, accepts_read, Stops}
use Rattle.lx_tables.proofs.NumbersRead.{IsSmall, stops}
use Rattle.lx_tables.proofs.Onto.{pair, text_first}
use Rattle.lx_tables.proofs.Ranges.{byte_count, byte_at}
use Rattle.lx_tables.specs.Readers.{Front, read_accepts, read_row, read_state, read_states, read_1, read_text, table_of, by_bytes}
use Rattle.lx_tables.proofs.StatesRead.{states_read}
use Rattle.lx_tables.proofs.WholeRead.{front_read, right_3, ranges_all, accepted_are, line_is_long}

-- the text of ranges begins with a space, or is empty
dash_at : (low high : ℕ) (value : Option ℕ) (c : Bool) (xs ys behind : List ℕ) → slice_index (xs ++ behind) 0 == 45 ≡ false → slice_index (ys ++ behind) 0 == 45 ≡ false →
    slice_index ((if c then xs else range_text low high value ++ ys) ++ behind) 0 == 45 ≡ false
dash_at low high value true xs ys behind a b = a
dash_at low high None false xs ys behind a b = b
dash_at low high (Some v) false xs ys behind a b = refl

no_dash : (low high : ℕ) (value : Option ℕ) (more : List (Option ℕ)) (rest : List ℕ) → slice_index (ranges_from low high value more ++ (10 ∷ rest)) 0 == 45 ≡ false
no_dash low high None [] rest = refl
no_dash low high (Some v) [] rest = refl
no_dash low high value (other ∷ more) rest =
    dash_at low high value (same_value value other) (ranges_from low (high + 1) value more) (ranges_from (high + 1) (high + 1) other more) (10 ∷ rest)
    (no_dash low (high + 1) value more rest) (no_dash (high + 1) (high + 1) other more rest)

ranges_stop : (values : List (Option ℕ)) (rest : List ℕ) → Stops (ranges_text values ++ (10 ∷ rest))
ranges_stop [] rest = record { digit = refl; dash = refl }
ranges_stop (v ∷ more) rest = record { digit = stops 0 0 v more rest; dash = no_dash 0 0 v more rest }

module _ (t : Table) (is : IsTable t) where
  abbrev m : Machine
  m = t.machine

  abbrev row : ℕ → List (Option ℕ)
  row s = map (λ b. target_of m s b) all_bytes

  small_at : (s k : ℕ) (o : Option ℕ) → s < state_count m → k < 256 → target_of m s k ≡ o → IsSmall o
  small_at s k None h l e = tt
  small_at s k (Some u) h l e = (let c = is.machine.closed s (slice_index m.classes k) u h (is.machine.below k l) e in let n = is.machine.states in omega arith)

  value_at : (s k : ℕ) (d : Option ℕ) → k < 256 → get_or (row s) k d ≡ target_of m s k
  value_at s k d l = get_or-map (λ b. target_of m s b) all_bytes k 0 d (omega (arith, byte_count)) ∙ ap (λ b. target_of m s b) (byte_at k l)

  row_long : (s : ℕ) → length (row s) ≡ 256
  row_long s = length-map all_bytes (λ b. target_of m s b) ∙ byte_count

  abbrev row_then : Option ℕ → List (Option ℕ) × List ℕ → (Option ℕ × List (Option ℕ)) × List ℕ
  row_then rule targets = ((rule, targets.0), drop 1 targets.1)

  abbrev accepts_then : Option ℕ × List ℕ → (Option ℕ × List (Option ℕ)) × List ℕ
  accepts_then rule = row_then rule.0 (read_row First 256 256 0 rule.1)

  state_read : (s : ℕ) (behind : List ℕ) → s < state_count m → read_state First 256 (state_line_1 m s ++ behind) ≡ with_rest (pair (accepted_by m s) (row s)) behind
  state_read s behind h =
      let rule = accepts_text (accepted_by m s) in
      let targets = byte_ranges (λ b. target_of m s b) in
      ap (λ text. accepts_then (read_accepts text)) (right_3 rule targets (codes "\n") behind)
      ∙ ap accepts_then (accepts_read (accepted_by m s) (targets ++ (10 ∷ behind)) (is.machine.rules s) (ranges_stop (row s) behind))
      ∙ ap (row_then (accepted_by m s)) (ranges_all t is (row s) behind (row_long s)
      (λ k d l. subst IsSmall (sym (value_at s k d (omega (arith, row_long s)))) (small_at s k (target_of m s k) h (omega (arith, row_long s)) refl)))

  rows_read : read_states First 256 (states_text state_line_1 m) ≡ pair m.accepted (flat_map row (range_with_len 0 (state_count m)))
  rows_read =
      states_read First 256 (state_count m) (λ s. state_line_1 m s) (λ s. accepted_by m s) row state_read (λ s h. line_is_long t is s (byte_ranges (λ b. target_of m s b))) (codes "end\n") is.machine.states
      ∙ ap (λ (xs : List (Option ℕ)). pair xs (flat_map row (range_with_len 0 (state_count m)))) (accepted_are t is)

  abbrev front_then : Front × List ℕ → Table
  front_then front = table_of front.0 all_bytes 256 (read_states First 256 front.1)

  read_again : read_1 (text_1 t) ≡ by_bytes t
  read_again =
      let front : Front = record { starts = m.starts; kinds = t.kinds; rules = t.rules } in
      ap front_then (front_read t is (states_text state_line_1 m)) ∙ ap (table_of front all_bytes 256) rows_read

  -- a text of version 1 is read as its table by bytes
  pub first_again : read_text (text_1 t) ≡ by_bytes t
  first_again = sym (text_first (text_1 t) (λ e. let f : 49 ≡ 50 = e in absurd (omega arith))) ∙ read_again
