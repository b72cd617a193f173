-- Walks over the bytes of a match in progress, whatever bytes follow.
use Rattle.std.proofs.Common.{◌≡◌, ℕ, zero, suc, ◌+◌, ◌-◌, ◌<◌, ◌≤◌, ◌==◌, ◌&&◌, inl, inr, nat_lt, if◌then◌else◌, Bool, false, true, List, [], ◌∷◌, ◌++◌, Option, Some, None, length, take, drop, refl, sym, ap, ap₂, subst, ◌∙◌, arith}
use Rattle.std.specs.Prelude.{IsTrue, MatchOption, ◌*◌, ◌/◌, nat_eq, replicate, slice_index}
use Rattle.std.specs.Option.{option_map, option_or, ForSome}
use Rattle.std.proofs.lemmas.Bool.{and_parts, cases_lt, eqb-true, ltb-true}
use Rattle.std.proofs.lemmas.List.{append-nil, append_assoc, drop-append-le, get_or-append_right, get_or_append_left, get_or_past, length-append, length-drop, take-append-le, take_all, take_rest}
use Rattle.lx_automaton.specs.Automata.{Machine, accepted_by, answer, are_numbered, class_target, start_of, state_after, state_count, target_of}
use Rattle.lx_tables.specs.Model.{IsTable, Table}
use Rattle.lx_scan.specs.declared.memory.FailedState.{FailedState}
use Rattle.lx_scan.specs.declared.memory.ScanMemory.{ScanMemory}
use Rattle.lx_scan.specs.declared.place.Match.{Match}
use Rattle.lx_scan.specs.declared.place.Place.{Place}
use Rattle.lx_scan.specs.Answers.{furthest, match_after, token_len}
use Rattle.lx_scan.specs.Failing.{AreFailed, IsFailed, IsMemoryOf}
use Rattle.lx_scan.specs.Items.{steps_at}
use Rattle.lx_scan.specs.Matching.{GoesOn, IsFound, choice_in}
use Rattle.lx_scan.specs.Steps.{condition_after, newlines}
use Rattle.lx_scan.specs.Streams.{GoesOnBy, IsDecided, IsOpenMemory, IsSilentSince, IsStopped, IsWalked}
use Rattle.lx_scan.proofs.Choosing.{accepted_known}
use Rattle.lx_scan.proofs.Failing.{fails_back, fails_end, fails_on, fails_stuck, reads_in_vain}
use Rattle.lx_scan.proofs.Stepping.{HasRead, reads_on}
use Rattle.lx_scan.proofs.Turns.{drop_further, found_is, goes_on, takes}

-- ---- bytes that follow
furthest_more : (table : Table) (condition : ℕ) (begin : Bool) (held rest : List ℕ) (n : ℕ) → n ≤ length held →
    furthest table condition begin (held ++ rest) n ≡ furthest table condition begin held n
furthest_more table condition begin held rest zero few = refl
furthest_more table condition begin held rest (suc n) few =
    ap₂ (λ (w : List ℕ) (o : Option (ℕ × ℕ)). option_or (match_after table (answer table.machine condition begin w) (suc n)) o)
    (take-append-le (suc n) held rest few) (furthest_more table condition begin held rest n (omega arith))

module _ (table : Table) (place : Place) (held : List ℕ) where
  -- the same walk over the bytes with others after them
  read_of : (rest : List ℕ) (read state : ℕ) (last : Option (ℕ × ℕ)) → IsWalked table place held read state last → HasRead table place.condition place.at_line_begin (held ++ rest) read state last
  read_of rest read state last w =
      let within : read ≤ length held = w.within in
      record {
        within = omega (arith, within, length-append held rest);
        known = w.known;
        there = ap (λ (u : List ℕ). state_after table.machine (Some (start_of table.machine place.condition place.at_line_begin)) u) (take-append-le read held rest within) ∙ w.there;
        furthest = w.furthest ∙ sym (furthest_more table place.condition place.at_line_begin held rest read within);
      }

  -- a block is fed
  pub walk_more : (rest : List ℕ) (read state : ℕ) (last : Option (ℕ × ℕ)) → IsWalked table place held read state last → IsWalked table place (held ++ rest) read state last
  walk_more rest read state last w =
      let r = read_of rest read state last w in
      record { within = r.within; known = r.known; there = r.there; furthest = r.furthest }

  pub walk_begun : start_of table.machine place.condition place.at_line_begin < state_count table.machine → IsWalked table place held 0 (start_of table.machine place.condition place.at_line_begin) None
  walk_begun known = record { within = omega arith; known = known; there = refl; furthest = refl }

  -- the tables step to a state
  pub walks_on : (read state next : ℕ) (last new : Option (ℕ × ℕ)) → read < length held → Some next ≡ target_of table.machine state (slice_index held read) → next < state_count table.machine →
      new ≡ option_or (match_after table (accepted_by table.machine next) (read + 1)) last → IsWalked table place held read state last → IsWalked table place held (read + 1) next new
  walks_on read state next last new more step known is_new w =
      let r : HasRead table place.condition place.at_line_begin held (read + 1) next new
      = reads_on table place.condition place.at_line_begin held read state next last new more step known is_new (record { within = w.within; known = w.known; there = w.there; furthest = w.furthest }) in
      record { within = r.within; known = r.known; there = r.there; furthest = r.furthest }

  -- nothing is accepted since the begin
  pub silent_begun : (m : Machine) (state : ℕ) → state < state_count m → IsSilentSince m held 0 state 0 state
  silent_begun m state known = record { order = omega arith; known = known; silent = λ rest f. f }

  -- ---- the end of a walk
  --  nothing more is accepted: the rule is decided
  pub walk_decided : (ended : Bool) (read state : ℕ) (last : Option (ℕ × ℕ)) → IsWalked table place held read state last → IsStopped table.machine held ended read state → IsDecided table place held ended last
  walk_decided ended read state last w stopped = record {
    last_is = λ rest end. reads_in_vain table place.condition place.at_line_begin (held ++ rest) read state last (read_of rest read state last w) (stopped.failed rest end);
  }

module _ (m : Machine) (held : List ℕ) where
  further_byte : (rest : List ℕ) (read : ℕ) → read < length held → slice_index (held ++ rest) read ≡ slice_index held read
  further_byte rest read more = get_or_append_left held rest 0 read more

  longer : (rest : List ℕ) (read : ℕ) → read < length held → read < length (held ++ rest)
  longer rest read more = omega (arith, more, length-append held rest)

  -- a step is missing
  pub stopped_stuck : (ended : Bool) (read state : ℕ) → read < length held → target_of m state (slice_index held read) ≡ None → IsStopped m held ended read state
  stopped_stuck ended read state more missing = record {
    failed = λ rest end. fails_stuck m (held ++ rest) read state (longer rest read more) (ap (λ (b : ℕ). target_of m state b) (further_byte rest read more) ∙ missing);
  }

  -- the text ends after the bytes
  pub stopped_ended : (read state : ℕ) → read ≡ length held → IsStopped m held true read state
  stopped_ended read state all = record {
    failed = λ rest end.
        let none : rest ≡ [] = end refl in
        fails_end m (held ++ rest) read state (let len = length-append held rest in let empty : length rest ≡ 0 = ap length none in omega arith);
  }

  -- the walk has stopped, or all of the text was read
  stopped_or_all : (read state : ℕ) (is_stopped : Bool) → (is_stopped ≡ true → IsStopped m held true read state) → (is_stopped ≡ false → read ≡ length held) → IsStopped m held true read state
  stopped_or_all read state true stopped all = stopped refl
  stopped_or_all read state false stopped all = stopped_ended read state (all refl)

  -- no byte has a step after them
  pub stopped_dead : (ended : Bool) (read state : ℕ) → read ≡ length held → ((byte : ℕ) → target_of m state byte ≡ None) → IsStopped m held ended read state
  stopped_dead ended read state all dead = record { failed = λ rest end. on rest }
    where
      on : (rest : List ℕ) → IsFailed m (drop read (held ++ rest)) state
      on [] = fails_end m (held ++ []) read state (omega (arith, all, length-append held []))
      on (byte ∷ rest) = fails_stuck m (held ++ byte ∷ rest) read state (let len = length-append held (byte ∷ rest) in omega arith) (dead (slice_index (held ++ byte ∷ rest) read))

  -- one step further
  pub silent_on : (read state next since back since_new back_new : ℕ) → read < length held → target_of m state (slice_index held read) ≡ Some next → next < state_count m →
      MatchOption (accepted_by m next) ((since_new ≡ since) × (back_new ≡ back)) (λ _. (since_new ≡ read + 1) × (back_new ≡ next)) → IsSilentSince m held read state since back →
      IsSilentSince m held (read + 1) next since_new back_new
  silent_on read state next since back since_new back_new more step known since_is s = on (accepted_by m next) refl since_is
    where
      on : (a : Option ℕ) → accepted_by m next ≡ a → MatchOption a ((since_new ≡ since) × (back_new ≡ back)) (λ _. (since_new ≡ read + 1) × (back_new ≡ next)) → IsSilentSince m held (read + 1) next since_new back_new
      on None none same =
          let order = s.order in
          let place : since_new ≡ since = same.0 in
          record {
            order = omega arith;
            known = subst (λ (n : ℕ). n < state_count m) (sym same.1) s.known;
            silent = λ rest f.
                let before : IsFailed m (drop since (held ++ rest)) back
                = s.silent rest (fails_back m (held ++ rest) read state (longer rest read more) next (ap (λ (b : ℕ). target_of m state b) (further_byte rest read more) ∙ step) none f) in
                subst (λ (n : ℕ). IsFailed m (drop n (held ++ rest)) back_new) (sym same.0) (subst (λ (n : ℕ). IsFailed m (drop since (held ++ rest)) n) (sym same.1) before);
          }
      on (Some rule) accepted here =
          let place : since_new ≡ read + 1 = here.0 in
          record {
            order = omega arith;
            known = subst (λ (n : ℕ). n < state_count m) (sym here.1) known;
            silent = λ rest f. subst (λ (n : ℕ). IsFailed m (drop n (held ++ rest)) back_new) (sym here.0) (subst (λ (n : ℕ). IsFailed m (drop (read + 1) (held ++ rest)) n) (sym here.1) f);
          }

  -- a block is fed
  pub silent_more : (block : List ℕ) (read state since back : ℕ) → IsSilentSince m held read state since back → IsSilentSince m (held ++ block) read state since back
  silent_more block read state since back s = record {
    order = s.order;
    known = s.known;
    silent = λ rest f.
        let same = append_assoc held block rest in
        subst (λ (w : List ℕ). IsFailed m (drop since w) back) (sym same) (s.silent (block ++ rest) (subst (λ (w : List ℕ). IsFailed m (drop read w) state) same f));
  }

-- a walk over all of a text that was stopped, or has read all
pub whole_decided : (table : Table) (place : Place) (held : List ℕ) (read state : ℕ) (last : Option (ℕ × ℕ)) (is_stopped : Bool) → IsWalked table place held read state last →
    (is_stopped ≡ true → IsStopped table.machine held true read state) → (is_stopped ≡ false → read ≡ length held) → IsDecided table place held true last
whole_decided table place held read state last is_stopped walked stopped all =
    walk_decided table place held true read state last walked (stopped_or_all table.machine held read state is_stopped stopped all)

-- ---- a memory of the bytes
module _ (table : Table) (bytes : List ℕ) (ended : Bool) where
  -- the bytes that are held, from a position on
  behind : (start n : ℕ) (rest : List ℕ) → start ≤ length bytes → drop (start + n) (bytes ++ rest) ≡ drop n (drop start bytes ++ rest)
  behind start n rest within = sym (drop_further (bytes ++ rest) start n) ∙ ap (λ (w : List ℕ). drop n w) (drop-append-le start bytes rest within)

  -- the memory knows that nothing more is accepted
  pub stopped_known : (start read state : ℕ) (memory : ScanMemory) → start ≤ length bytes → IsOpenMemory table bytes ended memory →
      ((t : Table) (text : List ℕ) → IsMemoryOf t text memory → IsFailed t.machine (drop (start + read) text) state) → IsStopped table.machine (drop start bytes) ended read state
  stopped_known start read state memory within is known = record {
    failed = λ rest end. subst (λ (w : List ℕ). IsFailed table.machine w state) (behind start read rest within) (known table (bytes ++ rest) (is.is_memory rest end));
  }

  -- each remembered state is failed in each text
  pub remembered : (before after : ScanMemory) (at state : ℕ) → IsOpenMemory table bytes ended before → ((rest : List ℕ) → (ended ≡ true → rest ≡ []) → IsFailed table.machine (drop at (bytes ++ rest)) state) →
      ((t : Table) (text : List ℕ) → IsMemoryOf t text before → IsFailed t.machine (drop at text) state → IsMemoryOf t text after) → IsOpenMemory table bytes ended after
  remembered before after at state is failed keeps = record { is_memory = λ rest end. keeps table (bytes ++ rest) (is.is_memory rest end) (failed rest end) }

  -- nothing is forgotten
  pub grown : (before after : ScanMemory) → IsOpenMemory table bytes ended before → ((t : Table) (text : List ℕ) → IsMemoryOf t text before → IsMemoryOf t text after) → IsOpenMemory table bytes ended after
  grown before after is keeps = record { is_memory = λ rest end. keeps table (bytes ++ rest) (is.is_memory rest end) }

  -- the bytes since the walk accepted last
  pub failed_since : (start read state since back : ℕ) → start ≤ length bytes → IsSilentSince table.machine (drop start bytes) read state since back → IsStopped table.machine (drop start bytes) ended read state →
      (rest : List ℕ) → (ended ≡ true → rest ≡ []) → IsFailed table.machine (drop (start + since) (bytes ++ rest)) back
  failed_since start read state since back within s stopped rest end =
      subst (λ (w : List ℕ). IsFailed table.machine w back) (sym (behind start since rest within)) (s.silent rest (stopped.failed rest end))

  -- one byte further
  pub failed_on : (at state next : ℕ) → at < length bytes → target_of table.machine state (slice_index bytes at) ≡ Some next → ((rest : List ℕ) → (ended ≡ true → rest ≡ []) → IsFailed table.machine (drop at (bytes ++ rest)) state) →
      (rest : List ℕ) → (ended ≡ true → rest ≡ []) → IsFailed table.machine (drop (at + 1) (bytes ++ rest)) next
  failed_on at state next more step failed rest end =
      fails_on table.machine (bytes ++ rest) at state (longer table.machine bytes rest at more) next (ap (λ (b : ℕ). target_of table.machine state b) (further_byte table.machine bytes rest at more) ∙ step) (failed rest end)

-- more room for marks
zeros : (k i : ℕ) → slice_index (replicate k 0) i ≡ 0
zeros zero i = refl
zeros (suc k) zero = refl
zeros (suc k) (suc i) = zeros k i

same_mark : (marks new : List ℕ) (n k slot : ℕ) (is_grown : Bool) → length marks ≤ n → new ≡ (if is_grown then take n marks ++ replicate k 0 else marks) → 0 < slice_index new slot → slice_index new slot ≡ slice_index marks slot
same_mark marks new n k slot false few is some = ap (λ (xs : List ℕ). slice_index xs slot) is
same_mark marks new n k slot true few is some =
    let here : slice_index new slot ≡ slice_index (marks ++ replicate k 0) slot
    = ap (λ (xs : List ℕ). slice_index xs slot) (is ∙ ap (λ (xs : List ℕ). xs ++ replicate k 0) (take_all n marks few)) in
    elim (cases_lt slot (length marks)) as (λ _. slice_index new slot ≡ slice_index marks slot) [
      | inl less ↦ here ∙ get_or_append_left marks (replicate k 0) 0 slot less
      | inr more ↦ absurd (let none : slice_index new slot ≡ 0 = here ∙ get_or-append_right marks (replicate k 0) (length marks) slot 0 refl more ∙ zeros k (slot - length marks) in omega arith)
    ]

pub more_marks : (table : Table) (text marks new : List ℕ) (others : List (Option FailedState)) (n k : ℕ) (is_grown : Bool) → length marks ≤ n → new ≡ (if is_grown then take n marks ++ replicate k 0 else marks) →
    AreFailed table text marks others → AreFailed table text new others
more_marks table text marks new others n k is_grown few is m = record {
  kept = λ slot some.
      let same = same_mark marks new n k slot is_grown few is some in
      subst (λ (mark : ℕ). IsFailed table.machine (drop (slot / 4 * 32) text) (mark - 1)) (sym same) (m.kept slot (subst (λ (mark : ℕ). 0 < mark) same some));
  beside = m.beside;
}

-- a block is fed
pub memory_more : (table : Table) (bytes block : List ℕ) (memory : ScanMemory) (ended : Bool) → ended ≡ false → IsOpenMemory table bytes ended memory → IsOpenMemory table (bytes ++ block) ended memory
memory_more table bytes block memory ended going is = record {
  is_memory = λ rest end.
      subst (λ (text : List ℕ). IsMemoryOf table text memory) (sym (append_assoc bytes block rest)) (is.is_memory (block ++ rest) (λ e. absurd (let no : true ≡ false = sym e ∙ going in cc)));
}

-- ---- a state without a step
first_class : (width : ℕ) (classes : List ℕ) → IsTrue (are_numbered 0 width classes) → slice_index classes 0 ≡ 0
first_class width [] numbered = refl
first_class width (class ∷ more) numbered = on (class == 0) refl numbered
  where
    on : (same : Bool) → class == 0 ≡ same → (if same then are_numbered (0 + 1) width more else nat_lt class 0 && are_numbered 0 width more) ≡ true → class ≡ 0
    on true same numbered = eqb-true class 0 same
    on false other numbered = absurd (let p = and_parts (nat_lt class 0) (are_numbered 0 width more) numbered in let less : class < 0 = ltb-true class 0 p.0 in omega arith)

-- a state that has no step on a byte has none on any number
pub no_step : (m : Machine) (state : ℕ) → length m.classes ≡ 256 → IsTrue (are_numbered 0 m.width m.classes) → ((byte : ℕ) → byte < 256 → target_of m state byte ≡ None) → (byte : ℕ) → target_of m state byte ≡ None
no_step m state bytes numbered none byte = elim (cases_lt byte 256) [
  | inl less ↦ none byte less
  | inr more ↦
      let class : slice_index m.classes byte ≡ slice_index m.classes 0 = get_or_past m.classes byte 0 (omega arith) ∙ sym (first_class m.width m.classes numbered) in
      ap (λ (class : ℕ). class_target m state class) class ∙ none 0 (omega arith)
]

-- a memory of the text, which ends after the bytes
pub memory_whole : (table : Table) (text : List ℕ) (memory : ScanMemory) → IsOpenMemory table text true memory → IsMemoryOf table text memory
memory_whole table text memory is = subst (λ (w : List ℕ). IsMemoryOf table w memory) (append-nil text) (is.is_memory [] (λ e. refl))

pub ruleset walk_steps = (walk_begun, silent_begun)

-- ---- the match that is decided
module _ (table : Table) (is : IsTable table) (place : Place) (held : List ℕ) (ended : Bool) (last : Option (ℕ × ℕ)) (d : IsDecided table place held ended last) where
  pub furthest_held : last ≡ furthest table place.condition place.at_line_begin held (length held)
  furthest_held = d.last_is [] (λ e. refl) ∙ ap (λ (w : List ℕ). furthest table place.condition place.at_line_begin w (length w)) (append-nil held)

  pub rule_known : ForSome last (λ f. (f.0 < length table.rules) × (0 < f.1))
  rule_known = λ f e. accepted_known table is place.condition place.at_line_begin held f.0 f.1 (sym furthest_held ∙ e)

  -- the match is found, whatever bytes follow
  found_with : (rest : List ℕ) (m : Match) → 0 < length held → (ended ≡ true → rest ≡ []) → m.start ≡ place.offset → choice_in m ≡ option_map (λ f. (f.0, token_len table f.0 f.1)) last → (m.rule ≡ None → m.len ≡ 1) →
      IsFound table (held ++ rest) place m
  found_with rest m more end start choice alone =
      found_is table is (held ++ rest) place m (omega (arith, more, length-append held rest)) start
      (choice ∙ ap (λ (o : Option (ℕ × ℕ)). option_map (λ f. (f.0, token_len table f.0 f.1)) o) (d.last_is rest end)) alone

  pub found_held : (m : Match) → 0 < length held → m.start ≡ place.offset → choice_in m ≡ option_map (λ f. (f.0, token_len table f.0 f.1)) last → (m.rule ≡ None → m.len ≡ 1) → IsFound table held place m
  found_held m more start choice alone = subst (λ (w : List ℕ). IsFound table w place m) (append-nil held) (found_with [] m more (λ e. refl) start choice alone)

  pub goes_on_by : (m : Match) (next : Place) → 0 < length held → place.condition < length table.machine.starts → place.line ≤ place.offset + 1 → 1 ≤ place.line →
      m.start ≡ place.offset → choice_in m ≡ option_map (λ f. (f.0, token_len table f.0 f.1)) last → (m.rule ≡ None → m.len ≡ 1) → next.line ≤ place.line + m.len →
      next.offset ≡ place.offset + m.len → next.condition ≡ condition_after (steps_at table (choice_in m)) place.condition →
      next.at_line_begin ≡ nat_eq (slice_index held (m.len - 1)) 10 → next.line ≡ place.line + newlines (take m.len held) → GoesOnBy table place held ended m next
  goes_on_by m next more known line_few line_some start choice alone few offset condition begin line = record {
    start = start;
    some = some;
    within = inside;
    rule = found.rule;
    offset = offset;
    known = subst (λ (n : ℕ). n < length table.machine.starts) (sym condition) (takes table is held place (choice_in m) more known found.by_answers).known;
    line_some = omega (arith, line, line_some);
    line_few = omega (arith, line_few, few, offset);
    goes_on = there;
  }
    where
      found : IsFound table held place m
      found = found_held m more start choice alone

      inside : m.len ≤ length held
      inside = found.within

      some : 0 < m.len
      some = found.some

      there : (text rest : List ℕ) → place.offset ≤ length text → drop place.offset text ≡ held ++ rest → (ended ≡ true → rest ≡ []) → GoesOn table text place m next
      there text rest within is_rest end =
          let long = length-drop place.offset text in
          let both = length-append held rest in
          let same : length (drop place.offset text) ≡ length (held ++ rest) = ap length is_rest in
          goes_on table text (held ++ rest) place m next is (sym is_rest ∙ sym (take_rest text place.offset)) (omega arith) known line_few line_some
          (found_with rest m more end start choice alone) few offset condition
          (begin ∙ ap (λ (b : ℕ). nat_eq b 10) (sym (get_or_append_left held rest 0 (m.len - 1) (omega (arith, inside, some)))))
          (line ∙ ap (λ (w : List ℕ). place.line + newlines w) (sym (take-append-le m.len held rest inside)))
