-- The law of an entry of the joined table: the match that ends if a step is missing is the scanner's choice, and the next match begins as the entry
-- says.
use Rattle.std.proofs.Common.{◌≡◌, ◌≢◌, ℕ, zero, suc, ◌+◌, ◌-◌, ◌<◌, ◌≤◌, Bool, true, false, nat_eq, nat_le, nat_lt, not, if◌then◌else◌, List, [], ◌∷◌, Option, Some, None, length, take, drop, refl, sym, ap, subst, ◌∙◌, arith, add-zero, length-drop}
use Rattle.std.specs.Prelude.{slice_index}
use Rattle.std.specs.Option.{option_map, option_or}
use Rattle.std.proofs.lemmas.Bool.{and_parts, eq-eqb, leb-true, lt-ltb, ne_eqb, not-true}
use Rattle.std.proofs.lemmas.List.{get_or-drop, length-take-le, take_more, take_rest}
use Rattle.lx_rules.specs.declared.rule.Step.{Step}
use Rattle.lx_rules.specs.declared.rule.Step.TheVariants.{Echo, Begin, Return}
use Rattle.lx_automaton.specs.Automata.{state_count, start_of, accepted_at, accepted_by, answer, state_after, target_of}
use Rattle.lx_tables.specs.Joined.{IsJoinedState, begun, condition_behind, condition_behind_rule, echoed, ended, is_told, item_count, rule_ended, target_from}
use Rattle.lx_tables.specs.Model.{Table, IsTable, rule_at}
use Rattle.lx_tables.specs.declared.joined.JoinedState.{JoinedState}
use Rattle.lx_scan.specs.declared.place.Match.{Match}
use Rattle.lx_scan.specs.declared.place.Place.{Place}
use Rattle.lx_scan.specs.Answers.{choice_of, furthest, match_after, token_len}
use Rattle.lx_scan.specs.Ends.{IsPlace, rule_of_code, steps_of_code, steps_of_rule}
use Rattle.lx_scan.specs.Items.{choice_at, steps_at}
use Rattle.lx_scan.specs.Matching.{GoesOn, IsFound}
use Rattle.lx_scan.specs.Steps.{condition_after, newlines}
use Rattle.lx_scan.proofs.Stepping.{HasRead, nothing_read, reads_no_more, state_after_byte}
use Rattle.lx_scan.proofs.Turns.{found_is, goes_on, newlines_both}

-- ---- lines
newlines_few : (xs : List ℕ) → newlines xs ≤ length xs
newlines_few [] = omega arith
newlines_few (x ∷ xs) = on (nat_eq x 10) (newlines_few xs)
  where
    on : (b : Bool) → newlines xs ≤ length xs → (if b then 1 else 0) + newlines xs ≤ length (x ∷ xs)
    on true h = omega arith
    on false h = omega arith

-- one byte more
pub newlines_more : (text : List ℕ) (offset place byte : ℕ) → offset ≤ place → place < length text → slice_index text place ≡ byte →
    newlines (take (place + 1 - offset) (drop offset text)) ≡ newlines (take (place - offset) (drop offset text)) + (if nat_eq byte 10 then 1 else 0)
newlines_more text offset place byte h more is =
    let long = length-drop offset text in
    let n : place + 1 - offset ≡ place - offset + 1 = omega arith in
    let there : offset + (place - offset) ≡ place = omega arith in
    let here : slice_index (drop offset text) (place - offset) ≡ byte = get_or-drop offset text (place - offset) 0 ∙ ap (λ k. slice_index text k) there ∙ is in
    let last : newlines (byte ∷ []) ≡ (if nat_eq byte 10 then 1 else 0) = add-zero (if nat_eq byte 10 then 1 else 0) in
    ap (λ k. newlines (take k (drop offset text))) n
    ∙ ap newlines (take_more (drop offset text) (place - offset) 0 (omega (arith, long)))
    ∙ newlines_both (take (place - offset) (drop offset text)) (slice_index (drop offset text) (place - offset) ∷ [])
    ∙ ap (λ b. newlines (take (place - offset) (drop offset text)) + newlines (b ∷ [])) here
    ∙ ap (λ k. newlines (take (place - offset) (drop offset text)) + k) last

-- ---- actions
lead_alike : (steps : List Step) (condition : ℕ) → condition_behind steps condition ≡ condition_after steps condition
lead_alike [] condition = refl
lead_alike (Echo ∷ steps) condition = lead_alike steps condition
lead_alike (Begin next ∷ steps) condition = lead_alike steps next
lead_alike (Return kind ∷ steps) condition = lead_alike steps condition

pub steps_alike : (table : Table) (rule : Option ℕ) (n : ℕ) → steps_at table (option_map (λ r. (r, n)) rule) ≡ steps_of_rule table rule
steps_alike table None n = refl
steps_alike table (Some rule) n = refl

-- ---- the choice if a step is missing
module _ (table : Table) (condition : ℕ) (begin : Bool) (rest : List ℕ) where
  abbrev start : Option ℕ
  start = Some (start_of table.machine condition begin)

  furthest_here : (n rule : ℕ) → 0 < n → answer table.machine condition begin (take n rest) ≡ Some rule → token_len table rule n ≡ n → furthest table condition begin rest n ≡ Some (rule, n)
  furthest_here zero rule some is len = absurd (omega arith)
  furthest_here (suc m) rule some is len =
      let token : nat_lt 0 (token_len table rule (suc m)) ≡ true = ap (λ k. nat_lt 0 k) len ∙ lt-ltb 0 (suc m) (omega arith) in
      ap (λ o. option_or (match_after table o (suc m)) (furthest table condition begin rest m)) is
      ∙ ap (λ (t : Bool). option_or (if t then Some (rule, suc m) else None) (furthest table condition begin rest m)) token

  -- the rule that is accepted there
  pub rule_chosen : (n s rule byte : ℕ) → 0 < n → n < length rest → slice_index rest n ≡ byte → s < state_count table.machine → state_after table.machine start (take n rest) ≡ Some s →
      accepted_by table.machine s ≡ Some rule → token_len table rule n ≡ n → target_of table.machine s byte ≡ None → choice_of table condition begin rest ≡ Some (rule, n)
  rule_chosen n s rule byte some more is known there accepted len missing =
      let read : HasRead table condition begin rest n s (furthest table condition begin rest n) = record { within = omega arith; known = known; there = there; furthest = refl } in
      let here : furthest table condition begin rest n ≡ Some (rule, n) = furthest_here n rule some (ap (λ o. accepted_at table.machine o) there ∙ accepted) len in
      let whole : furthest table condition begin rest (length rest) ≡ Some (rule, n) = sym (reads_no_more table condition begin rest n s byte (furthest table condition begin rest n) more is missing read) ∙ here in
      ap (λ (o : Option (ℕ × ℕ)). option_map (λ found. (found.0, token_len table found.0 found.1)) o) whole ∙ ap (λ k. Some (rule, k)) len

  -- none, if the start has no step on the first byte
  pub none_chosen : start_of table.machine condition begin < state_count table.machine → 0 < length rest → state_after table.machine start (take 1 rest) ≡ None → choice_of table condition begin rest ≡ None
  none_chosen known more none =
      let missing : target_of table.machine (start_of table.machine condition begin) (slice_index rest 0) ≡ None
      = sym (state_after_byte table.machine start rest 0 (start_of table.machine condition begin) more refl) ∙ none in
      let whole : None ≡ furthest table condition begin rest (length rest)
      = reads_no_more table condition begin rest 0 (start_of table.machine condition begin) (slice_index rest 0) None more refl missing (nothing_read table condition begin rest known) in
      ap (λ (o : Option (ℕ × ℕ)). option_map (λ found. (found.0, token_len table found.0 found.1)) o) (sym whole)

-- ---- the state of a run
module _ (table : Table) (text : List ℕ) where
  -- in a match that began at a place, with these bytes of the text read
  pub record Stands (place : Place) (read : ℕ) (q : JoinedState) : Type 0 where
    pub further : place.offset < read
    pub within : read ≤ length text
    pub condition : q.condition ≡ place.condition
    pub newline : q.newline ≡ nat_eq (slice_index text (read - 1)) 10
    pub state : state_after table.machine (Some (start_of table.machine place.condition place.at_line_begin)) (take (read - place.offset) (drop place.offset text)) ≡ q.state
    pub alone : q.state ≡ None → read ≡ place.offset + 1

  byte_there : (offset n k byte : ℕ) → offset + n ≡ k → slice_index text k ≡ byte → slice_index (drop offset text) n ≡ byte
  byte_there offset n k byte e is = get_or-drop offset text n 0 ∙ ap (λ j. slice_index text j) e ∙ is

  pub stands_begun : (place : Place) (byte : ℕ) → place.offset < length text → slice_index text place.offset ≡ byte →
      Stands place (place.offset + 1) (begun table place.condition place.at_line_begin (slice_index table.machine.classes byte) (nat_eq byte 10))
  stands_begun place byte more is =
      let rest = drop place.offset text in
      let begins = start_of table.machine place.condition place.at_line_begin in
      let long = length-drop place.offset text in
      let one : place.offset + 1 - place.offset ≡ 0 + 1 = omega arith in
      let last : place.offset ≡ place.offset + 1 - 1 = omega arith in
      record {
        further = omega arith;
        within = omega arith;
        condition = refl;
        newline = ap (λ b. nat_eq b 10) (sym is ∙ ap (λ n. slice_index text n) last);
        state = ap (λ n. state_after table.machine (Some begins) (take n rest)) one
            ∙ state_after_byte table.machine (Some begins) rest 0 begins (omega (arith, long)) refl
            ∙ ap (λ b. target_of table.machine begins b) (byte_there place.offset 0 place.offset byte (add-zero place.offset) is);
        alone = λ e. refl;
      }

  pub stands_stepped : (place : Place) (read byte t : ℕ) (q : JoinedState) → Stands place read q → read < length text → slice_index text read ≡ byte →
      target_from table.machine q.state (slice_index table.machine.classes byte) ≡ Some t → Stands place (read + 1) (record { condition = q.condition; newline = nat_eq byte 10; state = Some t })
  stands_stepped place read byte t q s more is step =
      let further = s.further in
      let n : read + 1 - place.offset ≡ read - place.offset + 1 = omega arith in
      let last : read ≡ read + 1 - 1 = omega arith in
      record {
        further = omega arith;
        within = omega arith;
        condition = s.condition;
        newline = ap (λ b. nat_eq b 10) (sym is ∙ ap (λ k. slice_index text k) last);
        state = ap (λ k. state_after table.machine (Some (start_of table.machine place.condition place.at_line_begin)) (take k (drop place.offset text))) n ∙ on q.state s.state step;
        alone = λ e. absurd (let f : Some t ≡ None = e in cc);
      }
    where
      on : (o : Option ℕ) → state_after table.machine (Some (start_of table.machine place.condition place.at_line_begin)) (take (read - place.offset) (drop place.offset text)) ≡ o → target_from table.machine o (slice_index table.machine.classes byte) ≡ Some t →
          state_after table.machine (Some (start_of table.machine place.condition place.at_line_begin)) (take (read - place.offset + 1) (drop place.offset text)) ≡ Some t
      on None there step = absurd (let f : None ≡ Some t = step in cc)
      on (Some p) there step =
          let further = s.further in
          let long = length-drop place.offset text in
          state_after_byte table.machine (Some (start_of table.machine place.condition place.at_line_begin)) (drop place.offset text) (read - place.offset) p (omega (arith, long)) there
          ∙ ap (λ b. target_of table.machine p b) (byte_there place.offset (read - place.offset) read byte (omega arith) is) ∙ step

  -- the meaning of a code for the match that has ended
  pub record Tells (place : Place) (read : ℕ) (q : JoinedState) (code : ℕ) : Type 0 where
    pub choice : choice_at table (drop place.offset text) place ≡ option_map (λ r. (r, read - place.offset)) (rule_of_code table code)
    pub condition : condition_behind_rule table (accepted_at table.machine q.state) q.condition ≡ condition_after (steps_of_code table code) place.condition
    pub known : code ≤ echoed table
    pub few : item_count (steps_of_code table code) ≤ 1
    pub alone : rule_of_code table code ≡ None → read - place.offset ≡ 1

  module _ (is : IsTable table) (place : Place) (known : place.condition < length table.machine.starts) (read byte : ℕ) (q : JoinedState) (s : Stands place read q) (there : IsJoinedState table q)
      (more : read < length text) (is_byte : slice_index text read ≡ byte) (code : ℕ) where
    abbrev rest : List ℕ
    rest = drop place.offset text

    abbrev begins : Option ℕ
    begins = Some (start_of table.machine place.condition place.at_line_begin)

    -- a byte that no rule matches
    tells_echo : q.state ≡ None → code ≡ echoed table → Tells place read q code
    tells_echo none is_code =
        let long = length-drop place.offset text in
        let further = s.further in
        let one = s.alone none in
        let len : read - place.offset ≡ 1 = omega arith in
        let rule : rule_of_code table code ≡ None = ap (λ (b : Bool). if b then None else Some (code - 1)) (eq-eqb code (echoed table) is_code) in
        let steps : steps_of_code table code ≡ Echo ∷ [] = ap (λ o. steps_of_rule table o) rule in
        record {
          choice = none_chosen table place.condition place.at_line_begin rest (is.machine.starts place.condition place.at_line_begin known) (omega (arith, long))
              (ap (λ n. state_after table.machine begins (take n rest)) (sym len) ∙ s.state ∙ none) ∙ sym (ap (λ (o : Option ℕ). option_map (λ r. (r, read - place.offset)) o) rule);
          condition = ap (λ o. condition_behind_rule table (accepted_at table.machine o) q.condition) none ∙ s.condition ∙ sym (ap (λ xs. condition_after xs place.condition) steps);
          known = omega arith;
          few = subst (λ (xs : List Step). item_count xs ≤ 1) (sym steps) (let l : item_count (Echo ∷ []) ≤ 1 = omega arith in l);
          alone = λ e. len;
        }

    -- a rule
    tells_rule : (p rule : ℕ) → q.state ≡ Some p → accepted_by table.machine p ≡ Some rule → is_told (rule_at table rule) ≡ true → target_of table.machine p byte ≡ None → code ≡ rule + 1 → Tells place read q code
    tells_rule p rule state accepted told missing is_code =
        let long = length-drop place.offset text in
        let further = s.further in
        let below : rule < length table.rules = is.accepted p rule accepted in
        let few_rules = is.few_rules in
        let parts = and_parts (not (rule_at table rule).line_end) (nat_le (item_count (rule_at table rule).steps) 1) told in
        let whole : token_len table rule (read - place.offset) ≡ read - place.offset = ap (λ (b : Bool). if b then read - place.offset - 1 else read - place.offset) (not-true (rule_at table rule).line_end parts.0) in
        let few : item_count (rule_at table rule).steps ≤ 1 = leb-true (item_count (rule_at table rule).steps) 1 parts.1 in
        let less : rule + 1 - 1 ≡ rule = omega arith in
        let is_rule : rule_of_code table code ≡ Some rule =
        ap (λ n. rule_of_code table n) is_code ∙ ap (λ (b : Bool). if b then None else Some (rule + 1 - 1)) (ne_eqb (rule + 1) (echoed table) (λ e. absurd (omega arith))) ∙ ap (λ n. Some n) less in
        let steps : steps_of_code table code ≡ (rule_at table rule).steps = ap (λ o. steps_of_rule table o) is_rule in
        record {
          choice = rule_chosen table place.condition place.at_line_begin rest (read - place.offset) p rule byte (omega arith) (omega (arith, long)) (byte_there place.offset (read - place.offset) read byte (omega arith) is_byte)
              (there.state p state) (s.state ∙ state) accepted whole missing ∙ sym (ap (λ (o : Option ℕ). option_map (λ r. (r, read - place.offset)) o) is_rule);
          condition = ap (λ o. condition_behind_rule table o q.condition) (ap (λ o. accepted_at table.machine o) state ∙ accepted)
              ∙ lead_alike (rule_at table rule).steps q.condition
              ∙ ap (λ n. condition_after (rule_at table rule).steps n) s.condition
              ∙ sym (ap (λ xs. condition_after xs place.condition) steps);
          known = omega arith;
          few = subst (λ (xs : List Step). item_count xs ≤ 1) (sym steps) few;
          alone = λ e. absurd (let f : Some rule ≡ None = sym is_rule ∙ e in cc);
        }

    tells_accepted : (p : ℕ) (accepted : Option ℕ) → q.state ≡ Some p → accepted_by table.machine p ≡ accepted → target_of table.machine p byte ≡ None → code ≡ rule_ended table accepted → code ≢ 8191 → Tells place read q code
    tells_accepted p None state accepted missing is_code told = absurd (told is_code)
    tells_accepted p (Some rule) state accepted missing is_code told = on (is_told (rule_at table rule)) refl is_code
      where
        on : (b : Bool) → is_told (rule_at table rule) ≡ b → code ≡ (if b then rule + 1 else 8191) → Tells place read q code
        on true is_true is_code = tells_rule p rule state accepted is_true missing is_code
        on false is_false is_code = absurd (told is_code)

    pub tells : target_from table.machine q.state (slice_index table.machine.classes byte) ≡ None → code ≡ ended table q.state → code ≢ 8191 → Tells place read q code
    tells missing is_code told = on q.state refl missing is_code
      where
        on : (o : Option ℕ) → q.state ≡ o → target_from table.machine o (slice_index table.machine.classes byte) ≡ None → code ≡ ended table o → Tells place read q code
        on None state missing is_code = tells_echo state is_code
        on (Some p) state missing is_code = tells_accepted p (accepted_by table.machine p) state refl missing is_code told

    abbrev pub ended_match : Match
    ended_match = record { rule = rule_of_code table code; start = place.offset; len = read - place.offset }

    -- the begin of the next match
    abbrev pub next_place : Place
    next_place = record {
      offset = read;
      condition = condition_behind_rule table (accepted_at table.machine q.state) q.condition;
      at_line_begin = q.newline;
      line = place.line + newlines (take (read - place.offset) rest);
    }

    pub goes : IsPlace table text place → Tells place read q code → GoesOn table text place ended_match next_place
    goes p t =
        let long = length-drop place.offset text in
        let further = s.further in
        let found : IsFound table rest place ended_match = found_is table is rest place ended_match (omega (arith, long)) refl (sym t.choice) t.alone in
        let few = newlines_few (take (read - place.offset) rest) in
        let taken : length (take (read - place.offset) rest) ≡ read - place.offset = length-take-le (read - place.offset) rest (omega (arith, long)) in
        goes_on table text rest place ended_match next_place is (sym (take_rest text place.offset)) (omega arith) p.known p.line_few p.line_some found (omega (arith, few, taken)) (omega arith)
        (t.condition ∙ sym (ap (λ xs. condition_after xs place.condition) (steps_alike table (rule_of_code table code) (read - place.offset))))
        (s.newline ∙ ap (λ b. nat_eq b 10) (sym (byte_there place.offset (read - place.offset - 1) (read - 1) (slice_index text (read - 1)) (omega arith) refl)))
        refl
