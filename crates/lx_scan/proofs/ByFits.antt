-- By tables of a specification, the choice by answers is the choice among the rules.
use Rattle.std.proofs.Common.{◌≡◌, ℕ, zero, suc, ◌+◌, ◌-◌, ◌<◌, ◌≤◌, inl, inr, Bool, true, false, List, [], ◌∷◌, Option, Some, None, length, take, map, All, refl, sym, ap, subst, ◌∙◌, arith, if◌then◌else◌}
use Rattle.std.specs.Prelude.{IsTrue, slice_get, slice_index_or}
use Rattle.std.proofs.lemmas.Bool.{cases_lt}
use Rattle.std.proofs.lemmas.List.{take-take, length-take-le, get_or-take}
use Rattle.std.proofs.lemmas.List.Elements.{All-take}
use Rattle.std.proofs.lemmas.Option.{slice_get_within, slice_get-get_or, get_or_from_slice_get}
use Rattle.lx_rules.specs.Plain.{PlainRule, PlainSpec}
use Rattle.lx_rules.specs.Choice.{Fits, IsChoice, IsChosen, reach}
use Rattle.lx_automaton.specs.Automata.{answer}
use Rattle.lx_automaton.specs.Meaning.{IsAnswer, ReachesWhole}
use Rattle.lx_tables.specs.Model.{Table, TableRule, AreTablesOf, rule_at, table_rule}
use Rattle.lx_scan.specs.Answers.{IsByAnswers, IsAnswered, token_len}

-- ---- a fit depends on no more bytes than its reach
byte_of_front : (text : List ℕ) (read n byte : ℕ) → n < read → read ≤ length text → slice_get text n ≡ Some byte → slice_get (take read text) n ≡ Some byte
byte_of_front text read n byte below within is =
    let long : length (take read text) ≡ read = length-take-le read text within in
    slice_get-get_or (take read text) n byte (omega arith)
    ∙ ap (λ (b : ℕ). Some b) (get_or-take read text n byte below ∙ get_or_from_slice_get text n byte byte is)

byte_of_text : (text : List ℕ) (read n byte : ℕ) → n < read → read ≤ length text → slice_get (take read text) n ≡ Some byte → slice_get text n ≡ Some byte
byte_of_text text read n byte below within is =
    slice_get-get_or text n byte (omega arith)
    ∙ ap (λ (b : ℕ). Some b) (sym (get_or-take read text n byte below) ∙ get_or_from_slice_get (take read text) n byte byte is)

reach_bounds : (rule : PlainRule) (n : ℕ) → (n ≤ reach rule n) × (IsTrue rule.reading.line_end → reach rule n ≡ n + 1)
reach_bounds rule n = cases rule.reading.line_end
  where
    cases : (b : Bool) → (n ≤ (if b then n + 1 else n)) × (IsTrue b → (if b then n + 1 else n) ≡ n + 1)
    cases true = (omega arith, λ _. refl)
    cases false = (omega arith, λ t. absurd (cc))

-- a token is as long as a fit that reaches these m bytes
token_is : (line_end : Bool) (n m : ℕ) → (if line_end then n + 1 else n) ≡ m → (if line_end then m - 1 else m) ≡ n
token_is true n m e = omega arith
token_is false n m e = sym e

-- tables have the line ends of the rules
line_end_at : (rules : List PlainRule) (i : ℕ) (rule : PlainRule) (d : TableRule) → slice_get rules i ≡ Some rule → (slice_index_or (map table_rule rules) i d).line_end ≡ rule.reading.line_end
line_end_at [] i rule d at = absurd (let e : None ≡ Some rule = at in cc)
line_end_at (r ∷ rules) zero rule d at = let e : r ≡ rule = cc in ap (λ (x : PlainRule). x.reading.line_end) e
line_end_at (r ∷ rules) (suc i) rule d at = line_end_at rules i rule d at

module _ (spec : PlainSpec) (condition : ℕ) (begin : Bool) (text : List ℕ) where
  fits_front : (rule : PlainRule) (read n : ℕ) → reach rule n ≤ read → read ≤ length text → Fits spec rule condition begin text n → Fits spec rule condition begin (take read text) n
  fits_front rule read n far within f =
      let bounds = reach_bounds rule n in
      let least : n ≤ reach rule n = bounds.0 in
      let long : length (take read text) ≡ read = length-take-le read text within in
      record {
        active = f.active;
        line_begin = f.line_begin;
        not_empty = f.not_empty;
        within = omega arith;
        matches = (let short : n ≤ read = omega arith in rw (take-take n read text short) f.matches);
        line_end = λ ends. let e : reach rule n ≡ n + 1 = bounds.1 ends in byte_of_front text read n 10 (omega arith) within (f.line_end ends);
      }

  fits_text : (rule : PlainRule) (read n : ℕ) → reach rule n ≤ read → read ≤ length text → Fits spec rule condition begin (take read text) n → Fits spec rule condition begin text n
  fits_text rule read n far within f =
      let bounds = reach_bounds rule n in
      let least : n ≤ reach rule n = bounds.0 in
      record {
        active = f.active;
        line_begin = f.line_begin;
        not_empty = f.not_empty;
        within = omega arith;
        matches = (let short : n ≤ read = omega arith in rw (take-take n read text short) at f.matches);
        line_end = λ ends. let e : reach rule n ≡ n + 1 = bounds.1 ends in byte_of_text text read n 10 (omega arith) within (f.line_end ends);
      }

  -- a fit reaches no further than the text, and past its begin
  reach_within : (rule : PlainRule) (n : ℕ) → Fits spec rule condition begin text n → (0 < reach rule n) × (reach rule n ≤ length text)
  reach_within rule n f =
      let some : 0 < n = f.not_empty in
      let within : n ≤ length text = f.within in
      let newline : IsTrue rule.reading.line_end → n < length text = λ ends. slice_get_within text n 10 (f.line_end ends) in
      cases rule.reading.line_end some within newline
    where
      cases : (b : Bool) → 0 < n → n ≤ length text → (IsTrue b → n < length text) → (0 < (if b then n + 1 else n)) × ((if b then n + 1 else n) ≤ length text)
      cases true some within newline = let l : n < length text = newline refl in (omega arith, omega arith)
      cases false some within newline = (omega arith, omega arith)

  -- the reach of a fitting rule is all of the text up to there
  reaches_front : (j : ℕ) (rule : PlainRule) (n : ℕ) → slice_get spec.rules j ≡ Some rule → Fits spec rule condition begin text n → ReachesWhole spec condition begin (take (reach rule n) text) j
  reaches_front j rule n at f =
      let within : reach rule n ≤ length text = (reach_within rule n f).1 in
      record {
        rule = rule;
        at = at;
        bytes = n;
        fits = fits_front rule (reach rule n) n (omega arith) within f;
        whole = sym (length-take-le (reach rule n) text within);
      }

  module _ (table : Table) (of : AreTablesOf spec table) (known : condition < length spec.conditions) (are_bytes : All (λ b. b < 256) text) where
    answers : (m : ℕ) → IsAnswer spec condition begin (take m text) (answer table.machine condition begin (take m text))
    answers m = of.automaton.answers condition begin (take m text) known (All-take (λ b. b < 256) m text are_bytes)

    token_of : (i : ℕ) (rule : PlainRule) (n m : ℕ) → slice_get spec.rules i ≡ Some rule → reach rule n ≡ m → token_len table i m ≡ n
    token_of i rule n m at e =
        let line_end : (rule_at table i).line_end ≡ rule.reading.line_end = ap (λ (rules : List TableRule). (slice_index_or rules i (record { line_end = false; steps = [] })).line_end) of.rules ∙ line_end_at spec.rules i rule (record { line_end = false; steps = [] }) at in
        ap (λ (b : Bool). if b then m - 1 else m) line_end ∙ token_is rule.reading.line_end n m e

    -- if a rule has this reach, a rule is answered there that isn't later
    answered_at : (j : ℕ) (rule : PlainRule) (n : ℕ) → slice_get spec.rules j ≡ Some rule → Fits spec rule condition begin text n →
        (i : ℕ) × (k : ℕ) × IsAnswered table condition begin text (reach rule n) i k × (i ≤ j)
    answered_at j rule n at f = on (answer table.machine condition begin (take (reach rule n) text)) refl (answers (reach rule n))
      where
        on : (found : Option ℕ) → answer table.machine condition begin (take (reach rule n) text) ≡ found → IsAnswer spec condition begin (take (reach rule n) text) found →
            (i : ℕ) × (k : ℕ) × IsAnswered table condition begin text (reach rule n) i k × (i ≤ j)
        on None e never = absurd (never j (reaches_front j rule n at f))
        on (Some i) e first =
            let w : ReachesWhole spec condition begin (take (reach rule n) text) i = first.0 in
            let bounds = reach_within rule n f in
            let whole : reach w.rule w.bytes ≡ reach rule n = w.whole ∙ length-take-le (reach rule n) text bounds.1 in (
              i,
              w.bytes,
              record {
                some = bounds.0;
                within = bounds.1;
                answered = e;
                len = sym (token_of i w.rule w.bytes (reach rule n) w.at whole);
                token = w.fits.not_empty;
              },
              elim (cases_lt j i) [
                | inl earlier ↦ absurd (first.1 j earlier (reaches_front j rule n at f))
                | inr later ↦ later
              ],
            )

    pub choice_is : (choice : Option (ℕ × ℕ)) → IsByAnswers table condition begin text choice → IsChoice spec condition begin text choice
    choice_is None never = λ j rule n at f. let a = answered_at j rule n at f in never (reach rule n) a.0 a.1 a.2
    choice_is (Some found) g =
        let m = g.m in
        let within : m ≤ length text = g.answered.within in
        let first : IsAnswer spec condition begin (take m text) (Some found.0) = rw g.answered.answered at (answers m) in
        let w : ReachesWhole spec condition begin (take m text) found.0 = first.0 in
        let whole : reach w.rule w.bytes ≡ m = w.whole ∙ length-take-le m text within in
        let len : w.bytes ≡ found.1 = sym (token_of found.0 w.rule w.bytes m w.at whole) ∙ sym g.answered.len in
        let chosen : IsChosen spec condition begin text found.0 w.bytes = record {
          rule = w.rule;
          at = w.at;
          fits = fits_text w.rule m w.bytes (omega arith) within w.fits;
          longest = λ j other n at f.
              let a = answered_at j other n at f in
              let most : reach other n ≤ m = g.greatest (reach other n) a.0 a.1 a.2 in
              elim (cases_lt (reach other n) m) [
                | inl less ↦ inl (omega arith)
                | inr more ↦
                    let same : reach other n ≡ m = omega arith in
                    inr (
                      same ∙ sym whole,
                      elim (cases_lt j found.0) [
                        | inl earlier ↦ absurd (first.1 j earlier (subst (λ (k : ℕ). ReachesWhole spec condition begin (take k text) j) same (reaches_front j other n at f)))
                        | inr later ↦ later
                      ],
                    )
              ];
        } in
        subst (λ (n : ℕ). IsChosen spec condition begin text found.0 n) len chosen
