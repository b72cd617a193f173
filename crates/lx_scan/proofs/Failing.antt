-- Runs over the rest of a text, and the states from which nothing more is accepted.
use Rattle.std.proofs.Common.{◌≡◌, ℕ, zero, suc, ◌+◌, ◌-◌, ◌<◌, ◌≤◌, Bool, List, ◌∷◌, Option, Some, None, length, take, drop, refl, sym, ap, ◌∙◌, arith}
use Rattle.std.specs.Prelude.{slice_index}
use Rattle.std.specs.Option.{option_or}
use Rattle.std.proofs.lemmas.List.{drop_more, length-drop}
use Rattle.std.proofs.Math.Seq.{take-add}
use Rattle.lx_automaton.specs.Automata.{Machine, accepted_at, accepted_by, answer, answer_from, start_of, state_after, target_of}
use Rattle.lx_tables.specs.Model.{Table}
use Rattle.lx_scan.specs.Answers.{furthest, match_after}
use Rattle.lx_scan.specs.Failing.{IsFailed}
use Rattle.lx_scan.proofs.Stepping.{HasRead, state_after_both}

-- ---- one byte
--  the answers of a state, with a missing step and with a step
answers_none : (m : Machine) (w : List ℕ) → accepted_at m (state_after m None w) ≡ None
answers_none m w = refl

answers_step : (m : Machine) (s b : ℕ) (o : Option ℕ) (w : List ℕ) → target_of m s b ≡ o → answer_from m s (b ∷ w) ≡ accepted_at m (state_after m o w)
answers_step m s b o w e = ap (λ (p : Option ℕ). accepted_at m (state_after m p w)) e

module _ (m : Machine) (text : List ℕ) (at s : ℕ) (more : at < length text) where
  abbrev byte : ℕ
  byte = slice_index text at

  -- the first bytes of the rest of the text
  reads_byte : (k : ℕ) → take (suc k) (drop at text) ≡ byte ∷ take k (drop (at + 1) text)
  reads_byte k = ap (λ (xs : List ℕ). take (suc k) xs) (drop_more text at 0 more)

  shorter : (k : ℕ) → suc k ≤ length (drop at text) → k ≤ length (drop (at + 1) text)
  shorter k h = omega (arith, h, length-drop at text, length-drop (at + 1) text)

  longer : (k : ℕ) → k ≤ length (drop (at + 1) text) → suc k ≤ length (drop at text)
  longer k h = omega (arith, h, more, length-drop at text, length-drop (at + 1) text)

  -- no step, and nothing is accepted
  pub fails_stuck : target_of m s byte ≡ None → IsFailed m (drop at text) s
  fails_stuck missing = record { silent = none }
    where
      none : (k : ℕ) → 0 < k → k ≤ length (drop at text) → answer_from m s (take k (drop at text)) ≡ None
      none zero some within = absurd (omega arith)
      none (suc k) some within = ap (λ (w : List ℕ). answer_from m s w) (reads_byte k) ∙ answers_step m s byte None (take k (drop (at + 1) text)) missing

  -- a failed state steps to one
  pub fails_on : (t : ℕ) → target_of m s byte ≡ Some t → IsFailed m (drop at text) s → IsFailed m (drop (at + 1) text) t
  fails_on t step f = record {
    silent = λ k some within.
        sym (ap (λ (w : List ℕ). answer_from m s w) (reads_byte k) ∙ answers_step m s byte (Some t) (take k (drop (at + 1) text)) step)
        ∙ f.silent (suc k) (omega arith) (longer k within);
  }

  -- one that steps to a failed state, which accepts nothing itself, has failed
  pub fails_back : (t : ℕ) → target_of m s byte ≡ Some t → accepted_by m t ≡ None → IsFailed m (drop (at + 1) text) t → IsFailed m (drop at text) s
  fails_back t step none f = record { silent = silent }
    where
      behind : (k : ℕ) → k ≤ length (drop (at + 1) text) → answer_from m t (take k (drop (at + 1) text)) ≡ None
      behind zero within = none
      behind (suc k) within = f.silent (suc k) (omega arith) within

      silent : (k : ℕ) → 0 < k → k ≤ length (drop at text) → answer_from m s (take k (drop at text)) ≡ None
      silent zero some within = absurd (omega arith)
      silent (suc k) some within = ap (λ (w : List ℕ). answer_from m s w) (reads_byte k) ∙ answers_step m s byte (Some t) (take k (drop (at + 1) text)) step ∙ behind k (shorter k within)

-- at the end of the text nothing is left to be accepted
pub fails_end : (m : Machine) (text : List ℕ) (at s : ℕ) → length text ≤ at → IsFailed m (drop at text) s
fails_end m text at s end = record { silent = λ k some within. absurd (omega (arith, some, within, length-drop at text)) }

-- ---- a run
module _ (table : Table) (condition : ℕ) (begin : Bool) (rest : List ℕ) where
  -- if nothing more is accepted, the last match is the furthest one
  silent_further : (read state : ℕ) (last : Option (ℕ × ℕ)) → HasRead table condition begin rest read state last → IsFailed table.machine (drop read rest) state →
      (k n : ℕ) → k + read ≡ n → n ≤ length rest → last ≡ furthest table condition begin rest n
  silent_further read state last r f zero n e within = let same : read ≡ n = omega arith in r.furthest ∙ ap (λ (j : ℕ). furthest table condition begin rest j) same
  silent_further read state last r f (suc k) zero e within = absurd (omega arith)
  silent_further read state last r f (suc k) (suc n) e within =
      let start = Some (start_of table.machine condition begin) in
      let both : suc n ≡ read + suc k = omega arith in
      let leads : state_after table.machine start (take (suc n) rest) ≡ state_after table.machine (Some state) (take (suc k) (drop read rest))
      = ap (λ (j : ℕ). state_after table.machine start (take j rest)) both
      ∙ ap (λ (w : List ℕ). state_after table.machine start w) (take-add read (suc k) rest)
      ∙ state_after_both table.machine start (take read rest) (take (suc k) (drop read rest))
      ∙ ap (λ (o : Option ℕ). state_after table.machine o (take (suc k) (drop read rest))) r.there in
      let silent : answer table.machine condition begin (take (suc n) rest) ≡ None
      = ap (λ (o : Option ℕ). accepted_at table.machine o) leads ∙ f.silent (suc k) (omega arith) (omega (arith, both, within, length-drop read rest)) in
      silent_further read state last r f k n (omega arith) (omega arith)
      ∙ sym (ap (λ (o : Option ℕ). option_or (match_after table o (suc n)) (furthest table condition begin rest n)) silent)

  pub reads_in_vain : (read state : ℕ) (last : Option (ℕ × ℕ)) → HasRead table condition begin rest read state last → IsFailed table.machine (drop read rest) state → last ≡ furthest table condition begin rest (length rest)
  reads_in_vain read state last r f = let within = r.within in silent_further read state last r f (length rest - read) (length rest) (omega arith) (omega arith)
