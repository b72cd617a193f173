-- The last place at which a rule with a token is accepted is the choice by answers.
use Rattle.std.proofs.Common.{◌≡◌, ℕ, zero, suc, ◌-◌, ◌<◌, ◌≤◌, inl, inr, Bool, true, false, List, Option, Some, None, length, take, refl, sym, subst, ◌∙◌, arith, nat_lt, if◌then◌else◌}
use Rattle.std.specs.Prelude.{MatchOption}
use Rattle.std.specs.Option.{option_map, option_or}
use Rattle.std.proofs.lemmas.Bool.{cases_lt, ltb-true, lt-ltb}
use Rattle.lx_automaton.specs.Automata.{Machine, accepted_at, accepted_by, state_after, start_of, answer}
use Rattle.lx_tables.specs.Model.{Table, IsTable, rule_at}
use Rattle.lx_scan.specs.Answers.{IsByAnswers, IsAnswered, choice_of, furthest, match_after, token_len}

module _ (table : Table) (condition : ℕ) (begin : Bool) (text : List ℕ) where
  -- after m bytes this rule is accepted, and has a token
  pub record Ends (m rule : ℕ) : Type 0 where
    pub some : 0 < m
    pub answered : answer table.machine condition begin (take m text) ≡ Some rule
    pub token : 0 < token_len table rule m

  -- m is the last such place of the first n ones
  pub record IsLast (n rule m : ℕ) : Type 0 where
    pub ends : Ends m rule
    pub within : m ≤ n
    pub last : (k other : ℕ) → k ≤ n → Ends k other → k ≤ m

  abbrev pub IsFurthest : ℕ → Option (ℕ × ℕ) → Type 0
  IsFurthest n found = MatchOption found ((k other : ℕ) → k ≤ n → Ends k other → ⊥) (λ f. IsLast n f.0 f.1)

  -- at one place more there is none
  no_more : (n : ℕ) (found : Option (ℕ × ℕ)) → ((other : ℕ) → Ends (suc n) other → ⊥) → IsFurthest n found → IsFurthest (suc n) found
  no_more n None none f = λ k other small ends. elim (cases_lt k (suc n)) [
    | inl less ↦ f k other (omega arith) ends
    | inr more ↦ let same : k ≡ suc n = omega arith in none other (subst (λ (j : ℕ). Ends j other) same ends)
  ]
  no_more n (Some found) none f = record {
    ends = f.ends;
    within = (let h : found.1 ≤ n = f.within in omega arith);
    last = λ k other small ends. elim (cases_lt k (suc n)) [
      | inl less ↦ f.last k other (omega arith) ends
      | inr more ↦ let same : k ≡ suc n = omega arith in absurd (none other (subst (λ (j : ℕ). Ends j other) same ends))
    ];
  }

  place_more : (n : ℕ) (found : Option (ℕ × ℕ)) (a : Option ℕ) → answer table.machine condition begin (take (suc n) text) ≡ a → IsFurthest n found → IsFurthest (suc n) (option_or (match_after table a (suc n)) found)
  place_more n found None is f = no_more n found (λ other ends. absurd (let e : None ≡ Some other = sym is ∙ ends.answered in cc)) f
  place_more n found (Some rule) is f = on (nat_lt 0 (token_len table rule (suc n))) refl
    where
      on : (has : Bool) → nat_lt 0 (token_len table rule (suc n)) ≡ has → IsFurthest (suc n) (option_or (if has then Some (rule, suc n) else None) found)
      on true has = record {
        ends = record { some = omega arith; answered = is; token = ltb-true 0 (token_len table rule (suc n)) has };
        within = omega arith;
        last = λ k other small ends. small;
      }
      on false has = no_more n found (λ other ends.
          let e : Some rule ≡ Some other = sym is ∙ ends.answered in
          let same : rule ≡ other = cc in
          let token : 0 < token_len table rule (suc n) = subst (λ (r : ℕ). 0 < token_len table r (suc n)) (sym same) ends.token in
          let lit = lt-ltb 0 (token_len table rule (suc n)) token in
          absurd (let no_bool : true ≡ false = sym lit ∙ has in cc)) f

  pub furthest_is : (n : ℕ) → IsFurthest n (furthest table condition begin text n)
  furthest_is zero = λ k other small ends. let some = ends.some in absurd (omega arith)
  furthest_is (suc n) = place_more n (furthest table condition begin text n) (answer table.machine condition begin (take (suc n) text)) refl (furthest_is n)

  ends_of : (m rule n : ℕ) → IsAnswered table condition begin text m rule n → Ends m rule
  ends_of m rule n a = record { some = a.some; answered = a.answered; token = subst (λ (k : ℕ). 0 < k) a.len a.token }

  -- The choice that a scanner makes is the one by answers.
  pub by_answers : IsByAnswers table condition begin text (choice_of table condition begin text)
  by_answers = on (furthest table condition begin text (length text)) (furthest_is (length text))
    where
      on : (found : Option (ℕ × ℕ)) → IsFurthest (length text) found → IsByAnswers table condition begin text (option_map (λ f. (f.0, token_len table f.0 f.1)) found)
      on None never = λ m rule n a. never m rule a.within (ends_of m rule n a)
      on (Some f) last = record {
        m = f.1;
        answered = record { some = last.ends.some; within = last.within; answered = last.ends.answered; len = refl; token = last.ends.token };
        greatest = λ k other l a. last.last k other a.within (ends_of k other l a);
      }

-- ---- a rule that is answered exists
answered_known : (m : Machine) (rules : ℕ) → ((s r : ℕ) → accepted_by m s ≡ Some r → r < rules) → (s : Option ℕ) (rule : ℕ) → accepted_at m s ≡ Some rule → rule < rules
answered_known m rules known None rule e = absurd (let f : None ≡ Some rule = e in cc)
answered_known m rules known (Some s) rule e = known s rule e

token_within : (line_end : Bool) (m : ℕ) → (if line_end then m - 1 else m) ≤ m
token_within true m = omega arith
token_within false m = omega arith

-- the rule that is accepted furthest on exists
pub accepted_known : (table : Table) → IsTable table → (condition : ℕ) (begin : Bool) (text : List ℕ) (rule read : ℕ) → furthest table condition begin text (length text) ≡ Some (rule, read) → (rule < length table.rules) × (0 < read)
accepted_known table is condition begin text rule read e =
    let last : IsLast table condition begin text (length text) rule read = subst (λ (o : Option (ℕ × ℕ)). IsFurthest table condition begin text (length text) o) e (furthest_is table condition begin text (length text)) in
    (answered_known table.machine (length table.rules) is.accepted (state_after table.machine (Some (start_of table.machine condition begin)) (take read text)) rule last.ends.answered, last.ends.some)

-- The choice by answers is a rule that exists, and a token in the text, of one byte at least.
pub record IsThere (table : Table) (text : List ℕ) (rule n : ℕ) : Type 0 where
  pub below : rule < length table.rules
  pub some : 0 < n
  pub within : n ≤ length text

pub chosen_there : (table : Table) → IsTable table → (condition : ℕ) (begin : Bool) (text : List ℕ) (rule n : ℕ) → IsByAnswers table condition begin text (Some (rule, n)) → IsThere table text rule n
chosen_there table is condition begin text rule n g =
    let a = g.answered in
    let len : n ≡ token_len table rule g.m = a.len in
    let less : token_len table rule g.m ≤ g.m = token_within (rule_at table rule).line_end g.m in
    let small : g.m ≤ length text = a.within in
    record {
      below = answered_known table.machine (length table.rules) is.accepted (state_after table.machine (Some (start_of table.machine condition begin)) (take g.m text)) rule a.answered;
      some = a.token;
      within = omega arith;
    }
