-- The rules that are the choice for some text.
use Rattle.std.proofs.Common.{◌≡◌, ℕ, zero, suc, ◌-◌, ◌<◌, ◌≤◌, Bool, true, false, not, List, Option, Some, None, length, take, replicate, slice_index, slice_index_or, refl, sym, ◌∙◌, ap, subst, arith, inl, inr, ◌||◌, nat_lt, if◌then◌else◌}
use Rattle.std.specs.Option.{option_map, option_or}
use Rattle.std.proofs.lemmas.Bool.{lt-ltb, ltb-true, true≢false}
use Rattle.std.proofs.lemmas.List.{take_all, length-take-le}
use Rattle.std.proofs.lemmas.List.Elements.{All-take}
use Rattle.lx_automaton.specs.Automata.{start_of, state_after, accepted_by, accepted_at, answer}
use Rattle.lx_tables.specs.Model.{Table, rule_at}
use Rattle.lx_scan.specs.Answers.{token_len, match_after, furthest}
use Rattle.lx_reach.specs.Chosen.{AreFlagsOf}
use Rattle.lx_reach.specs.Reached.{AreMet, IsReached}
use Rattle.lx_reach.specs.Taken.{IsTaken, AreCounted}
use Rattle.lx_reach.proofs.Reaching.{Marks, listed, place_of}

-- a rule counts if it has no `$`, or if those with `$` count
counted_cut : (table : Table) (r : ℕ) → (false || not ((rule_at table r).line_end)) ≡ true → (rule_at table r).line_end ≡ false
counted_cut table r h = on ((rule_at table r).line_end) h
  where
    on : (b : Bool) → (false || not b) ≡ true → b ≡ false
    on true h = absurd (true≢false (sym h))
    on false h = refl

-- the number of bytes that a text needs for a token
token_some : (table : Table) (r n : ℕ) → ((rule_at table r).line_end ≡ false → 1 ≤ n) → ((rule_at table r).line_end ≡ true → 2 ≤ n) → 0 < token_len table r n
token_some table r n one two = on ((rule_at table r).line_end) refl
  where
    on : (b : Bool) → (rule_at table r).line_end ≡ b → 0 < (if b then n - 1 else n)
    on true is = let h = two is in omega arith
    on false is = let h = one is in omega arith

token_needs : (cut : Bool) (n : ℕ) → 0 < (if cut then n - 1 else n) → (1 ≤ n) × (cut ≡ true → 2 ≤ n)
token_needs true n h = (omega arith, λ _. omega arith)
token_needs false n h = (omega arith, λ e. absurd (true≢false (sym e)))

-- a rule that is accepted after a text, and has a token there, is the choice for it
pub take_it : (table : Table) (first end : ℕ) (n s rule : ℕ) (r : IsReached table.machine first end n s) → accepted_by table.machine s ≡ Some rule → 0 < token_len table rule (length r.text) → 0 < length r.text → IsTaken table first end rule
take_it table first end n s rule r accepted token some = record {
  condition = r.condition;
  begin = r.begin;
  text = r.text;
  from = r.from;
  before = r.before;
  bytes = r.bytes;
  len = token_len table rule (length r.text);
  choice = ap (λ o. option_map {T = ℕ × ℕ} {U = ℕ × ℕ} (λ found. (found.0, token_len table found.0 found.1)) o) (last (length r.text) refl some);
}
  where
    answered : answer table.machine r.condition r.begin r.text ≡ Some rule
    answered = ap (λ o. accepted_at table.machine o) r.leads ∙ accepted

    last : (k : ℕ) → k ≡ length r.text → 0 < k → furthest table r.condition r.begin r.text k ≡ Some (rule, length r.text)
    last zero e h = absurd (omega arith)
    last (suc k) e h =
        let whole : take (suc k) r.text ≡ r.text = take_all (suc k) r.text (omega arith) in
        let holds : nat_lt 0 (token_len table rule (suc k)) ≡ true = ap (λ x. nat_lt 0 (token_len table rule x)) e ∙ lt-ltb 0 (token_len table rule (length r.text)) token in
        ap (λ w. option_or (match_after table (answer table.machine r.condition r.begin w) (suc k)) (furthest table r.condition r.begin r.text k)) whole
        ∙ ap (λ o. option_or (match_after table o (suc k)) (furthest table r.condition r.begin r.text k)) answered
        ∙ ap (λ (b : Bool). option_or {T = ℕ × ℕ} (if b then Some (rule, suc k) else None) (furthest table r.condition r.begin r.text k)) holds
        ∙ ap (λ x. Some (rule, x)) e

-- the facts that a choice gives
pub record IsAnsweredAt (table : Table) (condition : ℕ) (begin : Bool) (text : List ℕ) (rule : ℕ) : Type 0 where
  pub k : ℕ
  pub within : k ≤ length text
  pub answered : answer table.machine condition begin (take k text) ≡ Some rule
  pub token : 0 < token_len table rule k

furthest_says : (table : Table) (condition : ℕ) (begin : Bool) (text : List ℕ) (n rule k : ℕ) → n ≤ length text → furthest table condition begin text n ≡ Some (rule, k) → IsAnsweredAt table condition begin text rule
furthest_says table condition begin text zero rule k h e = absurd (let g : None ≡ Some (rule, k) = e in cc)
furthest_says table condition begin text (suc n) rule k h e = on (λ f. furthest_says table condition begin text n rule k (omega arith) f) (answer table.machine condition begin (take (suc n) text)) refl e
  where
    on : (furthest table condition begin text n ≡ Some (rule, k) → IsAnsweredAt table condition begin text rule) → (o : Option ℕ) → answer table.machine condition begin (take (suc n) text) ≡ o → option_or (match_after table o (suc n)) (furthest table condition begin text n) ≡ Some (rule, k) → IsAnsweredAt table condition begin text rule
    on below None is f = below f
    on below (Some i) is f = if_token (nat_lt 0 (token_len table i (suc n))) refl f
      where
        if_token : (b : Bool) → nat_lt 0 (token_len table i (suc n)) ≡ b → option_or {T = ℕ × ℕ} (if b then Some (i, suc n) else None) (furthest table condition begin text n) ≡ Some (rule, k) → IsAnsweredAt table condition begin text rule
        if_token false has g = below g
        if_token true has g =
            let pair : ◌≡◌ {A = ℕ × ℕ} (i, suc n) (rule, k) = cc in
            let same : i ≡ rule = ap (λ (p : ℕ × ℕ). p.0) pair in
            record {
              k = suc n;
              within = h;
              answered = is ∙ ap (λ x. Some x) same;
              token = subst (λ x. 0 < token_len table x (suc n)) same (ltb-true 0 (token_len table i (suc n)) has);
            }

pub taken_says : (table : Table) (first end : ℕ) (rule : ℕ) → IsTaken table first end rule →
    (n : ℕ) × (s : ℕ) × IsReached table.machine first end n s × (accepted_by table.machine s ≡ Some rule) × (0 < token_len table rule n)
taken_says table first end rule t = on (furthest table t.condition t.begin t.text (length t.text)) refl t.choice
  where
    on : (o : Option (ℕ × ℕ)) → furthest table t.condition t.begin t.text (length t.text) ≡ o → option_map {T = ℕ × ℕ} {U = ℕ × ℕ} (λ found. (found.0, token_len table found.0 found.1)) o ≡ Some (rule, t.len) →
        (n : ℕ) × (s : ℕ) × IsReached table.machine first end n s × (accepted_by table.machine s ≡ Some rule) × (0 < token_len table rule n)
    on None is e = absurd (let g : None ≡ Some (rule, t.len) = e in cc)
    on (Some f) is e =
        let pair : ◌≡◌ {A = ℕ × ℕ} (f.0, token_len table f.0 f.1) (rule, t.len) = cc in
        let same : f.0 ≡ rule = ap (λ (p : ℕ × ℕ). p.0) pair in
        let a = furthest_says table t.condition t.begin t.text (length t.text) f.0 f.1 (omega arith) is in
        at a (state_after table.machine (Some (start_of table.machine t.condition t.begin)) (take a.k t.text)) refl same a.answered
      where
        at : (a : IsAnsweredAt table t.condition t.begin t.text f.0) (o : Option ℕ) → state_after table.machine (Some (start_of table.machine t.condition t.begin)) (take a.k t.text) ≡ o → f.0 ≡ rule →
            accepted_at table.machine (state_after table.machine (Some (start_of table.machine t.condition t.begin)) (take a.k t.text)) ≡ Some f.0 →
            (n : ℕ) × (s : ℕ) × IsReached table.machine first end n s × (accepted_by table.machine s ≡ Some rule) × (0 < token_len table rule n)
        at a None is same e = absurd (let g : None ≡ Some f.0 = sym (ap (λ o. accepted_at table.machine o) is) ∙ e in cc)
        at a (Some s) is same e = (
          a.k,
          s,
          record {
            condition = t.condition;
            begin = t.begin;
            text = take a.k t.text;
            from = t.from;
            before = t.before;
            bytes = All-take (λ b. b < 256) a.k t.text t.bytes;
            long = (let l = length-take-le a.k t.text a.within in omega arith);
            leads = is;
          },
          sym (ap (λ o. accepted_at table.machine o) is) ∙ e ∙ ap (λ x. Some x) same,
          subst (λ x. 0 < token_len table x a.k) same a.token,
        )

-- the flags of rules that the states of one byte and of two bytes accept
pub are_taken : (table : Table) (first end : ℕ) (s1 w1 s2 w2 : List ℕ) (none one two : List Bool) → AreMet s1 w1 → AreMet s2 w2 → Marks table.machine first end 1 w1 → Marks table.machine first end 2 w2 → length two ≡ length table.rules →
    ((r : ℕ) → slice_index_or none r false ≡ false) → AreCounted table false s1 (length s1) none one → AreCounted table true s2 (length s2) one two → AreFlagsOf (length table.rules) (IsTaken table first end) two
are_taken table first end s1 w1 s2 w2 none one two met1 met2 marks1 marks2 long empty counted1 counted2 = record {
  long = long;
  holds = λ r h. elim (counted2.only r h) [
    | inl k ↦ elim (counted1.only r k) [
      | inl j ↦ absurd (true≢false (sym j ∙ empty r))
      | inr f ↦
          let reached = marks1.0 (slice_index s1 f.0) (listed s1 w1 f.0 met1 f.1) in
          let plain = counted_cut table r f.2.counts in
          let long1 = reached.long in
          take_it table first end 1 (slice_index s1 f.0) r reached f.2.accepted (token_some table r (length reached.text) (λ _. long1) (λ e. absurd (true≢false (sym e ∙ plain)))) (omega arith)
    ]
    | inr f ↦
        let reached = marks2.0 (slice_index s2 f.0) (listed s2 w2 f.0 met2 f.1) in
        let long2 = reached.long in
        take_it table first end 2 (slice_index s2 f.0) r reached f.2.accepted (token_some table r (length reached.text) (λ _. omega arith) (λ _. long2)) (omega arith)
  ];
  fails = λ r h t.
      let a = taken_says table first end r t in
      true≢false (sym (marked r a.0 a.1 a.2 a.3 a.4) ∙ h);
}
  where
    weaker : (k n s : ℕ) → k ≤ n → IsReached table.machine first end n s → IsReached table.machine first end k s
    weaker k n s h r = record { condition = r.condition; begin = r.begin; text = r.text; from = r.from; before = r.before; bytes = r.bytes; long = (let l = r.long in omega arith); leads = r.leads }

    marked : (r n s : ℕ) → IsReached table.machine first end n s → accepted_by table.machine s ≡ Some r → 0 < token_len table r n → slice_index_or two r false ≡ true
    marked r n s reached accepted token = on ((rule_at table r).line_end) refl
      where
        needs : (1 ≤ n) × ((rule_at table r).line_end ≡ true → 2 ≤ n)
        needs = token_needs ((rule_at table r).line_end) n token

        on : (b : Bool) → (rule_at table r).line_end ≡ b → slice_index_or two r false ≡ true
        on false is =
            let p = place_of s1 w1 s met1 (marks1.1 s (weaker 1 n s (needs.0) reached)) in
            counted2.kept r (counted1.there p.0 r p.1 (record {
              accepted = subst (λ x. accepted_by table.machine x ≡ Some r) (sym p.2) accepted;
              counts = ap (λ (b : Bool). false || not b) is;
            }))
        on true is =
            let p = place_of s2 w2 s met2 (marks2.1 s (weaker 2 n s (needs.1 is) reached)) in
            counted2.there p.0 r p.1 (record { accepted = subst (λ x. accepted_by table.machine x ≡ Some r) (sym p.2) accepted; counts = refl })

pub no_flags : (n r : ℕ) → slice_index_or (replicate n false) r false ≡ false
no_flags zero r = refl
no_flags (suc n) zero = refl
no_flags (suc n) (suc r) = no_flags n r
