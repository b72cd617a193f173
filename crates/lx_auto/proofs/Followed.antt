-- Rule by rule, the flags of readable positions are set, and the first rule that has matched is found.
use Rattle.std.proofs.Common.{◌≡◌, ℕ, ◌+◌, ◌≤◌, ◌<◌, ◌↔◌, inl, inr, Bool, true, false, List, Option, Some, None, length, refl, sym, ◌∙◌, ap, subst, arith}
use Rattle.std.proofs.lemmas.Bool.{cases_lt}
use Rattle.std.specs.Prelude.{slice_get, slice_set}
use Rattle.lx_rules.specs.Plain.{PlainSpec}
use Rattle.lx_auto.specs.Unfolded.{position_count}
use Rattle.lx_auto.specs.Positions.{CanEnd}
use Rattle.lx_auto.specs.Counts.{newline_count}
use Rattle.lx_auto.specs.PositionSets.{NumberedRule, newline_of, size_of}
use Rattle.lx_auto.specs.RuleReach.{FinalWithEnd, IsFinal}
use Rattle.lx_rules.specs.Starts.{IsActiveAt}
use Rattle.lx_auto.specs.Marking.{flag}
use Rattle.lx_auto.specs.RuleParts.{AreReadsOf}
use Rattle.lx_auto.specs.Following.{InRange, AreNumbered, FollowsMarked, EndsMarked, BeginsWith, IsReadBelow, AreReadBelow, ReadsRule, ReadsOrStays, IsFirstMatchedBelow, first_or}
use Rattle.lx_auto.proofs.Words.{in_first, in_last, in_follow}
use Rattle.lx_auto.proofs.FlagLemmas.{flag_set_same, flag_set_other, length_set}

-- one rule: without a line end
pub follow_plain : (r : NumberedRule) (marks old new : List Bool) → r.rule.reading.line_end ≡ false → AreReadsOf r marks false old new →
    ReadsRule (FollowsMarked marks) r old new
follow_plain r marks old new is reads =
    let size : size_of r ≡ position_count r.tree = (let n = ap newline_count is in omega arith) in
    record {
      long = reads.long;
      own = λ q low high.
          let own = reads.own q low (omega arith) in (
            (λ t. elim (own.0 t) [ inl x ↦ let no : false ≡ true = x.0 in absurd (cc) | inr x ↦ (x.0, x.1, inl x.2) ]),
            (λ f. elim f.2 [ inl x ↦ own.1 (inr (f.0, f.1, x)) | inr x ↦ let no : false ≡ true = sym is ∙ x.0 in absurd (cc) ]),
          );
      below = λ q h. reads.below q h;
      above = λ q h. reads.above q (omega arith);
    }

-- with a line end: the newline can be read after the end of the pattern
pub follow_end : (r : NumberedRule) (marks old mid : List Bool) (ended : Bool) → r.rule.reading.line_end ≡ true → AreReadsOf r marks false old mid →
    r.base + size_of r ≤ length old → (ended ≡ true) ↔ CanEnd (λ p. flag marks p ≡ true) r.tree r.base →
    ReadsRule (FollowsMarked marks) r old (slice_set mid (r.base + position_count r.tree) ended)
follow_end r marks old mid ended is reads room ends =
    let n : newline_count r.rule.reading.line_end ≡ 1 = ap newline_count is in
    let long = reads.long in
    record {
      long = length_set mid (newline_of r) ended ∙ reads.long;
      own = λ q low high. elim (cases_lt q (newline_of r)) [
        | inl l ↦
            let same = flag_set_other mid (newline_of r) q ended (λ e. absurd (omega arith)) in
            let own = reads.own q low l in (
              (λ t. elim (own.0 (sym same ∙ t)) [ inl x ↦ let no : false ≡ true = x.0 in absurd (cc) | inr x ↦ (x.0, x.1, inl x.2) ]),
              (λ f. same ∙ elim f.2 [ inl x ↦ own.1 (inr (f.0, f.1, x)) | inr x ↦ let e = x.2 in absurd (omega arith) ]),
            )
        | inr l ↦
            let at : q ≡ newline_of r = omega arith in
            let same : flag (slice_set mid (newline_of r) ended) q ≡ ended =
            ap (λ i. flag (slice_set mid (newline_of r) ended) i) at ∙ flag_set_same mid (newline_of r) ended (omega arith) in (
              (λ t. let e = ends.0 (sym same ∙ t) in (e.0, e.1, inr (is, e.2, at))),
              (λ f. same ∙ elim f.2 [
                | inl x ↦ let s = in_follow r.tree r.base f.0 q x in absurd (omega arith)
                | inr x ↦ ends.1 (f.0, f.1, x.1)
              ]),
            )
      ];
      below = λ q h. flag_set_other mid (newline_of r) q ended (λ e. absurd (omega arith)) ∙ reads.below q h;
      above = λ q h. flag_set_other mid (newline_of r) q ended (λ e. absurd (omega arith)) ∙ reads.above q (omega arith);
    }

-- the rule has matched
pub matched_plain : (r : NumberedRule) (marks : List Bool) → r.rule.reading.line_end ≡ false → CanEnd (λ p. flag marks p ≡ true) r.tree r.base ↔ EndsMarked marks r
matched_plain r marks is =
    let same : FinalWithEnd false r ≡ IsFinal r = ap (λ b. FinalWithEnd b r) (sym is) in
    ((λ e. (e.0, e.1, subst (λ F. F e.0) same e.2)), (λ e. (e.0, e.1, subst (λ F. F e.0) (sym same) e.2)))

pub matched_end : (r : NumberedRule) (marks : List Bool) → r.rule.reading.line_end ≡ true → (flag marks (newline_of r) ≡ true) ↔ EndsMarked marks r
matched_end r marks is =
    let same : FinalWithEnd true r ≡ IsFinal r = ap (λ b. FinalWithEnd b r) (sym is) in (
      (λ t. (newline_of r, t, subst (λ F. F (newline_of r)) same refl)),
      (λ e. let at : e.0 ≡ newline_of r = subst (λ F. F e.0) (sym same) e.2 in subst (λ q. flag marks q ≡ true) at e.1),
    )

-- the begin of an active rule
pub begin_rule : (spec : PlainSpec) (condition : ℕ) (begin : Bool) (r : NumberedRule) (marks old new : List Bool) →
    ((q : ℕ) → flag marks q ≡ false) → ((q : ℕ) → r.base ≤ q → q < r.base + size_of r → flag old q ≡ false) → AreReadsOf r marks true old new →
    IsActiveAt spec r.rule condition begin → ReadsRule (BeginsWith spec condition begin) r old new
begin_rule spec condition begin r marks old new none clear reads active =
    record {
      long = reads.long;
      own = λ q low high. elim (cases_lt q (newline_of r)) [
        | inl l ↦
            let own = reads.own q low l in (
              (λ t. elim (own.0 t) [ inl x ↦ (active, x.1) | inr x ↦ let no : false ≡ true = sym (none x.0) ∙ x.1 in absurd (cc) ]),
              (λ f. own.1 (inl (refl, f.1))),
            )
        | inr l ↦
            let same = reads.above q l in (
              (λ t. let no : false ≡ true = sym (clear q low high) ∙ sym same ∙ t in absurd (cc)),
              (λ f. let s = in_first r.tree r.base q f.1 in absurd (omega arith)),
            )
      ];
      below = λ q h. reads.below q h;
      above = λ q h. reads.above q (omega arith);
    }

-- one rule more
pub read_more : (Reads : NumberedRule → ℕ → Type 0) (spec : PlainSpec) (rules : List NumberedRule) (n : ℕ) (r : NumberedRule) (old new : List Bool) →
    ((s : NumberedRule) (q : ℕ) → Reads s q → InRange s q) → AreNumbered spec rules → slice_get rules n ≡ Some r →
    AreReadBelow Reads rules n old → ReadsRule Reads r old new → AreReadBelow Reads rules (n + 1) new
read_more Reads spec rules n r old new ranges numbered at so_far reads = record {
  each = λ q. (
    (λ t. elim (cases_lt q r.base) [
      | inl l ↦ earlier q ((so_far.each q).0 (sym (reads.below q l) ∙ t))
      | inr l ↦ elim (cases_lt q (r.base + size_of r)) [
        | inl m ↦ record { place = n; below = omega arith; rule = r; at = at; reads = (reads.own q l m).0 t }
        | inr m ↦ earlier q ((so_far.each q).0 (sym (reads.above q m) ∙ t))
      ]
    ]),
    (λ h. elim (cases_lt h.place n) [
      | inl l ↦
          let range = ranges h.rule q h.reads in
          let apart = numbered.apart h.place n h.rule r l h.at at in
          reads.below q (omega arith) ∙ (so_far.each q).1 (record { place = h.place; below = l; rule = h.rule; at = h.at; reads = h.reads })
      | inr l ↦
          let b = h.below in
          let here : h.place ≡ n = omega arith in
          let found : Some h.rule ≡ Some r = sym h.at ∙ ap (λ i. slice_get rules i) here ∙ at in
          let same : h.rule ≡ r = cc in
          let mine : Reads r q = subst (λ s. Reads s q) same h.reads in
          let range = ranges r q mine in
          (reads.own q range.0 range.1).1 mine
    ]),
  );
}
  where
    earlier : (q : ℕ) → IsReadBelow Reads rules n q → IsReadBelow Reads rules (n + 1) q
    earlier q h = let b = h.below in record { place = h.place; below = omega arith; rule = h.rule; at = h.at; reads = h.reads }

-- a rule by which nothing can be read
pub read_none : (Reads : NumberedRule → ℕ → Type 0) (rules : List NumberedRule) (n : ℕ) (r : NumberedRule) (flags : List Bool) →
    slice_get rules n ≡ Some r → ((q : ℕ) → Reads r q → ⊥) → AreReadBelow Reads rules n flags → AreReadBelow Reads rules (n + 1) flags
read_none Reads rules n r flags at none so_far = record {
  each = λ q. (
    (λ t. let h = (so_far.each q).0 t in let b = h.below in record { place = h.place; below = omega arith; rule = h.rule; at = h.at; reads = h.reads }),
    (λ h. elim (cases_lt h.place n) [
      | inl l ↦ (so_far.each q).1 (record { place = h.place; below = l; rule = h.rule; at = h.at; reads = h.reads })
      | inr l ↦
          let b = h.below in
          let here : h.place ≡ n = omega arith in
          let found : Some h.rule ≡ Some r = sym h.at ∙ ap (λ i. slice_get rules i) here ∙ at in
          let same : h.rule ≡ r = cc in
          absurd (none q (subst (λ s. Reads s q) same h.reads))
    ]),
  );
}

-- the first match among one rule more
pub matched_more : (rules : List NumberedRule) (marks : List Bool) (n : ℕ) (r : NumberedRule) (found : Option ℕ) → slice_get rules n ≡ Some r →
    EndsMarked marks r → IsFirstMatchedBelow rules marks n found → IsFirstMatchedBelow rules marks (n + 1) (first_or found n)
matched_more rules marks n r None at ends so_far =
    (omega arith, record { rule = r; at = at; ends = ends }, so_far)
matched_more rules marks n r (Some i) at ends so_far = let l = so_far.0 in (omega arith, so_far.1, so_far.2)

pub unmatched_more : (rules : List NumberedRule) (marks : List Bool) (n : ℕ) (r : NumberedRule) (found : Option ℕ) → slice_get rules n ≡ Some r →
    (EndsMarked marks r → ⊥) → IsFirstMatchedBelow rules marks n found → IsFirstMatchedBelow rules marks (n + 1) found
unmatched_more rules marks n r None at never so_far = λ j l h. elim (cases_lt j n) [
  | inl m ↦ so_far j m h
  | inr m ↦
      let here : j ≡ n = omega arith in
      let found : Some h.rule ≡ Some r = sym h.at ∙ ap (λ i. slice_get rules i) here ∙ at in
      let same : h.rule ≡ r = cc in
      never (subst (λ s. EndsMarked marks s) same h.ends)
]
unmatched_more rules marks n r (Some i) at never so_far = let l = so_far.0 in (omega arith, so_far.1, so_far.2)

-- if no position of the rule is marked
pub untouched_reads : (r : NumberedRule) (marks : List Bool) → ((q : ℕ) → r.base ≤ q → q < r.base + position_count r.tree + 1 → flag marks q ≡ false) →
    (q : ℕ) → FollowsMarked marks r q → ⊥
untouched_reads r marks none q h = elim h.2 [
  | inl x ↦
      let s = in_follow r.tree r.base h.0 q x in
      let no : false ≡ true = sym (none h.0 s.0 (omega arith)) ∙ h.1 in absurd (cc)
  | inr x ↦
      let s = in_last r.tree r.base h.0 x.1 in
      let no : false ≡ true = sym (none h.0 s.0 (omega arith)) ∙ h.1 in absurd (cc)
]

untouched_final : (r : NumberedRule) (marks : List Bool) (line_end : Bool) → ((q : ℕ) → r.base ≤ q → q < r.base + position_count r.tree + 1 → flag marks q ≡ false) →
    (q : ℕ) → flag marks q ≡ true → FinalWithEnd line_end r q → ⊥
untouched_final r marks false none q t f =
    let s = in_last r.tree r.base q f in
    let no : false ≡ true = sym (none q s.0 (omega arith)) ∙ t in absurd (cc)
untouched_final r marks true none q t f =
    let e : q ≡ newline_of r = f in
    let no : false ≡ true = sym (none q (omega arith) (omega arith)) ∙ t in absurd (cc)

pub untouched_ends : (r : NumberedRule) (marks : List Bool) → ((q : ℕ) → r.base ≤ q → q < r.base + position_count r.tree + 1 → flag marks q ≡ false) → EndsMarked marks r → ⊥
untouched_ends r marks none h = untouched_final r marks r.rule.reading.line_end none h.0 h.1 h.2

-- one rule more, visited or not
pub step_more : (Reads : NumberedRule → ℕ → Type 0) (spec : PlainSpec) (rules : List NumberedRule) (n : ℕ) (r : NumberedRule) (old new : List Bool) →
    ((s : NumberedRule) (q : ℕ) → Reads s q → InRange s q) → AreNumbered spec rules → slice_get rules n ≡ Some r →
    AreReadBelow Reads rules n old → ReadsOrStays Reads r old new → AreReadBelow Reads rules (n + 1) new
step_more Reads spec rules n r old new ranges numbered at so_far step = elim step [
  | inl reads ↦ read_more Reads spec rules n r old new ranges numbered at so_far reads
  | inr stays ↦ subst (λ l. AreReadBelow Reads rules (n + 1) l) (sym stays.0) (read_none Reads rules n r old at stays.1 so_far)
]

pub step_length : (Reads : NumberedRule → ℕ → Type 0) (r : NumberedRule) (old new : List Bool) → ReadsOrStays Reads r old new → length new ≡ length old
step_length Reads r old new step = elim step [ inl reads ↦ reads.long | inr stays ↦ ap length stays.0 ]

pub none_read_below : (Reads : NumberedRule → ℕ → Type 0) (rules : List NumberedRule) (reads : List Bool) → ((q : ℕ) → flag reads q ≡ false) → AreReadBelow Reads rules 0 reads
none_read_below Reads rules reads clear = record {
  each = λ q. (
    (λ t. let no : false ≡ true = sym (clear q) ∙ t in absurd (cc)),
    (λ h. let b = h.below in absurd (omega arith)),
  );
}
