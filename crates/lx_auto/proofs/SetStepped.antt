-- The position set of a word with one byte more follows from that of the word, and determines the rules that match the word.
use Rattle.std.proofs.Common.{◌≡◌, ◌≢◌, ℕ, ◌↔◌, Bool, List, [], ◌∷◌, ◌++◌, Some, sym, ◌∙◌, subst}
use Rattle.std.specs.Prelude.{slice_get}
use Rattle.lx_ere.specs.Regex.{Regex}
use Rattle.lx_rules.specs.Plain.{PlainRule, PlainSpec}
use Rattle.lx_auto.specs.Unfolded.{Unfolded}
use Rattle.lx_rules.specs.Starts.{IsActiveAt}
use Rattle.lx_auto.specs.PositionSets.{NumberedRule, numbered, HasRuleByte, CanHaveReadLast}
use Rattle.lx_auto.specs.RuleReach.{RuleFollow, IsFinal, IsReachedInRule, MatchesWhole}
use Rattle.lx_auto.specs.SetSteps.{HasSomeByte, IsFirstAt, FollowsSet, IsMatchedBy, IsSetOf}
use Rattle.lx_auto.proofs.RuleReached.{first_reached, none_reached, next_reached, matches_final, prefix_reached, reached_prefix}
use Rattle.lx_auto.specs.Following.{InRange}
use Rattle.lx_auto.proofs.Ranges.{bytes_in, follow_in, first_in, final_in, reached_in, same_rule}

module _ (spec : PlainSpec) (tree_of : Regex → Unfolded) (base : ℕ) (plain : List PlainRule) where
  rules : List NumberedRule
  rules = numbered tree_of base plain

  one_rule : (i j : ℕ) (r s : NumberedRule) (q : ℕ) → slice_get (numbered tree_of base plain) i ≡ Some r → slice_get (numbered tree_of base plain) j ≡ Some s →
      InRange r q → InRange s q → r ≡ s
  one_rule i j r s q hi hj ri rj = (same_rule tree_of base plain i j r s q hi hj ri rj).1

  -- nothing is read by the empty word
  pub nothing_read : (c : ℕ) (begin : Bool) (q : ℕ) → CanHaveReadLast spec (numbered tree_of base plain) c begin [] q → ⊥
  nothing_read c begin q h = none_reached h.rule q (prefix_reached h.rule [] q h.ends)

  -- one byte: the firsts of active rules that have it
  pub first_set : (c : ℕ) (begin : Bool) (b q : ℕ) → CanHaveReadLast spec (numbered tree_of base plain) c begin (b ∷ []) q ↔
      (IsFirstAt spec (numbered tree_of base plain) c begin q × HasSomeByte (numbered tree_of base plain) q b)
  first_set c begin b q = (
    (λ h. let t = (first_reached h.rule b q).0 (prefix_reached h.rule (b ∷ []) q h.ends) in (
      record { place = h.place; rule = h.rule; at = h.at; active = h.active; first = t.0 },
      record { place = h.place; rule = h.rule; at = h.at; has = t.1 },
    )),
    (λ h. let same = one_rule h.1.place h.0.place h.1.rule h.0.rule q h.1.at h.0.at (bytes_in h.1.rule q b h.1.has) (first_in h.0.rule q h.0.first) in
        record {
          place = h.0.place;
          rule = h.0.rule;
          at = h.0.at;
          active = h.0.active;
          ends = reached_prefix h.0.rule (b ∷ []) q ((first_reached h.0.rule b q).1 (h.0.first, subst (λ r. HasRuleByte r q b) same h.1.has));
        }),
  )

  -- one more byte: the positions after the set that have it
  pub next_set : (c : ℕ) (begin : Bool) (w : List ℕ) (S : List ℕ) (b q : ℕ) → w ≢ [] →
      IsSetOf spec (numbered tree_of base plain) (record { condition = c; begin = begin; word = w }) S →
      CanHaveReadLast spec (numbered tree_of base plain) c begin (w ++ b ∷ []) q ↔ (FollowsSet (numbered tree_of base plain) S q × HasSomeByte (numbered tree_of base plain) q b)
  next_set c begin w S b q ne is = (
    (λ h. let t = (next_reached h.rule w b q ne).0 (prefix_reached h.rule (w ++ b ∷ []) q h.ends) in (
      record {
        place = h.place;
        rule = h.rule;
        at = h.at;
        from = t.0;
        within = (is t.0).1 (record { place = h.place; rule = h.rule; at = h.at; active = h.active; ends = reached_prefix h.rule w t.0 t.1 });
        follow = t.2;
      },
      record { place = h.place; rule = h.rule; at = h.at; has = t.3 },
    )),
    (λ h. let f = h.0 in
        let from = (is f.from).0 f.within in
        let ranges = follow_in f.rule f.from q f.follow in
        let reached = prefix_reached from.rule w f.from from.ends in
        let same = one_rule f.place from.place f.rule from.rule f.from f.at from.at ranges.0 (reached_in from.rule w f.from reached) in
        let has = one_rule h.1.place f.place h.1.rule f.rule q h.1.at f.at (bytes_in h.1.rule q b h.1.has) ranges.1 in
        record {
          place = from.place;
          rule = from.rule;
          at = from.at;
          active = from.active;
          ends = reached_prefix from.rule (w ++ b ∷ []) q ((next_reached from.rule w b q ne).1
              (f.from, reached, subst (λ r. RuleFollow r f.from q) same f.follow, subst (λ r. HasRuleByte r q b) (has ∙ same) h.1.has));
        }),
  )

  -- the rules that match the word
  pub matched_by : (c : ℕ) (begin : Bool) (w : List ℕ) (S : List ℕ) (i : ℕ) (r : NumberedRule) →
      IsSetOf spec (numbered tree_of base plain) (record { condition = c; begin = begin; word = w }) S → slice_get (numbered tree_of base plain) i ≡ Some r →
      (IsActiveAt spec r.rule c begin × MatchesWhole r w) ↔ IsMatchedBy (numbered tree_of base plain) S i
  matched_by c begin w S i r is at = (
    (λ h. let t = (matches_final r w).0 h.1 in
        record {
          rule = r;
          at = at;
          last = t.0;
          within = (is t.0).1 (record { place = i; rule = r; at = at; active = h.0; ends = reached_prefix r w t.0 t.1 });
          final = t.2;
        }),
    (λ h. let from = (is h.last).0 h.within in
        let reached = prefix_reached from.rule w h.last from.ends in
        let same = one_rule from.place i from.rule r h.last from.at at (reached_in from.rule w h.last reached) (subst (λ s. InRange s h.last) (here h) (final_in h.rule h.last h.final)) in (
          subst (λ s. IsActiveAt spec s.rule c begin) same from.active,
          (matches_final r w).1 (h.last, subst (λ s. IsReachedInRule s w h.last) same reached, subst (λ s. IsFinal s h.last) (here h) h.final),
        )),
  )
    where
      here : (h : IsMatchedBy (numbered tree_of base plain) S i) → h.rule ≡ r
      here h = let e : Some h.rule ≡ Some r = sym h.at ∙ at in cc
