-- The position sets are the same over both forms of the expressions. So if there are too many over one form, there are over the other.
use Rattle.std.proofs.Common.{◌≡◌, ◌≢◌, ℕ, zero, suc, ◌+◌, ◌<◌, ◌↔◌, inl, inr, Bool, true, false, List, [], ◌∷◌, ◌++◌, length, Some, refl, sym, ◌∙◌, ap, ap₂, subst, arith}
use Rattle.std.specs.Prelude.{slice_get, slice_index_or, Contains, All}
use Rattle.lx_ere.specs.Regex.{Regex}
use Rattle.lx_rules.specs.Plain.{PlainRule, PlainSpec}
use Rattle.lx_auto.specs.Unfolded.{Unfolded, position_count, PositionWord, own_position}
use Rattle.lx_auto.specs.WrittenOut.{pattern_written_out}
use Rattle.lx_auto.specs.Simplified.{simplified_pattern}
use Rattle.lx_auto.specs.Counts.{newline_count}
use Rattle.lx_auto.specs.Positions.{HasByte, Spells}
use Rattle.lx_auto.specs.PositionSets.{NumberedRule, newline_of, numbered, WordWithEnd, HasRuleByte, EndsRulePrefix, CanHaveReadLast, StartAndWord, InPositionSet, HasMoreReachedSets}
use Rattle.lx_auto.specs.SetSteps.{IsSetOf}
use Rattle.lx_auto.specs.Exploring.{IsReachedSet, HasMoreSets}
use Rattle.lx_auto.proofs.KeptWords.{pattern-same_words}
use Rattle.lx_automaton.proofs.Members.{contains_head}
use Rattle.lx_auto.proofs.Membership.{same_rising}
use Rattle.lx_auto.proofs.SameLeaves.{pattern-bytes}

same_rule : (r s : NumberedRule) → Some r ≡ Some s → r ≡ s
same_rule r s e = (cc)

same_pair : (x y : StartAndWord) → Some x ≡ Some y → x ≡ y
same_pair x y e = (cc)

-- two expressions with the same words of positions, which have the same bytes
record HaveSamePositions (a b : Unfolded) : Type 0 where
  pub count : position_count a ≡ position_count b
  pub words : (k : ℕ) (ps : List ℕ) → PositionWord a k ps → PositionWord b k ps
  pub bytes : (k p c : ℕ) → HasByte a k p c → HasByte b k p c

spells_with : (Has More : ℕ → ℕ → Type 0) → ((p b : ℕ) → Has p b → More p b) → (ps w : List ℕ) → Spells Has ps w → Spells More ps w
spells_with Has More f [] [] h = h
spells_with Has More f (p ∷ ps) (b ∷ w) h = (f p b h.0, spells_with Has More f ps w h.1)
spells_with Has More f [] (b ∷ w) h = h
spells_with Has More f (p ∷ ps) [] h = h

-- a rule with the other form of its expression
abbrev with_tree : (Regex → Unfolded) → NumberedRule → NumberedRule
with_tree g r = record { rule = r.rule; tree = g r.rule.reading.tree; base = r.base }

module _ (f g : Regex → Unfolded) (same : (tree : Regex) → HaveSamePositions (f tree) (g tree)) where
  at_other : (base other : ℕ) → base ≡ other → (rules : List PlainRule) (i : ℕ) (r : NumberedRule) → slice_get (numbered f base rules) i ≡ Some r
      → (r.tree ≡ f r.rule.reading.tree) × (slice_get (numbered g other rules) i ≡ Some (with_tree g r))
  at_other base other e [] i r h = absurd (none i h)
    where
      none : (i : ℕ) → slice_get (numbered f base []) i ≡ Some r → ⊥
      none zero h = absurd (cc)
      none (suc i) h = absurd (cc)
  at_other base other e (rule ∷ rules) zero r h =
      let first : NumberedRule = record { rule = rule; tree = f rule.reading.tree; base = base } in
      let is : first ≡ r = same_rule first r h in
      subst (λ x. (x.tree ≡ f x.rule.reading.tree) × (slice_get (numbered g other (rule ∷ rules)) zero ≡ Some (with_tree g x))) is
      (refl, ap (λ b. Some (record { rule = rule; tree = g rule.reading.tree; base = b })) (sym e))
  at_other base other e (rule ∷ rules) (suc i) r h =
      at_other (base + (position_count (f rule.reading.tree) + newline_count rule.reading.line_end)) (other + (position_count (g rule.reading.tree) + newline_count rule.reading.line_end))
      (ap₂ (λ b n. b + (n + newline_count rule.reading.line_end)) e ((same rule.reading.tree).count)) rules i r h

  -- the same for a rule whose expression is in the first form
  module _ (r : NumberedRule) (is : r.tree ≡ f r.rule.reading.tree) where
    tree_same : HaveSamePositions r.tree (g r.rule.reading.tree)
    tree_same = subst (λ t. HaveSamePositions t (g r.rule.reading.tree)) (sym is) (same r.rule.reading.tree)

    newline_same : newline_of r ≡ newline_of (with_tree g r)
    newline_same = ap (λ n. r.base + n) tree_same.count

    word_with : (line_end : Bool) (ps : List ℕ) → WordWithEnd line_end r ps → WordWithEnd line_end (with_tree g r) ps
    word_with false ps h = tree_same.words r.base ps h
    word_with true ps h = (h.0, tree_same.words r.base h.0 h.1, h.2, subst (λ n. ps ≡ h.0 ++ n ∷ []) newline_same h.3)

    byte_with : (p b : ℕ) → HasRuleByte r p b → HasRuleByte (with_tree g r) p b
    byte_with p b h = elim h [
      | inl x ↦ inl (tree_same.bytes r.base p b x)
      | inr y ↦ inr (y.0, y.1 ∙ newline_same, y.2)
    ]

    prefix_with : (w : List ℕ) (q : ℕ) → EndsRulePrefix r w q → EndsRulePrefix (with_tree g r) w q
    prefix_with w q h = record {
      before = h.before;
      behind = h.behind;
      word = word_with r.rule.reading.line_end ((h.before ++ q ∷ []) ++ h.behind) h.word;
      spelled = spells_with (HasRuleByte r) (HasRuleByte (with_tree g r)) byte_with (h.before ++ q ∷ []) w h.spelled;
    }

  read_last : (spec : PlainSpec) (c : ℕ) (begin : Bool) (w : List ℕ) (q : ℕ)
      → CanHaveReadLast spec (numbered f 0 spec.rules) c begin w q → CanHaveReadLast spec (numbered g 0 spec.rules) c begin w q
  read_last spec c begin w q h =
      let there = at_other 0 0 refl spec.rules h.place h.rule h.at in
      record { place = h.place; rule = with_tree g h.rule; at = there.1; active = h.active; ends = prefix_with h.rule there.0 w q h.ends }

short_same : (spec : PlainSpec) (tree : Regex) → HaveSamePositions (simplified_pattern spec.definitions tree) (pattern_written_out spec.definitions tree)
short_same spec tree =
    let same_words = pattern-same_words own_position spec.definitions tree in
    record { count = same_words.count; words = same_words.into; bytes = λ k p c. (pattern-bytes spec.definitions tree k p c).0 }

long_same : (spec : PlainSpec) (tree : Regex) → HaveSamePositions (pattern_written_out spec.definitions tree) (simplified_pattern spec.definitions tree)
long_same spec tree =
    let same_words = pattern-same_words own_position spec.definitions tree in
    record { count = sym same_words.count; words = same_words.back; bytes = λ k p c. (pattern-bytes spec.definitions tree k p c).1 }

pub same_position_sets : (spec : PlainSpec) (x : StartAndWord) (q : ℕ)
    → InPositionSet spec (numbered (simplified_pattern spec.definitions) 0 spec.rules) x q ↔ InPositionSet spec (numbered (pattern_written_out spec.definitions) 0 spec.rules) x q
same_position_sets spec x q = (
  (λ h. read_last (simplified_pattern spec.definitions) (pattern_written_out spec.definitions) (short_same spec) spec x.condition x.begin x.word q h),
  (λ h. read_last (pattern_written_out spec.definitions) (simplified_pattern spec.definitions) (long_same spec) spec x.condition x.begin x.word q h),
)

-- the pairs that lead to the sets, in order
record LeadTo (spec : PlainSpec) (rules : List NumberedRule) (sets : List (List ℕ)) : Type 0 where
  pub pairs : List StartAndWord
  pub count : length pairs ≡ length sets
  pub each : (i : ℕ) (x : StartAndWord) → slice_get pairs i ≡ Some x →
      (i < length sets) × (x.condition < length spec.conditions) × IsSetOf spec rules x (slice_index_or sets i []) × All (λ b. b < 256) x.word

not_there : (i : ℕ) (x : StartAndWord) (pairs : List StartAndWord) → pairs ≡ [] → slice_get pairs i ≡ Some x → ⊥
not_there zero x [] e h = absurd (cc)
not_there (suc i) x [] e h = absurd (cc)
not_there i x (y ∷ pairs) e h = absurd (cc)

no_pairs : (spec : PlainSpec) (rules : List NumberedRule) → LeadTo spec rules []
no_pairs spec rules = record { pairs = []; count = refl; each = λ i x h. absurd (not_there i x [] refl h) }

one_pair : (spec : PlainSpec) (rules : List NumberedRule) (set : List ℕ) (sets : List (List ℕ)) → IsReachedSet spec rules set → LeadTo spec rules sets
    → LeadTo spec rules (set ∷ sets)
one_pair spec rules set sets first rest = record {
  pairs = first.from ∷ rest.pairs;
  count = ap suc rest.count;
  each = each;
}
  where
    each : (i : ℕ) (x : StartAndWord) → slice_get (first.from ∷ rest.pairs) i ≡ Some x →
        (i < length (set ∷ sets)) × (x.condition < length spec.conditions) × IsSetOf spec rules x (slice_index_or (set ∷ sets) i []) × All (λ b. b < 256) x.word
    each zero x h =
        let is : first.from ≡ x = same_pair first.from x h in
        ((omega arith), subst (λ y. y.condition < length spec.conditions) is first.start, subst (λ y. IsSetOf spec rules y set) is first.leads, subst (λ y. All (λ b. b < 256) y.word) is first.bytes)
    each (suc i) x h = let t = rest.each i x h in let l = t.0 in ((omega arith), t.1, t.2, t.3)

pairs_to : (spec : PlainSpec) (rules : List NumberedRule) (sets : List (List ℕ)) → ((i : ℕ) → i < length sets → IsReachedSet spec rules (slice_index_or sets i []))
    → LeadTo spec rules sets
pairs_to spec rules [] reached = no_pairs spec rules
pairs_to spec rules (set ∷ sets) reached = one_pair spec rules set sets (reached zero (omega arith)) (pairs_to spec rules sets (λ i h. reached (suc i) (omega arith)))

pub some_member : (S : List ℕ) → S ≢ [] → (q : ℕ) × Contains S q
some_member [] h = absurd (h refl)
some_member (q ∷ S) h = (q, contains_head q S)

-- too many sets over the expressions as they are kept are too many of the specification
pub more_reached : (spec : PlainSpec) (limit : ℕ) → HasMoreSets spec (numbered (simplified_pattern spec.definitions) 0 spec.rules) limit → HasMoreReachedSets spec limit
more_reached spec limit more =
    let rules = numbered (simplified_pattern spec.definitions) 0 spec.rules in
    let lead = pairs_to spec rules more.sets more.reached in
    record {
      pairs = lead.pairs;
      count = lead.count ∙ more.count;
      starts = λ i x h. (lead.each i x h).1;
      bytes = λ i x h. (lead.each i x h).3;
      filled = λ i x h.
          let t = lead.each i x h in
          let m = some_member (slice_index_or more.sets i []) (more.reached i t.0).some in
          (m.0, (same_position_sets spec x m.0).0 ((t.2 m.0).0 m.1));
      apart = λ i j x y less hi hj same_words.
          let s = lead.each i x hi in
          let t = lead.each j y hj in
          more.distinct i j less t.0 (same_rising (slice_index_or more.sets i []) (slice_index_or more.sets j []) (more.reached i s.0).rising (more.reached j t.0).rising (λ q. (
            (λ h. (t.2 q).1 ((same_position_sets spec y q).1 ((same_words q).0 ((same_position_sets spec x q).0 ((s.2 q).0 h))))),
            (λ h. (s.2 q).1 ((same_position_sets spec x q).1 ((same_words q).1 ((same_position_sets spec y q).0 ((t.2 q).0 h))))),
          )));
    }
