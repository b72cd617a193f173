-- A rule fits so that its reach is the whole text exactly if it matches the text, in the kept form of its expression.
use Rattle.std.proofs.Common.{◌≡◌, ◌≢◌, ℕ, zero, suc, ◌+◌, ◌<◌, ◌≤◌, ◌↔◌, Bool, true, false, IsTrue, List, [], ◌∷◌, ◌++◌, Option, Some, None, length, take, refl, sym, ◌∙◌, ap, subst, arith, if◌then◌else◌}
use Rattle.std.specs.Prelude.{slice_get}
use Rattle.std.specs.List.{list_all}
use Rattle.std.proofs.lemmas.Bool.{false≢true}
use Rattle.std.proofs.Math.Seq.{take-append_seam, take-length}
use Rattle.lx_ere.specs.Bounds.{has_ordered_bounds}
use Rattle.lx_ere.specs.Regex.{Regex}
use Rattle.lx_ere.specs.Matching.{Matches}
use Rattle.lx_rules.specs.Plain.{PlainDefinition, PlainRule, PlainSpec}
use Rattle.lx_rules.specs.Choice.{SpecNames, Fits, reach}
use Rattle.lx_rules.specs.Invariant.{are_definitions, are_ordered, IsWellFormed}
use Rattle.lx_rules.specs.Nesting.{is_within, are_nested, expressions_of}
use Rattle.lx_auto.specs.Unfolded.{Unfolded, position_count, ByteWord, byte_of_set}
use Rattle.lx_auto.specs.Counts.{newline_count}
use Rattle.lx_auto.specs.Simplified.{simplified_pattern}
use Rattle.lx_rules.specs.Starts.{IsActiveAt}
use Rattle.lx_automaton.specs.Meaning.{ReachesWhole, IsAnswer}
use Rattle.lx_auto.specs.PositionSets.{NumberedRule, numbered}
use Rattle.lx_auto.specs.RuleReach.{WholeWithEnd, MatchesWhole}
use Rattle.lx_auto.specs.SetSteps.{IsMatchedBy, IsSetOf}
use Rattle.lx_auto.specs.Sets.{IsEarliestMatched}
use Rattle.lx_auto.proofs.Appending.{and-left, and-right}
use Rattle.lx_auto.proofs.KeptWords.{simplified-words}
use Rattle.lx_auto.proofs.PatternWords.{AreOrdered, some-defined, pattern-words}
use Rattle.lx_auto.proofs.Reached.{numbered_rules}
use Rattle.lx_auto.proofs.SetStepped.{matched_by}

-- the requirements on the patterns and definitions of a specification
pub record HasSoundPatterns (spec : PlainSpec) : Type 0 where
  pub distinct : IsTrue (are_definitions spec.definitions)
  pub ordered : AreOrdered spec.definitions
  pub bounds : (i : ℕ) (rule : PlainRule) → slice_get spec.rules i ≡ Some rule → IsTrue (has_ordered_bounds rule.reading.tree)
  pub within : (i : ℕ) (rule : PlainRule) → slice_get spec.rules i ≡ Some rule → IsTrue (is_within 32 spec.definitions rule.reading.tree)

-- every specification in memory has such patterns
all_at : (p : Regex → Bool) (rules : List PlainRule) (i : ℕ) (rule : PlainRule) → slice_get rules i ≡ Some rule → IsTrue (list_all p (expressions_of rules)) → IsTrue (p rule.reading.tree)
all_at p [] zero rule at h = absurd (cc)
all_at p [] (suc i) rule at h = absurd (cc)
all_at p (first ∷ rules) zero rule at h =
    let is : first ≡ rule = (let e : Some first ≡ Some rule = at in cc) in
    subst (λ (x : PlainRule). IsTrue (p x.reading.tree)) is (and-left (p first.reading.tree) (list_all p (expressions_of rules)) h)
all_at p (first ∷ rules) (suc i) rule at h = all_at p rules i rule at (and-right (p first.reading.tree) (list_all p (expressions_of rules)) h)

tree_of_all : (definitions : List PlainDefinition) (i : ℕ) (d : PlainDefinition) → slice_get definitions i ≡ Some d → IsTrue (list_all (λ x. has_ordered_bounds x.tree) definitions) →
    IsTrue (has_ordered_bounds d.tree)
tree_of_all [] zero d at h = absurd (cc)
tree_of_all [] (suc i) d at h = absurd (cc)
tree_of_all (first ∷ definitions) zero d at h =
    let is : first ≡ d = (let e : Some first ≡ Some d = at in cc) in
    subst (λ (x : PlainDefinition). IsTrue (has_ordered_bounds x.tree)) is (and-left (has_ordered_bounds first.tree) (list_all (λ x. has_ordered_bounds x.tree) definitions) h)
tree_of_all (first ∷ definitions) (suc i) d at h = tree_of_all definitions i d at (and-right (has_ordered_bounds first.tree) (list_all (λ x. has_ordered_bounds x.tree) definitions) h)

pub sound_patterns : (spec : PlainSpec) → IsWellFormed spec → HasSoundPatterns spec
unfolding are_nested are_ordered
sound_patterns spec well =
    let definitions = list_all (λ d. has_ordered_bounds d.tree) spec.definitions in
    let trees = list_all has_ordered_bounds (expressions_of spec.rules) in
    record {
      distinct = well.distinct;
      ordered = record {
        at = λ name tree e.
            let d = some-defined spec.definitions name tree e in
            subst (λ (t : Regex). IsTrue (has_ordered_bounds t)) d.2 (tree_of_all spec.definitions d.1.place d.0 d.1.at (and-left definitions trees well.ordered));
      };
      bounds = λ i rule at. all_at has_ordered_bounds spec.rules i rule at (and-right definitions trees well.ordered);
      within = λ i rule at. all_at (is_within 32 spec.definitions) spec.rules i rule at well.nested;
    }

-- prefixes
take_all : (w : List ℕ) (n : ℕ) → n ≡ length w → take n w ≡ w
take_all w n e = ap (λ k. take k w) e ∙ take-length w

get_behind : (u : List ℕ) (x : ℕ) → slice_get (u ++ x ∷ []) (length u) ≡ Some x
get_behind [] x = refl
get_behind (b ∷ u) x = get_behind u x

length_behind : (u : List ℕ) (x : ℕ) → length (u ++ x ∷ []) ≡ length u + 1
length_behind [] x = refl
length_behind (b ∷ u) x = let e = length_behind u x in omega arith

take_but_last : (w : List ℕ) (n x : ℕ) → n + 1 ≡ length w → slice_get w n ≡ Some x → w ≡ take n w ++ x ∷ []
take_but_last [] n x e at = absurd (omega arith)
take_but_last (b ∷ []) zero x e at = (let f : Some b ≡ Some x = at in let g : b ≡ x = (cc) in ap (λ c. c ∷ []) g)
take_but_last (b ∷ c ∷ w) zero x e at = absurd (omega arith)
take_but_last (b ∷ w) (suc n) x e at = ap (λ v. b ∷ v) (take_but_last w n x (omega arith) at)

take_some : (w : List ℕ) (n : ℕ) → 0 < n → n ≤ length w → take n w ≢ []
take_some w zero h l e = absurd (omega arith)
take_some [] (suc n) h l e = absurd (omega arith)
take_some (b ∷ w) (suc n) h l e = absurd (cc)

some_length : (w : List ℕ) → w ≢ [] → 0 < length w
some_length [] ne = absurd (ne refl)
some_length (b ∷ w) ne = omega arith

no_bytes : (w : List ℕ) → 0 < length w → w ≢ []
no_bytes [] h e = absurd (omega arith)
no_bytes (b ∷ w) h e = absurd (cc)

-- the expressions of numbered rules
pub tree_at : (f : Regex → Unfolded) (base : ℕ) (plain : List PlainRule) (i : ℕ) (r : NumberedRule) → slice_get (numbered f base plain) i ≡ Some r → r.tree ≡ f r.rule.reading.tree
tree_at f base [] zero r h = absurd (cc)
tree_at f base [] (suc i) r h = absurd (cc)
tree_at f base (rule ∷ plain) zero r h =
    let is : record { rule = rule; tree = f rule.reading.tree; base = base } ≡ r = same (record { rule = rule; tree = f rule.reading.tree; base = base }) h in
    subst (λ (x : NumberedRule). x.tree ≡ f x.rule.reading.tree) is refl
  where
    same : (x : NumberedRule) → Some x ≡ Some r → x ≡ r
    same x e = (cc)
tree_at f base (rule ∷ plain) (suc i) r h = tree_at f (base + (position_count (f rule.reading.tree) + newline_count rule.reading.line_end)) plain i r h

numbered_at : (f : Regex → Unfolded) (base : ℕ) (plain : List PlainRule) (i : ℕ) (rule : PlainRule) → slice_get plain i ≡ Some rule →
    (r : NumberedRule) × (slice_get (numbered f base plain) i ≡ Some r)
numbered_at f base [] zero rule h = absurd (cc)
numbered_at f base [] (suc i) rule h = absurd (cc)
numbered_at f base (first ∷ plain) zero rule h = (record { rule = first; tree = f first.reading.tree; base = base }, refl)
numbered_at f base (first ∷ plain) (suc i) rule h = numbered_at f (base + (position_count (f first.reading.tree) + newline_count first.reading.line_end)) plain i rule h

module _ (spec : PlainSpec) (sound : HasSoundPatterns spec) where
  rules : List NumberedRule
  rules = numbered (simplified_pattern spec.definitions) 0 spec.rules

  -- the words that the pattern of a rule matches
  rule_words : (i : ℕ) (r : NumberedRule) → slice_get (numbered (simplified_pattern spec.definitions) 0 spec.rules) i ≡ Some r → (w : List ℕ) →
      Matches (SpecNames spec) r.rule.reading.tree w ↔ ByteWord r.tree r.base w
  unfolding SpecNames
  rule_words i r at w =
      let plain = (numbered_rules spec (simplified_pattern spec.definitions)).rule_of i r at in
      let whole = pattern-words spec.definitions r.rule.reading.tree sound.distinct sound.ordered (sound.bounds i r.rule plain) (sound.within i r.rule plain) r.base w in
      let kept = simplified-words byte_of_set spec.definitions r.rule.reading.tree r.base w in
      let is = tree_at (simplified_pattern spec.definitions) 0 spec.rules i r at in (
        (λ h. subst (λ t. ByteWord t r.base w) (sym is) (kept.1 (whole.0 h))),
        (λ h. whole.1 (kept.0 (subst (λ t. ByteWord t r.base w) is h))),
      )

  module _ (c : ℕ) (begin : Bool) (w : List ℕ) where
    -- a rule that matches the text fits it
    whole_fits : (i : ℕ) (r : NumberedRule) → slice_get (numbered (simplified_pattern spec.definitions) 0 spec.rules) i ≡ Some r → (line_end : Bool) → r.rule.reading.line_end ≡ line_end →
        IsActiveAt spec r.rule c begin → WholeWithEnd line_end r w → (n : ℕ) × Fits spec r.rule c begin w n × (reach r.rule n ≡ length w)
    whole_fits i r at false is active h = (
      length w,
      record {
        active = active.active;
        line_begin = active.line_begin;
        not_empty = some_length w h.1;
        within = omega arith;
        matches = subst (λ v. Matches (SpecNames spec) r.rule.reading.tree v) (sym (take_all w (length w) refl)) ((rule_words i r at w).1 h.0);
        line_end = λ e. absurd (false≢true (sym is ∙ e));
      },
      ap (λ (b : Bool). if b then length w + 1 else length w) is,
    )
    whole_fits i r at true is active h =
        let long = ap length h.3 ∙ length_behind h.0 10 in (
          length h.0,
          record {
            active = active.active;
            line_begin = active.line_begin;
            not_empty = some_length h.0 h.2;
            within = omega arith;
            matches = subst (λ v. Matches (SpecNames spec) r.rule.reading.tree v) (sym (ap (λ v. take (length h.0) v) h.3 ∙ take-append_seam h.0 (10 ∷ []))) ((rule_words i r at h.0).1 h.1);
            line_end = λ e. ap (λ v. slice_get v (length h.0)) h.3 ∙ get_behind h.0 10;
          },
          ap (λ (b : Bool). if b then length h.0 + 1 else length h.0) is ∙ sym long,
        )

    -- and a rule that fits it with this reach matches it
    fits_whole : (i : ℕ) (r : NumberedRule) → slice_get (numbered (simplified_pattern spec.definitions) 0 spec.rules) i ≡ Some r → (line_end : Bool) → r.rule.reading.line_end ≡ line_end →
        (n : ℕ) → Fits spec r.rule c begin w n → reach r.rule n ≡ length w → WholeWithEnd line_end r w
    fits_whole i r at false is n h e =
        let long : n ≡ length w = sym (ap (λ (b : Bool). if b then n + 1 else n) is) ∙ e in (
          (rule_words i r at w).0 (subst (λ v. Matches (SpecNames spec) r.rule.reading.tree v) (take_all w n long) h.matches),
          no_bytes w (let some = h.not_empty in omega arith),
        )
    fits_whole i r at true is n h e =
        let long : n + 1 ≡ length w = sym (ap (λ (b : Bool). if b then n + 1 else n) is) ∙ e in (
          take n w,
          (rule_words i r at (take n w)).0 h.matches,
          take_some w n h.not_empty h.within,
          take_but_last w n 10 long (h.line_end is),
        )

    reaches : (i : ℕ) (r : NumberedRule) → slice_get (numbered (simplified_pattern spec.definitions) 0 spec.rules) i ≡ Some r →
        ReachesWhole spec c begin w i ↔ (IsActiveAt spec r.rule c begin × MatchesWhole r w)
    reaches i r at = (
      (λ h.
          let same : h.rule ≡ r.rule = (let e : Some h.rule ≡ Some r.rule = sym h.at ∙ plain in cc) in
          let fits = subst (λ x. Fits spec x c begin w h.bytes) same h.fits in
          let whole = subst (λ x. reach x h.bytes ≡ length w) same h.whole in
          (record { active = fits.active; line_begin = fits.line_begin }, fits_whole i r at r.rule.reading.line_end refl h.bytes fits whole)),
      (λ h.
          let fits = whole_fits i r at r.rule.reading.line_end refl h.0 h.1 in
          record { rule = r.rule; at = plain; bytes = fits.0; fits = fits.1; whole = fits.2 }),
    )
      where
        plain : slice_get spec.rules i ≡ Some r.rule
        plain = (numbered_rules spec (simplified_pattern spec.definitions)).rule_of i r at

    -- the rules with such a fit are those that the position set matches
    pub reached_matched : (S : List ℕ) → IsSetOf spec (numbered (simplified_pattern spec.definitions) 0 spec.rules) (record { condition = c; begin = begin; word = w }) S → (i : ℕ) →
        ReachesWhole spec c begin w i ↔ IsMatchedBy (numbered (simplified_pattern spec.definitions) 0 spec.rules) S i
    reached_matched S is i = (
      (λ h.
          let r = numbered_at (simplified_pattern spec.definitions) 0 spec.rules i h.rule h.at in
          (matched_by spec (simplified_pattern spec.definitions) 0 spec.rules c begin w S i r.0 is r.1).0 ((reaches i r.0 r.1).0 h)),
      (λ h. (reaches i h.rule h.at).1 ((matched_by spec (simplified_pattern spec.definitions) 0 spec.rules c begin w S i h.rule is h.at).1 h)),
    )

    pub earliest_answer : (S : List ℕ) → IsSetOf spec (numbered (simplified_pattern spec.definitions) 0 spec.rules) (record { condition = c; begin = begin; word = w }) S → (found : Option ℕ) →
        IsEarliestMatched (numbered (simplified_pattern spec.definitions) 0 spec.rules) S found → IsAnswer spec c begin w found
    earliest_answer S is None none = λ j h. none j ((reached_matched S is j).0 h)
    earliest_answer S is (Some i) first = ((reached_matched S is i).1 first.0, λ j less h. first.1 j less ((reached_matched S is j).0 h))
