-- The meaning of the flags of a set: the positions after it, and the rules that it matches.
use Rattle.std.proofs.Common.{◌≡◌, ℕ, zero, suc, ◌≤◌, ◌<◌, ◌↔◌, inl, inr, Bool, true, false, List, [], ◌∷◌, Option, Some, None, length, refl, sym, ◌∙◌, arith}
use Rattle.std.specs.Prelude.{slice_get, Contains}
use Rattle.std.proofs.lemmas.Bool.{cases_lt}
use Rattle.lx_rules.specs.Plain.{PlainSpec}
use Rattle.lx_auto.specs.Members.{has_member, places_from}
use Rattle.lx_auto.specs.Marking.{flag}
use Rattle.lx_auto.specs.PositionSets.{NumberedRule}
use Rattle.lx_auto.specs.RuleParts.{ArePartsOf}
use Rattle.lx_auto.specs.RuleLists.{AreMatchedAt, AreMatchedBy}
use Rattle.lx_auto.specs.SetSteps.{IsMatchedBy}
use Rattle.lx_auto.specs.Sets.{AreFollowing, AreFirst, IsEarliestMatched}
use Rattle.lx_auto.specs.Following.{FollowsMarked, BeginsWith, AreReadBelow, IsMatchedAt, IsFirstMatchedBelow}
use Rattle.lx_auto.specs.declared.rules.rule_part.RulePart.{RulePart}
use Rattle.lx_auto.proofs.Membership.{member_means, place_means, places_rise}
use Rattle.lx_auto.proofs.Ranges.{follow_in, final_in}

flag_past : (flags : List Bool) (q : ℕ) → length flags ≤ q → flag flags q ≡ false
flag_past [] q h = refl
flag_past (f ∷ flags) zero h = absurd (omega arith)
flag_past (f ∷ flags) (suc q) h = flag_past flags q (omega arith)

-- the flags are those of the set
pub record AreMarksOf (S : List ℕ) (total : ℕ) (marks : List Bool) : Type 0 where
  pub long : length marks ≡ total
  pub each : (q : ℕ) → q < total → flag marks q ≡ has_member S q

module _ (S : List ℕ) (total : ℕ) (marks : List Bool) (are : AreMarksOf S total marks) where
  pub marked_in : (q : ℕ) → flag marks q ≡ true → Contains S q
  marked_in q t = elim (cases_lt q total) [
    | inl l ↦ (member_means S q).0 (sym (are.each q l) ∙ t)
    | inr l ↦ let e = are.long in let no : false ≡ true = sym (flag_past marks q (omega arith)) ∙ t in absurd (cc)
  ]

  in_marked : (q : ℕ) → q < total → Contains S q → flag marks q ≡ true
  in_marked q l h = are.each q l ∙ (member_means S q).1 h

  module _ (rules : List NumberedRule) (parts : List RulePart) (of : ArePartsOf parts rules total) where
    below_length : (i : ℕ) (r : NumberedRule) → slice_get rules i ≡ Some r → i < length rules
    below_length i r h = go rules i h
      where
        go : (xs : List NumberedRule) (i : ℕ) → slice_get xs i ≡ Some r → i < length xs
        go [] i h = absurd (cc)
        go (x ∷ xs) zero h = omega arith
        go (x ∷ xs) (suc i) h = let l = go xs i h in omega arith

    pub following : (reads : List Bool) → AreReadBelow (FollowsMarked marks) rules (length rules) reads → AreFollowing rules S (places_from 0 reads)
    following reads so = record {
      rising = places_rise 0 reads;
      each = λ q. (
        (λ h. let r = (so.each q).0 ((place_means reads q).0 h) in
            record { place = r.place; rule = r.rule; at = r.at; from = r.reads.0; within = marked_in r.reads.0 r.reads.1; follow = r.reads.2 }),
        (λ f. let range = (follow_in f.rule f.from q f.follow).0 in
            let within = of.within f.place f.rule f.at in
            (place_means reads q).1 ((so.each q).1 (record {
              place = f.place;
              below = below_length f.place f.rule f.at;
              rule = f.rule;
              at = f.at;
              reads = (f.from, in_marked f.from (let h = range.1 in omega arith) f.within, f.follow);
            }))),
      );
    }

    pub matched_is : (j : ℕ) → IsMatchedAt rules marks j ↔ IsMatchedBy rules S j
    matched_is j = (
      (λ h. record { rule = h.rule; at = h.at; last = h.ends.0; within = marked_in h.ends.0 h.ends.1; final = h.ends.2 }),
      (λ h. let range = final_in h.rule h.last h.final in
          let within = of.within j h.rule h.at in
          record { rule = h.rule; at = h.at; ends = (h.last, in_marked h.last (let u = range.1 in omega arith) h.within, h.final) }),
    )

    pub earliest : (found : Option ℕ) → IsFirstMatchedBelow rules marks (length rules) found → IsEarliestMatched rules S found
    earliest None none = λ j h. none j (below_length j h.rule h.at) ((matched_is j).1 h)
    earliest (Some i) some = ((matched_is i).0 some.1, λ j l h. some.2 j l ((matched_is j).1 h))

    -- the list of all rules that have matched
    pub all_matched : (found : List ℕ) → AreMatchedAt rules marks (length rules) found → AreMatchedBy rules S found
    all_matched found so = record {
      rising = so.rising;
      each = λ i. (
        (λ h. (matched_is i).0 ((so.each i).0 h).1),
        (λ h. (so.each i).1 (below_length i h.rule h.at, (matched_is i).1 h)),
      );
    }

-- the firsts of a start
pub firsts : (spec : PlainSpec) (condition : ℕ) (begin : Bool) (rules : List NumberedRule) (reads : List Bool) →
    ((i : ℕ) (r : NumberedRule) → slice_get rules i ≡ Some r → i < length rules) →
    AreReadBelow (BeginsWith spec condition begin) rules (length rules) reads → AreFirst spec rules condition begin (places_from 0 reads)
firsts spec condition begin rules reads below so = record {
  rising = places_rise 0 reads;
  each = λ q. (
    (λ h. let r = (so.each q).0 ((place_means reads q).0 h) in
        record { place = r.place; rule = r.rule; at = r.at; active = r.reads.0; first = r.reads.1 }),
    (λ f. (place_means reads q).1 ((so.each q).1 (record {
      place = f.place;
      below = below f.place f.rule f.at;
      rule = f.rule;
      at = f.at;
      reads = (f.active, f.first);
    }))),
  );
}

pub place_below : (rules : List NumberedRule) (i : ℕ) (r : NumberedRule) → slice_get rules i ≡ Some r → i < length rules
place_below [] i r h = absurd (cc)
place_below (x ∷ xs) zero r h = omega arith
place_below (x ∷ xs) (suc i) r h = let l = place_below xs i r h in omega arith
