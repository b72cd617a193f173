-- The draft is an automaton of the specification.
use Rattle.std.proofs.Common.{◌≡◌, ℕ, ◌+◌, ◌<◌, ◌≤◌, inl, inr, Bool, List, [], ◌∷◌, Option, Some, None, length, refl, sym, ◌∙◌, ap, subst, arith}
use Rattle.std.specs.Prelude.{slice_index_or, All, IfSome}
use Rattle.std.proofs.lemmas.Bool.{cases_lt}
use Rattle.std.proofs.lemmas.List.{get_or_past}
use Rattle.std.proofs.lemmas.Option.{slice_get_within}
use Rattle.lx_rules.specs.Plain.{PlainSpec}
use Rattle.lx_automaton.specs.Automata.{Machine, IsMachine, HasSameSteps, start_of, accepted_by, state_after, accepted_at, answer}
use Rattle.lx_auto.specs.Drafting.{AreAllBelow, IsDrafted}
use Rattle.lx_auto.specs.Exploring.{IsExplored, start_count, start_number}
use Rattle.lx_auto.specs.Leaves.{PlainLeaf, AreLeavesOf, AreGroupsOf}
use Rattle.lx_automaton.specs.Meaning.{ReachesWhole, IsAnswer, IsAutomatonOf}
use Rattle.lx_auto.specs.PositionSets.{numbered}
use Rattle.lx_auto.specs.PositionTables.{AreMatchedBelow}
use Rattle.lx_auto.specs.Sets.{IsEarliestMatched}
use Rattle.lx_auto.specs.SetTable.{Positions, set_of}
use Rattle.lx_auto.specs.Simplified.{simplified_pattern}
use Rattle.lx_auto.proofs.DraftMachine.{accepted_start, accepted_set}
use Rattle.lx_auto.proofs.Drafted.{IsAfter, read_after, start_below}
use Rattle.lx_automaton.proofs.Members.{contains_nil}
use Rattle.lx_automaton.proofs.SameAnswers.{same_answers}
use Rattle.lx_auto.proofs.Reached.{numbered_rules}
use Rattle.lx_auto.proofs.RuleAnswers.{HasSoundPatterns, earliest_answer}

-- no rule reaches the end of the empty text
pub nothing_empty : (spec : PlainSpec) (c : ℕ) (begin : Bool) (j : ℕ) → ReachesWhole spec c begin [] j → ⊥
nothing_empty spec c begin j h = let some = h.fits.not_empty in let within = h.fits.within in absurd (omega arith)

module _ (spec : PlainSpec) (leaves : List PlainLeaf) (classes representatives : List ℕ) (sets : List Positions) (matched targets : List (Option ℕ))
    (of : AreLeavesOf (numbered (simplified_pattern spec.definitions) 0 spec.rules) leaves) (groups : AreGroupsOf leaves classes representatives)
    (explored : IsExplored spec (simplified_pattern spec.definitions) leaves representatives sets targets (start_count spec + length sets))
    (are : AreMatchedBelow spec (simplified_pattern spec.definitions) sets matched (length sets)) where
  -- each rule that a set matches is there
  matched_rule : (j r : ℕ) → slice_index_or matched j None ≡ Some r → r < length spec.rules
  matched_rule j r is = elim (cases_lt j (length sets)) [
    | inl inside ↦ by (slice_index_or matched j None) _ (are.each j inside) is
    | inr past ↦ absurd (let long = are.long in let f : None ≡ Some r = sym (get_or_past matched j None (omega arith)) ∙ is in cc)
  ]
    where
      by : (found : Option ℕ) (S : List ℕ) → IsEarliestMatched (numbered (simplified_pattern spec.definitions) 0 spec.rules) S found → found ≡ Some r → r < length spec.rules
      by None S first f = absurd (cc)
      by (Some i) S first f =
          let same : i ≡ r = (cc) in
          subst (λ x. x < length spec.rules) same
          (slice_get_within spec.rules i first.0.rule.rule ((numbered_rules spec (simplified_pattern spec.definitions)).rule_of i first.0.rule first.0.at))

  pub matched_below : (n : ℕ) → length spec.rules ≤ n → AreAllBelow matched n
  matched_below n most j h = by (slice_index_or matched j None) (λ r e. let l = matched_rule j r e in omega arith)
    where
      by : (o : Option ℕ) → ((r : ℕ) → o ≡ Some r → r < n) → IfSome o (λ r. r < n)
      by None f = tt
      by (Some r) f = f r refl

  module _ (m : Machine) (draft : IsDrafted (length spec.conditions) classes (length representatives) matched targets m) where
    -- its answers are the specification's
    module _ (sound : HasSoundPatterns spec) where
      answer_after : (c : ℕ) (begin : Bool) (w : List ℕ) (s : Option ℕ) →
          IsAfter spec (simplified_pattern spec.definitions) leaves classes representatives sets matched targets m of groups explored draft (record { condition = c; begin = begin; word = w }) s →
          IsAnswer spec c begin w (accepted_at m s)
      answer_after c begin w None nothing =
          earliest_answer spec sound c begin w [] (λ q. ((λ h. absurd (contains_nil q h)), (λ h. absurd (nothing q h)))) None (λ j h. contains_nil h.last h.within)
      answer_after c begin w (Some s) is =
          let accepted : accepted_by m s ≡ slice_index_or matched is.0 None = ap (λ x. accepted_by m x) is.2 ∙ accepted_set spec leaves classes representatives sets matched targets groups explored are.long m draft is.0 in
          subst (IsAnswer spec c begin w) (sym accepted)
          (earliest_answer spec sound c begin w (set_of sets is.0) is.3 (slice_index_or matched is.0 None) (are.each is.0 is.1))

      answers_word : (c : ℕ) (begin : Bool) (w : List ℕ) → c < length spec.conditions → All (λ b. b < 256) w → IsAnswer spec c begin w (answer m c begin w)
      answers_word c begin [] hc all =
          let at = draft.starts_are c begin hc in
          let none : accepted_by m (start_of m c begin) ≡ None = ap (λ x. accepted_by m x) at
          ∙ accepted_start spec leaves classes representatives sets matched targets groups explored are.long m draft (start_number c begin) (start_below c begin (length spec.conditions) hc) in
          subst (IsAnswer spec c begin []) (sym none) (λ j h. nothing_empty spec c begin j h)
      answers_word c begin (b ∷ w) hc all =
          answer_after c begin (b ∷ w) (state_after m (Some (start_of m c begin)) (b ∷ w))
          (read_after spec (simplified_pattern spec.definitions) leaves classes representatives sets matched targets m of groups explored draft c begin (b ∷ w) hc (λ e. absurd (cc)) all)

      pub draft_answers : IsAutomatonOf spec m
      draft_answers = record { conditions = draft.conditions_are; answers = answers_word }

-- an automaton that steps alike is one of the same specification
pub same_steps_answers : (spec : PlainSpec) (q r : Machine) → IsMachine q → HasSameSteps q r → IsAutomatonOf spec q → IsAutomatonOf spec r
same_steps_answers spec q r is same_steps of = record {
  conditions = ap length same_steps.starts ∙ of.conditions;
  answers = λ c begin w hc all.
      let n = of.conditions in
      subst (IsAnswer spec c begin w) (sym (same_answers q r is same_steps c begin w (omega arith) all)) (of.answers c begin w hc all);
}
