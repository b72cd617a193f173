-- The draft over numbers of lists is a list automaton of the specification.
use Rattle.std.proofs.Common.{◌≡◌, ◌≢◌, ℕ, zero, suc, ◌+◌, ◌<◌, ◌≤◌, Bool, List, [], ◌∷◌, Option, Some, None, length, refl, sym, ◌∙◌, ap, subst, arith}
use Rattle.std.specs.Prelude.{All, IfSome, slice_index_or}
use Rattle.std.proofs.lemmas.List.{length-map}
use Rattle.lx_ere.specs.Regex.{Regex}
use Rattle.lx_rules.specs.Plain.{PlainRule, PlainSpec}
use Rattle.lx_automaton.specs.Automata.{Machine, start_of, accepted_by, state_after, accepted_at, answer}
use Rattle.lx_automaton.specs.Lists.{IsListOf, IsListAnswer, IsListOfSomeText, AreListsOf, IsListAutomatonOf, HasMoreLists}
use Rattle.lx_automaton.proofs.Members.{contains_nil}
use Rattle.lx_auto.specs.Counts.{newline_count}
use Rattle.lx_auto.specs.Drafting.{AreAllBelow, IsDrafted}
use Rattle.lx_auto.specs.Exploring.{IsExplored, start_count, start_number}
use Rattle.lx_auto.specs.Leaves.{PlainLeaf, AreLeavesOf, AreGroupsOf}
use Rattle.lx_auto.specs.PositionSets.{numbered}
use Rattle.lx_auto.specs.RuleLists.{IsListOfSet, IsListNumber, IsListOfSomeSet, AreListed, HasMoreSetLists, members_of, plain_lists}
use Rattle.lx_auto.specs.SetSteps.{IsSetOf}
use Rattle.lx_auto.specs.SetTable.{Positions, set_of}
use Rattle.lx_auto.specs.Simplified.{simplified_pattern}
use Rattle.lx_auto.specs.Unfolded.{Unfolded, position_count}
use Rattle.lx_auto.proofs.DraftAnswers.{nothing_empty}
use Rattle.lx_auto.proofs.DraftMachine.{accepted_start, accepted_set}
use Rattle.lx_auto.proofs.Drafted.{IsAfter, read_after, start_below}
use Rattle.lx_auto.proofs.RuleAnswers.{HasSoundPatterns, reached_matched}

-- a list of numbers by its number
list_at : (lists : List Positions) (k : ℕ) → slice_index_or (plain_lists lists) k [] ≡ set_of lists k
list_at [] k = refl
list_at (s ∷ lists) zero = refl
list_at (s ∷ lists) (suc k) = list_at lists k

pub count_of_rules : (f : Regex → Unfolded) (base : ℕ) (plain : List PlainRule) → length (numbered f base plain) ≡ length plain
count_of_rules f base [] = refl
count_of_rules f base (rule ∷ plain) = ap suc (count_of_rules f (base + (position_count (f rule.reading.tree) + newline_count rule.reading.line_end)) plain)

module _ (spec : PlainSpec) (sound : HasSoundPatterns spec) where
  -- the list of a text's set is that of the text
  list_of : (c : ℕ) (begin : Bool) (w S found : List ℕ) → IsSetOf spec (numbered (simplified_pattern spec.definitions) 0 spec.rules) (record { condition = c; begin = begin; word = w }) S →
      IsListOfSet (numbered (simplified_pattern spec.definitions) 0 spec.rules) S found → IsListOf spec c begin w found
  list_of c begin w S found is list = record {
    ascending = list.matched.rising;
    each = λ i.
        let same = reached_matched spec sound c begin w S is i in
        ((λ h. same.1 ((list.matched.each i).0 h)), (λ h. (list.matched.each i).1 (same.0 h)));
    some = list.some;
  }

  list_answer : (c : ℕ) (begin : Bool) (w S : List ℕ) (lists : List Positions) (found : Option ℕ) →
      IsSetOf spec (numbered (simplified_pattern spec.definitions) 0 spec.rules) (record { condition = c; begin = begin; word = w }) S →
      IsListNumber (numbered (simplified_pattern spec.definitions) 0 spec.rules) lists S found → IsListAnswer spec (plain_lists lists) c begin w found
  list_answer c begin w S lists None is none = λ i h. none i ((reached_matched spec sound c begin w S is i).0 h)
  list_answer c begin w S lists (Some k) is some =
      let there = some.0 in
      let long = length-map lists members_of in
      ((omega arith), subst (IsListOf spec c begin w) (sym (list_at lists k)) (list_of c begin w S (set_of lists k) is some.1))

  module _ (leaves : List PlainLeaf) (classes representatives : List ℕ) (sets : List Positions) (targets : List (Option ℕ))
      (explored : IsExplored spec (simplified_pattern spec.definitions) leaves representatives sets targets (start_count spec + length sets)) where
    -- each set is that of some text
    text_list : (found : List ℕ) → IsListOfSomeSet (numbered (simplified_pattern spec.definitions) 0 spec.rules) sets found → IsListOfSomeText spec found
    text_list found list =
        let set = explored.reached.reached list.place list.there in
        record {
          condition = set.from.condition;
          begin = set.from.begin;
          text = set.from.word;
          there = set.start;
          bytes = set.bytes;
          is = list_of set.from.condition set.from.begin set.from.word (set_of sets list.place) found set.leads list.is;
        }

    pub more_text_lists : (n : ℕ) → HasMoreSetLists (numbered (simplified_pattern spec.definitions) 0 spec.rules) sets n → HasMoreLists spec n
    more_text_lists n more = record {
      lists = more.lists;
      count = more.count;
      are = record { each = λ k h. text_list (slice_index_or more.lists k []) (more.of_sets k h); different = more.different };
    }

    module _ (lists : List Positions) (numbers : List (Option ℕ)) (listed : AreListed (numbered (simplified_pattern spec.definitions) 0 spec.rules) sets lists numbers (length sets)) where
      -- each number is that of a list
      pub numbers_below : (n : ℕ) → length lists ≤ n → AreAllBelow numbers n
      numbers_below n most j h =
          let long = listed.long in
          by (slice_index_or numbers j None) (listed.each j (omega arith))
        where
          by : (found : Option ℕ) → IsListNumber (numbered (simplified_pattern spec.definitions) 0 spec.rules) lists (set_of sets j) found → IfSome found (λ k. k < n)
          by None none = tt
          by (Some k) some = let there = some.0 in omega arith

      text_lists : ((j k : ℕ) → j < k → k < length lists → set_of lists j ≢ set_of lists k) → AreListsOf spec (plain_lists lists)
      text_lists different =
          let long = length-map lists members_of in
          record {
            each = λ k h. subst (IsListOfSomeText spec) (sym (list_at lists k)) (text_list (set_of lists k) (listed.of_sets k (omega arith)));
            different = λ j k less h e. different j k less (omega arith) (sym (list_at lists j) ∙ e ∙ list_at lists k);
          }

      module _ (of : AreLeavesOf (numbered (simplified_pattern spec.definitions) 0 spec.rules) leaves) (groups : AreGroupsOf leaves classes representatives) (m : Machine)
          (draft : IsDrafted (length spec.conditions) classes (length representatives) numbers targets m) where
        answer_after : (c : ℕ) (begin : Bool) (w : List ℕ) (s : Option ℕ) →
            IsAfter spec (simplified_pattern spec.definitions) leaves classes representatives sets numbers targets m of groups explored draft (record { condition = c; begin = begin; word = w }) s →
            IsListAnswer spec (plain_lists lists) c begin w (accepted_at m s)
        answer_after c begin w None nothing =
            list_answer c begin w [] lists None (λ q. ((λ h. absurd (contains_nil q h)), (λ h. absurd (nothing q h)))) (λ i h. contains_nil h.last h.within)
        answer_after c begin w (Some s) is =
            let accepted : accepted_by m s ≡ slice_index_or numbers is.0 None =
            ap (λ x. accepted_by m x) is.2 ∙ accepted_set spec leaves classes representatives sets numbers targets groups explored listed.long m draft is.0 in
            subst (IsListAnswer spec (plain_lists lists) c begin w) (sym accepted)
            (list_answer c begin w (set_of sets is.0) lists (slice_index_or numbers is.0 None) is.3 (listed.each is.0 is.1))

        answers_word : (c : ℕ) (begin : Bool) (w : List ℕ) → c < length spec.conditions → All (λ b. b < 256) w → IsListAnswer spec (plain_lists lists) c begin w (answer m c begin w)
        answers_word c begin [] hc all =
            let at = draft.starts_are c begin hc in
            let none : accepted_by m (start_of m c begin) ≡ None =
            ap (λ x. accepted_by m x) at
            ∙ accepted_start spec leaves classes representatives sets numbers targets groups explored listed.long m draft (start_number c begin) (start_below c begin (length spec.conditions) hc) in
            subst (IsListAnswer spec (plain_lists lists) c begin []) (sym none) (λ i h. nothing_empty spec c begin i h)
        answers_word c begin (b ∷ w) hc all =
            answer_after c begin (b ∷ w) (state_after m (Some (start_of m c begin)) (b ∷ w))
            (read_after spec (simplified_pattern spec.definitions) leaves classes representatives sets numbers targets m of groups explored draft c begin (b ∷ w) hc (λ e. absurd (cc)) all)

        pub list_automaton : ((j k : ℕ) → j < k → k < length lists → set_of lists j ≢ set_of lists k) → IsListAutomatonOf spec m (plain_lists lists)
        list_automaton different = record { conditions = draft.conditions_are; answers = answers_word; lists_are = text_lists different }
