use Rattle.std.proofs.Common.{◌≡◌, ◌⊎◌, ℕ, ◌+◌, ◌-◌, ◌<◌, ◌≤◌, false, List, Some, None, length, map, rules, arith, refl, sym, ◌∙◌, eq-eqb, ne_eqb}
use Rattle.std.specs.Prelude.{slice_get}
use Rattle.std.specs.BTreeSet.{btree_set_len}
use Rattle.std.specs.Cmp.Lexicographic.{same_text, other_text}
use Rattle.std.proofs.lemmas.Bool.{false≢true}
use Rattle.std.proofs.lemmas.List.{length-map}
use Rattle.std.proofs.lemmas.Option.{slice_get_read}
use Rattle.std.proofs.lemmas.Result.{IfOk-weaker}
use Rattle.lx_ere.specs.Regex.{regex_of, one_of}
use Rattle.lx_ere.specs.Matching.{Matches, Splits, Repeats, RepeatsBetween}
use Rattle.lx_rules.specs.Names.{NameMatches}
use Rattle.lx_rules.specs.Plain.{PlainDefinition}
use Rattle.lx_rules.specs.views.Rules.{definition_view}
use Rattle.lx_plain.specs.Places.{AreEnds, AreWithin, AnyNumber, AtMost}
use Rattle.lx_plain.proofs.PlaceLemmas.{ends_within, all_within, ends_map, ends_then, ends_or, ends_byte, closing_goes_on, closing_ends, closing_falls, repeats_more, repeats_fewer, at_most_more, at_most_fewer, between_any, any_between, between_at_most, at_most_between}
use Rattle.lx_plain.proofs.SetLemmas.{is_empty, nothing_in}
use Rattle.lx_plain.proofs.NameLemmas.{DefinedBelow, below_other, below_still, below_more, below_fewer, name_into, name_from}
use Rattle.lx_plain.proofs.Viewed.{viewed_at}
use Rattle.lx_plain.proofs.Weights.{count_of, count_all, count_le, name_falls}
use Rattle.lx_plain.proofs.matcher.+matcher.Goals as goal
use Rattle.lx_plain.proofs.matcher.+matcher.Goals.{reach_of_name-then-eq+in_ok-further+in_ok-add_new, reach_of_name-else-eq}

pub any_number-ends-requires : goal.any_number-ends-requires
any_number-ends-requires t c = (search rules, λ j h. c.closing.invariant.within j (c.closing.invariant.closing.inside j h))

pub any_number-closing-smaller : goal.any_number-closing-smaller
any_number-closing-smaller t c =
    let more : is_empty c.closing.fresh ≡ false = ne_eqb (btree_set_len c.closing.fresh) 0 (λ e. false≢true (sym c.closing-test.true ∙ c.is_empty.ensures.1 e)) in
    let L : List ℕ → Type 0 = Matches (NameMatches (map definition_view c.args.definitions.now) c.args.depth) (regex_of c.args.body.now) in
    let grown : AreWithin c.args.text.now c.add_new.new.places = all_within c.args.text.now c.closing.reached c.in_ok-next.next c.add_new.new.places c.closing.invariant.within
    (ends_within L c.args.text.now c.closing.fresh c.in_ok-next.next (λ j h. c.closing.invariant.within j (c.closing.invariant.closing.inside j h)) c.in_ok-next.ensures) c.in_ok-fresh-2.ensures.all in
    closing_falls c.args.text.now c.closing.reached c.add_new.new.places c.closing.fresh c.in_ok-fresh-2.fresh more c.in_ok-fresh-2.ensures.count c.in_ok-fresh-2.ensures.ordered grown

pub any_number-closing-preserved : goal.any_number-closing-preserved
any_number-closing-preserved t c =
    let L : List ℕ → Type 0 = Matches (NameMatches (map definition_view c.args.definitions.now) c.args.depth) (regex_of c.args.body.now) in
    record {
      ordered = c.in_ok-fresh-2.ensures.ordered;
      within = all_within c.args.text.now c.closing.reached c.in_ok-next.next c.add_new.new.places c.closing.invariant.within
          (ends_within L c.args.text.now c.closing.fresh c.in_ok-next.next (λ j h. c.closing.invariant.within j (c.closing.invariant.closing.inside j h)) c.in_ok-next.ensures) c.in_ok-fresh-2.ensures.all;
      closing = closing_goes_on L c.args.text.now c.args.starts.now c.closing.reached c.closing.fresh c.in_ok-next.next c.add_new.new.places c.in_ok-fresh-2.fresh c.closing.invariant.closing c.in_ok-next.ensures c.in_ok-fresh-2.ensures.all c.in_ok-fresh-2.ensures.new;
    }

pub any_number-returns : goal.any_number-returns
any_number-returns t c =
    let L : List ℕ → Type 0 = Matches (NameMatches (map definition_view c.args.definitions.now) c.args.depth) (regex_of c.args.body.now) in
    closing_ends L c.args.text.now c.args.starts.now c.closing.reached c.closing.fresh c.closing.invariant.closing (λ j. nothing_in c.closing.fresh j (eq-eqb (btree_set_len c.closing.fresh) 0 (c.is_empty.ensures.0 c.closing-test.false)))

pub reach_of_words-loop-round-preserved : goal.reach_of_words-loop-round-preserved
reach_of_words-loop-round-preserved t c =
    let L : List ℕ → Type 0 = Matches (NameMatches (map definition_view c.args.definitions.now) c.args.depth) (regex_of c.args.body.now) in
    let k : ℕ = c.loop-round._round in
    let further : AreEnds (Repeats L (k + 1)) c.args.text.now c.args.starts.now c.in_ok-places-2.places
    = ends_map (Splits (Repeats L k) L) (Repeats L (k + 1)) c.args.text.now c.args.starts.now c.in_ok-places-2.places (repeats_more L k) (repeats_fewer L k)
    (ends_then (Repeats L k) L c.args.text.now c.args.starts.now c.loop-round.places c.in_ok-places-2.places c.loop-round.invariant.ends c.in_ok-places-2.ensures) in
    record {
      within = ends_within L c.args.text.now c.loop-round.places c.in_ok-places-2.places c.loop-round.invariant.within c.in_ok-places-2.ensures;
      ends = further;
      reached = ends_map (λ w. AtMost L k w ⊎ Repeats L (k + 1) w) (AtMost L (k + 1)) c.args.text.now c.args.starts.now c.add_new.new.places (at_most_more L k) (at_most_fewer L k)
          (ends_or (AtMost L k) (Repeats L (k + 1)) c.args.text.now c.args.starts.now c.loop-round.reached c.in_ok-places-2.places c.add_new.new.places c.loop-round.invariant.reached further c.in_ok-add_new.ensures.all);
    }

pub ends-returns-in-Set : goal.ends-returns-in-Set
ends-returns-in-Set t c =
    let names : List ℕ → List ℕ → Type 0 = NameMatches (map definition_view c.args.definitions.now) c.args.depth in
    rw c.in-Set.is (IfOk-weaker c.positions_after_byte.result _ (AreEnds (Matches names (one_of c.in-Set.set)) c.args.text.now c.args.starts.now) (λ ends. ends_byte names c.in-Set.set c.args.text.now c.args.starts.now ends) c.positions_after_byte.ensures)

pub ends-ends-requires-in-Then : goal.ends-ends-requires-in-Then
ends-ends-requires-in-Then t c = (search rules, ends_within _ c.args.text.now c.args.starts.now c.in_ok-middles-in-Then.middles c.requires c.in_ok-middles-in-Then.ensures)

pub ends-returns-in-Then : goal.ends-returns-in-Then
ends-returns-in-Then t c =
    let names : List ℕ → List ℕ → Type 0 = NameMatches (map definition_view c.args.definitions.now) c.args.depth in
    let L : List ℕ → Type 0 = Matches names (regex_of c.in-Then.first.value) in
    let M : List ℕ → Type 0 = Matches names (regex_of c.in-Then.second.value) in
    rw c.in-Then.is (IfOk-weaker c.ends-in-Then.result _ (AreEnds (Splits L M) c.args.text.now c.args.starts.now)
    (λ ends. ends_then L M c.args.text.now c.args.starts.now c.in_ok-middles-in-Then.middles ends (rw c.deref.ensures at c.in_ok-middles-in-Then.ensures))
    (rw c.deref-in-Then.ensures at c.ends-in-Then.ensures))

pub ends-any_number-requires : goal.ends-any_number-requires
ends-any_number-requires t c = (search rules, ends_within _ c.args.text.now c.args.starts.now c.in_ok-owed-in-Times.owed c.requires c.in_ok-owed-in-Times.ensures)

pub ends-returns-in-None : goal.ends-returns-in-None
ends-returns-in-None t c =
    let names : List ℕ → List ℕ → Type 0 = NameMatches (map definition_view c.args.definitions.now) c.args.depth in
    let L : List ℕ → Type 0 = Matches names (regex_of c.in-Times.body.value) in
    let low : ℕ = c.in-Times.low in
    rw (c.in-Times.is, c.in-None.is) (IfOk-weaker c.any_number.result (AreEnds (AnyNumber L) c.args.text.now c.in_ok-owed-in-Times.owed) (AreEnds (RepeatsBetween L low None) c.args.text.now c.args.starts.now)
    (λ ends any. ends_map (Splits (Repeats L low) (AnyNumber L)) (RepeatsBetween L low None) c.args.text.now c.args.starts.now ends (between_any L low) (any_between L low)
    (ends_then (Repeats L low) (AnyNumber L) c.args.text.now c.args.starts.now c.in_ok-owed-in-Times.owed ends (rw c.deref-in-Times.ensures at c.in_ok-owed-in-Times.ensures) any))
    (rw c.deref-in-None.ensures at c.any_number.ensures))

pub ends-reach_of_words-requires : goal.ends-reach_of_words-requires
ends-reach_of_words-requires t c = (search rules, ends_within _ c.args.text.now c.args.starts.now c.in_ok-owed-in-Times.owed c.requires c.in_ok-owed-in-Times.ensures)

pub ends-returns-in-Times : goal.ends-returns-in-Times
ends-returns-in-Times t c =
    let names : List ℕ → List ℕ → Type 0 = NameMatches (map definition_view c.args.definitions.now) c.args.depth in
    let L : List ℕ → Type 0 = Matches names (regex_of c.in-Times.body.value) in
    let low : ℕ = c.in-Times.low in
    let high : ℕ = c.in-Some-2.high in
    let same : c.in-Some.high ≡ high = (let e : Some c.in-Some.high ≡ Some high = sym c.in-Some.is ∙ c.in-Some-2.is in cc) in
    let le : low ≤ high = (let h : low ≤ c.in-Some.high = c.if-high-low.false in omega arith) in
    rw (c.in-Times.is, c.in-Some-2.is) (IfOk-weaker c.reach_of_words.result (AreEnds (AtMost L (high - low)) c.args.text.now c.in_ok-owed-in-Times.owed) (AreEnds (RepeatsBetween L low (Some high)) c.args.text.now c.args.starts.now)
    (λ ends few. ends_map (Splits (Repeats L low) (AtMost L (high - low))) (RepeatsBetween L low (Some high)) c.args.text.now c.args.starts.now ends (λ w. between_at_most L low high w le) (at_most_between L low high)
    (ends_then (Repeats L low) (AtMost L (high - low)) c.args.text.now c.args.starts.now c.in_ok-owed-in-Times.owed ends (rw c.deref-in-Times.ensures at c.in_ok-owed-in-Times.ensures) few))
    (rw c.deref-in-Some-2.ensures at c.reach_of_words.ensures))

pub exactly-loop-round-preserved : goal.exactly-loop-round-preserved
exactly-loop-round-preserved t c =
    let L : List ℕ → Type 0 = Matches (NameMatches (map definition_view c.args.definitions.now) c.args.depth) (regex_of c.args.body.now) in
    let k : ℕ = c.loop-round._round in
    record {
      within = ends_within L c.args.text.now c.loop-round.places c.in_ok-places-2.places c.loop-round.invariant.within c.in_ok-places-2.ensures;
      ends = ends_map (Splits (Repeats L k) L) (Repeats L (k + 1)) c.args.text.now c.args.starts.now c.in_ok-places-2.places (repeats_more L k) (repeats_fewer L k)
          (ends_then (Repeats L k) L c.args.text.now c.args.starts.now c.loop-round.places c.in_ok-places-2.places c.loop-round.invariant.ends c.in_ok-places-2.ensures);
    }

pub reach_of_name-ends-requires : goal.reach_of_name-ends-requires
reach_of_name-ends-requires t c =
    let at : slice_get c.args.definitions.now c.loop-definition.definition-index ≡ Some c.definition-item.result = slice_get_read c.args.definitions.now (length c.args.definitions.now) c.loop-definition.definition-index c.definition-item.result refl c.loop-definition-test.true c.definition-item.is in
    let le : count_of c.definition-item.result.expr ≤ count_all c.args.definitions.now = count_le c.args.definitions.now c.loop-definition.definition-index c.definition-item.result at in
    let deep : 0 < c.args.depth = omega arith in
    let less = name_falls c.args.definitions.now (count_of c.definition-item.result.expr) c.args.depth deep le in
    (search (rules, less), c.requires)

pub reach_of_name-loop-definition-preserved : goal.reach_of_name-loop-definition-preserved
reach_of_name-loop-definition-preserved t c =
    let read : slice_get c.args.definitions.now c.loop-definition.definition-index ≡ Some c.definition-item.result = slice_get_read c.args.definitions.now (length c.args.definitions.now) c.loop-definition.definition-index c.definition-item.result refl c.loop-definition-test.true c.definition-item.is in
    let inner : List ℕ → List ℕ → Type 0 = NameMatches (map definition_view c.args.definitions.now) (c.args.depth - 1) in
    let k : ℕ = c.loop-definition.definition-index in
    let here : PlainDefinition = definition_view c.definition-item.result in
    let definitions : List PlainDefinition = map definition_view c.args.definitions.now in
    let at : slice_get definitions k ≡ Some here = viewed_at definition_view c.args.definitions.now k c.definition-item.result read in
    let name : List ℕ = c.args.name.now in
    elim c.if-eq.branch [
      | reach_of_name-then-eq+in_ok-further+in_ok-add_new w ↦
          let is : here.name ≡ name = sym c.as_slice.ensures.value ∙ same_text c.as_slice.result.now name (sym (sym c.eq.ensures ∙ w.if-eq.true)) in
          let L : List ℕ → Type 0 = Matches inner here.tree in
          rw w.found-is (ends_map (λ v. DefinedBelow inner definitions name k v ⊎ L v) (DefinedBelow inner definitions name (k + 1)) c.args.text.now c.args.starts.now w.add_new.new.places
          (λ v. below_more inner definitions name v k here at is) (λ v. below_fewer inner definitions name v k here at)
          (ends_or (DefinedBelow inner definitions name k) L c.args.text.now c.args.starts.now c.loop-definition.found w.in_ok-further.further w.add_new.new.places c.loop-definition.invariant w.in_ok-further.ensures w.in_ok-add_new.ensures.all))
      | reach_of_name-else-eq w ↦
          let other : here.name ≡ name → ⊥ = λ is. other_text c.as_slice.result.now name (sym (sym c.eq.ensures ∙ w.if-eq.false)) (c.as_slice.ensures.value ∙ is) in
          rw w.found-is (ends_map (DefinedBelow inner definitions name k) (DefinedBelow inner definitions name (k + 1)) c.args.text.now c.args.starts.now c.loop-definition.found
          (λ v. below_still inner definitions name v k) (λ v. below_other inner definitions name v k here at other) c.loop-definition.invariant)
    ]

pub reach_of_name-returns : goal.reach_of_name-returns
reach_of_name-returns t c =
    let inner : List ℕ → List ℕ → Type 0 = NameMatches (map definition_view c.args.definitions.now) (c.args.depth - 1) in
    let deep : 0 < c.args.depth = omega arith in
    let definitions : List PlainDefinition = map definition_view c.args.definitions.now in
    let all : length c.args.definitions.now ≤ c.loop-definition.definition-index = c.loop-definition-test.false in
    let k : ℕ = c.loop-definition.definition-index in
    ends_map (DefinedBelow inner definitions c.args.name.now k) (NameMatches definitions c.args.depth c.args.name.now) c.args.text.now c.args.starts.now c.loop-definition.found
    (λ w. name_into definitions c.args.depth c.args.name.now w k deep) (λ w. name_from definitions c.args.depth c.args.name.now w k deep (omega (arith, all, length-map c.args.definitions.now definition_view))) c.loop-definition.invariant
