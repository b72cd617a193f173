use Rattle.std.proofs.Common.{◌+◌, ◌-◌, ◌*◌, length, map, if◌then◌else◌}
use Rattle.std.specs.BTreeSet.{btree_set_len, IsOrdered}
use Rattle.std.specs.Ordering.{nat_cmp}
use Rattle.lx_ere.specs.Regex.{regex_of}
use Rattle.lx_ere.specs.Matching.{Matches, Repeats}
use Rattle.lx_rules.specs.Names.{NameMatches}
use Rattle.lx_rules.specs.views.Rules.{definition_view}
use Rattle.lx_plain.specs.Places.{AreEnds, AreWithin, AtMost}
use Rattle.lx_plain.proofs.PlaceLemmas.{IsClosing}
use Rattle.lx_plain.proofs.SetLemmas.{is_empty}
use Rattle.lx_plain.proofs.NameLemmas.{DefinedBelow}
use Rattle.lx_plain.proofs.Weights.{weight, count_of}
use Rattle.lx_plain.proofs.matcher.+matcher.Given as goal

abbrev pub decreases-ends : goal.decreases-ends
decreases-ends l = weight l.definitions.now l.depth (count_of l.expr.now)

abbrev pub decreases-exactly : goal.decreases-exactly
decreases-exactly l = weight l.definitions.now l.depth (count_of l.body.now) + 1

abbrev pub decreases-reach_of_words : goal.decreases-reach_of_words
decreases-reach_of_words l = weight l.definitions.now l.depth (count_of l.body.now) + 1

abbrev pub decreases-any_number : goal.decreases-any_number
decreases-any_number l = weight l.definitions.now l.depth (count_of l.body.now) + 1

abbrev pub decreases-reach_of_name : goal.decreases-reach_of_name
decreases-reach_of_name l = weight l.definitions.now l.depth 0 + 1

abbrev pub invariant-exactly-loop-round : goal.invariant-exactly-loop-round
invariant-exactly-loop-round l = record {
  within : AreWithin l.text l.places;
  ends : AreEnds (Repeats (Matches (NameMatches (map definition_view l.definitions) l.depth) (regex_of l.body)) l._round) l.text l.starts l.places;
}

abbrev pub invariant-reach_of_words-loop-round : goal.invariant-reach_of_words-loop-round
invariant-reach_of_words-loop-round l = record {
  within : AreWithin l.text l.places;
  ends : AreEnds (Repeats (Matches (NameMatches (map definition_view l.definitions) l.depth) (regex_of l.body)) l._round) l.text l.starts l.places;
  reached : AreEnds (AtMost (Matches (NameMatches (map definition_view l.definitions) l.depth) (regex_of l.body)) l._round) l.text l.starts l.reached;
}

abbrev pub invariant-any_number-closing : goal.invariant-any_number-closing
invariant-any_number-closing l = record {
  ordered : IsOrdered nat_cmp l.reached;
  within : AreWithin l.text l.reached;
  closing : IsClosing (Matches (NameMatches (map definition_view l.definitions) l.depth) (regex_of l.body)) l.text l.starts l.reached l.fresh;
}

abbrev pub decreases-any_number-closing : goal.decreases-any_number-closing
decreases-any_number-closing l = 2 * (length l.text + 1 - btree_set_len l.reached) + (if is_empty l.fresh then 0 else 1)

abbrev pub invariant-reach_of_name-loop-definition : goal.invariant-reach_of_name-loop-definition
invariant-reach_of_name-loop-definition l = AreEnds (DefinedBelow (NameMatches (map definition_view l.definitions) (l.depth - 1)) (map definition_view l.definitions) l.name l.definition-index) l.text l.starts l.found
