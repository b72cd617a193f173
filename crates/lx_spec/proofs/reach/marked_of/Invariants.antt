use Rattle.std.proofs.Common.{◌≡◌, ◌≤◌, length, map, take, drop, reverse, vec_len}
use Rattle.std.specs.Prelude.{IsTrue}
use Rattle.lx_rules.specs.views.Rules.{definition_view}
use Rattle.lx_spec.specs.Graph.{is_marked}
use Rattle.lx_spec.specs.Outcome.{AreReached}
use Rattle.lx_spec.specs.views.Sections.{raw_definition_view}
use Rattle.lx_spec.specs.views.Trees.{trees_view}
use Rattle.lx_spec.proofs.reach.marked_of.Given as goal

abbrev pub invariant-loop-tree : goal.invariant-loop-tree
invariant-loop-tree l = record {
  len : vec_len l.rest ≤ length l.raw_definitions;
  rest : l.rest.items ≡ take (length l.rest.items) l.fn.trees.items;
  reached : AreReached (λ j. IsTrue (is_marked l.marks j)) (length l.rest.items) (drop (length l.rest.items) (map raw_definition_view l.raw_definitions)) (drop (length l.rest.items) (trees_view l.fn.trees.items)) (map definition_view (reverse l.definitions.items));
}

abbrev pub decreases-loop-tree : goal.decreases-loop-tree
decreases-loop-tree l = vec_len l.rest
