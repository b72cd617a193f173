use Rattle.std.proofs.Common.{◌≡◌, ◌∙◌, ◌<◌, ◌∷◌, [], ℕ, suc, List, Option, length, map, drop, reverse, ap, sym, subst, arith, length-append}
use Rattle.std.specs.Prelude.{IsTrue, slice_get}
use Rattle.std.proofs.Math.Seq.{take-length}
use Rattle.std.proofs.lemmas.List.{length-map}
use Rattle.lx_ere.specs.Regex.{Regex}
use Rattle.lx_rules.specs.views.Rules.{definition_view}
use Rattle.lx_rules.specs.declared.definition.Definition.{Definition}
use Rattle.lx_spec.specs.Dictionary.{is_unreadable}
use Rattle.lx_spec.specs.Graph.{is_marked}
use Rattle.lx_spec.specs.Outcome.{AreReached}
use Rattle.lx_spec.specs.views.Sections.{raw_definition_view}
use Rattle.lx_spec.specs.views.Trees.{tree_view, trees_view}
use Rattle.lx_spec.proofs.Reached.{reached-none, reached-before, popped, drop-map, marked-at, drop-at}
use Rattle.lx_spec.proofs.reach.marked_of.Goals as goal

pub loop-tree-init : goal.loop-tree-init
loop-tree-init c = record {
  len = omega (arith, c.requires.trees);
  rest = sym (take-length c.args.trees.items);
  reached = subst (λ (ds : List Definition). AreReached (λ j. IsTrue (is_marked c.args.marks.now j)) (length c.args.trees.items) (drop (length c.args.trees.items) (map raw_definition_view c.args.raw_definitions.now)) (drop (length c.args.trees.items) (trees_view c.args.trees.items)) (map definition_view (reverse ds)))
      (sym c.new-definitions.ensures.items)
      (reached-none (λ j. IsTrue (is_marked c.args.marks.now j)) (length c.args.trees.items) (map raw_definition_view c.args.raw_definitions.now) (trees_view c.args.trees.items) (omega (arith, length-map c.args.raw_definitions.now raw_definition_view, c.requires.trees)) (omega (arith, length-map c.args.trees.items tree_view)));
}

pub push_marked-requires-clause-readable : goal.push_marked-requires-clause-readable
push_marked-requires-clause-readable c = λ h.
    let i = length c.pop.new.self.items in
    let w = popped c.args.trees.items c.pop.new.self.items c.in-Some.tree (length c.loop-tree.rest.items) (sym c.loop-tree.invariant.rest ∙ c.in-Some.ensures.items) in
    let at = drop-map tree_view c.args.trees.items i ∙ ap trees_view w.1 in
    let count : c.len.result ≡ i = omega (arith, c.len.ensures) in
    sym (marked-at is_unreadable (trees_view c.args.trees.items) i (tree_view c.in-Some.tree) (trees_view (drop (suc i) c.args.trees.items)) at) ∙ c.requires.readable i (ap (is_marked c.args.marks.now) (sym count) ∙ h)

pub loop-tree-preserved : goal.loop-tree-preserved
loop-tree-preserved c =
    let R = λ (j : ℕ). IsTrue (is_marked c.args.marks.now j) in
    let raw_definitions = map raw_definition_view c.args.raw_definitions.now in
    let trees = c.args.trees.items in
    let rest = c.loop-tree.rest.items in
    let left = c.pop.new.self.items in
    let w = popped trees left c.in-Some.tree (length rest) (sym c.loop-tree.invariant.rest ∙ c.in-Some.ensures.items) in
    let one : length rest ≡ suc (length left) = ap length c.in-Some.ensures.items ∙ length-append left (c.in-Some.tree ∷ []) ∙ omega arith in
    let within : length left < length raw_definitions = omega (arith, one, c.loop-tree.invariant.len, length-map c.args.raw_definitions.now raw_definition_view) in
    let at : c.len.result ≡ length left = omega (arith, c.len.ensures) in
    let d = drop-at raw_definitions (length left) within in
    record {
      len = omega (arith, c.in-Some.ensures.len, c.loop-tree.invariant.len);
      rest = w.0;
      reached = reached-before R (length left) d.0 raw_definitions (tree_view c.in-Some.tree) (trees_view trees) (map definition_view (reverse c.loop-tree.definitions.items)) (map definition_view (reverse c.push_marked.new.backwards.items)) (length rest) one d.2
          (drop-map tree_view trees (length left) ∙ ap trees_view w.1 ∙ ap (λ (l : List (Option Regex)). tree_view c.in-Some.tree ∷ l) (sym (drop-map tree_view trees (suc (length left))))) c.loop-tree.invariant.reached c.len.result at
          (c.in_ok-push_marked.ensures d.0 (ap (slice_get raw_definitions) at ∙ d.1));
    }

pub returns : goal.returns
returns c =
    let R = λ (j : ℕ). IsTrue (is_marked c.args.marks.now j) in
    let raw_definitions = map raw_definition_view c.args.raw_definitions.now in
    let trees = trees_view c.args.trees.items in
    let none_left : length c.loop-tree.rest.items ≡ 0 = omega (arith, c.in_default.ensures.cases) in
    subst (λ (ds : List Definition). AreReached R 0 raw_definitions trees (map definition_view ds)) (sym c.reverse.ensures.items)
    (subst (λ (n : ℕ). AreReached R n (drop n raw_definitions) (drop n trees) (map definition_view (reverse c.loop-tree.definitions.items))) none_left c.loop-tree.invariant.reached)
