use Rattle.std.proofs.Common.{◌≤◌, ◌↔◌, ℕ, Bool, List, length, map, vec_len, sym, subst, arith}
use Rattle.std.specs.Prelude.{IsTrue}
use Rattle.std.proofs.lemmas.List.{length-map}
use Rattle.std.proofs.lemmas.Result.{IfOk-weaker}
use Rattle.lx_rules.specs.views.Rules.{definition_view}
use Rattle.lx_spec.specs.Graph.{is_marked}
use Rattle.lx_spec.specs.Outcome.{IsReached, AreReached, patterns_in}
use Rattle.lx_spec.specs.views.ResolvedRules.{resolved_view}
use Rattle.lx_spec.specs.views.Sections.{raw_definition_view}
use Rattle.lx_spec.specs.views.Trees.{tree_view, trees_view}
use Rattle.lx_spec.proofs.Below.{trees-length}
use Rattle.lx_spec.proofs.Reached.{reached-same, reached-few}
use Rattle.lx_spec.proofs.reach.definitions_of.Goals as goal

pub marked_of-requires-clause-trees : goal.marked_of-requires-clause-trees
marked_of-requires-clause-trees c =
    let views = length-map c.args.dictionary.trees.items tree_view in
    let same = trees-length (map raw_definition_view c.args.index.now.definitions.now) (trees_view c.args.dictionary.trees.items) c.requires.dictionary.trees in
    omega (arith, views, same, length-map c.args.index.now.definitions.now raw_definition_view)

pub returns-clause-definitions : goal.returns-clause-definitions
returns-clause-definitions c =
    let raw_definitions = map raw_definition_view c.args.index.now.definitions.now in
    let trees = trees_view c.args.dictionary.trees.items in
    let from = patterns_in (map resolved_view c.args.resolved.now) in
    let resolves : (i : ℕ) → IsTrue (is_marked c.deref.result.now i) ↔ IsReached raw_definitions trees from i = subst (λ (l : List Bool). (i : ℕ) → IsTrue (is_marked l i) ↔ IsReached raw_definitions trees from i) (sym c.deref.ensures.value) c.in_ok-marks.ensures.reached in
    IfOk-weaker c.marked_of.result (λ v. AreReached (λ j. IsTrue (is_marked c.deref.result.now j)) 0 raw_definitions trees (map definition_view v.items)) (λ v. AreReached (IsReached raw_definitions trees from) 0 raw_definitions trees (map definition_view v.items))
    (λ v are. reached-same (λ j. IsTrue (is_marked c.deref.result.now j)) (IsReached raw_definitions trees from) 0 raw_definitions trees (map definition_view v.items) resolves are) c.marked_of.ensures

pub returns-clause-few : goal.returns-clause-few
returns-clause-few c =
    let raw_definitions = map raw_definition_view c.args.index.now.definitions.now in
    let trees = trees_view c.args.dictionary.trees.items in
    IfOk-weaker c.marked_of.result (λ v. AreReached (λ j. IsTrue (is_marked c.deref.result.now j)) 0 raw_definitions trees (map definition_view v.items)) (λ v. vec_len v ≤ length c.args.index.now.definitions.now)
    (λ v are.
    let few = reached-few (λ j. IsTrue (is_marked c.deref.result.now j)) 0 raw_definitions trees (map definition_view v.items) are in
    omega (arith, few, length-map v.items definition_view, length-map c.args.index.now.definitions.now raw_definition_view)) c.marked_of.ensures
