-- The leaves of the code without their place in memory, and the leaves of rules in order.
use Rattle.std.specs.Prelude.{Bool, true, false, List, [], ◌∷◌, ◌++◌, map}
use Rattle.lx_auto.specs.NodeLeaves.{leaves_in}
use Rattle.lx_auto.specs.NodeViews.{nodes_view}
use Rattle.lx_auto.specs.Leaves.{PlainLeaf, one_of_set, newline}
use Rattle.lx_auto.specs.declared.sets.leaf.Leaf.{Leaf}
use Rattle.lx_auto.specs.declared.sets.leaf.Leaf.TheVariants.{Set, Newline}
use Rattle.lx_auto.specs.declared.rules.rule_part.RulePart.{RulePart}

abbrev pub leaf_view : Leaf → PlainLeaf
leaf_view (Set s) = one_of_set s.now
leaf_view Newline = newline

abbrev pub leaves_view : List Leaf → List PlainLeaf
leaves_view leaves = map leaf_view leaves

-- the newline of a line end
abbrev pub leaf_of_end : Bool → List PlainLeaf
leaf_of_end true = newline ∷ []
leaf_of_end false = []

abbrev pub leaves_of_part : RulePart → List PlainLeaf
leaves_of_part part = leaves_in (nodes_view part.nodes.items) ++ leaf_of_end part.line_end

abbrev pub leaves_of_parts : List RulePart → List PlainLeaf
leaves_of_parts [] = []
leaves_of_parts (part ∷ parts) = leaves_of_part part ++ leaves_of_parts parts
