-- The meaning of the nodes that are appended for an expression, if its names are defined and nested at most this deep.
use Rattle.std.specs.Prelude.{◌≡◌, ℕ, suc, ◌≤◌, IsTrue, List, [], Option, Some, map, slice_get}
use Rattle.lx_ere.specs.Regex.{Regex, regex_of}
use Rattle.lx_rules.specs.Nesting.{is_within, holds_of}
use Rattle.lx_rules.specs.Plain.{PlainDefinition}
use Rattle.lx_rules.specs.views.Rules.{definition_view}
use Rattle.lx_rules.specs.declared.definition.Definition.{Definition}
use Rattle.lx_rules.specs.Limits.{max_name_depth}
use Rattle.lx_auto.specs.Nodes.{PlainNode}
use Rattle.lx_auto.specs.Simplified.{simplified, simplified_if_defined, simplified_name}
use Rattle.lx_auto.specs.NodeViews.{nodes_view, Appends}
use Rattle.lx_auto.specs.declared.unfolding.fragment.Fragment.{Fragment}
use Rattle.lx_auto.specs.declared.unfolding.part.Part.{Part}

-- the nodes of the expression are appended, at each depth at which its names are defined
pub record Unfolds (definitions : List PlainDefinition) (depth : ℕ) (tree : Regex) (old new : List PlainNode) (p : Part) : Type 0 where
  pub at : (m : ℕ) → m ≤ depth → IsTrue (is_within m definitions tree) → Appends (simplified (simplified_name definitions m) tree) old new p

-- the same for a name's expression, which is one level less deep
pub record UnfoldsName (definitions : List PlainDefinition) (depth : ℕ) (tree : Option Regex) (old new : List PlainNode) (p : Part) : Type 0 where
  pub at : (m : ℕ) → suc m ≤ depth → IsTrue (holds_of (is_within m definitions) tree) → Appends (simplified_if_defined (simplified_name definitions m) tree) old new p

-- each fragment has the nodes of its definition
pub record AreFragments (definitions : List Definition) (fragments : List (Option Fragment)) : Type 0 where
  pub at : (i : ℕ) (f : Fragment) (d : Definition) → slice_get fragments i ≡ Some (Some f) → slice_get definitions i ≡ Some d
      → Unfolds (map definition_view definitions) max_name_depth (regex_of d.expr) [] (nodes_view f.nodes.items) f.part
