-- The meaning of the code's marks for the definitions.
use Rattle.std.specs.Prelude.{◌≡◌, ℕ, ◌↔◌, IsTrue, length}
use Rattle.lx_rules.specs.Limits.{max_name_depth}
use Rattle.lx_spec.specs.Dictionary.{unreadable_marks}
use Rattle.lx_spec.specs.views.Dictionaries.{Known}
use Rattle.lx_spec.specs.Graph.{IsMention, Leads, Follow, is_marked}
use Rattle.lx_spec.specs.declared.definition_faults.DefinitionFaults.{DefinitionFaults}

-- Each definition is marked if and only if it leads to such a fault.
pub record AreDefinitionFaults (known : Known) (faults : DefinitionFaults) : Type 0 where
  pub unreadable : (i : ℕ) → IsTrue (is_marked faults.unreadable.items i) ↔ Leads known.mentions (unreadable_marks known.trees) i
  pub undefined : (i : ℕ) → IsTrue (is_marked faults.undefined.items i) ↔ Leads known.mentions known.incomplete i
  pub too_deep : (i : ℕ) → IsTrue (is_marked faults.too_deep.items i) ↔ Follow (IsMention known.mentions) max_name_depth i
  pub unreadable_len : length faults.unreadable.items ≡ length known.trees
  pub undefined_len : length faults.undefined.items ≡ length known.trees
  pub too_deep_len : length faults.too_deep.items ≡ length known.trees
