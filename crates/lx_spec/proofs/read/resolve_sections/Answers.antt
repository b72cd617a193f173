use Rattle.std.proofs.Common.{ℕ, subst}
use Rattle.std.proofs.lemmas.List.{length-map}
use Rattle.lx_spec.specs.Graph.{AreBelow}
use Rattle.lx_spec.specs.views.Trees.{tree_view}
use Rattle.lx_spec.specs.views.Dictionaries.{dictionary_view}
use Rattle.lx_spec.proofs.Below.{dictionary-below}
use Rattle.lx_spec.proofs.read.resolve_sections.Goals as goal

pub definition_faults_of-requires-clause-below : goal.definition_faults_of-requires-clause-below
definition_faults_of-requires-clause-below c =
    subst (λ (n : ℕ). AreBelow c.in_ok-dictionary.dictionary.mentions.items n) (length-map c.in_ok-dictionary.dictionary.trees.items tree_view)
    (dictionary-below _ (dictionary_view c.in_ok-dictionary.dictionary) c.in_ok-dictionary.ensures)
