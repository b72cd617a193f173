use Rattle.std.proofs.Common.{◌∙◌, ◌++◌, ◌∷◌, [], List, ℕ, Bool, map, ap, get_or}
use Rattle.std.proofs.lemmas.List.{map_push}
use Rattle.lx_spec.specs.views.Sections.{raw_definition_view}
use Rattle.lx_spec.specs.views.Trees.{tree_view, trees_view}
use Rattle.lx_spec.specs.Dictionary.{mention_of}
use Rattle.lx_spec.specs.declared.parsed_sections.RawDefinition.{RawDefinition as CodeDefinition}
use Rattle.lx_spec.proofs.Rows.{at_map}
use Rattle.lx_spec.proofs.dictionary.with_definition.Goals as goal

abbrev no_name : CodeDefinition
no_name = record { name = record { ref_ptr = (0, 0); now = [] }; substitute = record { ref_ptr = (0, 0); now = [] } }

pub returns : goal.returns
returns c =
    let raw_definitions = map raw_definition_view c.args.index.now.definitions.now in
    let tree = tree_view c.in_ok-tree.tree in
    record {
      definition = raw_definition_view (get_or c.args.index.now.definitions.now c.args.i no_name);
      at = at_map raw_definition_view c.args.index.now.definitions.now c.args.i no_name c.requires;
      tree = tree;
      reads = c.in_ok-tree.ensures;
      trees = ap trees_view c.in_ok-push-2.ensures.items ∙ map_push tree_view c.args.dictionary.trees.items c.in_ok-tree.tree;
      mentions = c.in_ok-push_mentions.ensures ∙ ap (λ (row : List ℕ). c.args.dictionary.mentions.items ++ map (mention_of c.args.i) row) (c.deref.ensures.value ∙ c.in_ok-row.ensures.row);
      incomplete = c.in_ok-push.ensures.items ∙ ap (λ (b : Bool). c.args.dictionary.incomplete.items ++ b ∷ []) c.in_ok-row.ensures.incomplete;
    }
