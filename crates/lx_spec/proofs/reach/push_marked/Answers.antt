use Rattle.std.proofs.Common.{◌≡◌, ◌∙◌, [], Some, map, reverse, get_or, ap, sym}
use Rattle.std.specs.Prelude.{IsTrue}
use Rattle.std.proofs.lemmas.Bool.{false≢true}
use Rattle.lx_ere.specs.Regex.{regex_of}
use Rattle.lx_rules.specs.views.Rules.{definition_view}
use Rattle.lx_spec.specs.Graph.{is_marked}
use Rattle.lx_spec.specs.Outcome.{passed}
use Rattle.lx_spec.specs.views.Sections.{raw_definition_view}
use Rattle.lx_spec.specs.Sections as plain
use Rattle.lx_spec.specs.views.Trees.{tree_view}
use Rattle.lx_spec.specs.declared.parsed_sections.RawDefinition.{RawDefinition as CodeDefinition}
use Rattle.lx_spec.proofs.Rows.{at_map}
use Rattle.lx_spec.proofs.Reached.{marked-push, backwards-push}
use Rattle.lx_spec.proofs.reach.push_marked.Goals as goal

abbrev no_name : CodeDefinition
no_name = record { name = record { ref_ptr = (0, 0); now = [] }; substitute = record { ref_ptr = (0, 0); now = [] } }

pub returns-in_ok-push : goal.returns-in_ok-push
returns-in_ok-push c = λ d at more trees are.
    let both : ◌≡◌ {A = _} (Some (raw_definition_view (get_or c.args.raw_definitions.now c.args.i no_name))) (Some d) = sym (at_map raw_definition_view c.args.raw_definitions.now c.args.i no_name c.requires.raw_definitions) ∙ at in
    let same : raw_definition_view (get_or c.args.raw_definitions.now c.args.i no_name) ≡ d = cc in
    marked-push (λ j. IsTrue (is_marked c.args.marks.now j)) c.args.i d more (tree_view c.args.tree) (regex_of c.in-Some.expr) trees (map definition_view (reverse c.args.backwards.now.items)) (map definition_view (reverse c.push.new.self.items)) c.in_ok-name.name.items c.if-marks-i.true
    (ap tree_view c.in-Some.is) (c.in_ok-name.ensures.items ∙ ap (λ (n : plain.RawDefinition). n.name) same) (backwards-push definition_view c.args.backwards.now.items c.push.new.self.items _ c.in_ok-push.ensures.items) are

pub returns-else-marks-i : goal.returns-else-marks-i
returns-else-marks-i c = λ d at more trees are. passed c.args.i d (tree_view c.args.tree) more trees (map definition_view (reverse c.args.backwards.now.items)) (λ h. false≢true (sym c.if-marks-i.false ∙ h)) are
