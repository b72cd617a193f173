use Rattle.std.proofs.Common.{◌∙◌, ℕ, Option, [], ap, sym, nat_eq, cond, get_or, Some, None}
use Rattle.std.specs.List.{position}
use Rattle.std.proofs.lemmas.List.{take_all}
use Rattle.std.specs.Cmp.Lexicographic.{pointwise}
use Rattle.std.specs.Option.{option_or}
use Rattle.lx_spec.specs.views.Sections.{raw_definition_view}
use Rattle.lx_spec.specs.declared.parsed_sections.RawDefinition.{RawDefinition as CodeDefinition}
use Rattle.lx_spec.proofs.Indexing.{position-more}
use Rattle.lx_spec.proofs.Rows.{position-map}
use Rattle.lx_spec.proofs.definition_index.definition_index_of.Goals as goal

abbrev no_name : CodeDefinition
no_name = record { name = record { ref_ptr = (0, 0); now = [] }; substitute = record { ref_ptr = (0, 0); now = [] } }

pub loop-i-preserved : goal.loop-i-preserved
loop-i-preserved c = λ name.
    c.in_ok-add_number.ensures name ∙ ap (λ (o : Option ℕ). option_or o (cond (pointwise nat_eq (get_or c.args.definitions.now c.loop-i.i no_name).name.now name) (Some c.loop-i.i) None)) (c.loop-i.invariant name) ∙ sym (position-more (λ d. pointwise nat_eq d.name.now name) c.args.definitions.now c.loop-i.i no_name c.loop-i-test.true)

pub invariant_of-result : goal.invariant_of-result
invariant_of-result c = record { exact = λ name. c.loop-i.invariant name ∙ ap (position (λ d. pointwise nat_eq d.name.now name)) (take_all c.loop-i.i c.args.definitions.now c.loop-i-test.false) ∙ sym (position-map (λ d. pointwise nat_eq d.name name) raw_definition_view c.args.definitions.now) }
