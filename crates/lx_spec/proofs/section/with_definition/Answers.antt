use Rattle.std.proofs.Common.{◌≡◌, false, nat_eq, List, [], ◌∷◌, ◌++◌, length, map, Ok, sym, ap, ◌∙◌, arith}
use Rattle.std.specs.List.{list_any}
use Rattle.std.specs.Cmp.Lexicographic.{pointwise}
use Rattle.std.proofs.lemmas.List.{map_push, length-map}
use Rattle.lx_spec.specs.Sections as plain
use Rattle.lx_spec.specs.views.Sections.{raw_definition_view, sections_view}
use Rattle.lx_spec.specs.declared.parsed_sections.RawDefinition.{RawDefinition}
use Rattle.lx_spec.proofs.Words.{list_any-map}
use Rattle.lx_spec.proofs.Declaring.{definition_full, definition_more}
use Rattle.lx_spec.proofs.section.with_definition.Goals as goal

pub returns-then-len-ge-MAX_DEFINITIONS : goal.returns-then-len-ge-MAX_DEFINITIONS
returns-then-len-ge-MAX_DEFINITIONS c =
    let names = c.args.sections.definitions.items in
    let unknown : list_any (λ d. pointwise nat_eq d.name c.args.name.now) (map raw_definition_view names) ≡ false =
    list_any-map (λ d. pointwise nat_eq d.name c.args.name.now) raw_definition_view names ∙ ap (list_any (λ (d : RawDefinition). pointwise nat_eq d.name.now c.args.name.now)) (sym c.deref.ensures.value) ∙ sym c.knows_definition.ensures ∙ c.if-knows_definition.false in
    λ _. definition_full (sections_view c.args.sections) c.args.number c.args.name.now c.args.substitute.now unknown (omega (arith, length-map names raw_definition_view, ap length c.deref.ensures.value))

pub returns : goal.returns
returns c =
    let names = c.args.sections.definitions.items in
    let unknown : list_any (λ d. pointwise nat_eq d.name c.args.name.now) (map raw_definition_view names) ≡ false =
    list_any-map (λ d. pointwise nat_eq d.name c.args.name.now) raw_definition_view names ∙ ap (list_any (λ (d : RawDefinition). pointwise nat_eq d.name.now c.args.name.now)) (sym c.deref.ensures.value) ∙ sym c.knows_definition.ensures ∙ c.if-knows_definition.false in
    let grown : map raw_definition_view c.push.new.self.items ≡ map raw_definition_view names ++ record { name = c.args.name.now; substitute = c.args.substitute.now } ∷ [] = ap (map raw_definition_view) c.in_ok-push.ensures.items ∙ map_push raw_definition_view names _ in
    definition_more (sections_view c.args.sections) c.args.number c.args.name.now c.args.substitute.now unknown (omega (arith, length-map names raw_definition_view, ap length c.deref.ensures.value))
    ∙ ap (λ (ns : List plain.RawDefinition). Ok (record (sections_view c.args.sections) { definitions = ns })) (sym grown)
