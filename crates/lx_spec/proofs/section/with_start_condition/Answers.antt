use Rattle.std.proofs.Common.{◌≡◌, false, nat_eq, List, [], ◌∷◌, ◌++◌, length, map, Ok, sym, ap, ◌∙◌, arith}
use Rattle.std.specs.List.{list_any}
use Rattle.std.specs.Cmp.Lexicographic.{pointwise}
use Rattle.std.proofs.lemmas.List.{map_push, length-map}
use Rattle.lx_rules.specs.Plain as spec
use Rattle.lx_spec.specs.views.Sections.{start_condition_view, sections_view}
use Rattle.lx_spec.specs.declared.parsed_sections.StartCondition.{StartCondition}
use Rattle.lx_spec.proofs.Words.{list_any-map}
use Rattle.lx_spec.proofs.Declaring.{start_condition_full, start_condition_more}
use Rattle.lx_spec.proofs.section.with_start_condition.Goals as goal

pub returns-then-len-ge-MAX_START_CONDITIONS : goal.returns-then-len-ge-MAX_START_CONDITIONS
returns-then-len-ge-MAX_START_CONDITIONS c =
    let names = c.args.sections.start_conditions.items in
    let unknown : list_any (λ d. pointwise nat_eq d.name c.args.name.now) (map start_condition_view names) ≡ false =
    list_any-map (λ d. pointwise nat_eq d.name c.args.name.now) start_condition_view names ∙ ap (list_any (λ (d : StartCondition). pointwise nat_eq d.name.now c.args.name.now)) (sym c.deref.ensures.value) ∙ sym c.knows_start_condition.ensures ∙ c.if-knows_start_condition.false in
    λ _. start_condition_full (sections_view c.args.sections) c.args.number c.args.exclusive c.args.name.now unknown (omega (arith, length-map names start_condition_view, ap length c.deref.ensures.value))

pub returns : goal.returns
returns c =
    let names = c.args.sections.start_conditions.items in
    let unknown : list_any (λ d. pointwise nat_eq d.name c.args.name.now) (map start_condition_view names) ≡ false =
    list_any-map (λ d. pointwise nat_eq d.name c.args.name.now) start_condition_view names ∙ ap (list_any (λ (d : StartCondition). pointwise nat_eq d.name.now c.args.name.now)) (sym c.deref.ensures.value) ∙ sym c.knows_start_condition.ensures ∙ c.if-knows_start_condition.false in
    let grown : map start_condition_view c.push.new.self.items ≡ map start_condition_view names ++ record { name = c.args.name.now; exclusive = c.args.exclusive } ∷ [] = ap (map start_condition_view) c.in_ok-push.ensures.items ∙ map_push start_condition_view names _ in
    start_condition_more (sections_view c.args.sections) c.args.number c.args.exclusive c.args.name.now unknown (omega (arith, length-map names start_condition_view, ap length c.deref.ensures.value))
    ∙ ap (λ (ns : List spec.StartCondition). Ok (record (sections_view c.args.sections) { start_conditions = ns })) (sym grown)
