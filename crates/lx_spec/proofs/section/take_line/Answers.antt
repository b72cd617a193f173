use Rattle.std.proofs.Common.{◌∙◌, ◌+◌, ◌∷◌, sym, ap}
use Rattle.lx_spec.specs.Sections as plain
use Rattle.lx_spec.specs.views.Sections.{sections_view}
use Rattle.lx_spec.specs.views.Places.{place_view}
use Rattle.lx_spec.proofs.Entering.{Goes-same, behind-same}
use Rattle.lx_spec.proofs.section.take_line.Goals as goal

pub returns-in_ok-begun-in-Action : goal.returns-in_ok-begun-in-Action
returns-in_ok-begun-in-Action c = λ rest. Goes-same _ c.args.number rest c.continue_rule.result _ _
    (behind-same (sections_view c.args.sections) _ _ _ _ (c.args.number + 1) rest c.in_ok-begun-in-Action.ensures.rule c.in_ok-begun-in-Action.ensures.count
    ∙ ap (λ (p : plain.LineContext). plain.sections_behind (sections_view c.args.sections) p c.args.number (c.args.line.now ∷ rest)) (sym (ap place_view c.in-Action.is)))
    (c.continue_rule.ensures c.args.number rest)
