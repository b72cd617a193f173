use Rattle.lx_rules.specs.views.Specs.{spec_view}
use Rattle.lx_check.proofs.Flags.{conditions_flagged, rules_flagged}
use Rattle.lx_check.proofs.checking.looked_up.Goals as goal

pub returns-clause-chosen : goal.returns-clause-chosen
returns-clause-chosen c =
    let spec = spec_view c.args.spec.now in
    rules_flagged spec c.args.tables.now c.in_ok-chosen.chosen.items c.requires.tables (λ rule. c.chosen_is_by_rules.ensures.some spec c.args.tables.now rule c.requires.tables) c.in_ok-chosen.ensures

pub returns-clause-entered : goal.returns-clause-entered
returns-clause-entered c = conditions_flagged (spec_view c.args.spec.now) c.args.tables.now c.in_ok-entered.entered.items c.requires.tables c.in_ok-entered.ensures
