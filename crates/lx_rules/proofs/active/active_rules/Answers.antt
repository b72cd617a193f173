use Rattle.std.proofs.Common.{arith}
use Rattle.std.proofs.lemmas.List.{length-map}
use Rattle.lx_rules.specs.views.Rules.{rule_view}
use Rattle.lx_rules.specs.views.Specs.{spec_view}
use Rattle.lx_rules.proofs.Activity.{active_all}
use Rattle.lx_rules.proofs.active.active_rules.Goals as goal

pub returns : goal.returns
returns c =
    let rules = c.args.spec.now.rules in
    let long = length-map rules.items rule_view in
    let own = rules.ok.0 in
    active_all (spec_view c.args.spec.now) c.args.condition c.args.begin c.loop-i.active.items c.loop-i.i (omega arith) c.loop-i.invariant
