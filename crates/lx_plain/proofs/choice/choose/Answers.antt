use Rattle.std.proofs.Common.{◌≡◌, ◌<◌, ◌≤◌, Some, length, refl, arith}
use Rattle.std.specs.Prelude.{slice_get}
use Rattle.std.proofs.lemmas.Option.{slice_get_read}
use Rattle.std.proofs.lemmas.List.{length-map}
use Rattle.lx_rules.specs.Choice.{reach}
use Rattle.lx_rules.specs.Plain.{PlainRule, PlainSpec}
use Rattle.lx_rules.specs.views.Rules.{rule_view}
use Rattle.lx_rules.specs.views.Specs.{spec_view}
use Rattle.lx_plain.proofs.Best.{Best-none, Best-new, Best-old, Best-all}
use Rattle.lx_plain.proofs.Viewed.{viewed_at}
use Rattle.lx_plain.proofs.choice.choose.Goals as goal
use Rattle.lx_plain.proofs.choice.choose.Goals.{in-Some+then-reach-best_reach, in-Some+else-reach-best_reach, in_default}

pub loop-i-preserved : goal.loop-i-preserved
loop-i-preserved c =
    let read : slice_get c.args.spec.now.rules.items c.loop-i.i ≡ Some c.rule-item.result
    = rw (← c.deref-rule-items.ensures.value) (slice_get_read c.deref-rule-items.result.now (length c.deref-rule-items.result.now) c.loop-i.i c.rule-item.result refl c.loop-i-test.true c.rule-item.is) in
    let spec : PlainSpec = spec_view c.args.spec.now in
    let rule : PlainRule = rule_view c.rule-item.result in
    let at : slice_get spec.rules c.loop-i.i ≡ Some rule = viewed_at rule_view c.args.spec.now.rules.items c.loop-i.i c.rule-item.result read in
    elim c.match-branch-2.branch [
      | in-Some+then-reach-best_reach w ↦
          let far = rw w.in-Some.is at c.in_ok-n.ensures in
          let more : c.loop-i.best_reach < reach rule w.in-Some.n = rw w.reach_of-reach.ensures at w.if-reach-best_reach.true in
          rw (w.best-is, w.best_reach-is, w.reach_of-reach.ensures) (Best-new spec c.args.condition c.args.begin c.args.text.now c.loop-i.i c.loop-i.best_reach c.loop-i.best rule w.in-Some.n at far.fits far.most more c.loop-i.invariant)
      | in-Some+else-reach-best_reach w ↦
          let far = rw w.in-Some.is at c.in_ok-n.ensures in
          let less : reach rule w.in-Some.n ≤ c.loop-i.best_reach = rw w.reach_of-reach.ensures at w.if-reach-best_reach.false in
          rw (w.best-is, w.best_reach-is) (Best-old spec c.args.condition c.args.begin c.args.text.now c.loop-i.i c.loop-i.best_reach c.loop-i.best rule w.in-Some.n at far.fits far.most less c.loop-i.invariant)
      | in_default w ↦
          let never = rw w.in_default.is at c.in_ok-n.ensures in
          rw (w.best-is, w.best_reach-is) (Best-none spec c.args.condition c.args.begin c.args.text.now c.loop-i.i c.loop-i.best_reach c.loop-i.best rule at never c.loop-i.invariant)
    ]

pub returns : goal.returns
returns c =
    let rules = c.args.spec.now.rules.items in
    let all : length rules ≤ c.loop-i.i = rw c.deref-rule-items.ensures.value at c.loop-i-test.false in
    Best-all (spec_view c.args.spec.now) c.args.condition c.args.begin c.args.text.now c.loop-i.i c.loop-i.best_reach c.loop-i.best (omega (arith, all, length-map rules rule_view)) c.loop-i.invariant
