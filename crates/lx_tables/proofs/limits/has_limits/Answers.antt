use Rattle.std.proofs.Common.{◌∙◌, sym, arith, length}
use Rattle.std.specs.Prelude.{IsTrue}
use Rattle.std.proofs.lemmas.List.{length-map}
use Rattle.std.proofs.lemmas.Result.{IfOk-weaker}
use Rattle.lx_rules.specs.views.Rules.{names_view}
use Rattle.lx_tables.specs.Views.{rule_view}
use Rattle.lx_tables.proofs.Tested.{steps_are}
use Rattle.lx_tables.proofs.limits.has_limits.Goals as goal

pub returns-then-len-gt-MAX_RULES : goal.returns-then-len-gt-MAX_RULES
returns-then-len-gt-MAX_RULES c =
    let raw = c.args.raw.now in
    let held = raw.rules.ok.0 in
    ((λ yes. cc), (λ has. let few = has.few_rules in let long = length-map raw.rules.items rule_view in absurd (omega arith)))

pub returns-then-not-is_machine : goal.returns-then-not-is_machine
returns-then-not-is_machine c =
    let raw = c.args.raw.now in
    ((λ yes. cc), (λ has. let e : IsTrue c.is_machine.result = c.is_machine.ensures.1 (rw (← length-map raw.rules.items rule_view) has.machine) in let f = sym c.if-not-is_machine.true ∙ e in cc))

pub returns-then-not-are_rules : goal.returns-then-not-are_rules
returns-then-not-are_rules c =
    let raw = c.args.raw.now in
    let starts = raw.starts.ok.0 in
    let kinds = raw.kinds.ok.0 in
    let named = length-map raw.kinds.items (λ name. name.items) in
    let same = steps_are raw.rules.items c.deref.result.now c.len-2.result c.len-3.result (length raw.starts.items) (length (names_view raw.kinds.items)) c.deref.ensures.value (omega (arith, c.len-2.ensures)) (omega (arith, c.len-3.ensures)) in
    ((λ yes. cc), (λ has. let e = sym c.if-not-are_rules.true ∙ c.are_rules.ensures ∙ sym same ∙ has.steps in cc))

pub returns : goal.returns
returns c =
    let raw = c.args.raw.now in
    let starts = raw.starts.ok.0 in
    let kinds = raw.kinds.ok.0 in
    let held = raw.rules.ok.0 in
    let named = length-map raw.kinds.items (λ name. name.items) in
    let long = length-map raw.rules.items rule_view in
    let same = steps_are raw.rules.items c.deref.result.now c.len-2.result c.len-3.result (length raw.starts.items) (length (names_view raw.kinds.items)) c.deref.ensures.value (omega (arith, c.len-2.ensures)) (omega (arith, c.len-3.ensures)) in
    IfOk-weaker c.are_kinds.result _ _ (λ yes is. (
      (λ h. record {
        machine = rw long (c.is_machine.ensures.0 c.if-not-is_machine.false);
        kinds = rw c.deref-2.ensures.value at is.0 h;
        few_rules = omega (arith, c.len.ensures);
        steps = same ∙ sym c.are_rules.ensures ∙ c.if-not-are_rules.false;
      }),
      (λ has. is.1 (rw (← c.deref-2.ensures.value) at has.kinds)),
    )) c.are_kinds.ensures
