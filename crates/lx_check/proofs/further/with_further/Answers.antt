use Rattle.std.proofs.Common.{◌≡◌, ◌∙◌, ◌-◌, length, option_map, ap, subst, arith}
use Rattle.lx_rules.specs.views.Specs.{spec_view}
use Rattle.lx_spec.specs.Whole.{IsFault, IsRead}
use Rattle.lx_check.specs.Without.{without}
use Rattle.lx_check.proofs.Furthering.{one_more, ends_hidden, ends_too_long, ends_clean, ends_enough}
use Rattle.lx_check.proofs.further.with_further.Goals as goal

pub returns-in_default : goal.returns-in_default
returns-in_default c = ends_hidden _ _ _ _ c.loop-count._count _ _ c.loop-count.findings.items c.loop-count.invariant.goes (ap (λ o. option_map (λ text. text.items) o) c.in_default.is)

pub returns-then-len-left : goal.returns-then-len-left
returns-then-len-left c =
    ends_too_long _ _ _ _ c.loop-count._count _ _ c.loop-count.findings.items c.in-Some.text.items c.loop-count.invariant.goes (ap (λ o. option_map (λ text. text.items) o) c.in-Some.is)
    (let n = c.len.ensures in let t = c.if-len-left.true in omega arith)

pub returns-in_default-2 : goal.returns-in_default-2
returns-in_default-2 c =
    let read : IsRead c.deref.result.now (spec_view c.in_default-2.field-0) = rw c.in_default-2.is at c.in_ok-fault.ensures.ok in
    ends_clean _ _ _ _ c.loop-count._count _ _ c.loop-count.findings.items c.in-Some.text.items (spec_view c.in_default-2.field-0) c.loop-count.invariant.goes (ap (λ o. option_map (λ text. text.items) o) c.in-Some.is)
    (subst (λ text. IsRead text (spec_view c.in_default-2.field-0)) c.deref.ensures.value read)

pub loop-count-preserved : goal.loop-count-preserved
loop-count-preserved c =
    let text = c.in-Some.text.items in
    let wrong : IsFault c.deref.result.now c.in-Err.fault = rw c.in-Err.is at c.in_ok-fault.ensures.err in
    let next : option_map (λ made. made.items) c.in_ok-rest.rest ≡ without text c.in-Err.fault = c.in_ok-rest.ensures ∙ ap (λ t. without t c.in-Err.fault) c.deref-in-loop-count.ensures.value in
    let left : c.loop-count.left - c.len-left.result ≡ c.loop-count.left - length text = (let n = c.len-left.ensures in omega arith) in
    record {
      goes = rw left (one_more _ _ _ _ c.loop-count._count _ _ c.loop-count.findings.items c.push.new.self.items text c.in-Err.fault _ c.loop-count.invariant.goes (ap (λ o. option_map (λ t. t.items) o) c.in-Some.is)
          c.loop-count-test.true (let n = c.len.ensures in let t = c.if-len-left.false in omega arith) (subst (λ t. IsFault t c.in-Err.fault) c.deref.ensures.value wrong) next c.in_ok-push.ensures.items);
    }

pub returns : goal.returns
returns c = ends_enough _ _ _ _ c.loop-count._count _ _ c.loop-count.findings.items c.loop-count.invariant.goes c.loop-count-test.false
