use Rattle.std.proofs.Common.{◌≤◌, length, arith}
use Rattle.lx_spec.proofs.EscapeSteps.{escape-leaves}
use Rattle.lx_spec.proofs.constant.enclosed_at.Goals as goal

pub returns-then-c-eq92-clause-less : goal.returns-then-c-eq92-clause-less
returns-then-c-eq92-clause-less c =
    let shorter : length c.in-Some.rest.now ≤ length c.args.text.now = omega (arith, c.in-Some.ensures.cases.1) in
    escape-leaves (λ r. (r.0, r.1.now)) (length c.args.text.now) c.in-Some.rest.now c.escape_at.result c.escape_at.ensures shorter
