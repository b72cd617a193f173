use Rattle.std.proofs.Common.{Some, None, sym, ap, ◌∙◌}
use Rattle.lx_ere.specs.Groups.{groups_of}
use Rattle.lx_ere.specs.Regex.{regex_of}
use Rattle.lx_ere.specs.Stacks.{frame, stack}
use Rattle.lx_flex_pattern.proofs.KeptStacks.{no_branch_kept, no_unit_kept, branch_kept, unit_kept}
use Rattle.lx_flex_pattern.proofs.reading.repeat.Goals as goal

pub returns-in_default-clause-ok : goal.returns-in_default-clause-ok
returns-in_default-clause-ok c = λ w kept.
    rw c.if-interval.true (no_branch_kept w (groups_of c.args.groups) c.args.interval.bounds.low c.args.interval.bounds.high (sym (rw c.in_default.is at c.in_ok-groups.ensures.branch)) kept)

pub returns-in_default-take_unit-clause-ok : goal.returns-in_default-take_unit-clause-ok
returns-in_default-take_unit-clause-ok c = λ w kept.
    rw c.if-interval.false (no_unit_kept w (groups_of c.args.groups) c.args.interval.bounds.low c.args.interval.bounds.high (sym (rw c.in_default-take_unit.is at c.take_unit.ensures.unit)) kept)

pub returns-in_ok-branch-clause-ok : goal.returns-in_ok-branch-clause-ok
returns-in_ok-branch-clause-ok c = λ w kept.
    rw c.if-interval.true
    (branch_kept w (groups_of c.args.groups) (groups_of c.put_branch.result) c.args.interval.bounds.low c.args.interval.bounds.high (regex_of c.in-Some.branch) (regex_of c.in_ok-branch.branch)
    (sym (rw c.in-Some.is at c.in_ok-groups.ensures.branch)) c.in_ok-branch.ensures.ok
    (c.put_branch.ensures ∙ ap (λ s. stack (frame s.top.before (Some (regex_of c.in_ok-branch.branch)) None) s.below) (rw c.in-Some.is at c.in_ok-groups.ensures.some)) kept)

pub returns-in_ok-unit-clause-ok : goal.returns-in_ok-unit-clause-ok
returns-in_ok-unit-clause-ok c = λ w kept.
    rw c.if-interval.false
    (unit_kept w (groups_of c.args.groups) (groups_of c.put_unit.result) c.args.interval.bounds.low c.args.interval.bounds.high (regex_of c.in-Some-take_unit.unit) (regex_of c.in_ok-unit.unit)
    (sym (rw c.in-Some-take_unit.is at c.take_unit.ensures.unit)) c.in_ok-unit.ensures.ok
    (c.put_unit.ensures ∙ ap (λ s. stack (frame s.top.before s.top.branch (Some (regex_of c.in_ok-unit.unit))) s.below) (rw c.in-Some-take_unit.is at c.take_unit.ensures.some)) kept)
