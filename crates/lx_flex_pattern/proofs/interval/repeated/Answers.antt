use Rattle.std.proofs.Common.{Some, None}
use Rattle.lx_ere.specs.Regex.{regex_of}
use Rattle.lx_flex_pattern.specs.Intervals.{keeps_times}
use Rattle.lx_flex_pattern.proofs.interval.repeated.Goals as goal

pub returns-in_ok-times-in-Some-clause-ok : goal.returns-in_ok-times-in-Some-clause-ok
returns-in_ok-times-in-Some-clause-ok c = λ t kept. rw (c.in-Some.is, c.in_ok-times-in-Some.ensures) (keeps_times t (regex_of c.args.body) c.args.bounds.low (Some c.in-Some.high) kept)

pub returns-in_ok-times-in-None-clause-ok : goal.returns-in_ok-times-in-None-clause-ok
returns-in_ok-times-in-None-clause-ok c = λ t kept. rw (c.in-None.is, c.in_ok-times-in-None.ensures) (keeps_times t (regex_of c.args.body) c.args.bounds.low None kept)
