use Rattle.std.proofs.Common.{rules}
use Rattle.lx_ere.specs.Regex.{regex_of}
use Rattle.lx_flex.specs.Lengths.{HasNoNewline}
use Rattle.lx_flex.proofs.TextForms.{times_newline}
use Rattle.lx_flex.proofs.lengths.+may_have_newline.Goals as goal

pub returns-in-Times : goal.returns-in-Times
returns-in-Times t c none =
    let part : HasNoNewline (regex_of c.in-Times.body.value) = search rules in
    rw c.in-Times.is (times_newline (regex_of c.in-Times.body.value) c.in-Times.low c.in-Times.high part)
