use Rattle.std.proofs.Common.{rules, ◌≡◌, ◌*◌, Some}
use Rattle.lx_ere.specs.Regex.{regex_of, times}
use Rattle.lx_flex.specs.Lengths.{HasLength}
use Rattle.lx_flex.proofs.TextLengths.{no_length, times_length}
use Rattle.lx_flex.proofs.lengths.+fixed_length.Goals as goal

pub returns-then-length-eq0-clause-meaning : goal.returns-then-length-eq0-clause-meaning
returns-then-length-eq0-clause-meaning t c =
    let empty : HasLength (regex_of c.in-Times.body.value) 0 = search rules in
    rw c.in-Times.is (no_length (regex_of c.in-Times.body.value) c.in-Times.low c.in-Times.high empty)

pub returns-else-ne-clause-meaning : goal.returns-else-ne-clause-meaning
returns-else-ne-clause-meaning t c =
    let part : HasLength (regex_of c.in-Times.body.value) c.in_ok-length-in-Times.length = search rules in
    let same : c.in-Times.high ≡ Some c.in-Times.low = search rules in
    let whole : HasLength (times (regex_of c.in-Times.body.value) c.in-Times.low (Some c.in-Times.low)) (c.in_ok-length-in-Times.length * c.in-Times.low) =
    times_length (regex_of c.in-Times.body.value) c.in_ok-length-in-Times.length c.in-Times.low part in
    rw (c.in-Times.is, same) (search rules)
