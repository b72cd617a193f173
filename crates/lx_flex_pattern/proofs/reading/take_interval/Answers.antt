use Rattle.std.proofs.Common.{map, sym}
use Rattle.std.proofs.lemmas.Result.{IfOk-weaker}
use Rattle.std.specs.Option.{option_map}
use Rattle.lx_ere.specs.Groups.{groups_of}
use Rattle.lx_ere.specs.Lexemes.{lexeme_of}
use Rattle.lx_flex_pattern.specs.Pieces.{interval_of}
use Rattle.lx_flex_pattern.proofs.KeptStacks.{takes_one_more, takes_none}
use Rattle.lx_flex_pattern.proofs.reading.take_interval.Goals as goal

pub returns-in_default-clause-ok : goal.returns-in_default-clause-ok
returns-in_default-clause-ok c = takes_none (map lexeme_of c.args.lexemes.items) (interval_of c.args.interval) (groups_of c.args.groups) (sym (rw c.in_default.is at c.in_ok-groups.ensures))

pub returns-clause-ok : goal.returns-clause-ok
returns-clause-ok c =
    IfOk-weaker c.repeat.result _ _
    (λ o f. takes_one_more (map lexeme_of c.args.lexemes.items) (interval_of c.args.interval) (groups_of c.args.groups) (groups_of c.in-Some.groups) (option_map groups_of o) (sym (rw c.in-Some.is at c.in_ok-groups.ensures)) f)
    c.repeat.ensures.ok
