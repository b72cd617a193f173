use Rattle.std.proofs.Common.{map, ◌≡◌, None}
use Rattle.lx_cli.specs.CommandLine.{asked_by}
use Rattle.lx_tool.specs.Helping.{AskForHelp}
use Rattle.lx_tool.proofs.Helped.{ask_for_help, known_anyway}
use Rattle.lx_tool.proofs.program.execute.Goals as goal

pub returns-in-Ok-clause-ok : goal.returns-in-Ok-clause-ok
returns-in-Ok-clause-ok g c = rw c.in-Ok.ensures.asked c.carry_out.ensures.ok

pub returns-in-Ok-clause-told : goal.returns-in-Ok-clause-told
returns-in-Ok-clause-told g c =
    let words = map (λ word. word.bytes.items) c.args.words.now in
    known_anyway (asked_by words ≡ None → AskForHelp words) c.carry_out.result (ask_for_help words c.in-Ok.order _ c.in-Ok.ensures.asked c.in-Ok.ensures.told)

pub returns-in-Ok-clause-placed : goal.returns-in-Ok-clause-placed
returns-in-Ok-clause-placed g c = rw c.in-Ok.ensures.asked c.carry_out.ensures.placed

pub returns-in-Ok-clause-err : goal.returns-in-Ok-clause-err
returns-in-Ok-clause-err g c = rw c.in-Ok.ensures.asked c.carry_out.ensures.err
