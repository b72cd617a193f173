use Rattle.std.proofs.Common.{◌∙◌}
use Rattle.lx_scan.proofs.Turns.{found_is}
use Rattle.lx_scan.proofs.scanner.match_at.Goals as goal

pub returns-clause-found : goal.returns-clause-found
returns-clause-found c =
    let m = c.match_of.ensures in
    found_is c.args.tables.now c.choose-choice.ensures.table c.args.rest.now c.args.place c.match_of.result c.requires.more m.start (m.choice ∙ c.choose-choice.ensures.choice) m.alone
