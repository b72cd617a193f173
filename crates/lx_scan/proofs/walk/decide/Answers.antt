use Rattle.std.proofs.Common.{◌∙◌}
use Rattle.lx_scan.specs.Matching.{IsFound}
use Rattle.lx_scan.proofs.Walking.{found_held, goes_on_by, rule_known}
use Rattle.lx_scan.proofs.walk.decide.Goals as goal

pub chosen-requires : goal.chosen-requires
chosen-requires c = rule_known c.args.tables.now c.tables_are_well_formed.ensures c.args.place c.args.held.now c.args.has_ended c.args.last c.requires.decided

found : (c : goal.After-match_of-found) → IsFound c.args.tables.now c.args.held.now c.args.place c.match_of-found.result
found c =
    let m = c.match_of-found.ensures in
    found_held c.args.tables.now c.tables_are_well_formed.ensures c.args.place c.args.held.now c.args.has_ended c.args.last c.requires.decided c.match_of-found.result
    c.requires.some m.start (m.choice ∙ c.chosen.ensures) m.alone

pub place_after-requires-clause-some : goal.place_after-requires-clause-some
place_after-requires-clause-some c = (found c).some

pub place_after-requires-clause-within : goal.place_after-requires-clause-within
place_after-requires-clause-within c = (found c).within

pub place_after-requires-clause-rule : goal.place_after-requires-clause-rule
place_after-requires-clause-rule c = (found c).rule

pub returns : goal.returns
returns c =
    let m = c.match_of-found.ensures in
    let next = c.place_after.ensures in
    goes_on_by c.args.tables.now c.tables_are_well_formed.ensures c.args.place c.args.held.now c.args.has_ended c.args.last c.requires.decided c.match_of-found.result c.place_after.result
    c.requires.some c.requires.known c.requires.line_few c.requires.line_some m.start (m.choice ∙ c.chosen.ensures) m.alone next.few next.offset next.condition next.begin next.line
