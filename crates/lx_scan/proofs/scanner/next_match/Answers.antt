use Rattle.std.proofs.Common.{◌-◌, length, take, drop, refl, arith}
use Rattle.lx_scan.proofs.Turns.{goes_on}
use Rattle.lx_scan.proofs.scanner.next_match.Goals as goal

pub returns : goal.returns
returns c =
    let place = c.args.place in
    let text = c.args.text.now in
    let next = c.place_after-next.ensures in
    goes_on c.args.tables.now text (take (length text - place.offset) (drop place.offset text)) place c.match_at-found.result c.place_after-next.result c.match_at-found.ensures.table refl
    (omega arith) c.requires.known c.requires.line_few c.requires.line_some c.match_at-found.ensures.found next.few next.offset next.condition next.begin next.line
