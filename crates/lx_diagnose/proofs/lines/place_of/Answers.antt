use Rattle.lx_diagnose.proofs.LineNumbers.{is_place}
use Rattle.lx_diagnose.proofs.lines.place_of.Goals as goal

pub returns-clause-exact : goal.returns-clause-exact
returns-clause-exact c =
    is_place c.args.text.now c.args.span.start c.args.span.len c.line_number.result c.place_in.result c.place_in.ensures.start c.place_in.ensures.line c.line_number.ensures c.place_in.ensures.known c.place_in.ensures.width
