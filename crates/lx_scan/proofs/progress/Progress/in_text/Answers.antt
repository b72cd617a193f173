use Rattle.std.proofs.Common.{arith, drop}
use Rattle.std.proofs.lemmas.List.{length-drop}
use Rattle.lx_scan.proofs.progress.Progress.in_text.Goals as goal

pub returns-clause-progress : goal.returns-clause-progress
returns-clause-progress c =
    let cursor = c.args.cursor in
    let within = c.requires.within in
    let behind = c.requires.behind in
    let long = length-drop cursor.place.offset c.args.text.now in
    record {
      parts = record {
        is_table = c.begin.ensures.table;
        within = within;
        found = omega (arith, behind);
        front = omega arith;
        behind = behind;
        known = c.requires.known;
        line_some = c.requires.line_some;
        line_few = c.requires.line_few;
        rule = c.requires.rule;
        few = omega (arith, within, long);
        walk = c.begin.ensures.walked (drop cursor.place.offset c.args.text.now);
      };
      silent = c.begin.ensures.silent (drop cursor.place.offset c.args.text.now);
    }
