use Rattle.std.proofs.Common.{◌+◌, ◌<◌, suc, length}
use Rattle.lx_flex.specs.States.{left, names_of}
use Rattle.lx_flex.proofs.Listing.{Listing}
use Rattle.lx_flex.proofs.rules.read_list.Given as goal

abbrev pub invariant-loop : goal.invariant-loop
invariant-loop l = record {
  listing : Listing (names_of l.declared) (left l.fn.cursor) (left l.cursor) l.numbers.items l.fn.reports.fatal l.reports.fatal;
  turns : l.counter + length (left l.cursor) < suc (length l.fn.cursor.text.now);
}
