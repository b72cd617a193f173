use Rattle.std.proofs.Common.{◌∙◌, ◌+◌, ap, subst, sym}
use Rattle.std.proofs.lemmas.Result.{err_from_is_err_and}
use Rattle.lx_piece.specs.declared.reader.ReaderFault.{ReaderFault}
use Rattle.lx_piece.specs.Plans.{IsPlan, Planned}
use Rattle.lx_line.specs.StyleLaws.{plain_whole}
use Rattle.lx_line.specs.Styles.{Drafted}
use Rattle.lx_listing.specs.Listings.{plainly}
use Rattle.lx_listing.specs.Parts.{WrotePart}
use Rattle.lx_listing.specs.Shown.{shown}
use Rattle.lx_listing.specs.Printing.{PrintsPart, PrintsTo, printing, shown_lines, turn_of}
use Rattle.lx_listing.proofs.Turning.{prints_in_part, prints_piece, shown_carries, turn_closed, turn_open}
use Rattle.lx_listing.proofs.printer.PrinterTakerLineMaker.take.Goals as goal

pub returns-in_err-write_piece-clause-fails : goal.returns-in_err-write_piece-clause-fails
returns-in_err-write_piece-clause-fails g c =
    let s = c.args.self.now in
    let p = err_from_is_err_and c.from_residual.result c.from_residual.ensures.1 in
    rw p.1 (subst (λ (plan : Planned). PrintsPart g.S.LineSink.wrote (printing (plainly s.draft.plan) s.file s.number s.sink) p.0 (printing (plainly plan) s.file s.number c.write_piece.new.sink)) (sym (ap (λ (d : Drafted _). d.plan) c.in_err-write_piece.ensures.draft)) (prints_in_part g.S.LineSink.wrote shown (plainly s.draft.plan) shown_lines (turn_of s.file s.number) s.sink c.write_piece.new.sink c.args.piece _ (shown_carries s.draft.plan) (subst IsPlan c.requires.same c.plans_are_well_formed.ensures) c.requires.turn
    (subst (λ (fault : ReaderFault). WrotePart g.S.LineSink.wrote s.sink fault (shown_lines c.args.piece) c.write_piece.new.sink) (sym p.2) c.in_err-write_piece.ensures.part)))

pub returns-then-closes-clause-follows : goal.returns-then-closes-clause-follows
returns-then-closes-clause-follows g c =
    let s = c.args.self.now in
    let turn = turn_of s.file s.number in
    subst (λ (plan : Planned). PrintsTo g.S.LineSink.wrote (printing (plainly s.draft.plan) s.file s.number s.sink) (printing (plainly plan) (s.file + 1) 0 c.write_piece.new.sink)) (sym (ap (λ (d : Drafted _). d.plan) c.in_ok-write_piece.ensures.draft))
    (prints_piece g.S.LineSink.wrote shown (plainly s.draft.plan) plain_whole shown_lines turn (turn_of (s.file + 1) 0) s.sink c.write_piece.new.sink c.args.piece (shown_carries s.draft.plan) (subst IsPlan c.requires.same c.plans_are_well_formed.ensures) c.requires.turn
    (turn_closed shown s.draft.plan turn c.args.piece c.requires.turn (sym c.is_closing-closes.ensures ∙ c.if-closes.true)) c.in_ok-write_piece.ensures.ok)

pub returns-else-closes-clause-follows : goal.returns-else-closes-clause-follows
returns-else-closes-clause-follows g c =
    let s = c.args.self.now in
    let turn = turn_of s.file s.number in
    subst (λ (plan : Planned). PrintsTo g.S.LineSink.wrote (printing (plainly s.draft.plan) s.file s.number s.sink) (printing (plainly plan) s.file (s.number + 1) c.write_piece.new.sink)) (sym (ap (λ (d : Drafted _). d.plan) c.in_ok-write_piece.ensures.draft))
    (prints_piece g.S.LineSink.wrote shown (plainly s.draft.plan) plain_whole shown_lines turn (turn_of s.file (s.number + 1)) s.sink c.write_piece.new.sink c.args.piece (shown_carries s.draft.plan) (subst IsPlan c.requires.same c.plans_are_well_formed.ensures) c.requires.turn
    (turn_open shown s.draft.plan turn c.args.piece c.requires.turn (sym c.is_closing-closes.ensures ∙ c.if-closes.false)) c.in_ok-write_piece.ensures.ok)
