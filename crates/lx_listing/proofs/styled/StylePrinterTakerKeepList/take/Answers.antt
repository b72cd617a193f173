use Rattle.std.proofs.Common.{◌∙◌, ◌+◌, subst, sym}
use Rattle.std.proofs.lemmas.Result.{err_from_is_err_and}
use Rattle.lx_piece.specs.declared.reader.ReaderFault.{ReaderFault}
use Rattle.lx_piece.specs.Pieces.{bare}
use Rattle.lx_piece.specs.Plans.{IsPlan}
use Rattle.lx_line.specs.Styles.{Drafted}
use Rattle.lx_listing.specs.Lines.{piece_lines_by}
use Rattle.lx_listing.specs.Listings.{listed_of}
use Rattle.lx_listing.specs.Parts.{WrotePart}
use Rattle.lx_listing.specs.Printing.{PrintsPart, PrintsTo, printing, turn_of}
use Rattle.lx_listing.proofs.Turning.{list_carries, prints_in_part, prints_piece, turn_closed, turn_open}
use Rattle.lx_listing.proofs.styled.StylePrinterTakerKeepList.take.Goals as goal

pub returns-in_err-write_list-clause-fails : goal.returns-in_err-write_list-clause-fails
returns-in_err-write_list-clause-fails g c =
    let s = c.args.self.now in
    let listed = listed_of g.L.LineStyle.style s.draft in
    let p = err_from_is_err_and c.from_residual.result c.from_residual.ensures.1 in
    rw p.1 (subst (λ (d : Drafted _). PrintsPart g.S.LineSink.wrote (printing listed s.file s.number s.sink) p.0 (printing (listed_of g.L.LineStyle.style d) s.file s.number c.write_list.new.sink)) (sym c.in_err-write_list.ensures.draft)
    (prints_in_part g.S.LineSink.wrote bare listed (λ p. piece_lines_by listed.style listed.plan p.file p) (turn_of s.file s.number) s.sink c.write_list.new.sink c.args.piece _ (list_carries listed) (subst IsPlan c.requires.same c.plans_are_well_formed.ensures) c.requires.turn
    (subst (λ plan. WrotePart g.S.LineSink.wrote s.sink p.0 (piece_lines_by listed.style plan c.args.piece.file c.args.piece) c.write_list.new.sink) c.requires.same
    (subst (λ (fault : ReaderFault). WrotePart g.S.LineSink.wrote s.sink fault (piece_lines_by listed.style c.args.whole.now c.args.piece.file c.args.piece) c.write_list.new.sink) (sym p.2) c.in_err-write_list.ensures.part))))

pub returns-then-closes-clause-follows : goal.returns-then-closes-clause-follows
returns-then-closes-clause-follows g c =
    let s = c.args.self.now in
    let listed = listed_of g.L.LineStyle.style s.draft in
    let turn = turn_of s.file s.number in
    subst (λ (d : Drafted _). PrintsTo g.S.LineSink.wrote (printing listed s.file s.number s.sink) (printing (listed_of g.L.LineStyle.style d) (s.file + 1) 0 c.write_list.new.sink)) (sym c.in_ok-write_list.ensures.draft)
    (prints_piece g.S.LineSink.wrote bare listed (g.met.L.LineStyle.whole s.draft.style) (λ p. piece_lines_by listed.style listed.plan p.file p) turn (turn_of (s.file + 1) 0) s.sink c.write_list.new.sink c.args.piece (list_carries listed) (subst IsPlan c.requires.same c.plans_are_well_formed.ensures) c.requires.turn
    (turn_closed bare s.draft.plan turn c.args.piece c.requires.turn (sym c.is_closing-closes.ensures ∙ c.if-closes.true))
    (subst (λ plan. g.S.LineSink.wrote s.sink (piece_lines_by listed.style plan c.args.piece.file c.args.piece) c.write_list.new.sink) c.requires.same c.in_ok-write_list.ensures.ok))

pub returns-else-closes-clause-follows : goal.returns-else-closes-clause-follows
returns-else-closes-clause-follows g c =
    let s = c.args.self.now in
    let listed = listed_of g.L.LineStyle.style s.draft in
    let turn = turn_of s.file s.number in
    subst (λ (d : Drafted _). PrintsTo g.S.LineSink.wrote (printing listed s.file s.number s.sink) (printing (listed_of g.L.LineStyle.style d) s.file (s.number + 1) c.write_list.new.sink)) (sym c.in_ok-write_list.ensures.draft)
    (prints_piece g.S.LineSink.wrote bare listed (g.met.L.LineStyle.whole s.draft.style) (λ p. piece_lines_by listed.style listed.plan p.file p) turn (turn_of s.file (s.number + 1)) s.sink c.write_list.new.sink c.args.piece (list_carries listed) (subst IsPlan c.requires.same c.plans_are_well_formed.ensures) c.requires.turn
    (turn_open bare s.draft.plan turn c.args.piece c.requires.turn (sym c.is_closing-closes.ensures ∙ c.if-closes.false))
    (subst (λ plan. g.S.LineSink.wrote s.sink (piece_lines_by listed.style plan c.args.piece.file c.args.piece) c.write_list.new.sink) c.requires.same c.in_ok-write_list.ensures.ok))
