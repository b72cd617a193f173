use Rattle.std.proofs.Common.{sym, ◌∙◌, nat_eq}
use Rattle.std.proofs.lemmas.Bool.{both_ways, or_left, or_right, or_from, ne_eqb, eq-eqb}
use Rattle.lx_piece.specs.Pieces.{is_closing, top_number}
use Rattle.lx_piece.specs.Kept.{closed_before}
use Rattle.lx_piece.proofs.Buffers.{refused_after_last, refused_contradicts, not_refused}
use Rattle.lx_piece.proofs.reorder_buffer.ReorderBuffer.cause.Goals as goal
use Rattle.lx_piece.proofs.reorder_buffer.ReorderBuffer.cause.Goals.{then-piece-via-then-piece, then-piece-via-else-piece+then-is_closed_before, else-is_closing-via-then-is_closing+else-holds_later, else-is_closing-via-else-is_closing}

pub returns-then-piece-clause-first : goal.returns-then-piece-clause-first
returns-then-piece-clause-first g c = λ accepted s.
    let n = c.args.piece.now.number in
    let buffer = c.args.self.now in
    refused_after_last buffer accepted c.args.piece.now s (sym c.has.ensures ∙ c.if-has.false)
    (elim c.then-piece.branch [
      | then-piece-via-then-piece w ↦ or_left (nat_eq n top_number) (closed_before buffer.closing n) (eq-eqb n top_number w.if-piece.true)
      | then-piece-via-else-piece+then-is_closed_before w ↦ or_right (nat_eq n top_number) (closed_before buffer.closing n) (sym w.is_closed_before.ensures ∙ w.if-is_closed_before.true)
    ])

pub returns-then-holds_later-clause-first : goal.returns-then-holds_later-clause-first
returns-then-holds_later-clause-first g c = λ accepted s.
    let n = c.args.piece.now.number in
    let buffer = c.args.self.now in
    refused_contradicts buffer accepted c.args.piece.now s (sym c.has.ensures ∙ c.if-has.false)
    (or_from (nat_eq n top_number) (closed_before buffer.closing n) (ne_eqb n top_number c.if-piece.false) (sym c.is_closed_before.ensures ∙ c.if-is_closed_before.false))
    (sym c.is_closing.ensures ∙ c.if-is_closing.true)
    (c.holds_later.ensures.yes c.if-holds_later.true)

pub returns-clause-first : goal.returns-clause-first
returns-clause-first g c = λ accepted s.
    let n = c.args.piece.now.number in
    let buffer = c.args.self.now in
    not_refused buffer accepted c.args.piece.now s (sym c.has.ensures ∙ c.if-has.false)
    (or_from (nat_eq n top_number) (closed_before buffer.closing n) (ne_eqb n top_number c.if-piece.false) (sym c.is_closed_before.ensures ∙ c.if-is_closed_before.false))
    (elim c.else-is_closing.branch [
      | else-is_closing-via-then-is_closing+else-holds_later w ↦ λ _. w.holds_later.ensures.no w.if-holds_later.false
      | else-is_closing-via-else-is_closing w ↦ λ e. absurd (both_ways (is_closing c.args.piece.now) (sym c.is_closing.ensures ∙ w.if-is_closing.false) e)
    ])
