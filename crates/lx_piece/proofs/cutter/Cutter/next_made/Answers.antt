use Rattle.std.proofs.Common.{◌<◌, ◌+◌, not, refl, sym, subst, ◌∙◌, ap, arith}
use Rattle.lx_piece.specs.Cutting.{Cutting, IsCutterOf}
use Rattle.lx_piece.specs.Pieces.{piece_by, pieces_of}
use Rattle.lx_piece.proofs.Cutting.{TakesPiece, cuts_on, first_there, is_piece, items_taken, next_there, none_next, piece_is, takes_from}
use Rattle.lx_piece.proofs.cutter.Cutter.next_made.Given.{Over}
use Rattle.lx_piece.proofs.cutter.Cutter.next_made.Goals as goal
use Rattle.lx_piece.proofs.cutter.Cutter.next_made.Goals.{else-self-gt0-via-then-self-gt0+else-is_none, else-self-gt0-via-else-self-gt0}

pub returns-then-is_none-clause-piece : goal.returns-then-is_none-clause-piece
returns-then-is_none-clause-piece g c =
    let is : IsCutterOf c.args.plan.now (record { plan = c.self.inside.plan.value; file = c.self.inside.file; next = c.self.inside.number; cursor = c.self.inside.cursor; ahead = c.self.inside.ahead })
    = subst (λ (k : Cutting). IsCutterOf c.args.plan.now k) (sym c.self.view_is) c.requires in
    let per_piece = c.per_piece-most.ensures in
    (ap (λ (k : Cutting). k.next) (sym c.self.view_is) ∙ none_next c.args.plan.now _ (omega arith) is c.if-self-gt0.true (c.is_none.ensures ∙ ap not c.if-is_none.true) ∙ ap (λ (k : Cutting). pieces_of c.args.plan.now k.file) c.self.view_is, refl)

-- the cutter as it was, if a piece is ahead, and the result of taking from it
abbrev cutter : (g : Over) → goal.After-self-3-1 g → Cutting
cutter g c = record { plan = c.self.inside.plan.value; file = c.self.inside.file; next = c.self.inside.number; cursor = c.self.inside.cursor; ahead = c.self.inside.ahead }

is_cutter : (g : Over) (c : goal.After-self-3-1 g) → IsCutterOf c.args.plan.now (cutter g c)
is_cutter g c = subst (λ (k : Cutting). IsCutterOf c.args.plan.now k) (sym c.self.view_is) c.requires

there : (g : Over) (c : goal.After-self-3-1 g) → c.self.inside.number < pieces_of c.args.plan.now c.self.inside.file
there g c = let per_piece = c.per_piece-most.ensures in
    elim c.else-self-gt0.branch [
      | else-self-gt0-via-then-self-gt0+else-is_none w ↦ next_there c.args.plan.now (cutter g c) (omega arith) (is_cutter g c) (w.is_none.ensures ∙ ap not w.if-is_none.false)
      | else-self-gt0-via-else-self-gt0 w ↦ first_there c.args.plan.now (cutter g c) (omega (arith, w.if-self-gt0.false))
    ]

taken : (g : Over) (c : goal.After-self-3-1 g) → TakesPiece c.args.plan.now (cutter g c) c.take_items.new.items c.in_ok-ahead.ahead c.take_items.new.cursor
taken g c = takes_from c.args.plan.now (cutter g c) c.take_items.new.items c.in_ok-ahead.ahead c.take_items.new.cursor c.tables.result.now c.bytes-text.result.now c.per_piece-most.result
    c.tables.ensures c.bytes-text.ensures c.per_piece-most.ensures.count c.in_ok-ahead.ensures.in_text c.in_ok-ahead.ensures.items c.in_ok-ahead.ensures.rest c.in_ok-ahead.ensures.end

pub make-requires-clause-items : goal.make-requires-clause-items
make-requires-clause-items g c =
    let per_piece = c.per_piece-most.ensures in
    let before : Cutting = record { plan = c.self.inside.plan.value; file = c.self.inside.file; next = c.self.inside.number; cursor = c.self.inside.cursor; ahead = c.self.inside.ahead } in
    let is : IsCutterOf c.args.plan.now before = subst (λ (k : Cutting). IsCutterOf c.args.plan.now k) (sym c.self.view_is) c.requires in
    items_taken c.args.plan.now before c.take_items.new.items c.tables.result.now c.bytes-text.result.now c.per_piece-most.result
    c.tables.ensures c.bytes-text.ensures c.per_piece-most.ensures.count is c.in_ok-ahead.ensures.items c.per_piece-most.ensures.plan

pub returns-clause-cutter : goal.returns-clause-cutter
returns-clause-cutter g c =
    let per_piece = c.per_piece-most.ensures in
    cuts_on c.args.plan.now (cutter g c) c.take_items.new.items c.in_ok-ahead.ahead c.take_items.new.cursor (omega arith) (is_cutter g c) (there g c) (taken g c)

pub returns-clause-piece : goal.returns-clause-piece
returns-clause-piece g c =
    let per_piece = c.per_piece-most.ensures in
    let made = g.M.Maker.made in
    let carries = c.in_ok-carried.ensures in
    let whole = piece_is c.args.plan.now (cutter g c) c.take_items.new.items c.in_ok-ahead.ahead c.take_items.new.cursor (omega arith) (is_cutter g c) (there g c) (taken g c)
    made c.in_ok-carried.carried c.run.result c.mark.result c.is_none-2.result c.is_cut.result carries c.run.ensures c.is_none-2.ensures c.is_cut.ensures c.mark.ensures in
    let is = is_piece c.args.plan.now (cutter g c) c.take_items.new.items c.in_ok-ahead.ahead c.take_items.new.cursor (omega arith) (is_cutter g c) (there g c) (taken g c)
    made c.in_ok-carried.carried c.run.result c.mark.result c.is_none-2.result c.is_cut.result carries (omega arith) c.run.ensures c.is_none-2.ensures c.is_cut.ensures c.mark.ensures in
    (is, whole ∙ ap (λ (k : Cutting). piece_by made c.args.plan.now k.file k.next) c.self.view_is, ap (λ (k : Cutting). k.next + 1) c.self.view_is)
