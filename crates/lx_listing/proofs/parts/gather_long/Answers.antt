use Rattle.std.proofs.Common.{ℕ, ◌≡◌, List, [], ◌∷◌, ◌++◌, refl, ◌∙◌, ap}
use Rattle.std.specs.List.{flat_map}
use Rattle.std.proofs.lemmas.Result.{err_from_is_err_and}
use Rattle.lx_listing.specs.Gathered.{Gathers}
use Rattle.lx_listing.specs.GatheredLaws.{gathers_on}
use Rattle.lx_listing.specs.Lines.{escaped}
use Rattle.lx_listing.proofs.Parting.{second_fails, third_fails, three_writes}
use Rattle.lx_listing.proofs.parts.gather_long.Goals as goal

-- a line of its start, its text and a line feed
line_is : (none start head text own line : List ℕ) → head ≡ start → (start ++ flat_map escaped own) ++ 10 ∷ [] ≡ none ++ line → none ≡ [] → text ≡ own → (head ++ flat_map escaped text) ++ 10 ∷ [] ≡ line
line_is none start head text own line h s n t =
    ap (λ (bytes : List ℕ). (bytes ++ flat_map escaped text) ++ 10 ∷ []) h
    ∙ ap (λ (bytes : List ℕ). (start ++ flat_map escaped bytes) ++ 10 ∷ []) t
    ∙ s
    ∙ ap (λ (bytes : List ℕ). bytes ++ line) n

pub returns-in_err-gather_text-clause-part : goal.returns-in_err-gather_text-clause-part
returns-in_err-gather_text-clause-part g c =
    let plan = c.args.plan.now in
    let file = c.args.file in
    let item = c.args.item.now in
    let text = c.args.text.now in
    let line = line_is c.clear.new.self.items c.push_start.new.block.items c.as_slice-2.result.now text text ((g.L.LineStyle.style c.args.style.now).line_with plan.table file item text) c.as_slice-2.ensures.value (c.in-Ok.ensures.start c.if-not-goes_on.false) c.clear.ensures.items refl in
    let p = err_from_is_err_and c.from_residual-in_err-gather_text.result c.from_residual-in_err-gather_text.ensures.1 in
    rw p.1 (second_fails (Gathers g.S.LineSink.wrote) (gathers_on g.S.LineSink.wrote g.met.S.LineSink.wrote_on) c.args.sink.now c.gather-2.new.self c.gather_text.new.sink _ c.as_slice-2.result.now (flat_map escaped text) (10 ∷ []) ((g.L.LineStyle.style c.args.style.now).line_with plan.table file item text) line (p.2 ∙ c.in_err-gather_text.ensures.device) c.in_ok-gather.ensures.ok c.in_err-gather_text.ensures.err)

pub returns-in_err-gather-2-clause-part : goal.returns-in_err-gather-2-clause-part
returns-in_err-gather-2-clause-part g c =
    let plan = c.args.plan.now in
    let file = c.args.file in
    let item = c.args.item.now in
    let text = c.args.text.now in
    let line = line_is c.clear.new.self.items c.push_start.new.block.items c.as_slice-2.result.now text text ((g.L.LineStyle.style c.args.style.now).line_with plan.table file item text) c.as_slice-2.ensures.value (c.in-Ok.ensures.start c.if-not-goes_on.false) c.clear.ensures.items refl in
    let p = err_from_is_err_and c.from_residual-in_err-gather-2.result c.from_residual-in_err-gather-2.ensures.1 in
    rw p.1 (third_fails (Gathers g.S.LineSink.wrote) (gathers_on g.S.LineSink.wrote g.met.S.LineSink.wrote_on) c.args.sink.now c.gather-2.new.self c.gather_text.new.sink c.gather-3.new.self _ c.as_slice-2.result.now (flat_map escaped text) (10 ∷ []) ((g.L.LineStyle.style c.args.style.now).line_with plan.table file item text) line (p.2 ∙ c.in_err-gather-2.ensures.device) c.in_ok-gather.ensures.ok c.in_ok-gather_text.ensures.ok c.in_err-gather-2.ensures.err)

pub returns-clause-ok : goal.returns-clause-ok
returns-clause-ok g c =
    let plan = c.args.plan.now in
    let file = c.args.file in
    let item = c.args.item.now in
    let text = c.args.text.now in
    let line = line_is c.clear.new.self.items c.push_start.new.block.items c.as_slice-2.result.now text text ((g.L.LineStyle.style c.args.style.now).line_with plan.table file item text) c.as_slice-2.ensures.value (c.in-Ok.ensures.start c.if-not-goes_on.false) c.clear.ensures.items refl in
    three_writes (Gathers g.S.LineSink.wrote) (gathers_on g.S.LineSink.wrote g.met.S.LineSink.wrote_on) c.args.sink.now c.gather-2.new.self c.gather_text.new.sink c.gather-3.new.self c.as_slice-2.result.now (flat_map escaped text) (10 ∷ []) ((g.L.LineStyle.style c.args.style.now).line_with plan.table file item text) line c.in_ok-gather.ensures.ok c.in_ok-gather_text.ensures.ok c.in_ok-gather-2.ensures.ok
