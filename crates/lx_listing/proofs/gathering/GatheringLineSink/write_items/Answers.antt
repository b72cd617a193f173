use Rattle.std.proofs.Common.{ℕ, ◌≡◌, List, ◌∙◌, ap, subst}
use Rattle.std.specs.Prelude.{IfErr, OnOk}
use Rattle.lx_line.specs.StyleLaws.{lines_here}
use Rattle.lx_listing.specs.Gathered.{Gathers}
use Rattle.lx_listing.specs.Lines.{lines_at, lines_by}
use Rattle.lx_listing.specs.Parts.{WrotePart}
use Rattle.lx_listing.proofs.gathering.GatheringLineSink.write_items.Goals as goal

pub returns-clause-ok : goal.returns-clause-ok
returns-clause-ok g c =
    let style = g.L.LineStyle.style c.args.draft.now.style in
    let plan = c.args.plan.now in
    let file = c.args.file in
    let items = c.args.items.now in
    let same : lines_at style plan.table file c.bytes.result.now 0 items ≡ lines_by style plan file items
    = ap (λ (bytes : List ℕ). lines_at style plan.table file bytes 0 items) c.bytes.ensures ∙ lines_here style (g.met.L.LineStyle.by_text c.args.draft.now.style) plan file items in
    subst (λ (lines : List ℕ). OnOk c.gather_items.result (Gathers g.S.LineSink.wrote c.args.self.now lines c.gather_items.new.self)) same c.gather_items.ensures.ok

pub returns-clause-part : goal.returns-clause-part
returns-clause-part g c =
    let style = g.L.LineStyle.style c.args.draft.now.style in
    let plan = c.args.plan.now in
    let file = c.args.file in
    let items = c.args.items.now in
    let same : lines_at style plan.table file c.bytes.result.now 0 items ≡ lines_by style plan file items
    = ap (λ (bytes : List ℕ). lines_at style plan.table file bytes 0 items) c.bytes.ensures ∙ lines_here style (g.met.L.LineStyle.by_text c.args.draft.now.style) plan file items in
    subst (λ (lines : List ℕ). IfErr c.gather_items.result (λ fault. WrotePart (Gathers g.S.LineSink.wrote) c.args.self.now fault lines c.gather_items.new.self)) same c.gather_items.ensures.part
