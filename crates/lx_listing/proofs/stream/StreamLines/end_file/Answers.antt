use Rattle.std.proofs.Common.{◌≡◌, ℕ, List, sym, ◌∙◌, ap, subst}
use Rattle.lx_scan.specs.Streams.{Stream, first_stream}
use Rattle.lx_piece.specs.Plans.{Planned, input_of}
use Rattle.lx_line.specs.Styles.{Drafted}
use Rattle.lx_listing.specs.Gathered.{Gathered, Gathers}
use Rattle.lx_listing.specs.Lines.{cut_lines_by, file_lines_by}
use Rattle.lx_listing.specs.Streamed.{HasLines, Streamed}
use Rattle.lx_listing.proofs.Streaming.{drained_first, ends_file, ok_anyway, ok_then, scanning_begins}
use Rattle.lx_listing.proofs.stream.StreamLines.end_file.Goals as goal

pub invariant_of-self : goal.invariant_of-self
invariant_of-self g c =
    let fresh = c.new.ensures ∙ ap first_stream c.tables.ensures in
    (scanning_begins c.self.inside.plan.now.table c.new.result fresh, ap (λ (s : Stream). s.has_ended) fresh, ap (λ (d : Drafted _). d.plan) c.write_decided-answer.ensures.draft ∙ c.self.invariant.2)

pub invariant_of-self-in_err-write_cut : goal.invariant_of-self-in_err-write_cut
invariant_of-self-in_err-write_cut g c =
    let fresh = c.new.ensures ∙ ap first_stream c.tables.ensures in
    (scanning_begins c.self.inside.plan.now.table c.new.result fresh, ap (λ (s : Stream). s.has_ended) fresh, ap (λ (d : Drafted _). d.plan) c.write_decided-answer.ensures.draft ∙ c.self.invariant.2)

pub invariant_of-self-2 : goal.invariant_of-self-2
invariant_of-self-2 g c =
    let fresh = c.new.ensures ∙ ap first_stream c.tables.ensures in
    (scanning_begins c.self.inside.plan.now.table c.new.result fresh, ap (λ (s : Stream). s.has_ended) fresh, ap (λ (d : Drafted _). d.plan) c.write_decided-answer.ensures.draft ∙ c.self.invariant.2)

pub returns-clause-lines : goal.returns-clause-lines
returns-clause-lines g c =
    let s = c.self.inside in
    let wrote = g.S.LineSink.wrote in
    let style = g.L.LineStyle.style s.draft.style in
    let new = c.pass_on.new.self in
    let kept : c.style.result.now ≡ s.draft.style = c.style.ensures ∙ ap (λ (d : Drafted _). d.style) c.write_decided-answer.ensures.draft in
    let cut : Gathers wrote c.write_decided-answer.new.sink (cut_lines_by style s.file c.args.is_cut) c.write_cut.new.sink
    = subst (λ (by : g.row.L.Denot). Gathers wrote c.write_decided-answer.new.sink (cut_lines_by (g.L.LineStyle.style by) s.file c.args.is_cut) c.write_cut.new.sink) kept c.in_ok-write_cut.ensures.ok in
    ok_anyway c.pass_on.result
    (subst (λ (v : Streamed g.row.L.Denot g.row.S.Denot). (start : Gathered g.row.S.Denot) (front : List ℕ) (whole : Planned) → HasLines wrote (g.L.LineStyle.style v.style) v.file v.stream front start v.sink
    → whole.table ≡ v.plan.table → input_of whole v.file ≡ record { bytes = front; cut = c.args.is_cut } → Gathers wrote start (file_lines_by (g.L.LineStyle.style v.style) whole v.file) new) c.self.view_is
    (λ start front whole h e input.
    ends_file wrote g.met.S.LineSink.wrote_nothing g.met.S.LineSink.wrote_on style s.file s.scanner c.end.new.self c.write_decided-answer.new.scanner front c.args.is_cut start s.sink c.write_decided-answer.new.sink c.write_cut.new.sink new whole
    c.end.ensures c.in_ok-answer.ensures.lists c.in_ok-answer.ensures.over cut c.pass_on.ensures.gathers h (e ∙ sym c.self.invariant.0.table_is) input))

pub returns-clause-prompt : goal.returns-clause-prompt
returns-clause-prompt g c =
    let fresh = c.new.ensures ∙ ap first_stream c.tables.ensures in
    ok_then c.pass_on.result c.pass_on.ensures.empty (λ none_held. record { drained = drained_first c.self.inside.plan.now.table c.new.result fresh; none_held = none_held })
