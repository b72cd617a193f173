use Rattle.std.proofs.Common.{◌≡◌, Bor, ℕ, List, map, subst, sym}
use Rattle.std.specs.Io.KnownBytes.{Appends}
use Rattle.std.proofs.lemmas.Result.{IfErr-weaker, IfOk-weaker}
use Rattle.lx_forms.specs.Views.{form_view}
use Rattle.lx_tool.specs.Planning.{ListsIn}
use Rattle.lx_tool.proofs.GivenListed.{listed_as_well}
use Rattle.lx_tool.proofs.StreamedFiles.{lists_in, stops_as_well}
use Rattle.lx_tool.proofs.streaming.stream_files_in.Goals as goal

pub returns-clause-ok : goal.returns-clause-ok
returns-clause-ok g c =
    let held = g.W.Write.contents c.args.out.now in
    let last = g.W.Write.contents c.out-1.given.0 in
    let sink = c.stream_to-sink.result.0 in
    let form = form_view c.args.form.now in
    let names : List (List ℕ) = map (λ (name : Bor (List ℕ)). name.now) c.args.names.now in
    let is_last : c.sink-1.given ≡ sink.out.ghost_name → c.out-1.given.0 ≡ sink.out.now = c.out-1.given.1 in
    let appends : (bytes : List ℕ) → Appends held (g.W.Write.contents sink.out.now) bytes × (sink.out.ghost_name ≡ c.sink-1.given) → Appends held last bytes
    = λ bytes h. subst (λ (x : g.row.W.Denot). Appends held (g.W.Write.contents x) bytes) (sym (is_last (sym h.1))) h.0 in
    IfOk-weaker c.stream_to-sink.result.1 _ _
    (λ cut l. listed_as_well g.S.Sources.gives _ (λ inputs. ListsIn form c.args.tables inputs held last) (λ inputs bytes w. lists_in held last form c.in_ok-plan.plan.table c.args.tables c.in_ok-plan.ensures inputs (λ plan e i. appends _ (w plan e i)))
    names c.args.sources.now c.stream_to-sink.new.sources _ l)
    c.stream_to-sink.ensures.ok

pub returns-clause-err : goal.returns-clause-err
returns-clause-err g c =
    let held = g.W.Write.contents c.args.out.now in
    let last = g.W.Write.contents c.out-1.given.0 in
    let sink = c.stream_to-sink.result.0 in
    let form = form_view c.args.form.now in
    let names : List (List ℕ) = map (λ (name : Bor (List ℕ)). name.now) c.args.names.now in
    let is_last : c.sink-1.given ≡ sink.out.ghost_name → c.out-1.given.0 ≡ sink.out.now = c.out-1.given.1 in
    let appends : (bytes : List ℕ) → Appends held (g.W.Write.contents sink.out.now) bytes × (sink.out.ghost_name ≡ c.sink-1.given) → Appends held last bytes
    = λ bytes h. subst (λ (x : g.row.W.Denot). Appends held (g.W.Write.contents x) bytes) (sym (is_last (sym h.1))) h.0 in
    IfErr-weaker c.stream_to-sink.result.1 _ _
    (λ failure h low. let s = h low in (
      s.0,
      s.1,
      stops_as_well g.S.Sources.gives _ (λ inputs. ListsIn form c.args.tables inputs held last) (λ inputs w. lists_in held last form c.in_ok-plan.plan.table c.args.tables c.in_ok-plan.ensures inputs (λ plan e i. appends _ (w plan e i)))
          names c.args.sources.now s.0.now s.2,
    ))
    c.stream_to-sink.ensures.err
