use Rattle.std.proofs.Common.{◌≡◌, ◌+◌, ◌++◌, ◌*◌, ◌<◌, ◌≤◌, ℕ, List, length, take, nat_eq, nat_le, if◌then◌else◌, sym, ap, subst, ◌∙◌, arith}
use Rattle.std.specs.Prelude.{slice_index, slice_set}
use Rattle.std.proofs.lemmas.List.{get_or_append_left, length-set}
use Rattle.lx_tables.specs.Joined.{IsJoinedState, begun, joined_number, joined_width, transition_at}
use Rattle.lx_tables.specs.declared.joined.JoinedState.{JoinedState}
use Rattle.lx_tables.specs.declared.joined.Transition.{Transition}
use Rattle.lx_scan.specs.declared.ends.End.{End}
use Rattle.lx_scan.proofs.Runs.{Runs, is_place_more, last_column, more_bytes, runs_begun, runs_behind, runs_turn}
use Rattle.lx_scan.proofs.ends.find_ends.Goals as goal

pub bytes-init : goal.bytes-init
bytes-init c =
    let table = c.args.tables.now in
    let text = c.args.text.now in
    let place = c.args.place in
    let byte = slice_index text place.offset in
    let is_begun : c.first_state-begun.result ≡ begun table place.condition place.at_line_begin (slice_index table.machine.classes byte) (nat_eq byte 10)
    = c.first_state-begun.ensures.state ∙ ap (λ (n : ℕ). begun table place.condition place.at_line_begin n (nat_eq byte 10)) c.class-class.ensures.class in
    let within = c.row-row.ensures.within in
    let long = c.requires.joined.long in
    let entries = c.as_slice-entries.ensures.value in
    let same : length c.as_slice-entries.result.now ≡ length c.args.joined.now.entries.items = ap length entries in
    let few = c.newline.ensures.few in
    let small = c.type_inv.text place.offset in
    let newline_is : c.newline.result ≡ (if nat_eq byte 10 then 1 else 0)
    = c.newline.ensures.value ∙ ap (λ (xs : List ℕ). if nat_le (slice_index xs 10) (slice_index xs byte) then 1 else 0) c.as_slice-columns.ensures.value
    ∙ last_column table c.requires.table c.args.joined.now.columns.items c.args.joined.now.entries.items c.args.joined.now.labels.items c.requires.joined byte (omega arith) in
    let line_few = c.requires.place.line_few in
    record {
      runs = λ rest. runs_begun table (text ++ rest) place byte (place.line + c.newline.result) c.row-row.result (is_place_more table text rest place c.requires.place) (more_bytes text rest place.offset c.requires.more)
          (get_or_append_left text rest 0 place.offset c.requires.more)
          (subst (λ (q : JoinedState). IsJoinedState table q) is_begun c.first_state-begun.ensures.known)
          (c.row-row.ensures.row ∙ ap (λ (q : JoinedState). joined_number table q * joined_width table) is_begun)
          (ap (λ n. place.line + n) newline_is);
      count = omega arith;
      room = omega arith;
      within = omega arith;
      row = omega arith;
      line = omega arith;
    }

pub bytes-preserved : goal.bytes-preserved
bytes-preserved c =
    let table = c.args.tables.now in
    let text = c.args.text.now in
    let loop = c.bytes in
    let byte = slice_index text loop.offset in
    let small = c.type_inv.text loop.offset in
    let most = loop.invariant.room in
    let count_few = loop.invariant.count in
    let within = loop.invariant.within in
    let more = c.bytes-test.true in
    let entry : Transition = c.entry_at-entry.result.now in
    let columns_are = c.as_slice-columns.ensures.value in
    let entries_are = c.as_slice-entries.ensures.value in
    let entry_is : entry ≡ transition_at c.args.joined.now.entries.items (loop.row + slice_index c.args.joined.now.columns.items byte)
    = c.entry_at-entry.ensures ∙ ap (λ (xs : List Transition). transition_at xs (loop.row + slice_index c.as_slice-columns.result.now byte)) entries_are
    ∙ ap (λ (xs : List ℕ). transition_at c.args.joined.now.entries.items (loop.row + slice_index xs byte)) columns_are in
    let here : loop.offset < length text = omega arith in
    let below : byte < 256 = omega arith in
    let room : loop.count < length loop.ends = omega arith in
    let runs : (rest : List ℕ) → Runs table (text ++ rest) c.args.place (take (loop.count + c.ending-count.result) (slice_set loop.ends loop.count (record { code = entry.code; offset = loop.offset; line = loop.line }))) (loop.offset + 1) (loop.line + (if nat_eq byte 10 then 1 else 0)) entry.row
    = λ rest. runs_turn table c.requires.table c.args.joined.now.columns.items c.args.joined.now.entries.items c.args.joined.now.labels.items c.requires.joined (text ++ rest) c.args.place loop.ends loop.count loop.offset loop.line loop.row byte entry c.ending-count.result
    (loop.invariant.runs rest) (more_bytes text rest loop.offset here) (get_or_append_left text rest 0 loop.offset here) below entry_is room c.if-code-eq-UNTOLD.false c.ending-count.ensures.value in
    let row : (transition_at c.args.joined.now.entries.items (loop.row + slice_index c.args.joined.now.columns.items byte)).row + joined_width table ≤ length c.args.joined.now.entries.items
    = c.requires.joined.rows (loop.row + slice_index c.args.joined.now.columns.items byte) in
    let same : length c.as_slice-entries.result.now ≡ length c.args.joined.now.entries.items = ap length entries_are in
    let there : entry.row ≡ (transition_at c.args.joined.now.entries.items (loop.row + slice_index c.args.joined.now.columns.items byte)).row = ap (λ (t : Transition). t.row) entry_is in
    let kept = length-set loop.ends loop.count (let e : End = record { code = entry.code; offset = loop.offset; line = loop.line } in e) in
    let one = c.ending-count.ensures.few in
    let line_one = c.newline-line.ensures.few in
    let newline_is : c.newline-line.result ≡ (if nat_eq byte 10 then 1 else 0)
    = c.newline-line.ensures.value ∙ ap (λ (xs : List ℕ). if nat_le (slice_index xs 10) (slice_index xs byte) then 1 else 0) columns_are
    ∙ last_column table c.requires.table c.args.joined.now.columns.items c.args.joined.now.entries.items c.args.joined.now.labels.items c.requires.joined byte (omega arith) in
    let line_few = loop.invariant.line in
    record {
      runs = λ rest. subst (λ (n : ℕ). Runs table (text ++ rest) c.args.place (take (loop.count + c.ending-count.result) (slice_set loop.ends loop.count (record { code = entry.code; offset = loop.offset; line = loop.line }))) (loop.offset + 1) (loop.line + n) entry.row) (sym newline_is) (runs rest);
      count = omega arith;
      room = omega arith;
      within = omega arith;
      row = omega arith;
      line = omega arith;
    }

pub returns-clause-ends : goal.returns-clause-ends
returns-clause-ends c = λ some rest.
    let count = c.bytes.invariant.count in
    let room = c.bytes.invariant.room in
    runs_behind c.args.tables.now (c.args.text.now ++ rest) c.args.place c.bytes.ends c.bytes.count c.bytes.offset c.bytes.line c.bytes.row c.condition_of_row.result
    (c.bytes.invariant.runs rest) (omega arith) c.condition_of_row.ensures some
