use Rattle.std.proofs.Common.{ℕ, List, ◌≡◌, ◌-◌, sym, ◌∙◌, subst, arith, [], append-nil}
use Rattle.std.proofs.lemmas.Result.{err_from_is_err_and, on_err_weaker, on_ok_weaker}
use Rattle.lx_automaton.specs.EncodedOptions.{decoded_option}
use Rattle.lx_tables.specs.Lines.{value_of}
use Rattle.lx_tables.specs.Texts.{range_text, byte_ranges}
use Rattle.lx_tables.proofs.Written.{WroteBefore, before_all, before_more, before_prefix, before_end}
use Rattle.lx_tables.proofs.Ranges.{run_begins, run_ends, run_goes, run_last}
use Rattle.lx_tables.proofs.lines.write_ranges.Goals as goal
use Rattle.lx_tables.proofs.lines.write_ranges.Goals.{then-next-value+in_ok-write_range, else-next-value}

pub loop-at-init : goal.loop-at-init
loop-at-init g c = record {
  from = omega arith;
  within = omega arith;
  wrote = before_all _ _ _ (run_begins (value_of c.args.tables.now.machine c.args.values) c.encoded_value-value.result c.encoded_value-value.ensures);
}

pub loop-at-preserved : goal.loop-at-preserved
loop-at-preserved g c =
    let value = value_of c.args.tables.now.machine c.args.values in
    let at = c.loop-at.at in
    let i = c.loop-at.invariant in
    record {
      from = elim c.if-next-value.branch [ then-next-value+in_ok-write_range w ↦ omega arith | else-next-value w ↦ omega arith ];
      within = omega arith;
      wrote = elim c.if-next-value.branch [
        | then-next-value+in_ok-write_range w ↦
            rw (w.out-is, w.low-is, w.value-is)
            (before_more (range_text c.loop-at.low (at - 1) (decoded_option c.loop-at.value)) _
            (run_ends value c.loop-at.low at c.loop-at.value c.encoded_value-next.result (omega arith) (omega arith) c.encoded_value-next.ensures w.if-next-value.true)
            i.wrote w.in_ok-write_range.ensures.ok)
        | else-next-value w ↦
            rw (w.out-is, w.low-is, w.value-is)
            (let P : List ℕ → Type 0 = λ bs. WroteBefore (g.W.Write.contents c.args.out.now) (g.W.Write.contents c.loop-at.out) (byte_ranges value) bs in
            subst P (run_goes value c.loop-at.low at c.loop-at.value c.encoded_value-next.result (omega arith) (omega arith) c.encoded_value-next.ensures w.if-next-value.false) i.wrote)
      ];
    }

pub returns-in_err-write_range-clause-err : goal.returns-in_err-write_range-clause-err
returns-in_err-write_range-clause-err g c =
    let p = err_from_is_err_and c.from_residual.result c.from_residual.ensures.1 in
    let value = value_of c.args.tables.now.machine c.args.values in
    let at = c.loop-at.at in
    rw p.1
    (before_prefix (range_text c.loop-at.low (at - 1) (decoded_option c.loop-at.value)) _
    (run_ends value c.loop-at.low at c.loop-at.value c.encoded_value-next.result (omega arith) (omega arith) c.encoded_value-next.ensures c.if-next-value.true)
    c.loop-at.invariant.wrote c.in_err-write_range.ensures.err)

pub returns-clause-ok : goal.returns-clause-ok
returns-clause-ok g c =
    let last : c.loop-at.at ≡ 256 = omega arith in
    on_ok_weaker c.write_range-2.result
    (λ h. before_end (range_text c.loop-at.low 255 (decoded_option c.loop-at.value)) (run_last (value_of c.args.tables.now.machine c.args.values) c.loop-at.low c.loop-at.at c.loop-at.value last) c.loop-at.invariant.wrote h)
    c.write_range-2.ensures.ok

pub returns-clause-err : goal.returns-clause-err
returns-clause-err g c =
    let last : c.loop-at.at ≡ 256 = omega arith in
    let value = value_of c.args.tables.now.machine c.args.values in
    on_err_weaker c.write_range-2.result
    (λ h. before_prefix (range_text c.loop-at.low 255 (decoded_option c.loop-at.value)) [] (run_last value c.loop-at.low c.loop-at.at c.loop-at.value last ∙ sym (append-nil (range_text c.loop-at.low 255 (decoded_option c.loop-at.value)))) c.loop-at.invariant.wrote h)
    c.write_range-2.ensures.err
