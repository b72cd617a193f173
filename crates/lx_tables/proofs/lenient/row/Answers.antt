use Rattle.std.proofs.Common.{◌-◌, ◌∙◌, arith}
use Rattle.lx_tables.proofs.Onto.{row_more, row_ends}
use Rattle.lx_tables.proofs.lenient.row.Goals as goal
use Rattle.lx_tables.proofs.lenient.row.Goals.{then-loop-left-test+else-byte_at-eq32, else-loop-left-test}

pub loop-left-preserved : goal.loop-left-preserved
loop-left-preserved c = record {
  room = omega arith;
  same =
      row_more c.args.version c.args.width c.loop-left.encoded_options.items c.loop-left.left (c.loop-left.left - 1) c.loop-left.from c.clamp-low.result c.clamp-end.result
      c.run-first.result.0.0 c.run-first.result.0.1 c.run-first.result.0.2 c.encoded_value.result c.loop-left.rest.now c.run-first.result.1.now _ _
      (omega arith) (omega arith) c.run-first.ensures c.clamp-low.ensures.value c.clamp-end.ensures.value c.encoded_value.ensures c.in_ok-push_many.ensures c.in_ok-push_many-2.ensures
      ∙ c.loop-left.invariant.same;
}

pub returns : goal.returns
returns c =
    row_ends c.args.version c.args.width c.loop-left.encoded_options.items _ c.loop-left.left c.loop-left.from c.loop-left.rest.now
    (λ l. elim c.loop-left-test.branch [ then-loop-left-test+else-byte_at-eq32 w ↦ (λ e. absurd (omega arith)) | else-loop-left-test w ↦ absurd (omega arith) ])
    c.in_ok-push_many-3.ensures ∙ c.loop-left.invariant.same
