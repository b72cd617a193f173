use Rattle.std.proofs.Common.{◌+◌, ◌-◌, ◌∙◌, ap, arith}
use Rattle.std.specs.Prelude.{slice_set}
use Rattle.lx_auto.specs.Blocks.{shifted}
use Rattle.lx_auto.proofs.Sequences.{shifted_next}
use Rattle.lx_auto.proofs.rules.block.Block.read_sequence.Goals as goal

pub down-preserved : goal.down-preserved
down-preserved c =
    let marks = c.args.marks.now in
    let entered = c.args.entered in
    let base = c.args.self.now.base in
    let r = c.down.rest in
    let n = r - 1 in
    let old = c.down.reads.items in
    let more = c.down-test.true in
    let within = c.down.invariant.within in
    record {
      set = ap (λ l. shifted marks entered base n l) (c.set_flag.ensures.set ∙ ap (λ g. slice_set old (base + n) g) c.flag.ensures)
          ∙ shifted_next marks entered base r n old (omega arith) (omega arith) ∙ c.down.invariant.set;
      long = c.set_flag.ensures.long ∙ c.down.invariant.long;
      within = omega arith;
    }
