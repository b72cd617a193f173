use Rattle.std.proofs.Common.{ℕ, List, [], Bor}
use Rattle.lx_tool.proofs.NameBytes.{names_next}
use Rattle.lx_tool.proofs.names.bytes_of_names.Goals as goal

pub loop-text-preserved : goal.loop-text-preserved
loop-text-preserved c =
    let nobody : Bor (List ℕ) = record { ref_ptr = (0, 0); now = [] } in
    names_next c.args.texts.now c.loop-text.text-index nobody c.loop-text-test.true c.loop-text.names.items c.push.new.self.items c.in_ok-name_bytes.field-0 c.loop-text.invariant c.in_ok-name_bytes.ensures c.in_ok-push.ensures.items
