use Rattle.std.proofs.Common.{ℕ, List, [], Bor}
use Rattle.lx_tool.proofs.SourceLemmas.{with_cut_name, with_whole_name}
use Rattle.lx_tool.proofs.given.names_of_cut.Goals as goal
use Rattle.lx_tool.proofs.given.names_of_cut.Goals.{then-files-i+in_ok-push, else-files-i}

pub loop-i-preserved : goal.loop-i-preserved
loop-i-preserved c =
    let nobody : Bor (List ℕ) = record { ref_ptr = (0, 0); now = [] } in
    elim c.if-files-i.branch [
      | then-files-i+in_ok-push w ↦
          rw w.cut-is (with_cut_name c.args.names.now c.args.files.now c.loop-i.i _ _ c.requires c.loop-i-test.true c.loop-i.cut.items c.loop-i.invariant w.push.new.self.items w.if-files-i.true w.in_ok-push.ensures.items)
      | else-files-i w ↦
          rw w.cut-is (with_whole_name c.args.names.now c.args.files.now c.loop-i.i nobody _ c.requires c.loop-i-test.true c.loop-i.cut.items c.loop-i.invariant w.if-files-i.false)
    ]
