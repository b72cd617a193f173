use Rattle.std.proofs.Common.{◌≡◌}
use Rattle.lx_piece.specs.Cutting.{IsCutterOf}
use Rattle.lx_post.specs.Working.{HasSentTo, SendsPieces}
use Rattle.lx_post.proofs.run_context.RunContext.send_file.Given as goal

abbrev pub invariant-loop-number : goal.invariant-loop-number
invariant-loop-number g l = record {
  cutter : IsCutterOf l.self.plan.now l.cutter;
  file : l.cutter.file ≡ l.fn.file;
  next : l.cutter.next ≡ l.number;
  pass : SendsPieces l.initial.pass l.pass;
  sent : HasSentTo g.M.Maker.made l.self.plan.now l.fn.file l.number l.pass;
}
