use Rattle.std.proofs.Common.{take}
use Rattle.std.specs.List.{flat_map}
use Rattle.lx_tables.specs.Texts.{step_text}
use Rattle.lx_tables.specs.Output.{Wrote}
use Rattle.lx_tables.proofs.lines.write_steps.Given as goal

abbrev pub invariant-loop-step : goal.invariant-loop-step
invariant-loop-step g l = Wrote (g.W.Write.contents l.fn.out) (g.W.Write.contents l.out) (flat_map step_text (take l.step-index l.steps))
