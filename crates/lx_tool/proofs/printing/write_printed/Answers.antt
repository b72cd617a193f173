use Rattle.std.proofs.lemmas.Result.{on_ok_weaker}
use Rattle.lx_tool.proofs.printing.write_printed.Goals as goal

pub returns-clause-ok : goal.returns-clause-ok
returns-clause-ok g c = on_ok_weaker c.write_text.result (λ h. record { appends = h }) c.write_text.ensures.ok
