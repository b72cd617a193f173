use Rattle.lx_line.proofs.Prefixed.{first_prefixes}
use Rattle.lx_line.proofs.prefixes.Prefixes.new.Goals as goal

pub returns : goal.returns
returns g c = first_prefixes (g.L.LinePrefix.prefix c.args.style.now c.args.plan.now c.args.file) c.of_label.result c.of_label.ensures
