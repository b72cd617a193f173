use Rattle.std.proofs.lemmas.Result.{IfOk-weaker}
use Rattle.lx_rules.specs.views.Specs.{spec_view}
use Rattle.lx_tool.proofs.importing.tables_printed.Goals as goal

pub returns : goal.returns
returns c = IfOk-weaker c.unjoined_tables_of.result _ _ (λ tables of. record { spec = spec_view c.in_ok-spec.spec; read = c.in_ok-spec.ensures.ok; of_spec = of }) c.unjoined_tables_of.ensures.ok
