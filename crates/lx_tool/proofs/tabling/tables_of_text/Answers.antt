use Rattle.std.proofs.lemmas.Result.{IfErr-weaker, IfOk-weaker}
use Rattle.lx_rules.specs.views.Specs.{spec_view}
use Rattle.lx_tool.proofs.tabling.tables_of_text.Goals as goal

pub returns-clause-ok : goal.returns-clause-ok
returns-clause-ok c = IfOk-weaker c.tables_of.result _ _ (λ tables of. record { spec = spec_view c.in_ok-spec.spec; read = c.in_ok-spec.ensures.ok; of_spec = of }) c.tables_of.ensures.ok

pub returns-clause-err : goal.returns-clause-err
returns-clause-err c = IfErr-weaker c.tables_of.result _ _ (λ failure none. none c.args.text.now c.in_ok-spec.ensures.ok) c.tables_of.ensures.err
