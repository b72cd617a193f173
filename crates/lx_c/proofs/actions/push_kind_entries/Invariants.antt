use Rattle.std.proofs.Common.{◌++◌}
use Rattle.lx_c.proofs.Texts.{HasTexts}
use Rattle.lx_c.specs.Actions.{kind_entry}
use Rattle.lx_tables.specs.Model.{kind_at}
use Rattle.lx_c.specs.Templates.{filled}
use Rattle.lx_c.proofs.actions.push_kind_entries.Given as goal

abbrev pub invariant-loop-place : goal.invariant-loop-place
invariant-loop-place l = HasTexts (λ k. kind_entry l.quote (kind_at l.tables k)) (l.fn.text.items ++ filled l.options.prefix l.head) l.text.items l.place
