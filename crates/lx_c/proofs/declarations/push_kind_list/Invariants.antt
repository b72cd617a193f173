use Rattle.lx_c.proofs.Texts.{HasTexts}
use Rattle.lx_c.specs.Declarations.{kind_line}
use Rattle.lx_tables.specs.Model.{kind_at}
use Rattle.lx_c.proofs.declarations.push_kind_list.Given as goal

abbrev pub invariant-loop-place : goal.invariant-loop-place
invariant-loop-place l = HasTexts (λ k. kind_line l.options l.first (kind_at l.tables k) k) l.fn.text.items l.text.items l.place
