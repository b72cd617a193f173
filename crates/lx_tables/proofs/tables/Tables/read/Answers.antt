use Rattle.std.proofs.Common.{◌∙◌, sym, subst}
use Rattle.std.proofs.lemmas.Result.{err_from_is_err_and}
use Rattle.lx_tables.specs.Limits.{HasLimits}
use Rattle.lx_tables.specs.Reading.{IsClassed}
use Rattle.lx_tables.proofs.TextsRead.{refused_by_limits, refused_by_text}
use Rattle.lx_tables.proofs.tables.Tables.read.Goals as goal

pub returns-in_err-has_limits-clause-tables : goal.returns-in_err-has_limits-clause-tables
returns-in_err-has_limits-clause-tables c = let p = err_from_is_err_and c.from_residual-in_err-has_limits.result c.from_residual-in_err-has_limits.ensures.1 in rw p.1 tt

pub returns-in_err-has_limits-clause-table : goal.returns-in_err-has_limits-clause-table
returns-in_err-has_limits-clause-table c = let p = err_from_is_err_and c.from_residual-in_err-has_limits.result c.from_residual-in_err-has_limits.ensures.1 in rw p.1 tt

pub returns-in_err-has_limits-clause-refused : goal.returns-in_err-has_limits-clause-refused
returns-in_err-has_limits-clause-refused c = let p = err_from_is_err_and c.from_residual-in_err-has_limits.result c.from_residual-in_err-has_limits.ensures.1 in rw (p.1, p.2) (λ e. cc)

pub returns-then-not-branch-clause-refused : goal.returns-then-not-branch-clause-refused
returns-then-not-branch-clause-refused c = λ e. refused_by_limits c.args.text.now (λ has. let yes = c.in_ok-has_limits.ensures.1 (subst HasLimits (sym c.in_ok-raw.ensures) has) in let no = sym c.if-not-branch.true ∙ yes in cc)

pub over_classes-requires : goal.over_classes-requires
over_classes-requires c = c.in_ok-has_limits.ensures.0 c.if-not-branch.false

pub returns-in_err-tables-clause-tables : goal.returns-in_err-tables-clause-tables
returns-in_err-tables-clause-tables c = let p = err_from_is_err_and c.from_residual-in_err-tables.result c.from_residual-in_err-tables.ensures.1 in rw p.1 tt

pub returns-in_err-tables-clause-table : goal.returns-in_err-tables-clause-table
returns-in_err-tables-clause-table c = let p = err_from_is_err_and c.from_residual-in_err-tables.result c.from_residual-in_err-tables.ensures.1 in rw p.1 tt

pub returns-in_err-tables-clause-refused : goal.returns-in_err-tables-clause-refused
returns-in_err-tables-clause-refused c = let p = err_from_is_err_and c.from_residual-in_err-tables.result c.from_residual-in_err-tables.ensures.1 in rw (p.1, p.2) (λ e. cc)

pub returns-then-not-branch-2-clause-refused : goal.returns-then-not-branch-2-clause-refused
returns-then-not-branch-2-clause-refused c = λ e.
    refused_by_text c.args.text.now c.in_ok-tables.tables (subst (λ raw. IsClassed raw c.in_ok-tables.tables) c.in_ok-raw.ensures c.in_ok-tables.ensures.classed)
    (λ same. let yes = c.in_ok-is_text_of.ensures.1 same in let no = sym c.if-not-branch-2.true ∙ yes in cc)
