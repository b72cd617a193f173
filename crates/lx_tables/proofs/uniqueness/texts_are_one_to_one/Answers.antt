use Rattle.lx_tables.proofs.ByBytes.{same_first}
use Rattle.lx_tables.proofs.WholeRead.{one_table_2}
use Rattle.lx_tables.proofs.uniqueness.texts_are_one_to_one.Goals as goal

pub returns-clause-first : goal.returns-clause-first
returns-clause-first c = record { same = same_first }

pub returns-clause-second : goal.returns-clause-second
returns-clause-second c = one_table_2
