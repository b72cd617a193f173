use Rattle.std.proofs.Common.{subst}
use Rattle.lx_tool.specs.Planning.{ListsBy}
use Rattle.lx_tool.proofs.Planned.{one_table}
use Rattle.lx_tool.proofs.planning.printed_tables_list_by_rules.Goals as goal

pub returns : goal.returns
returns c = λ text printed table again inputs old new is of prints is_again again_of bytes lists.
    let same = one_table again table printed c.texts_are_one_to_one.ensures.first c.texts_are_one_to_one.ensures.second is_again is again_of prints in
    c.listings_are_by_rules.ensures text table inputs old new is of bytes (subst (λ t. ListsBy t inputs old new) same lists)
