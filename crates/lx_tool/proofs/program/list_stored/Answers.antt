use Rattle.std.proofs.Common.{List, [], ◌∷◌, ap, map, subst, ◌∙◌}
use Rattle.std.proofs.lemmas.Result.{err_from_is_err_and}
use Rattle.lx_piece.specs.declared.input.Input.{Input}
use Rattle.lx_piece.specs.Plans.{PlainInput, input_view}
use Rattle.lx_tool.specs.Commands.{stored_specification, stored_text}
use Rattle.lx_tool.specs.Planning.{ListsBy}
use Rattle.lx_tool.specs.Sources.{whole}
use Rattle.lx_tool.proofs.Obeyed.{keeps_itself, stored_bytes}
use Rattle.lx_tool.proofs.program.list_stored.Goals as goal

pub returns-in_err-tables-clause-err : goal.returns-in_err-tables-clause-err
returns-in_err-tables-clause-err g c =
    let p = err_from_is_err_and c.from_residual.result c.from_residual.ensures.1 in
    rw (p.1, p.2) (λ low. (c.in_err-tables.ensures.err, keeps_itself (g.O.Write.contents c.args.out.now)))

pub returns-clause-ok : goal.returns-clause-ok
returns-clause-ok g c =
    let old = g.O.Write.contents c.args.out.now in
    let new = g.O.Write.contents c.list_files.new.out in
    let table = c.in_ok-tables.tables in
    let inputs = ap (λ (files : List Input). map input_view files) c.in_ok-vec.ensures.items ∙ ap (λ (input : PlainInput). input ∷ []) c.in_ok-file.ensures in
    c.listings_are_by_rules.ensures stored_specification table (whole stored_text ∷ []) old new c.in_ok-tables.ensures.table c.in_ok-tables.ensures.ok stored_bytes
    (subst (λ (inputs : List PlainInput). ListsBy table inputs old new) inputs (subst (λ t. ListsBy t (map input_view c.in_ok-vec.field-0.items) old new) c.tables.view_is c.in_ok-list_files.ensures.ok))
