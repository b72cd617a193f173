use Rattle.std.proofs.Common.{sym, ◌∙◌, arith}
use Rattle.std.proofs.lemmas.Bool.{eqb-true}
use Rattle.std.proofs.lemmas.List.{length-map}
use Rattle.std.proofs.lemmas.Result.{err_from_is_err_and}
use Rattle.lx_piece.specs.Plans.{input_view}
use Rattle.lx_tool.specs.Planning.{ListsBy}
use Rattle.lx_tool.proofs.GivenListed.{failed_of, listed_none, listed_of}
use Rattle.lx_tool.proofs.given.list_given.Goals as goal

pub returns-then-is_empty-clause-ok : goal.returns-then-is_empty-clause-ok
returns-then-is_empty-clause-ok g c =
    let files = c.in_ok-given.given.files in
    let held = files.ok.0 in
    let none = eqb-true files.len 0 (sym c.is_empty.ensures ∙ c.if-is_empty.true) in
    listed_none g.S.Sources.gives _ c.args.sources.now c.read_given.new.sources _ _ c.in_ok-given.ensures.ok c.args.tables (g.W.Write.contents c.args.out.now) (omega (arith, held, none, length-map files.items input_view))

pub returns-in_err-list_files-clause-err : goal.returns-in_err-list_files-clause-err
returns-in_err-list_files-clause-err g c =
    let p = err_from_is_err_and c.from_residual-in_err-list_files.result c.from_residual-in_err-list_files.ensures.1 in
    rw (p.1, p.2) (failed_of g.S.Sources.gives _ c.args.sources.now c.read_given.new.sources _ _ c.in_ok-given.ensures.ok c.args.tables (g.W.Write.contents c.args.out.now) (g.W.Write.contents c.list_files.new.out) c.in_err-list_files.ensures.err c.in_err-list_files.field-0.0)

pub returns-clause-ok : goal.returns-clause-ok
returns-clause-ok g c =
    listed_of g.S.Sources.gives _ c.args.sources.now c.read_given.new.sources _ _ c.in_ok-given.ensures.ok (λ inputs. ListsBy c.args.tables inputs (g.W.Write.contents c.args.out.now) (g.W.Write.contents c.list_files.new.out)) c.in_ok-list_files.ensures.ok
