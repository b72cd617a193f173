use Rattle.std.proofs.Common.{◌++◌}
use Rattle.std.specs.Prelude.{Some, codes}
use Rattle.lx_line.specs.Lines.{name_text}
use Rattle.lx_line.specs.Prefixes.{class_and_kind}
use Rattle.lx_line.proofs.Prefixed.{kind_is, placed_then}
use Rattle.lx_line.proofs.plain.place_token.Goals as goal

pub returns : goal.returns
returns c =
    let plan = c.args.plan.now in
    let kind = c.args.kind in
    placed_then c.place_name.new.buf (name_text plan kind ++ codes " ") (class_and_kind plan (Some kind)) c.place_name.result c.place_all-at.ensures (kind_is plan kind) c.place_name.ensures
