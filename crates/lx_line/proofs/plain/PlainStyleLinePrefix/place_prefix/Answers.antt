use Rattle.lx_line.specs.Prefixes.{class_and_kind, prefix_text}
use Rattle.lx_line.proofs.Prefixed.{placed_then, prefix_is}
use Rattle.lx_line.proofs.plain.PlainStyleLinePrefix.place_prefix.Goals as goal

pub returns : goal.returns
returns c =
    let plan = c.args.plan.now in
    placed_then c.place_kind.new.buf (class_and_kind plan c.args.kind) (prefix_text plan c.args.file c.args.kind) c.place_kind.result c.place_number-at.ensures.placed (prefix_is plan c.from.result c.args.file c.args.kind c.from.ensures) c.place_kind.ensures
