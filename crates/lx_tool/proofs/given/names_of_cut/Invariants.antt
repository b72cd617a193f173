use Rattle.std.proofs.Common.{◌≡◌, take, map}
use Rattle.lx_piece.specs.Plans.{input_view}
use Rattle.lx_tool.specs.Sources.{cut_names}
use Rattle.lx_tool.proofs.given.names_of_cut.Given as goal

abbrev pub invariant-loop-i : goal.invariant-loop-i
invariant-loop-i l = map (λ name. name.now) l.cut.items ≡ cut_names (take l.i (map (λ name. name.now) l.names)) (take l.i (map input_view l.files))
