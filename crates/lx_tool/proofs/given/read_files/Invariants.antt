use Rattle.std.proofs.Common.{◌≡◌, take, map, vec_len}
use Rattle.lx_piece.specs.Plans.{input_view}
use Rattle.lx_tool.specs.Planning.{AreBytes}
use Rattle.lx_tool.specs.Sources.{AreGiven}
use Rattle.lx_tool.proofs.given.read_files.Given as goal

abbrev pub invariant-loop-name : goal.invariant-loop-name
invariant-loop-name g l = record {
  given : AreGiven g.S.Sources.gives l.fn.sources (take l.name-index (map (λ name. name.now) l.names)) (map input_view l.files.items) l.sources;
  bytes : AreBytes (map input_view l.files.items);
  len : vec_len l.files ≡ l.name-index;
}
