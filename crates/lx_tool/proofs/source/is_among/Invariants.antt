use Rattle.std.proofs.Common.{◌≡◌, drop, map}
use Rattle.lx_tool.specs.Sources.{is_among}
use Rattle.lx_tool.proofs.source.is_among.Given as goal

abbrev pub invariant-loop-known : goal.invariant-loop-known
invariant-loop-known l = is_among (drop l.known-index (map (λ known. known.now) l.names)) l.name ≡ is_among (map (λ known. known.now) l.names) l.name
