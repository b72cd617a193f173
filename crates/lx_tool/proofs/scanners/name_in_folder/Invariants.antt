use Rattle.std.proofs.Common.{◌≡◌, drop}
use Rattle.lx_tool.specs.Scanners.{part_after}
use Rattle.lx_tool.proofs.scanners.name_in_folder.Given as goal

abbrev pub invariant-loop-place : goal.invariant-loop-place
invariant-loop-place l = part_after l.name (drop l.place l.path) ≡ part_after l.path l.path
