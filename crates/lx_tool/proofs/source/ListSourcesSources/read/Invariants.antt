use Rattle.std.proofs.Common.{take, map}
use Rattle.lx_tool.specs.Sources.{NoneIsNamed, inputs_of}
use Rattle.lx_tool.proofs.source.ListSourcesSources.read.Given as goal

abbrev pub invariant-loop-file : goal.invariant-loop-file
invariant-loop-file l = NoneIsNamed (take l.file-index (inputs_of (map (λ name. name.now) l.self-inside.cut.now) l.self-inside.files.now)) l.name
