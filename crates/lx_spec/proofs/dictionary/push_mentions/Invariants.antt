use Rattle.std.proofs.Common.{◌≡◌, ◌++◌, map, take}
use Rattle.lx_spec.specs.Dictionary as plain
use Rattle.lx_spec.proofs.dictionary.push_mentions.Given as goal

abbrev pub invariant-loop-j : goal.invariant-loop-j
invariant-loop-j l = l.mentions.items ≡ l.initial.mentions.items ++ map (plain.mention_of l.i) (take l.j-index l.row)
