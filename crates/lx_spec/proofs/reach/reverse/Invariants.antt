use Rattle.std.proofs.Common.{◌≡◌, map, take}
use Rattle.lx_spec.specs.Dictionary.{mention_of}
use Rattle.lx_spec.proofs.reach.reverse.Given as goal

abbrev pub invariant-loop-mention : goal.invariant-loop-mention
invariant-loop-mention l = l.turned.items ≡ map (λ m. mention_of m.to m.from) (take l.mention-index l.mentions)
