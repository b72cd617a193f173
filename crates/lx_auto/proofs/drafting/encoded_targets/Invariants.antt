use Rattle.std.proofs.Common.{◌≡◌, ◌+◌, map, take}
use Rattle.std.specs.Option.{option_map}
use Rattle.lx_automaton.specs.EncodedOptions.{decoded_option}
use Rattle.lx_auto.proofs.drafting.encoded_targets.Given as goal

abbrev pub invariant-loop-set : goal.invariant-loop-set
invariant-loop-set l = map decoded_option l.encoded.items ≡ map (option_map (λ j. l.starts + j)) (take l.set-index l.targets)
