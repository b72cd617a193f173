use Rattle.std.proofs.Common.{◌≡◌, ◌++◌, None, map, replicate, take}
use Rattle.lx_automaton.specs.EncodedOptions.{decoded_option}
use Rattle.lx_auto.proofs.drafting.encoded_accepted.Given as goal

abbrev pub invariant-loop-rule : goal.invariant-loop-rule
invariant-loop-rule l = map decoded_option l.encoded.items ≡ replicate l.starts None ++ take l.rule-index l.matched
