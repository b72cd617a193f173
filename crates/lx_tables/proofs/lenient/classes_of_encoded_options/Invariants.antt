use Rattle.std.proofs.Common.{◌≡◌, map, take}
use Rattle.lx_automaton.specs.EncodedOptions.{decoded_option}
use Rattle.lx_tables.specs.Readers.{class_of}
use Rattle.lx_tables.proofs.lenient.classes_of_encoded_options.Given as goal

abbrev pub invariant-loop-encoded_option : goal.invariant-loop-encoded_option
invariant-loop-encoded_option l = l.classes.items ≡ map class_of (map decoded_option (take l.encoded_option-index l.encoded_options))
