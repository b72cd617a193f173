use Rattle.std.proofs.Common.{map}
use Rattle.lx_spec.specs.views.Sections.{raw_definition_view}
use Rattle.lx_spec.specs.views.Dictionaries.{dictionary_view}
use Rattle.lx_spec.proofs.Reading.{ReadSome}
use Rattle.lx_spec.proofs.dictionary.read_dictionary.Given as goal

abbrev pub invariant-loop-i : goal.invariant-loop-i
invariant-loop-i l = ReadSome (map raw_definition_view l.index.definitions.now) l.i (dictionary_view l.dictionary)
