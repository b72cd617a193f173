use Rattle.std.proofs.Common.{map}
use Rattle.lx_spec.specs.views.Sections.{raw_definition_view}
use Rattle.lx_spec.specs.views.Dictionaries.{dictionary_view}
use Rattle.lx_spec.proofs.Reading.{ReadSome-more}
use Rattle.lx_spec.proofs.dictionary.read_dictionary.Goals as goal

pub loop-i-preserved : goal.loop-i-preserved
loop-i-preserved c = ReadSome-more (map raw_definition_view c.args.index.now.definitions.now) c.loop-i.i (dictionary_view c.loop-i.dictionary) (dictionary_view c.in_ok-dictionary.dictionary) c.loop-i.invariant c.in_ok-dictionary.ensures
