-- The symbol table that the rules use, in the code, without its place in memory.
use Rattle.std.specs.Prelude.{◌<◌, length, map}
use Rattle.lx_spec.specs.Verdict.{SymbolTable}
use Rattle.lx_spec.specs.views.Sections.{start_condition_view, raw_definition_view}
use Rattle.lx_spec.specs.views.Trees.{trees_view}
use Rattle.lx_spec.specs.views.Dictionaries.{dictionary_view, IsDictionary}
use Rattle.lx_spec.specs.views.DefinitionFaults.{AreDefinitionFaults}
use Rattle.lx_spec.specs.declared.symbol_table.SymbolTable.{SymbolTable as CodeTable}

abbrev pub symbols_view : CodeTable → SymbolTable
symbols_view table = record { start_conditions = map start_condition_view table.start_conditions.now; definitions = map raw_definition_view table.index.now.definitions.now; trees = trees_view table.dictionary.now.trees.items }

-- The dictionary is that of the definitions, and the faults are those of the dictionary; INITIAL is declared.
pub record IsSymbolTable (table : CodeTable) : Type 0 where
  pub dictionary : IsDictionary (map raw_definition_view table.index.now.definitions.now) (dictionary_view table.dictionary.now)
  pub faults : AreDefinitionFaults (dictionary_view table.dictionary.now) table.faults.now
  pub initial : 0 < length table.start_conditions.now
