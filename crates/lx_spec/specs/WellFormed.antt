-- The invariant of a text's sections, about the names that they declare.
use Rattle.std.specs.Prelude.{Bool, List, map, IsTrue}
use Rattle.lx_rules.specs.Invariant.{are_distinct, are_start_conditions}
use Rattle.lx_spec.specs.Sections.{RawDefinition, ParsedSections}

abbrev pub are_raw_definitions : List RawDefinition → Bool
are_raw_definitions raw_definitions = are_distinct (map (λ d. d.name) raw_definitions)

-- The conditions and the definitions of the sections have distinct names, and INITIAL is the first condition.
pub record AreWellFormed (sections : ParsedSections) : Type 0 where
  pub start_conditions : IsTrue (are_start_conditions sections.start_conditions)
  pub definitions : IsTrue (are_raw_definitions sections.definitions)
