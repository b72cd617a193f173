-- The dictionary of the code, without its place in memory, and its meaning for the definitions.
use Rattle.std.specs.Prelude.{◌≡◌, ℕ, Bool, List, [], ◌∷◌, ◌++◌, Option, Some, slice_get}
use Rattle.lx_ere.specs.Regex.{Regex}
use Rattle.lx_spec.specs.Sections.{RawDefinition}
use Rattle.lx_spec.specs.Dictionary.{IsTreeOf, AreTrees, mentions_in, mentions_of, is_incomplete, incomplete_marks}
use Rattle.lx_spec.specs.views.Trees.{trees_view}
use Rattle.lx_spec.specs.declared.graph.Mention.{Mention}
use Rattle.lx_spec.specs.declared.dictionary.Dictionary.{Dictionary}

pub record Known : Type 0 where
  pub trees : List (Option Regex)
  pub mentions : List Mention
  pub incomplete : List Bool

abbrev pub dictionary_view : Dictionary → Known
dictionary_view d = record { trees = trees_view d.trees.items; mentions = d.mentions.items; incomplete = d.incomplete.items }

-- Definition i was added.
pub record AddsTree (raw_definitions : List RawDefinition) (i : ℕ) (old new : Known) : Type 0 where
  pub definition : RawDefinition
  pub at : slice_get raw_definitions i ≡ Some definition
  pub tree : Option Regex
  pub reads : IsTreeOf definition.substitute tree
  pub trees : new.trees ≡ old.trees ++ tree ∷ []
  pub mentions : new.mentions ≡ old.mentions ++ mentions_in raw_definitions i tree
  pub incomplete : new.incomplete ≡ old.incomplete ++ is_incomplete raw_definitions tree ∷ []

-- All definitions were read.
pub record IsDictionary (raw_definitions : List RawDefinition) (known : Known) : Type 0 where
  pub trees : AreTrees raw_definitions known.trees
  pub mentions : known.mentions ≡ mentions_of raw_definitions known.trees
  pub incomplete : known.incomplete ≡ incomplete_marks raw_definitions known.trees
