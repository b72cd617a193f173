-- The items of a listing that are printed, and their form.
use Rattle.std.specs.Prelude.{ℕ, ◌+◌, ◌==◌, Bool, true, false, List, [], Option, None, slice_index_or}
use Rattle.std.specs.List.{list_any}
use Rattle.std.specs.Option.{option_map_or}
use Rattle.lx_rules.specs.declared.rule.Kind.{Kind}
use Rattle.lx_rules.specs.declared.rule.Kind.TheVariants.{Name, Number}
use Rattle.lx_scan.specs.declared.item.Item.{Item}
use Rattle.lx_scan.specs.declared.item.Item.TheVariants.{Token, Echo}
use Rattle.lx_forms.specs.declared.format.Format.{Format}
use Rattle.lx_forms.specs.declared.format.Format.TheVariants.{Lines}

-- the selected items: of the named kinds those with the entry `true`, of the others those with these numbers, and a flag for echoes
pub record Selected : Type 0 where
  pub names : List Bool
  pub numbers : List ℕ
  pub echoes : Bool

-- The form of a listing: the number of the first file, the names of the files, if they replace the numbers, the selected items, if not every item is
-- printed, a flag for texts, and the format of a line.
pub record PlainForm : Type 0 where
  pub first : ℕ
  pub names : Option (List (List ℕ))
  pub only : Option Selected
  pub text : Bool
  pub format : Format

-- the form without options
abbrev pub bare_form : PlainForm
bare_form = record { first = 0; names = None; only = None; text = true; format = Lines }

abbrev pub has_kind : Selected → Kind → Bool
has_kind selected (Name place) = slice_index_or selected.names place false
has_kind selected (Number number) = list_any (λ n. n == number) selected.numbers

abbrev pub is_selected : Selected → Item → Bool
is_selected selected (Token line start len kind) = has_kind selected kind
is_selected selected (Echo line start len) = selected.echoes

-- true if an item is printed
unfoldable pub passes : PlainForm → Item → Bool
passes form item = option_map_or (λ selected. is_selected selected item) form.only true

-- the number of a file
abbrev pub number_in : PlainForm → ℕ → ℕ
number_in form file = form.first + file

-- the name of a file, which is empty if there is none
abbrev pub name_of : List (List ℕ) → ℕ → List ℕ
name_of names file = slice_index_or names file []
