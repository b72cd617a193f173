-- Forms of listings that are put together.
use Rattle.std.specs.Prelude.{ℕ, ◌+◌, ◌≡◌, take, drop, ◌++◌}
use Rattle.std.specs.Option.{option_map}
use Rattle.lx_piece.specs.Plans.{Planned}
use Rattle.lx_forms.specs.Forms.{PlainForm}

-- the form for the first files, this many
abbrev pub form_of_front : PlainForm → ℕ → PlainForm
form_of_front form count = record form { names = option_map (take count) form.names }

-- the form for the files after the first `count` ones: their numbers and names begin after those
abbrev pub form_behind : PlainForm → ℕ → PlainForm
form_behind form count = record form { first = form.first + count; names = option_map (drop count) form.names }

-- the files of two plans one after the other, by the tables of both
pub record IsJoined (front rest whole : Planned) : Type 0 where
  pub front_table : front.table ≡ whole.table
  pub rest_table : rest.table ≡ whole.table
  pub inputs : whole.inputs ≡ front.inputs ++ rest.inputs
