-- The data of an expression apart from its nodes.
use Rattle.std.specs.Prelude.{Bool, true, false, length}
use Rattle.lx_auto.specs.Unfolded.{Unfolded, empty, leaf, cat, alt, opt, plus, nullable}
use Rattle.lx_auto.specs.Nodes.{nodes_of}
use Rattle.lx_auto.specs.declared.unfolding.part.Part.{Part}

-- a repetition of it equals it
abbrev pub is_repeated : Unfolded → Bool
is_repeated empty = false
is_repeated (leaf s) = false
is_repeated (cat a b) = false
is_repeated (alt a b) = false
is_repeated (opt (plus a)) = true
is_repeated (opt a) = false
is_repeated (plus a) = true

abbrev pub part_of : Unfolded → Part
part_of t = record { size = length (nodes_of t); nullable = nullable t; repeated = is_repeated t }
