-- The trees of the code, without their places in memory.
use Rattle.std.specs.Prelude.{List, Option, map}
use Rattle.std.specs.Option.{option_map}
use Rattle.lx_ere.specs.declared.expr.Expr.{Expr}
use Rattle.lx_ere.specs.Regex.{Regex, regex_of}

abbrev pub tree_view : Option Expr → Option Regex
tree_view tree = option_map regex_of tree

abbrev pub trees_view : List (Option Expr) → List (Option Regex)
trees_view trees = map tree_view trees
