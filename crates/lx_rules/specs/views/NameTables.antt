-- The number that a map has at a name.
use Rattle.std.specs.Prelude.{ℕ, List, Option}
use Rattle.std.specs.declared.alloc.Global.{Global}
use Rattle.std.specs.declared.vec.Vec.{Vec}
use Rattle.std.specs.BTreeMap.{BTreeMap, get_by}
use Rattle.std.specs.Cmp.Lexicographic.{slice_cmp}
use Rattle.std.specs.Ordering.{nat_cmp}

abbrev pub number_at : BTreeMap (Vec ℕ Global) ℕ → List ℕ → Option ℕ
number_at numbers name = get_by (λ k. slice_cmp nat_cmp name k.items) numbers
