-- A number that falls at each call of the unfolding.
use Rattle.std.proofs.Common.{◌≡◌, ℕ, zero, suc, ◌+◌, ◌-◌, ◌*◌, ◌<◌, ◌≤◌, arith, List, [], ◌∷◌, Some, None}
use Rattle.std.specs.Prelude.{slice_get}
use Rattle.lx_ere.specs.declared.expr.Expr.{Expr}
use Rattle.lx_ere.specs.declared.expr.Expr.TheVariants.{Nil, Set, Then', Or', Times', Name}
use Rattle.lx_rules.specs.declared.definition.Definition.{Definition}

-- the number of expressions of which an expression consists
abbrev pub tree_size : Expr → ℕ
tree_size Nil = 1
tree_size (Set s) = 1
tree_size (Then' p a q b) = suc (tree_size a + tree_size b)
tree_size (Or' p a q b) = suc (tree_size a + tree_size b)
tree_size (Times' p body low high) = suc (tree_size body)
tree_size (Name name) = 1

-- the number of expressions of which all definitions consist
abbrev pub all_sizes : List Definition → ℕ
all_sizes [] = 0
all_sizes (d ∷ definitions) = tree_size (d.expr) + all_sizes definitions

-- an expression of this size, with names that may be unfolded this deep
abbrev pub weight : List Definition → ℕ → ℕ → ℕ
weight definitions depth size = 2 * (size + depth * (all_sizes definitions + 2))

pub size_le : (definitions : List Definition) (k : ℕ) (d : Definition) → slice_get definitions k ≡ Some d → tree_size (d.expr) ≤ all_sizes definitions
size_le [] k d e = absurd (let f : None ≡ Some d = e in cc)
size_le (x ∷ definitions) zero d e = let f : x ≡ d = cc in rw (← f) (omega arith)
size_le (x ∷ definitions) (suc k) d e = let h = size_le definitions k d e in omega (arith, h)

-- one level of names fewer leaves room for any definition
pub name_falls : (definitions : List Definition) (size depth : ℕ) → 0 < depth → size ≤ all_sizes definitions → weight definitions (depth - 1) size < weight definitions depth 0 + 1
name_falls definitions size zero h le = absurd (omega (arith, h))
name_falls definitions size (suc d) h le =
    let e : suc d - 1 ≡ d = omega arith in
    let p : size + d * (all_sizes definitions + 2) ≤ 0 + suc d * (all_sizes definitions + 2) = grind arith in
    rw e (omega (arith, p))
