-- A number that falls at each call of the matcher.
use Rattle.std.proofs.Common.{◌≡◌, ℕ, zero, suc, ◌+◌, ◌-◌, ◌*◌, ◌<◌, ◌≤◌, arith, List, [], ◌∷◌, Some, None}
use Rattle.std.specs.Prelude.{slice_get}
use Rattle.lx_ere.specs.declared.expr.Expr.{Expr}
use Rattle.lx_ere.specs.declared.expr.Expr.TheVariants.{Nil, Set, Then', Or', Times', Name}
use Rattle.lx_rules.specs.declared.definition.Definition.{Definition}

-- the number of subexpressions of an expression, itself included
abbrev pub count_of : Expr → ℕ
count_of Nil = 1
count_of (Set s) = 1
count_of (Then' p a q b) = suc (count_of a + count_of b)
count_of (Or' p a q b) = suc (count_of a + count_of b)
count_of (Times' p body low high) = suc (count_of body)
count_of (Name name) = 1

-- the number of subexpressions of all definitions
abbrev pub count_all : List Definition → ℕ
count_all [] = 0
count_all (d ∷ definitions) = count_of (d.expr) + count_all definitions

-- the weight of an expression with this number of subexpressions, whose names may be unfolded to this depth
abbrev pub weight : List Definition → ℕ → ℕ → ℕ
weight definitions depth count = 2 * (count + depth * (count_all definitions + 2))

pub count_le : (definitions : List Definition) (k : ℕ) (d : Definition) → slice_get definitions k ≡ Some d → count_of (d.expr) ≤ count_all definitions
count_le [] k d e = absurd (let f : None ≡ Some d = e in cc)
count_le (x ∷ definitions) zero d e = let f : x ≡ d = cc in rw (← f) (omega arith)
count_le (x ∷ definitions) (suc k) d e = let h = count_le definitions k d e in omega (arith, h)

-- one level of names fewer leaves room for any definition
pub name_falls : (definitions : List Definition) (count depth : ℕ) → 0 < depth → count ≤ count_all definitions → weight definitions (depth - 1) count < weight definitions depth 0 + 1
name_falls definitions count zero h le = absurd (omega (arith, h))
name_falls definitions count (suc d) h le =
    let e : suc d - 1 ≡ d = omega arith in
    let p : count + d * (count_all definitions + 2) ≤ 0 + suc d * (count_all definitions + 2) = grind arith in
    rw e (omega (arith, p))
