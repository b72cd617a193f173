-- Removing parts without positions, and writing repeats out, yields the same leaves, in the same order.
use Rattle.std.proofs.Common.{◌≡◌, ℕ, zero, suc, ◌+◌, ◌-◌, ◌↔◌, Bool, true, false, List, [], ◌∷◌, ◌++◌, length, Option, Some, None, refl, sym, ◌∙◌, ap₂, subst, arith}
use Rattle.lx_ere.specs.Regex.{Regex, nil, one_of, then, or, times, named}
use Rattle.lx_rules.specs.Plain.{PlainDefinition}
use Rattle.lx_rules.specs.Nesting.{tree_named}
use Rattle.lx_auto.specs.Unfolded.{Unfolded, empty, leaf, cat, alt, opt, plus, nullable}
use Rattle.lx_auto.specs.WrittenOut.{counted, unbounded, repeated, written_out, written_if_defined, name_written_out, pattern_written_out}
use Rattle.lx_auto.specs.Simplified.{opt_unless, opt_of, plus_of, cat_of, alt_of, simplified_counted, simplified_unbounded, simplified_repeated, simplified, simplified_if_defined, simplified_name, simplified_pattern}
use Rattle.lx_auto.specs.Nodes.{nodes_of, cat_node, alt_node, opt_node, plus_node}
use Rattle.lx_auto.specs.Positions.{HasByte}
use Rattle.lx_auto.specs.Leaves.{PlainLeaf, one_of_set}
use Rattle.lx_auto.specs.NodeLeaves.{leaves_in}
use Rattle.lx_auto.proofs.LeafOrder.{Stand, append_nil, leaves_one, leaves_two, tree_stand}

-- the leaves of an expression, in order
abbrev all_leaves : Unfolded → List PlainLeaf
all_leaves empty = []
all_leaves (leaf s) = one_of_set s ∷ []
all_leaves (cat a b) = all_leaves a ++ all_leaves b
all_leaves (alt a b) = all_leaves a ++ all_leaves b
all_leaves (opt a) = all_leaves a
all_leaves (plus a) = all_leaves a

in_nodes : (e : Unfolded) → leaves_in (nodes_of e) ≡ all_leaves e
in_nodes empty = refl
in_nodes (leaf s) = refl
in_nodes (cat a b) = leaves_two (nodes_of a) (nodes_of b) (cat_node (length (nodes_of b))) refl ∙ ap₂ (λ x y. x ++ y) (in_nodes a) (in_nodes b)
in_nodes (alt a b) = leaves_two (nodes_of a) (nodes_of b) (alt_node (length (nodes_of b))) refl ∙ ap₂ (λ x y. x ++ y) (in_nodes a) (in_nodes b)
in_nodes (opt a) = leaves_one (nodes_of a) opt_node refl ∙ in_nodes a
in_nodes (plus a) = leaves_one (nodes_of a) plus_node refl ∙ in_nodes a

opt_unless-leaves : (b : Bool) (a : Unfolded) → all_leaves (opt_unless b a) ≡ all_leaves a
opt_unless-leaves true a = refl
opt_unless-leaves false a = refl

opt_of-leaves : (a : Unfolded) → all_leaves (opt_of a) ≡ all_leaves a
opt_of-leaves a = opt_unless-leaves (nullable a) a

plus_of-leaves : (a : Unfolded) → all_leaves (plus_of a) ≡ all_leaves a
plus_of-leaves empty = refl
plus_of-leaves (leaf s) = refl
plus_of-leaves (cat a b) = refl
plus_of-leaves (alt a b) = refl
plus_of-leaves (opt (plus a)) = refl
plus_of-leaves (opt a) = refl
plus_of-leaves (plus a) = refl

cat_of-leaves : (a b : Unfolded) → all_leaves (cat_of a b) ≡ all_leaves a ++ all_leaves b
cat_of-leaves empty b = refl
cat_of-leaves a empty = sym (append_nil (all_leaves a))
cat_of-leaves a b = refl

alt_of-leaves : (a b : Unfolded) → all_leaves (alt_of a b) ≡ all_leaves a ++ all_leaves b
alt_of-leaves empty b = opt_of-leaves b
alt_of-leaves a empty = opt_of-leaves a ∙ sym (append_nil (all_leaves a))
alt_of-leaves a b = refl

-- the same operations on two expressions with the same leaves yield the same leaves
counted-leaves : (t r : Unfolded) → all_leaves t ≡ all_leaves r → (low high : ℕ) → all_leaves (simplified_counted t low high) ≡ all_leaves (counted r low high)
counted-leaves t r e low zero = refl
counted-leaves t r e zero (suc high) =
    opt_of-leaves (cat_of t (simplified_counted t zero high)) ∙ (cat_of-leaves t (simplified_counted t zero high) ∙ ap₂ (λ x y. x ++ y) e (counted-leaves t r e zero high))
counted-leaves t r e (suc low) (suc high) = cat_of-leaves t (simplified_counted t low high) ∙ ap₂ (λ x y. x ++ y) e (counted-leaves t r e low high)

unbounded-leaves : (t r : Unfolded) → all_leaves t ≡ all_leaves r → (n : ℕ) → all_leaves (simplified_unbounded t n) ≡ all_leaves (unbounded r n)
unbounded-leaves t r e zero = plus_of-leaves t ∙ e
unbounded-leaves t r e (suc n) = cat_of-leaves t (simplified_unbounded t n) ∙ ap₂ (λ x y. x ++ y) e (unbounded-leaves t r e n)

repeated-leaves : (t r : Unfolded) → all_leaves t ≡ all_leaves r → (low : ℕ) (high : Option ℕ) → all_leaves (simplified_repeated t low high) ≡ all_leaves (repeated r low high)
repeated-leaves t r e low (Some high) = counted-leaves t r e low high
repeated-leaves t r e zero None = opt_of-leaves (plus_of t) ∙ (plus_of-leaves t ∙ e)
repeated-leaves t r e (suc low) None = unbounded-leaves t r e low

tree-leaves : (short long : List ℕ → Unfolded) → ((name : List ℕ) → all_leaves (short name) ≡ all_leaves (long name)) → (tree : Regex)
    → all_leaves (simplified short tree) ≡ all_leaves (written_out long tree)
tree-leaves short long f nil = refl
tree-leaves short long f (one_of s) = refl
tree-leaves short long f (then a b) = cat_of-leaves (simplified short a) (simplified short b) ∙ ap₂ (λ x y. x ++ y) (tree-leaves short long f a) (tree-leaves short long f b)
tree-leaves short long f (or a b) = alt_of-leaves (simplified short a) (simplified short b) ∙ ap₂ (λ x y. x ++ y) (tree-leaves short long f a) (tree-leaves short long f b)
tree-leaves short long f (times body low high) = repeated-leaves (simplified short body) (written_out long body) (tree-leaves short long f body) low high
tree-leaves short long f (named name) = f name

defined-leaves : (short long : List ℕ → Unfolded) → ((name : List ℕ) → all_leaves (short name) ≡ all_leaves (long name)) → (o : Option Regex)
    → all_leaves (simplified_if_defined short o) ≡ all_leaves (written_if_defined long o)
defined-leaves short long f None = refl
defined-leaves short long f (Some tree) = tree-leaves short long f tree

name-leaves : (definitions : List PlainDefinition) (n : ℕ) (name : List ℕ) → all_leaves (simplified_name definitions n name) ≡ all_leaves (name_written_out definitions n name)
name-leaves definitions zero name = refl
name-leaves definitions (suc n) name =
    defined-leaves (simplified_name definitions n) (name_written_out definitions n) (λ m. name-leaves definitions n m) (tree_named definitions name)

pattern-leaves : (definitions : List PlainDefinition) (tree : Regex) → all_leaves (simplified_pattern definitions tree) ≡ all_leaves (pattern_written_out definitions tree)
unfolding simplified_pattern pattern_written_out
pattern-leaves definitions tree =
    tree-leaves (simplified_name definitions 32) (name_written_out definitions 32) (λ name. name-leaves definitions 32 name) tree

-- the positions that have a byte are those whose leaf has it, so they are the same in both forms
bytes_of_leaves : (a b : Unfolded) (k p c : ℕ) → all_leaves a ≡ all_leaves b → HasByte a k p c → HasByte b k p c
bytes_of_leaves a b k p c e h =
    let x = subst (λ l. Stand (HasByte a k) k l) (in_nodes a ∙ (e ∙ sym (in_nodes b))) (tree_stand a k) in
    let y = tree_stand b k in
    let low = x.from p c h in
    let i = p - k in
    let at : k + i ≡ p = omega arith in
    subst (λ q. HasByte b k q c) at ((y.each i c).0 ((x.each i c).1 (subst (λ q. HasByte a k q c) (sym at) h)))

pub pattern-bytes : (definitions : List PlainDefinition) (tree : Regex) (k p c : ℕ)
    → HasByte (simplified_pattern definitions tree) k p c ↔ HasByte (pattern_written_out definitions tree) k p c
pattern-bytes definitions tree k p c =
    let short = simplified_pattern definitions tree in
    let long = pattern_written_out definitions tree in
    let e = pattern-leaves definitions tree in
    ((λ h. bytes_of_leaves short long k p c e h), (λ h. bytes_of_leaves long short k p c (sym e) h))
