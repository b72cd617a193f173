-- Bounds on the number of an expression's nodes, once parts without positions are removed.
use Rattle.std.proofs.Common.{◌≡◌, ℕ, zero, suc, ◌+◌, ◌*◌, ◌≤◌, Bool, true, false, ◌&&◌, ◌||◌, List, ◌++◌, [], ◌∷◌, length, Option, Some, None, refl, arith}
use Rattle.std.proofs.lemmas.List.{length-append}
use Rattle.std.specs.FinSet as set
use Rattle.std.specs.Ordering.{nat_cmp}
use Rattle.lx_ere.specs.Regex.{Regex, nil, one_of, then, or, times, named}
use Rattle.lx_rules.specs.Plain.{PlainDefinition}
use Rattle.lx_rules.specs.Nesting.{tree_named}
use Rattle.lx_auto.specs.Unfolded.{Unfolded, empty, leaf, cat, alt, opt, plus, position_count, nullable}
use Rattle.lx_auto.specs.Nodes.{PlainNode, cat_node, alt_node, opt_node, plus_node, nodes_of}
use Rattle.lx_auto.specs.Simplified.{opt_unless, opt_of, plus_of, cat_of, alt_of, simplified_counted, simplified_unbounded, simplified_repeated, simplified, simplified_if_defined, simplified_name, simplified_pattern}
use Rattle.lx_auto.specs.Parts.{is_repeated}

pub unless : Bool → ℕ
unless true = 0
unless false = 1

-- the room that is left for an `opt` and a `plus` above the expression, and for two nodes that join it to another one
pub room : Unfolded → ℕ
room empty = 0
room (leaf s) = 4
room (cat a b) = 3 + unless (nullable a && nullable b)
room (alt a b) = 3 + unless (nullable a || nullable b)
room (opt a) = 2 + unless (is_repeated (opt a))
room (plus a) = 2 + unless (nullable a)

-- five nodes a position, and the room
pub record IsSmall (t : Unfolded) : Type 0 where
  pub few : length (nodes_of t) + room t ≤ 5 * position_count t

pub two : (a b : List PlainNode) (n : PlainNode) → length (a ++ (b ++ n ∷ [])) ≡ length a + length b + 1
two a b n = let e = length-append a (b ++ n ∷ []) in let f = length-append b (n ∷ []) in omega arith

pub one : (a : List PlainNode) (n : PlainNode) → length (a ++ n ∷ []) ≡ length a + 1
one a n = let e = length-append a (n ∷ []) in omega arith

-- for two expressions together the room is enough
both : (a : Bool) (b : Bool) → unless (a && b) ≤ unless a + unless b
unfolding unless
both true b = omega arith
both false b = omega arith

either : (a : Bool) (b : Bool) → unless (a || b) ≤ unless a + unless b
unfolding unless
either true b = omega arith
either false b = omega arith

-- the room for an expression that isn't empty
pub full_room : Unfolded → ℕ
full_room t = 2 + unless (nullable t)

unfoldable pub is_full : Unfolded → Bool
is_full empty = false
is_full (leaf s) = true
is_full (cat a b) = true
is_full (alt a b) = true
is_full (opt a) = true
is_full (plus a) = true

roomy : (t : Unfolded) → is_full t ≡ true → full_room t ≤ room t
unfolding full_room room unless is_full
roomy empty h = absurd (cc)
roomy (leaf s) h = omega arith
roomy (cat a b) h = omega arith
roomy (alt a b) h = omega arith
roomy (opt a) h = omega arith
roomy (plus a) h = omega arith

small-cat_full : (a b : Unfolded) → is_full a ≡ true → is_full b ≡ true → IsSmall a → IsSmall b → IsSmall (cat a b)
unfolding room full_room
small-cat_full a b f g x y =
    let e = two (nodes_of a) (nodes_of b) (cat_node (length (nodes_of b))) in
    let r = roomy a f in
    let s = roomy b g in
    let t = both (nullable a) (nullable b) in
    let p = x.few in
    let q = y.few in
    record { few = omega arith }

small-alt_full : (a b : Unfolded) → is_full a ≡ true → is_full b ≡ true → IsSmall a → IsSmall b → IsSmall (alt a b)
unfolding room full_room
small-alt_full a b f g x y =
    let e = two (nodes_of a) (nodes_of b) (alt_node (length (nodes_of b))) in
    let r = roomy a f in
    let s = roomy b g in
    let t = either (nullable a) (nullable b) in
    let p = x.few in
    let q = y.few in
    record { few = omega arith }

small-empty : IsSmall empty
unfolding room
small-empty = record { few = omega arith }

small-leaf : (s : set.FinSet nat_cmp) → IsSmall (leaf s)
unfolding room
small-leaf s = record { few = omega arith }

pub small-cat : (a b : Unfolded) → IsSmall a → IsSmall b → IsSmall (cat_of a b)
unfolding is_full
small-cat empty b x y = y
small-cat a empty x y = x
small-cat a b x y = small-cat_full a b refl refl x y

opt-room : (a : Unfolded) → nullable a ≡ false → room (opt a) + 1 ≤ room a
unfolding room unless
opt-room empty h = absurd (cc)
opt-room (leaf s) h = omega arith
opt-room (cat a b) h = let h : nullable a && nullable b ≡ false = h in rw h (omega arith)
opt-room (alt a b) h = let h : nullable a || nullable b ≡ false = h in rw h (omega arith)
opt-room (opt a) h = absurd (cc)
opt-room (plus a) h = let h : nullable a ≡ false = h in rw h (omega arith)

pub small-opt : (a : Unfolded) → IsSmall a → IsSmall (opt_of a)
small-opt a x = by (nullable a) refl where
  by : (b : Bool) → nullable a ≡ b → IsSmall (opt_unless b a)
  by true e = x
  by false e =
      let f = opt-room a e in
      let g = one (nodes_of a) opt_node in
      let p = x.few in
      record { few = omega arith }

pub small-alt : (a b : Unfolded) → IsSmall a → IsSmall b → IsSmall (alt_of a b)
unfolding is_full
small-alt empty b x y = small-opt b y
small-alt a empty x y = small-opt a x
small-alt a b x y = small-alt_full a b refl refl x y

small-plus_at : (a : Unfolded) → room (plus a) + 1 ≤ room a → IsSmall a → IsSmall (plus a)
small-plus_at a h x =
    let g = one (nodes_of a) plus_node in
    let p = x.few in
    record { few = omega arith }

pub small-plus : (a : Unfolded) → IsSmall a → IsSmall (plus_of a)
unfolding room unless
small-plus empty x = x
small-plus (leaf s) x = small-plus_at (leaf s) (omega arith) x
small-plus (cat a b) x = small-plus_at (cat a b) (omega arith) x
small-plus (alt a b) x = small-plus_at (alt a b) (omega arith) x
small-plus (opt (plus a)) x = x
small-plus (opt a) x = small-plus_at (opt a) (omega arith) x
small-plus (plus a) x = x

small-counted : (r : Unfolded) (low high : ℕ) → IsSmall r → IsSmall (simplified_counted r low high)
small-counted r low zero x = small-empty
small-counted r zero (suc high) x = small-opt (cat_of r (simplified_counted r zero high)) (small-cat r (simplified_counted r zero high) x (small-counted r zero high x))
small-counted r (suc low) (suc high) x = small-cat r (simplified_counted r low high) x (small-counted r low high x)

small-unbounded : (r : Unfolded) (n : ℕ) → IsSmall r → IsSmall (simplified_unbounded r n)
small-unbounded r zero x = small-plus r x
small-unbounded r (suc n) x = small-cat r (simplified_unbounded r n) x (small-unbounded r n x)

small-repeated : (r : Unfolded) (low : ℕ) (high : Option ℕ) → IsSmall r → IsSmall (simplified_repeated r low high)
small-repeated r low (Some high) x = small-counted r low high x
small-repeated r zero None x = small-opt (plus_of r) (small-plus r x)
small-repeated r (suc low) None x = small-unbounded r low x

small-simplified : (names : List ℕ → Unfolded) → ((name : List ℕ) → IsSmall (names name)) → (tree : Regex) → IsSmall (simplified names tree)
small-simplified names f nil = small-empty
small-simplified names f (one_of s) = small-leaf s
small-simplified names f (then a b) = small-cat (simplified names a) (simplified names b) (small-simplified names f a) (small-simplified names f b)
small-simplified names f (or a b) = small-alt (simplified names a) (simplified names b) (small-simplified names f a) (small-simplified names f b)
small-simplified names f (times body low high) = small-repeated (simplified names body) low high (small-simplified names f body)
small-simplified names f (named name) = f name

small-if : (names : List ℕ → Unfolded) → ((name : List ℕ) → IsSmall (names name)) → (o : Option Regex) → IsSmall (simplified_if_defined names o)
small-if names f None = small-empty
small-if names f (Some tree) = small-simplified names f tree

pub small-name : (definitions : List PlainDefinition) (n : ℕ) (name : List ℕ) → IsSmall (simplified_name definitions n name)
small-name definitions zero name = small-empty
small-name definitions (suc n) name = small-if (simplified_name definitions n) (small-name definitions n) (tree_named definitions name)

-- a pattern has at most five times as many nodes as positions
pub few_nodes : (definitions : List PlainDefinition) (tree : Regex) → length (nodes_of (simplified_pattern definitions tree)) ≤ 5 * position_count (simplified_pattern definitions tree)
unfolding simplified_pattern
few_nodes definitions tree = let x = (small-simplified (simplified_name definitions 32) (small-name definitions 32) tree).few in omega arith
