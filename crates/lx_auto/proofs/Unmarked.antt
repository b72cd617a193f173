-- If nothing is marked, nothing ends. If an expression isn't entered, it isn't read.
use Rattle.std.proofs.Common.{ℕ, zero, suc, ◌≡◌, ◌+◌, ◌-◌, ◌≤◌, ◌<◌, Bool, false, ◌&&◌, ◌||◌, List, [], ◌∷◌, ◌++◌, length, replicate, refl, sym, ◌∙◌, ap, ap₂, subst, append_assoc, append-nil, arith}
use Rattle.std.specs.Prelude.{slice_set}
use Rattle.lx_auto.specs.Nodes.{PlainNode, leaf_node, cat_node, alt_node, opt_node, plus_node}
use Rattle.lx_auto.specs.Marking.{flag, left_of, end_of, ends_from, behind_node, before_node, first_flag, other_flags, entered_children, read_at, reads_from}

-- no flag is set
abbrev pub AreClear : List Bool → Type 0
AreClear xs = (q : ℕ) → flag xs q ≡ false

clear_none : AreClear []
clear_none = λ q. refl

clear_first : (f : Bool) (xs : List Bool) → f ≡ false → AreClear xs → AreClear (f ∷ xs)
clear_first f xs e h zero = e
clear_first f xs e h (suc q) = h q

clear_more : (xs : List Bool) (f : Bool) → AreClear xs → f ≡ false → AreClear (xs ++ f ∷ [])
clear_more [] f h e = clear_first f [] e clear_none
clear_more (x ∷ xs) f h e = clear_first x (xs ++ f ∷ []) (h zero) (clear_more xs f (λ q. h (suc q)) e)

-- no flag is set if none within the list is
pub clear_below : (xs : List Bool) → ((q : ℕ) → 0 ≤ q → q < 0 + length xs → flag xs q ≡ false) → AreClear xs
clear_below [] h = clear_none
clear_below (x ∷ xs) h = clear_first x xs (h zero (omega arith) (omega arith)) (clear_below xs (λ q low below. h (suc q) (omega arith) (omega arith)))

pub clear_all : (n : ℕ) → AreClear (replicate n false)
clear_all zero = clear_none
clear_all (suc n) = clear_first false (replicate n false) refl (clear_all n)

no_end : (nulls marks : List Bool) (p : ℕ) (node : PlainNode) (ends : List Bool) → AreClear marks → AreClear ends → end_of nulls marks p node ends ≡ false
no_end nulls marks p (leaf_node s) ends m h = m p
no_end nulls marks p (cat_node n) ends m h = ap₂ (λ a b. a || (b && flag nulls (length ends - 1))) (h (length ends - 1)) (h (left_of (length ends) n))
no_end nulls marks p (alt_node n) ends m h = ap₂ (λ a b. a || b) (h (left_of (length ends) n)) (h (length ends - 1))
no_end nulls marks p opt_node ends m h = h (length ends - 1)
no_end nulls marks p plus_node ends m h = h (length ends - 1)

no_ends_from : (nulls marks : List Bool) (p : ℕ) (nodes : List PlainNode) (ends : List Bool) → AreClear marks → AreClear ends → ends_from nulls marks p nodes ends ≡ ends ++ replicate (length nodes) false
no_ends_from nulls marks p [] ends m h = sym (append-nil ends)
no_ends_from nulls marks p (node ∷ nodes) ends m h =
    let none = no_end nulls marks p node ends m h in
    let own = end_of nulls marks p node ends in
    no_ends_from nulls marks (behind_node node p) nodes (ends ++ own ∷ []) m (clear_more ends own h none)
    ∙ append_assoc ends (own ∷ []) (replicate (length nodes) false)
    ∙ ap (λ f. ends ++ (f ∷ replicate (length nodes) false)) none

-- if nothing is marked, nothing ends at any node
pub no_ends : (nulls marks : List Bool) (p : ℕ) (nodes : List PlainNode) → AreClear marks → ends_from nulls marks p nodes [] ≡ replicate (length nodes) false
no_ends nulls marks p nodes m = no_ends_from nulls marks p nodes [] m clear_none

first_clear : (stack : List Bool) → AreClear stack → first_flag stack ≡ false
first_clear [] h = refl
first_clear (f ∷ stack) h = h zero

others_clear : (stack : List Bool) → AreClear stack → AreClear (other_flags stack)
others_clear [] h = clear_none
others_clear (f ∷ stack) h = λ q. h (suc q)

children_clear : (nulls ends : List Bool) (node : PlainNode) (i : ℕ) (f : Bool) (stack : List Bool) → AreClear ends → f ≡ false → AreClear stack → AreClear (entered_children nulls ends node i f stack)
children_clear nulls ends (leaf_node s) i f stack h e k = k
children_clear nulls ends (cat_node n) i f stack h e k =
    clear_first ((f && flag nulls (left_of i n)) || flag ends (left_of i n)) (f ∷ stack) (ap₂ (λ a b. (a && flag nulls (left_of i n)) || b) e (h (left_of i n))) (clear_first f stack e k)
children_clear nulls ends (alt_node n) i f stack h e k = clear_first f (f ∷ stack) e (clear_first f stack e k)
children_clear nulls ends opt_node i f stack h e k = clear_first f stack e k
children_clear nulls ends plus_node i f stack h e k = clear_first (f || flag ends (i - 1)) stack (ap₂ (λ a b. a || b) e (h (i - 1))) k

set_clear : (reads : List Bool) (i : ℕ) (f : Bool) → f ≡ false → AreClear reads → slice_set reads i f ≡ reads
set_clear [] i f e h = refl
set_clear (x ∷ xs) zero f e h = ap (λ b. b ∷ xs) (e ∙ sym (h zero))
set_clear (x ∷ xs) (suc i) f e h = ap (λ l. x ∷ l) (set_clear xs i f e (λ q. h (suc q)))

read_clear : (node : PlainNode) (p : ℕ) (f : Bool) (reads : List Bool) → f ≡ false → AreClear reads → read_at node p f reads ≡ reads
read_clear (leaf_node s) p f reads e h = set_clear reads (p - 1) f e h
read_clear (cat_node n) p f reads e h = refl
read_clear (alt_node n) p f reads e h = refl
read_clear opt_node p f reads e h = refl
read_clear plus_node p f reads e h = refl

-- if nothing ends and nothing is entered, nothing is read
pub no_reads : (nulls ends : List Bool) (nodes : List PlainNode) (stack : List Bool) (p : ℕ) (reads : List Bool) → AreClear ends → AreClear stack → AreClear reads → reads_from nulls ends nodes stack p reads ≡ reads
no_reads nulls ends [] stack p reads h k r = refl
no_reads nulls ends (node ∷ nodes) stack p reads h k r =
    let f = first_flag stack in
    let none = first_clear stack k in
    let same = read_clear node p f reads none r in
    no_reads nulls ends nodes (entered_children nulls ends node (length nodes) f (other_flags stack)) (before_node node p) (read_at node p f reads) h
    (children_clear nulls ends node (length nodes) f (other_flags stack) h none (others_clear stack k)) (subst (λ (l : List Bool). AreClear l) (sym same) r)
    ∙ same

pub entered_not : (f : Bool) → f ≡ false → AreClear (f ∷ [])
entered_not f e = clear_first f [] e clear_none
