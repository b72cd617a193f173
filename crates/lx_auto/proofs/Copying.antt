-- Copies of the last nodes, and the operations on them from the last one on.
use Rattle.std.proofs.Common.{◌≡◌, ◌∙◌, ℕ, zero, suc, ◌+◌, ◌-◌, ◌<◌, ◌≤◌, inl, inr, ◌↔◌, IsTrue, Bool, true, false, List, [], ◌∷◌, ◌++◌, length, take, drop, slice_range, refl, ap, ap₂, sym, subst, arith, append_assoc, add-one}
use Rattle.std.proofs.lemmas.Bool.{cases_lt, false≢true}
use Rattle.std.proofs.lemmas.List.{length-append, length-drop, append-nil, map-append, drop-append-le}
use Rattle.std.proofs.Math.Seq.{drop-append_seam, take-append_seam}
use Rattle.lx_auto.specs.Unfolded.{Unfolded, empty}
use Rattle.lx_auto.specs.Nodes.{PlainNode, nodes_of}
use Rattle.lx_auto.specs.Simplified.{opt_of, plus_of, cat_of, simplified_counted, simplified_unbounded}
use Rattle.lx_auto.specs.Parts.{part_of}
use Rattle.lx_auto.specs.NodeViews.{node_view, nodes_view, Appends, Joins, Changes}
use Rattle.lx_auto.specs.Copies.{copies, joined_as}
use Rattle.lx_auto.specs.declared.unfolding.node.Node.{Node}
use Rattle.lx_auto.specs.declared.unfolding.part.Part.{Part}

pub copies-last : {X : Type 0} (n : ℕ) (xs : List X) → copies (suc n) xs ≡ copies n xs ++ xs
copies-last zero xs = append-nil xs
copies-last (suc n) xs = ap (λ l. xs ++ l) (copies-last n xs) ∙ sym (append_assoc xs (copies n xs) xs)

copies-view : (n : ℕ) (xs : List Node) → nodes_view (copies n xs) ≡ copies n (nodes_view xs)
copies-view zero xs = refl
copies-view (suc n) xs = map-append node_view xs (copies n xs) ∙ ap (λ l. nodes_view xs ++ l) (copies-view n xs)

drop-view : (n : ℕ) (xs : List Node) → nodes_view (drop n xs) ≡ drop n (nodes_view xs)
drop-view zero xs = refl
drop-view (suc n) [] = refl
drop-view (suc n) (x ∷ xs) = drop-view n xs

length-view : (xs : List Node) → length (nodes_view xs) ≡ length xs
length-view [] = refl
length-view (x ∷ xs) = ap suc (length-view xs)

-- the last nodes, after copies of them were appended
pub copied : (old new : List Node) (size n : ℕ) (base r : List PlainNode) → new ≡ old ++ copies n (drop (length old - size) old) → nodes_view old ≡ base ++ r → length r ≡ size
    → nodes_view new ≡ base ++ copies (suc n) r
copied old new size n base r e f g =
    let long : length old ≡ length base + size = (let h = ap length f in let i = length-view old in let j = length-append base r in omega arith) in
    let start : length old - size ≡ length base = omega arith in
    let last : nodes_view (drop (length old - size) old) ≡ r = drop-view (length old - size) old ∙ ap₂ (λ (k : ℕ) (l : List PlainNode). drop k l) start f ∙ drop-append_seam base r in
    ap nodes_view e ∙ map-append node_view old (copies n (drop (length old - size) old))
    ∙ ap₂ (λ (l m : List PlainNode). l ++ m) f (copies-view n (drop (length old - size) old) ∙ ap (copies n) last)
    ∙ append_assoc base r (copies n r)

-- the last `closed` copies, closed
abbrev pub last_counted : Unfolded → ℕ → ℕ → ℕ → Unfolded
last_counted r low high closed = simplified_counted r (low + closed - high) closed

-- the nodes while the copies are being closed
pub record AreClosing (part : ℕ → Unfolded) (base : List PlainNode) (r : Unfolded) (left closed : ℕ) (nodes : List PlainNode) (p : Part) : Type 0 where
  pub closing : Appends (part closed) (base ++ copies left (nodes_of r)) nodes p

all-closed : (part : ℕ → Unfolded) (base : List PlainNode) (r : Unfolded) (n : ℕ) (nodes : List PlainNode) (p : Part) → AreClosing part base r 0 n nodes p → Appends (part n) base nodes p
all-closed part base r n nodes p h = record { nodes = h.closing.nodes ∙ ap (λ l. l ++ nodes_of (part n)) (append-nil base); part = h.closing.part }

pub counted-closed : (r : Unfolded) (low high : ℕ) (base nodes : List PlainNode) (p : Part) → AreClosing (last_counted r low high) base r 0 high nodes p → Appends (simplified_counted r low high) base nodes p
counted-closed r low high base nodes p h =
    subst (λ (n : ℕ). Appends (simplified_counted r n high) base nodes p) (let e : low + high - high ≡ low = omega arith in e) (all-closed (last_counted r low high) base r high nodes p h)

next-required : (r : Unfolded) (low high closed : ℕ) → high ≤ low + closed → joined_as true r (last_counted r low high closed) ≡ last_counted r low high (suc closed)
next-required r low high closed h =
    ap (λ (n : ℕ). simplified_counted r n (suc closed)) (let e : suc (low + closed - high) ≡ low + suc closed - high = omega arith in e)

next-free : (r : Unfolded) (low high closed : ℕ) → low + closed < high → joined_as false r (last_counted r low high closed) ≡ last_counted r low high (suc closed)
next-free r low high closed h =
    ap (λ (n : ℕ). opt_of (cat_of r (simplified_counted r n closed))) (let e : low + closed - high ≡ 0 = omega arith in e)
    ∙ ap (λ (n : ℕ). simplified_counted r n (suc closed)) (let e : 0 ≡ low + suc closed - high = omega arith in e)

pub next-counted : (r : Unfolded) (low high closed : ℕ) (required : Bool) → closed < high → IsTrue required ↔ (high - closed ≤ low)
    → joined_as required r (last_counted r low high closed) ≡ last_counted r low high (suc closed)
next-counted r low high closed true less h = next-required r low high closed (let f = h.0 refl in omega arith)
next-counted r low high closed false less h = next-free r low high closed (elim (cases_lt (low + closed) high) [
  | inl f ↦ f
  | inr f ↦ absurd (false≢true (h.1 (omega arith)))
])

-- one copy more is closed
pub one-closed : (make : Unfolded → Unfolded → Unfolded) (part : ℕ → Unfolded) (base : List PlainNode) (r : Unfolded) (left closed : ℕ) (old new : List PlainNode) (body p q : Part)
    → make r (part closed) ≡ part (suc closed) → body ≡ part_of r → AreClosing part base r (suc left) closed old p → Joins make old new body p q → AreClosing part base r left (suc closed) new q
one-closed make part base r left closed old new body p q e b h j =
    let placed : old ≡ (base ++ copies left (nodes_of r)) ++ (nodes_of r ++ nodes_of (part closed))
    = h.closing.nodes ∙ ap (λ l. (base ++ l) ++ nodes_of (part closed)) (copies-last left (nodes_of r))
    ∙ ap (λ l. l ++ nodes_of (part closed)) (sym (append_assoc base (copies left (nodes_of r)) (nodes_of r)))
    ∙ append_assoc (base ++ copies left (nodes_of r)) (nodes_of r) (nodes_of (part closed)) in
    record { closing = subst (λ (t : Unfolded). Appends t (base ++ copies left (nodes_of r)) new q) e (j (base ++ copies left (nodes_of r)) r (part closed) placed b h.closing.part) }

-- the last nodes, which are copied from the middle of more
pub range-last : (old more : List Node) (start : ℕ) → start ≤ length old → slice_range (old ++ more) start (length old) ≡ drop start old
range-last old more start le =
    let long : length (drop start old) ≡ length old - start = omega (arith, length-drop start old) in
    ap (take (length old - start)) (drop-append-le start old more le) ∙ ap (λ (n : ℕ). take n (drop start old ++ more)) (sym long) ∙ take-append_seam (drop start old) more

-- one copy more of them
pub copy-more : (old cur new : List Node) (k start end : ℕ) → start ≤ end → end ≡ length old → cur ≡ old ++ copies k (drop start old) → new ≡ cur ++ slice_range cur start end
    → new ≡ old ++ copies (k + 1) (drop start old)
copy-more old cur new k start end le long e f =
    let last : slice_range cur start end ≡ drop start old = ap₂ (λ (l : List Node) (n : ℕ). slice_range l start n) e long ∙ range-last old (copies k (drop start old)) start (let z = long in omega arith) in
    f ∙ ap₂ (λ (l m : List Node). l ++ m) e last ∙ append_assoc old (copies k (drop start old)) (drop start old)
    ∙ ap (λ (l : List Node). old ++ l) (sym (copies-last k (drop start old))) ∙ ap (λ (n : ℕ). old ++ copies n (drop start old)) (sym (add-one k))

-- the copies are appended, and none is closed
pub counted-begin : (r : Unfolded) (low high : ℕ) (old new : List Node) (size : ℕ) (base : List PlainNode) → 0 < high → new ≡ old ++ copies (high - 1) (drop (length old - size) old)
    → nodes_view old ≡ base ++ nodes_of r → length (nodes_of r) ≡ size → AreClosing (last_counted r low high) base r (high - 0) 0 (nodes_view new) (part_of empty)
counted-begin r low high old new size base some e f g =
    let all : nodes_view new ≡ base ++ copies (high - 0) (nodes_of r) = copied old new size (high - 1) base (nodes_of r) e f g ∙ ap (λ (n : ℕ). base ++ copies n (nodes_of r)) (let z : suc (high - 1) ≡ high - 0 = omega arith in z) in
    record { closing = record { nodes = all ∙ sym (append-nil (base ++ copies (high - 0) (nodes_of r))); part = refl } }

pub unbounded-begin : (r : Unfolded) (low : ℕ) (old : List Node) (new : List Node) (last : List PlainNode) (size : ℕ) (base : List PlainNode) (body p : Part)
    → new ≡ old ++ copies (low - 1) (drop (length old - size) old) → nodes_view old ≡ base ++ nodes_of r → length (nodes_of r) ≡ size → body ≡ part_of r
    → Changes plus_of (nodes_view new) last body p → AreClosing (simplified_unbounded r) base r (low - 1 - 0) 0 last p
unbounded-begin r low old new last size base body p e f g b h =
    let n : low - 1 ≡ low - 1 - 0 = omega arith in
    let all : nodes_view new ≡ (base ++ copies (low - 1 - 0) (nodes_of r)) ++ nodes_of r
    = copied old new size (low - 1) base (nodes_of r) e f g ∙ ap (λ (k : ℕ). base ++ copies (suc k) (nodes_of r)) n
    ∙ ap (λ (l : List PlainNode). base ++ l) (copies-last (low - 1 - 0) (nodes_of r)) ∙ sym (append_assoc base (copies (low - 1 - 0) (nodes_of r)) (nodes_of r)) in
    record { closing = h (base ++ copies (low - 1 - 0) (nodes_of r)) r all b }

closing-along : (part : ℕ → Unfolded) (base : List PlainNode) (r : Unfolded) (left left' closed closed' : ℕ) (nodes : List PlainNode) (p : Part) → left ≡ left' → closed ≡ closed'
    → AreClosing part base r left closed nodes p → AreClosing part base r left' closed' nodes p
closing-along part base r left left' closed closed' nodes p e f h =
    subst (λ (n : ℕ). AreClosing part base r n closed' nodes p) e (subst (λ (n : ℕ). AreClosing part base r left n nodes p) f h)

pub counted-step : (r : Unfolded) (low high closed : ℕ) (required : Bool) (base old new : List PlainNode) (body p q : Part) → closed < high → IsTrue required ↔ (high - closed ≤ low)
    → body ≡ part_of r → AreClosing (last_counted r low high) base r (high - closed) closed old p → Joins (joined_as required) old new body p q
    → AreClosing (last_counted r low high) base r (high - (closed + 1)) (closed + 1) new q
counted-step r low high closed required base old new body p q less o b h j =
    closing-along (last_counted r low high) base r (high - (closed + 1)) (high - (closed + 1)) (suc closed) (closed + 1) new q refl (sym (add-one closed))
    (one-closed (joined_as required) (last_counted r low high) base r (high - (closed + 1)) closed old new body p q (next-counted r low high closed required less o) b
    (closing-along (last_counted r low high) base r (high - closed) (suc (high - (closed + 1))) closed closed old p (let e : high - closed ≡ suc (high - (closed + 1)) = omega arith in e) refl h) j)

pub unbounded-step : (r : Unfolded) (n closed : ℕ) (base old new : List PlainNode) (body p q : Part) → closed < n
    → body ≡ part_of r → AreClosing (simplified_unbounded r) base r (n - closed) closed old p → Joins cat_of old new body p q
    → AreClosing (simplified_unbounded r) base r (n - (closed + 1)) (closed + 1) new q
unbounded-step r n closed base old new body p q less b h j =
    closing-along (simplified_unbounded r) base r (n - (closed + 1)) (n - (closed + 1)) (suc closed) (closed + 1) new q refl (sym (add-one closed))
    (one-closed cat_of (simplified_unbounded r) base r (n - (closed + 1)) closed old new body p q refl b
    (closing-along (simplified_unbounded r) base r (n - closed) (suc (n - (closed + 1))) closed closed old p (let e : n - closed ≡ suc (n - (closed + 1)) = omega arith in e) refl h) j)

pub counted-end : (r : Unfolded) (low high closed : ℕ) (base nodes : List PlainNode) (p : Part) → closed ≡ high → AreClosing (last_counted r low high) base r (high - closed) closed nodes p
    → Appends (simplified_counted r low high) base nodes p
counted-end r low high closed base nodes p e h =
    counted-closed r low high base nodes p (closing-along (last_counted r low high) base r (high - closed) 0 closed high nodes p (let z : high - closed ≡ 0 = omega arith in z) e h)

pub unbounded-end : (r : Unfolded) (n closed : ℕ) (base nodes : List PlainNode) (p : Part) → closed ≡ n → AreClosing (simplified_unbounded r) base r (n - closed) closed nodes p
    → Appends (simplified_unbounded r n) base nodes p
unbounded-end r n closed base nodes p e h =
    all-closed (simplified_unbounded r) base r n nodes p (closing-along (simplified_unbounded r) base r (n - closed) 0 closed n nodes p (let z : n - closed ≡ 0 = omega arith in z) e h)
