-- The passes over the nodes have the results that are defined in Passing.
use Rattle.std.proofs.Common.{◌≡◌, ℕ, ◌+◌, ◌-◌, ◌<◌, Bool, true, false, ◌&&◌, ◌||◌, List, [], ◌∷◌, ◌++◌, length, refl, sym, ◌∙◌, ap, ap₂, subst, arith, append_assoc}
use Rattle.std.proofs.lemmas.List.{reverse-append, length-reverse}
use Rattle.std.specs.Prelude.{reverse, slice_set}
use Rattle.lx_auto.specs.Unfolded.{Unfolded, empty, leaf, cat, alt, opt, plus, position_count, nullable}
use Rattle.lx_auto.specs.Nodes.{PlainNode, cat_node, alt_node, opt_node, plus_node, nodes_of}
use Rattle.lx_auto.specs.Marking.{flag, left_of, nulls_from, ends_from, reads_from}
use Rattle.lx_auto.specs.Passing.{HasNoEmptyPart, node_count, null_list, ended, end_list, NullsAt, EndsAt, read_list}
use Rattle.lx_auto.proofs.FlagLemmas.{flag_left, flag_right, length_joined}

pub cat_nodes : (a b : Unfolded) → node_count (cat a b) ≡ node_count a + node_count b + 1
cat_nodes a b =
    let x = length_joined (nodes_of a) (nodes_of b ++ cat_node (node_count b) ∷ []) in
    let y = length_joined (nodes_of b) (cat_node (node_count b) ∷ []) in
    omega arith

pub alt_nodes : (a b : Unfolded) → node_count (alt a b) ≡ node_count a + node_count b + 1
alt_nodes a b =
    let x = length_joined (nodes_of a) (nodes_of b ++ alt_node (node_count b) ∷ []) in
    let y = length_joined (nodes_of b) (alt_node (node_count b) ∷ []) in
    omega arith

pub opt_nodes : (a : Unfolded) → node_count (opt a) ≡ node_count a + 1
opt_nodes a = length_joined (nodes_of a) (opt_node ∷ [])

pub plus_nodes : (a : Unfolded) → node_count (plus a) ≡ node_count a + 1
plus_nodes a = length_joined (nodes_of a) (plus_node ∷ [])

pub some_nodes : (e : Unfolded) → HasNoEmptyPart e → 0 < node_count e
some_nodes empty s = absurd s
some_nodes (leaf b) s = omega arith
some_nodes (cat a b) s = let x = cat_nodes a b in omega arith
some_nodes (alt a b) s = let x = alt_nodes a b in omega arith
some_nodes (opt a) s = let x = opt_nodes a in omega arith
some_nodes (plus a) s = let x = plus_nodes a in omega arith

-- three lists joined, and one element after them
regroup : {A : Type 0} → (xs a b : List A) (c : A) → xs ++ (a ++ (b ++ c ∷ [])) ≡ ((xs ++ a) ++ b) ++ c ∷ []
regroup xs a b c = sym (append_assoc xs a (b ++ c ∷ [])) ∙ sym (append_assoc (xs ++ a) b (c ∷ []))

-- the last flag after others
last_flag : (xs a : List Bool) → 0 < length a → flag (xs ++ a) (length xs + length a - 1) ≡ flag a (length a - 1)
last_flag xs a h =
    let i : length xs + length a - 1 ≡ length xs + (length a - 1) = omega arith in
    ap (λ k. flag (xs ++ a) k) i ∙ flag_right xs a (length a - 1)

-- the last of a list and one more
flag_behind : (xs : List Bool) (f : Bool) (i : ℕ) → i ≡ length xs → flag (xs ++ f ∷ []) i ≡ f
flag_behind xs f i e = ap (λ k. flag (xs ++ f ∷ []) k) (let z : i ≡ length xs + 0 = omega arith in z) ∙ flag_right xs (f ∷ []) 0

pub null_length : (e : Unfolded) → length (null_list e) ≡ node_count e
null_length empty = refl
null_length (leaf s) = refl
null_length (cat a b) =
    let x = null_length a in let y = null_length b in let z = cat_nodes a b in
    let u = length_joined (null_list a) (null_list b ++ (nullable a && nullable b) ∷ []) in
    let v = length_joined (null_list b) ((nullable a && nullable b) ∷ []) in omega arith
null_length (alt a b) =
    let x = null_length a in let y = null_length b in let z = alt_nodes a b in
    let u = length_joined (null_list a) (null_list b ++ (nullable a || nullable b) ∷ []) in
    let v = length_joined (null_list b) ((nullable a || nullable b) ∷ []) in omega arith
null_length (opt a) = let x = null_length a in let z = opt_nodes a in let u = length_joined (null_list a) (true ∷ []) in omega arith
null_length (plus a) = let x = null_length a in let z = plus_nodes a in let u = length_joined (null_list a) (nullable a ∷ []) in omega arith

-- the flag of the last node after others
pub null_last : (xs : List Bool) (e : Unfolded) (i : ℕ) → HasNoEmptyPart e → i ≡ length xs + node_count e - 1 → flag (xs ++ null_list e) i ≡ nullable e
null_last xs empty i s h = absurd s
null_last xs (leaf b) i s h = flag_behind xs false i (omega arith)
null_last xs (cat a b) i s h =
    let z = cat_nodes a b in let x = null_length a in let y = null_length b in
    let u = length_joined (xs ++ null_list a) (null_list b) in let v = length_joined xs (null_list a) in
    ap (λ l. flag l i) (regroup xs (null_list a) (null_list b) (nullable a && nullable b))
    ∙ flag_behind ((xs ++ null_list a) ++ null_list b) (nullable a && nullable b) i (omega arith)
null_last xs (alt a b) i s h =
    let z = alt_nodes a b in let x = null_length a in let y = null_length b in
    let u = length_joined (xs ++ null_list a) (null_list b) in let v = length_joined xs (null_list a) in
    ap (λ l. flag l i) (regroup xs (null_list a) (null_list b) (nullable a || nullable b))
    ∙ flag_behind ((xs ++ null_list a) ++ null_list b) (nullable a || nullable b) i (omega arith)
null_last xs (opt a) i s h =
    let z = opt_nodes a in let x = null_length a in let v = length_joined xs (null_list a) in
    ap (λ l. flag l i) (sym (append_assoc xs (null_list a) (true ∷ []))) ∙ flag_behind (xs ++ null_list a) true i (omega arith)
null_last xs (plus a) i s h =
    let z = plus_nodes a in let x = null_length a in let v = length_joined xs (null_list a) in
    ap (λ l. flag l i) (sym (append_assoc xs (null_list a) (nullable a ∷ []))) ∙ flag_behind (xs ++ null_list a) (nullable a) i (omega arith)

-- upwards: the nodes that match the empty word
pub nulls_pass : (e : Unfolded) (more : List PlainNode) (xs : List Bool) → HasNoEmptyPart e → nulls_from (nodes_of e ++ more) xs ≡ nulls_from more (xs ++ null_list e)
nulls_pass empty more xs s = absurd s
nulls_pass (leaf b) more xs s = refl
nulls_pass (cat a b) more xs s =
    let z = cat_nodes a b in let x = null_length a in let y = null_length b in
    let u = length_joined (xs ++ null_list a) (null_list b) in let v = length_joined xs (null_list a) in
    let m = some_nodes b s.1 in
    let all = (xs ++ null_list a) ++ null_list b in
    let here : nulls_from (cat_node (node_count b) ∷ more) all ≡ nulls_from more (all ++ (nullable a && nullable b) ∷ []) =
    ap (λ f. nulls_from more (all ++ f ∷ []))
    (ap₂ (λ f g. f && g)
    (flag_left (xs ++ null_list a) (null_list b) (left_of (length all) (node_count b)) (let p = some_nodes a s.0 in omega arith)
    ∙ null_last xs a (left_of (length all) (node_count b)) s.0 (omega arith))
    (null_last (xs ++ null_list a) b (length all - 1) s.1 (omega arith))) in
    ap (λ l. nulls_from l xs) (append_assoc (nodes_of a) (nodes_of b ++ cat_node (node_count b) ∷ []) more)
    ∙ nulls_pass a ((nodes_of b ++ cat_node (node_count b) ∷ []) ++ more) xs s.0
    ∙ ap (λ l. nulls_from l (xs ++ null_list a)) (append_assoc (nodes_of b) (cat_node (node_count b) ∷ []) more)
    ∙ nulls_pass b (cat_node (node_count b) ∷ more) (xs ++ null_list a) s.1
    ∙ here
    ∙ ap (λ l. nulls_from more l) (sym (regroup xs (null_list a) (null_list b) (nullable a && nullable b)))
nulls_pass (alt a b) more xs s =
    let z = alt_nodes a b in let x = null_length a in let y = null_length b in
    let u = length_joined (xs ++ null_list a) (null_list b) in let v = length_joined xs (null_list a) in
    let m = some_nodes b s.1 in
    let all = (xs ++ null_list a) ++ null_list b in
    let here : nulls_from (alt_node (node_count b) ∷ more) all ≡ nulls_from more (all ++ (nullable a || nullable b) ∷ []) =
    ap (λ f. nulls_from more (all ++ f ∷ []))
    (ap₂ (λ f g. f || g)
    (flag_left (xs ++ null_list a) (null_list b) (left_of (length all) (node_count b)) (let p = some_nodes a s.0 in omega arith)
    ∙ null_last xs a (left_of (length all) (node_count b)) s.0 (omega arith))
    (null_last (xs ++ null_list a) b (length all - 1) s.1 (omega arith))) in
    ap (λ l. nulls_from l xs) (append_assoc (nodes_of a) (nodes_of b ++ alt_node (node_count b) ∷ []) more)
    ∙ nulls_pass a ((nodes_of b ++ alt_node (node_count b) ∷ []) ++ more) xs s.0
    ∙ ap (λ l. nulls_from l (xs ++ null_list a)) (append_assoc (nodes_of b) (alt_node (node_count b) ∷ []) more)
    ∙ nulls_pass b (alt_node (node_count b) ∷ more) (xs ++ null_list a) s.1
    ∙ here
    ∙ ap (λ l. nulls_from more l) (sym (regroup xs (null_list a) (null_list b) (nullable a || nullable b)))
nulls_pass (opt a) more xs s =
    ap (λ l. nulls_from l xs) (append_assoc (nodes_of a) (opt_node ∷ []) more)
    ∙ nulls_pass a (opt_node ∷ more) xs s
    ∙ ap (λ l. nulls_from more l) (append_assoc xs (null_list a) (true ∷ []))
nulls_pass (plus a) more xs s =
    let x = null_length a in let v = length_joined xs (null_list a) in
    ap (λ l. nulls_from l xs) (append_assoc (nodes_of a) (plus_node ∷ []) more)
    ∙ nulls_pass a (plus_node ∷ more) xs s
    ∙ ap (λ f. nulls_from more ((xs ++ null_list a) ++ f ∷ [])) (null_last xs a (length (xs ++ null_list a) - 1) s (omega arith))
    ∙ ap (λ l. nulls_from more l) (append_assoc xs (null_list a) (nullable a ∷ []))

-- the flags of nulls, part by part
pub nulls_at : (e : Unfolded) (xs ys nulls : List Bool) (o : ℕ) → HasNoEmptyPart e → nulls ≡ xs ++ (null_list e ++ ys) → o ≡ length xs → NullsAt nulls o e
nulls_at empty xs ys nulls o s h n = tt
nulls_at (leaf b) xs ys nulls o s h n = tt
nulls_at (cat a b) xs ys nulls o s h n =
    let x = null_length a in let y = null_length b in
    let v = length_joined xs (null_list a) in let u = length_joined (xs ++ null_list a) (null_list b) in
    let top = nullable a && nullable b in
    let pa = some_nodes a s.0 in let pb = some_nodes b s.1 in
    let of_a : nulls ≡ xs ++ (null_list a ++ ((null_list b ++ top ∷ []) ++ ys)) =
    h ∙ ap (λ l. xs ++ l) (append_assoc (null_list a) (null_list b ++ top ∷ []) ys) in
    let of_b : nulls ≡ (xs ++ null_list a) ++ (null_list b ++ (top ∷ ys)) =
    of_a ∙ sym (append_assoc xs (null_list a) ((null_list b ++ top ∷ []) ++ ys))
    ∙ ap (λ l. (xs ++ null_list a) ++ l) (append_assoc (null_list b) (top ∷ []) ys) in
    let behind : nulls ≡ ((xs ++ null_list a) ++ null_list b) ++ (top ∷ ys) = of_b ∙ sym (append_assoc (xs ++ null_list a) (null_list b) (top ∷ ys)) in (
      nulls_at a xs ((null_list b ++ top ∷ []) ++ ys) nulls o s.0 of_a n,
      nulls_at b (xs ++ null_list a) (top ∷ ys) nulls (o + node_count a) s.1 of_b (omega arith),
      ap (λ l. flag l (o + node_count a - 1)) of_b
          ∙ flag_left (xs ++ null_list a) (null_list b ++ (top ∷ ys)) (o + node_count a - 1) (omega arith)
          ∙ null_last xs a (o + node_count a - 1) s.0 (omega arith),
      ap (λ l. flag l (o + node_count a + node_count b - 1)) behind
          ∙ flag_left ((xs ++ null_list a) ++ null_list b) (top ∷ ys) (o + node_count a + node_count b - 1) (omega arith)
          ∙ null_last (xs ++ null_list a) b (o + node_count a + node_count b - 1) s.1 (omega arith),
    )
nulls_at (alt a b) xs ys nulls o s h n =
    let x = null_length a in let y = null_length b in
    let v = length_joined xs (null_list a) in let u = length_joined (xs ++ null_list a) (null_list b) in
    let top = nullable a || nullable b in
    let of_a : nulls ≡ xs ++ (null_list a ++ ((null_list b ++ top ∷ []) ++ ys)) =
    h ∙ ap (λ l. xs ++ l) (append_assoc (null_list a) (null_list b ++ top ∷ []) ys) in
    let of_b : nulls ≡ (xs ++ null_list a) ++ (null_list b ++ (top ∷ ys)) =
    of_a ∙ sym (append_assoc xs (null_list a) ((null_list b ++ top ∷ []) ++ ys))
    ∙ ap (λ l. (xs ++ null_list a) ++ l) (append_assoc (null_list b) (top ∷ []) ys) in (
      nulls_at a xs ((null_list b ++ top ∷ []) ++ ys) nulls o s.0 of_a n,
      nulls_at b (xs ++ null_list a) (top ∷ ys) nulls (o + node_count a) s.1 of_b (omega arith),
    )
nulls_at (opt a) xs ys nulls o s h n =
    nulls_at a xs (true ∷ ys) nulls o s (h ∙ ap (λ l. xs ++ l) (append_assoc (null_list a) (true ∷ []) ys)) n
nulls_at (plus a) xs ys nulls o s h n =
    nulls_at a xs (nullable a ∷ ys) nulls o s (h ∙ ap (λ l. xs ++ l) (append_assoc (null_list a) (nullable a ∷ []) ys)) n

length_reversed : (xs : List PlainNode) → length (reverse xs) ≡ length xs
length_reversed xs = length-reverse xs

reversed_two : (xs : List PlainNode) (c : PlainNode) (rest : List PlainNode) → reverse (xs ++ c ∷ []) ++ rest ≡ c ∷ (reverse xs ++ rest)
reversed_two xs c rest = ap (λ l. l ++ rest) (reverse-append xs (c ∷ []))

reversed_three : (xs ys : List PlainNode) (c : PlainNode) (rest : List PlainNode) →
    reverse (xs ++ (ys ++ c ∷ [])) ++ rest ≡ c ∷ (reverse ys ++ (reverse xs ++ rest))
reversed_three xs ys c rest =
    ap (λ l. l ++ rest) (reverse-append xs (ys ++ c ∷ []) ∙ ap (λ l. l ++ reverse xs) (reverse-append ys (c ∷ [])))
    ∙ ap (λ l. c ∷ l) (append_assoc (reverse ys) (reverse xs) rest)

module _ (marks : List Bool) where
  pub end_length : (e : Unfolded) (p : ℕ) → length (end_list marks e p) ≡ node_count e
  end_length empty p = refl
  end_length (leaf s) p = refl
  end_length (cat a b) p =
      let x = end_length a p in let y = end_length b (p + position_count a) in let z = cat_nodes a b in
      let u = length_joined (end_list marks a p) (end_list marks b (p + position_count a) ++ ended marks (cat a b) p ∷ []) in
      let v = length_joined (end_list marks b (p + position_count a)) (ended marks (cat a b) p ∷ []) in omega arith
  end_length (alt a b) p =
      let x = end_length a p in let y = end_length b (p + position_count a) in let z = alt_nodes a b in
      let u = length_joined (end_list marks a p) (end_list marks b (p + position_count a) ++ ended marks (alt a b) p ∷ []) in
      let v = length_joined (end_list marks b (p + position_count a)) (ended marks (alt a b) p ∷ []) in omega arith
  end_length (opt a) p = let x = end_length a p in let z = opt_nodes a in let u = length_joined (end_list marks a p) (ended marks a p ∷ []) in omega arith
  end_length (plus a) p = let x = end_length a p in let z = plus_nodes a in let u = length_joined (end_list marks a p) (ended marks a p ∷ []) in omega arith

  pub end_last : (xs : List Bool) (e : Unfolded) (p i : ℕ) → HasNoEmptyPart e → i ≡ length xs + node_count e - 1 → flag (xs ++ end_list marks e p) i ≡ ended marks e p
  end_last xs empty p i s h = absurd s
  end_last xs (leaf b) p i s h = flag_behind xs (flag marks p) i (omega arith)
  end_last xs (cat a b) p i s h =
      let z = cat_nodes a b in let x = end_length a p in let y = end_length b (p + position_count a) in
      let u = length_joined (xs ++ end_list marks a p) (end_list marks b (p + position_count a)) in let v = length_joined xs (end_list marks a p) in
      ap (λ l. flag l i) (regroup xs (end_list marks a p) (end_list marks b (p + position_count a)) (ended marks (cat a b) p))
      ∙ flag_behind ((xs ++ end_list marks a p) ++ end_list marks b (p + position_count a)) (ended marks (cat a b) p) i (omega arith)
  end_last xs (alt a b) p i s h =
      let z = alt_nodes a b in let x = end_length a p in let y = end_length b (p + position_count a) in
      let u = length_joined (xs ++ end_list marks a p) (end_list marks b (p + position_count a)) in let v = length_joined xs (end_list marks a p) in
      ap (λ l. flag l i) (regroup xs (end_list marks a p) (end_list marks b (p + position_count a)) (ended marks (alt a b) p))
      ∙ flag_behind ((xs ++ end_list marks a p) ++ end_list marks b (p + position_count a)) (ended marks (alt a b) p) i (omega arith)
  end_last xs (opt a) p i s h =
      let z = opt_nodes a in let x = end_length a p in let v = length_joined xs (end_list marks a p) in
      ap (λ l. flag l i) (sym (append_assoc xs (end_list marks a p) (ended marks a p ∷ []))) ∙ flag_behind (xs ++ end_list marks a p) (ended marks a p) i (omega arith)
  end_last xs (plus a) p i s h =
      let z = plus_nodes a in let x = end_length a p in let v = length_joined xs (end_list marks a p) in
      ap (λ l. flag l i) (sym (append_assoc xs (end_list marks a p) (ended marks a p ∷ []))) ∙ flag_behind (xs ++ end_list marks a p) (ended marks a p) i (omega arith)

  -- upwards: the nodes in which a marked position can be last
  pub ends_pass : (nulls : List Bool) (e : Unfolded) (more : List PlainNode) (xs : List Bool) (p o : ℕ) → HasNoEmptyPart e → o ≡ length xs → NullsAt nulls o e →
      ends_from nulls marks p (nodes_of e ++ more) xs ≡ ends_from nulls marks (p + position_count e) more (xs ++ end_list marks e p)
  ends_pass nulls empty more xs p o s n at = absurd s
  ends_pass nulls (leaf b) more xs p o s n at = refl
  ends_pass nulls (cat a b) more xs p o s n at =
      let x = end_length a p in let y = end_length b (p + position_count a) in
      let A = end_list marks a p in let B = end_list marks b (p + position_count a) in
      let u = length_joined (xs ++ A) B in let v = length_joined xs A in
      let pa = some_nodes a s.0 in let pb = some_nodes b s.1 in
      let all = (xs ++ A) ++ B in
      let q = p + position_count a + position_count b in
      let right : flag all (length all - 1) ≡ ended marks b (p + position_count a) = end_last (xs ++ A) b (p + position_count a) (length all - 1) s.1 (omega arith) in
      let left : flag all (left_of (length all) (node_count b)) ≡ ended marks a p =
      flag_left (xs ++ A) B (left_of (length all) (node_count b)) (omega arith) ∙ end_last xs a p (left_of (length all) (node_count b)) s.0 (omega arith) in
      let null : flag nulls (length all - 1) ≡ nullable b =
      ap (λ i. flag nulls i) (let i : length all - 1 ≡ o + node_count a + node_count b - 1 = omega arith in i) ∙ at.3 in
      let here : ends_from nulls marks q (cat_node (node_count b) ∷ more) all ≡ ends_from nulls marks q more (all ++ ended marks (cat a b) p ∷ []) =
      ap (λ f. ends_from nulls marks q more (all ++ f ∷ [])) (ap₂ (λ f g. f || g) right (ap₂ (λ f g. f && g) left null)) in
      ap (λ l. ends_from nulls marks p l xs) (append_assoc (nodes_of a) (nodes_of b ++ cat_node (node_count b) ∷ []) more)
      ∙ ends_pass nulls a ((nodes_of b ++ cat_node (node_count b) ∷ []) ++ more) xs p o s.0 n at.0
      ∙ ap (λ l. ends_from nulls marks (p + position_count a) l (xs ++ A)) (append_assoc (nodes_of b) (cat_node (node_count b) ∷ []) more)
      ∙ ends_pass nulls b (cat_node (node_count b) ∷ more) (xs ++ A) (p + position_count a) (o + node_count a) s.1 (omega arith) at.1
      ∙ here
      ∙ ap₂ (λ k l. ends_from nulls marks k more l) (let k : q ≡ p + (position_count a + position_count b) = omega arith in k)
      (sym (regroup xs A B (ended marks (cat a b) p)))
  ends_pass nulls (alt a b) more xs p o s n at =
      let x = end_length a p in let y = end_length b (p + position_count a) in
      let A = end_list marks a p in let B = end_list marks b (p + position_count a) in
      let u = length_joined (xs ++ A) B in let v = length_joined xs A in
      let pa = some_nodes a s.0 in let pb = some_nodes b s.1 in
      let all = (xs ++ A) ++ B in
      let q = p + position_count a + position_count b in
      let right : flag all (length all - 1) ≡ ended marks b (p + position_count a) = end_last (xs ++ A) b (p + position_count a) (length all - 1) s.1 (omega arith) in
      let left : flag all (left_of (length all) (node_count b)) ≡ ended marks a p =
      flag_left (xs ++ A) B (left_of (length all) (node_count b)) (omega arith) ∙ end_last xs a p (left_of (length all) (node_count b)) s.0 (omega arith) in
      let here : ends_from nulls marks q (alt_node (node_count b) ∷ more) all ≡ ends_from nulls marks q more (all ++ ended marks (alt a b) p ∷ []) =
      ap (λ f. ends_from nulls marks q more (all ++ f ∷ [])) (ap₂ (λ f g. f || g) left right) in
      ap (λ l. ends_from nulls marks p l xs) (append_assoc (nodes_of a) (nodes_of b ++ alt_node (node_count b) ∷ []) more)
      ∙ ends_pass nulls a ((nodes_of b ++ alt_node (node_count b) ∷ []) ++ more) xs p o s.0 n at.0
      ∙ ap (λ l. ends_from nulls marks (p + position_count a) l (xs ++ A)) (append_assoc (nodes_of b) (alt_node (node_count b) ∷ []) more)
      ∙ ends_pass nulls b (alt_node (node_count b) ∷ more) (xs ++ A) (p + position_count a) (o + node_count a) s.1 (omega arith) at.1
      ∙ here
      ∙ ap₂ (λ k l. ends_from nulls marks k more l) (let k : q ≡ p + (position_count a + position_count b) = omega arith in k)
      (sym (regroup xs A B (ended marks (alt a b) p)))
  ends_pass nulls (opt a) more xs p o s n at =
      let x = end_length a p in let v = length_joined xs (end_list marks a p) in let pa = some_nodes a s in
      ap (λ l. ends_from nulls marks p l xs) (append_assoc (nodes_of a) (opt_node ∷ []) more)
      ∙ ends_pass nulls a (opt_node ∷ more) xs p o s n at
      ∙ ap (λ f. ends_from nulls marks (p + position_count a) more ((xs ++ end_list marks a p) ++ f ∷ []))
      (end_last xs a p (length (xs ++ end_list marks a p) - 1) s (omega arith))
      ∙ ap (λ l. ends_from nulls marks (p + position_count a) more l) (append_assoc xs (end_list marks a p) (ended marks a p ∷ []))
  ends_pass nulls (plus a) more xs p o s n at =
      let x = end_length a p in let v = length_joined xs (end_list marks a p) in let pa = some_nodes a s in
      ap (λ l. ends_from nulls marks p l xs) (append_assoc (nodes_of a) (plus_node ∷ []) more)
      ∙ ends_pass nulls a (plus_node ∷ more) xs p o s n at
      ∙ ap (λ f. ends_from nulls marks (p + position_count a) more ((xs ++ end_list marks a p) ++ f ∷ []))
      (end_last xs a p (length (xs ++ end_list marks a p) - 1) s (omega arith))
      ∙ ap (λ l. ends_from nulls marks (p + position_count a) more l) (append_assoc xs (end_list marks a p) (ended marks a p ∷ []))

  -- the flags of ends, part by part
  pub ends_at : (e : Unfolded) (xs ys ends : List Bool) (o p : ℕ) → HasNoEmptyPart e → ends ≡ xs ++ (end_list marks e p ++ ys) → o ≡ length xs → EndsAt marks ends o e p
  ends_at empty xs ys ends o p s h n = tt
  ends_at (leaf b) xs ys ends o p s h n = tt
  ends_at (cat a b) xs ys ends o p s h n =
      let x = end_length a p in let y = end_length b (p + position_count a) in
      let A = end_list marks a p in let B = end_list marks b (p + position_count a) in
      let v = length_joined xs A in
      let top = ended marks (cat a b) p in
      let pa = some_nodes a s.0 in
      let of_a : ends ≡ xs ++ (A ++ ((B ++ top ∷ []) ++ ys)) = h ∙ ap (λ l. xs ++ l) (append_assoc A (B ++ top ∷ []) ys) in
      let of_b : ends ≡ (xs ++ A) ++ (B ++ (top ∷ ys)) =
      of_a ∙ sym (append_assoc xs A ((B ++ top ∷ []) ++ ys)) ∙ ap (λ l. (xs ++ A) ++ l) (append_assoc B (top ∷ []) ys) in (
        ends_at a xs ((B ++ top ∷ []) ++ ys) ends o p s.0 of_a n,
        ends_at b (xs ++ A) (top ∷ ys) ends (o + node_count a) (p + position_count a) s.1 of_b (omega arith),
        ap (λ l. flag l (o + node_count a - 1)) of_b
            ∙ flag_left (xs ++ A) (B ++ (top ∷ ys)) (o + node_count a - 1) (omega arith)
            ∙ end_last xs a p (o + node_count a - 1) s.0 (omega arith),
      )
  ends_at (alt a b) xs ys ends o p s h n =
      let x = end_length a p in let y = end_length b (p + position_count a) in
      let A = end_list marks a p in let B = end_list marks b (p + position_count a) in
      let v = length_joined xs A in
      let top = ended marks (alt a b) p in
      let of_a : ends ≡ xs ++ (A ++ ((B ++ top ∷ []) ++ ys)) = h ∙ ap (λ l. xs ++ l) (append_assoc A (B ++ top ∷ []) ys) in
      let of_b : ends ≡ (xs ++ A) ++ (B ++ (top ∷ ys)) =
      of_a ∙ sym (append_assoc xs A ((B ++ top ∷ []) ++ ys)) ∙ ap (λ l. (xs ++ A) ++ l) (append_assoc B (top ∷ []) ys) in (
        ends_at a xs ((B ++ top ∷ []) ++ ys) ends o p s.0 of_a n,
        ends_at b (xs ++ A) (top ∷ ys) ends (o + node_count a) (p + position_count a) s.1 of_b (omega arith),
      )
  ends_at (opt a) xs ys ends o p s h n =
      ends_at a xs (ended marks a p ∷ ys) ends o p s (h ∙ ap (λ l. xs ++ l) (append_assoc (end_list marks a p) (ended marks a p ∷ []) ys)) n
  ends_at (plus a) xs ys ends o p s h n =
      let x = end_length a p in let v = length_joined xs (end_list marks a p) in let pa = some_nodes a s in
      let of_a : ends ≡ xs ++ (end_list marks a p ++ (ended marks a p ∷ ys)) = h ∙ ap (λ l. xs ++ l) (append_assoc (end_list marks a p) (ended marks a p ∷ []) ys) in (
        ends_at a xs (ended marks a p ∷ ys) ends o p s of_a n,
        ap (λ l. flag l (o + node_count a - 1)) (of_a ∙ sym (append_assoc xs (end_list marks a p) (ended marks a p ∷ ys)))
            ∙ flag_left (xs ++ end_list marks a p) (ended marks a p ∷ ys) (o + node_count a - 1) (omega arith)
            ∙ end_last xs a p (o + node_count a - 1) s (omega arith),
      )

  -- downwards: the readable positions
  pub reads_pass : (nulls ends : List Bool) (e : Unfolded) (rest : List PlainNode) (f : Bool) (stack : List Bool) (p k : ℕ) (reads : List Bool) → HasNoEmptyPart e →
      k ≡ p + position_count e → NullsAt nulls (length rest) e → EndsAt marks ends (length rest) e p →
      reads_from nulls ends (reverse (nodes_of e) ++ rest) (f ∷ stack) k reads ≡ reads_from nulls ends rest stack p (read_list marks e f p reads)
  reads_pass nulls ends empty rest f stack p k reads s n nat eat = absurd s
  reads_pass nulls ends (leaf b) rest f stack p k reads s n nat eat =
      ap (λ q. reads_from nulls ends rest stack q (slice_set reads q f)) (let q : k - 1 ≡ p = omega arith in q)
  reads_pass nulls ends (cat a b) rest f stack p k reads s n nat eat =
      let top = cat_node (node_count b) in
      let after = reverse (nodes_of a) ++ rest in
      let la = length_joined (reverse (nodes_of a)) rest in
      let ra = length_reversed (nodes_of a) in
      let rb = length_reversed (nodes_of b) in
      let lb = length_joined (reverse (nodes_of b)) after in
      let at : left_of (length (reverse (nodes_of b) ++ after)) (node_count b) ≡ length rest + node_count a - 1 = omega arith in
      let g = (f && flag nulls (left_of (length (reverse (nodes_of b) ++ after)) (node_count b))) || flag ends (left_of (length (reverse (nodes_of b) ++ after)) (node_count b)) in
      let h = (f && nullable a) || ended marks a p in
      let gh : g ≡ h = ap (λ i. (f && flag nulls i) || flag ends i) at ∙ ap₂ (λ u v. (f && u) || v) nat.2 eat.2 in
      let nb : NullsAt nulls (length after) b = subst (λ o. NullsAt nulls o b) (let o : length rest + node_count a ≡ length after = omega arith in o) nat.1 in
      let eb : EndsAt marks ends (length after) b (p + position_count a) =
      subst (λ o. EndsAt marks ends o b (p + position_count a)) (let o : length rest + node_count a ≡ length after = omega arith in o) eat.1 in
      ap (λ l. reads_from nulls ends l (f ∷ stack) k reads) (reversed_three (nodes_of a) (nodes_of b) top rest)
      ∙ ap (λ x. reads_from nulls ends (reverse (nodes_of b) ++ after) (x ∷ f ∷ stack) k reads) gh
      ∙ reads_pass nulls ends b after h (f ∷ stack) (p + position_count a) k reads s.1 (omega arith) nb eb
      ∙ reads_pass nulls ends a rest f stack p (p + position_count a) (read_list marks b h (p + position_count a) reads) s.0 refl nat.0 eat.0
  reads_pass nulls ends (alt a b) rest f stack p k reads s n nat eat =
      let top = alt_node (node_count b) in
      let after = reverse (nodes_of a) ++ rest in
      let la = length_joined (reverse (nodes_of a)) rest in
      let ra = length_reversed (nodes_of a) in
      let nb : NullsAt nulls (length after) b = subst (λ o. NullsAt nulls o b) (let o : length rest + node_count a ≡ length after = omega arith in o) nat.1 in
      let eb : EndsAt marks ends (length after) b (p + position_count a) =
      subst (λ o. EndsAt marks ends o b (p + position_count a)) (let o : length rest + node_count a ≡ length after = omega arith in o) eat.1 in
      ap (λ l. reads_from nulls ends l (f ∷ stack) k reads) (reversed_three (nodes_of a) (nodes_of b) top rest)
      ∙ reads_pass nulls ends b after f (f ∷ stack) (p + position_count a) k reads s.1 (omega arith) nb eb
      ∙ reads_pass nulls ends a rest f stack p (p + position_count a) (read_list marks b f (p + position_count a) reads) s.0 refl nat.0 eat.0
  reads_pass nulls ends (opt a) rest f stack p k reads s n nat eat =
      ap (λ l. reads_from nulls ends l (f ∷ stack) k reads) (reversed_two (nodes_of a) opt_node rest)
      ∙ reads_pass nulls ends a rest f stack p k reads s n nat eat
  reads_pass nulls ends (plus a) rest f stack p k reads s n nat eat =
      let la = length_joined (reverse (nodes_of a)) rest in
      let ra = length_reversed (nodes_of a) in
      let at : length (reverse (nodes_of a) ++ rest) - 1 ≡ length rest + node_count a - 1 = omega arith in
      ap (λ l. reads_from nulls ends l (f ∷ stack) k reads) (reversed_two (nodes_of a) plus_node rest)
      ∙ ap (λ x. reads_from nulls ends (reverse (nodes_of a) ++ rest) ((f || x) ∷ stack) k reads) (ap (λ i. flag ends i) at ∙ eat.1)
      ∙ reads_pass nulls ends a rest (f || ended marks a p) stack p k reads s n nat eat.0
