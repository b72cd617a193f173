-- Sequences of positions: the results without their nodes are those of the passes over these.
use Rattle.std.proofs.Common.{◌≡◌, ℕ, zero, suc, ◌+◌, ◌-◌, ◌≤◌, Bool, true, false, ◌&&◌, ◌||◌, List, [], ◌∷◌, ◌++◌, refl, sym, ◌∙◌, ap, ap₂, arith}
use Rattle.std.specs.Prelude.{slice_set}
use Rattle.lx_auto.specs.Unfolded.{Unfolded, empty, leaf, cat, alt, opt, plus, position_count, nullable}
use Rattle.lx_auto.specs.Nodes.{PlainNode, cat_node, alt_node, opt_node, plus_node, nodes_of}
use Rattle.lx_auto.specs.Marking.{flag}
use Rattle.lx_auto.specs.Passing.{HasNoEmptyPart, ended, read_list}
use Rattle.lx_auto.specs.Blocks.{is_sequence_node, are_sequence_nodes, entered_at, shifted}

abbrev pub IsSequence : Unfolded → Type 0
IsSequence e = are_sequence_nodes (nodes_of e) ≡ true

both : (a b : Bool) → a && b ≡ true → (a ≡ true) × (b ≡ true)
both true true h = (refl, refl)
both true false h = absurd (let no : false ≡ true = h in cc)
both false b h = absurd (let no : false ≡ true = h in cc)

joined_nodes : (xs ys : List PlainNode) → are_sequence_nodes (xs ++ ys) ≡ true → (are_sequence_nodes xs ≡ true) × (are_sequence_nodes ys ≡ true)
joined_nodes [] ys h = (refl, h)
joined_nodes (x ∷ xs) ys h =
    let t = both (is_sequence_node x) (are_sequence_nodes (xs ++ ys)) h in
    let s = joined_nodes xs ys t.1 in
    (ap₂ (λ a b. a && b) t.0 s.0, s.1)

cat_parts : (a b : Unfolded) (n : ℕ) → are_sequence_nodes (nodes_of a ++ (nodes_of b ++ cat_node n ∷ [])) ≡ true → IsSequence a × IsSequence b
cat_parts a b n h =
    let s = joined_nodes (nodes_of a) (nodes_of b ++ cat_node n ∷ []) h in
    (s.0, (joined_nodes (nodes_of b) (cat_node n ∷ []) s.1).0)

no_other : (xs : List PlainNode) (node : PlainNode) → is_sequence_node node ≡ false → are_sequence_nodes (xs ++ node ∷ []) ≡ true → ⊥
no_other xs node other h =
    let s = both (is_sequence_node node) true (joined_nodes xs (node ∷ []) h).1 in
    let no : false ≡ true = sym other ∙ s.0 in absurd (cc)

no_alternative : (a b : Unfolded) (n : ℕ) → are_sequence_nodes (nodes_of a ++ (nodes_of b ++ alt_node n ∷ [])) ≡ true → ⊥
no_alternative a b n h = no_other (nodes_of b) (alt_node n) refl (joined_nodes (nodes_of a) (nodes_of b ++ alt_node n ∷ []) h).1

some_positions : (e : Unfolded) → HasNoEmptyPart e → IsSequence e → 1 ≤ position_count e
some_positions empty s is = absurd s
some_positions (leaf b) s is = omega arith
some_positions (cat a b) s is =
    let parts = cat_parts a b _ is in
    let x = some_positions a s.0 parts.0 in omega arith
some_positions (alt a b) s is = absurd (no_alternative a b _ is)
some_positions (opt a) s is = absurd (no_other (nodes_of a) opt_node refl is)
some_positions (plus a) s is = absurd (no_other (nodes_of a) plus_node refl is)

never_null : (e : Unfolded) → HasNoEmptyPart e → IsSequence e → nullable e ≡ false
never_null empty s is = absurd s
never_null (leaf b) s is = refl
never_null (cat a b) s is = ap (λ n. n && nullable b) (never_null a s.0 (cat_parts a b _ is).0)
never_null (alt a b) s is = absurd (no_alternative a b _ is)
never_null (opt a) s is = absurd (no_other (nodes_of a) opt_node refl is)
never_null (plus a) s is = absurd (no_other (nodes_of a) plus_node refl is)

first_alone : (x y : Bool) → x || (y && false) ≡ x
first_alone true y = refl
first_alone false true = refl
first_alone false false = refl

second_alone : (x y : Bool) → (x && false) || y ≡ y
second_alone true y = refl
second_alone false y = refl

module _ (marks : List Bool) where
  -- a word ends in a sequence with its last position
  pub sequence_ended : (e : Unfolded) (p : ℕ) → HasNoEmptyPart e → IsSequence e → ended marks e p ≡ flag marks (p + position_count e - 1)
  sequence_ended empty p s is = absurd s
  sequence_ended (leaf b) p s is = ap (λ i. flag marks i) (let same : p ≡ p + 1 - 1 = omega arith in same)
  sequence_ended (cat a b) p s is =
      let parts = cat_parts a b _ is in
      let k = p + position_count a in
      let some = some_positions b s.1 parts.1 in
      let same : k + position_count b - 1 ≡ p + (position_count a + position_count b) - 1 = omega arith in
      ap (λ n. ended marks b k || (ended marks a p && n)) (never_null b s.1 parts.1)
      ∙ first_alone (ended marks b k) (ended marks a p)
      ∙ sequence_ended b k s.1 parts.1
      ∙ ap (λ i. flag marks i) same
  sequence_ended (alt a b) p s is = absurd (no_alternative a b _ is)
  sequence_ended (opt a) p s is = absurd (no_other (nodes_of a) opt_node refl is)
  sequence_ended (plus a) p s is = absurd (no_other (nodes_of a) plus_node refl is)

  entered_behind : (f : Bool) (p n : ℕ) → 1 ≤ n → flag marks (p + n - 1) ≡ entered_at marks f p n
  entered_behind f p zero some = absurd (omega arith)
  entered_behind f p (suc n) some = ap (λ i. flag marks i) (let same : p + suc n - 1 ≡ p + n = omega arith in same)

  entered_joined : (f : Bool) (p m n : ℕ) → entered_at marks f p (m + n) ≡ entered_at marks (entered_at marks f p m) (p + m) n
  entered_joined f p m zero = ap (λ i. entered_at marks f p i) (let same : m + 0 ≡ m = omega arith in same)
  entered_joined f p m (suc n) =
      ap (λ i. entered_at marks f p i) (let next : m + suc n ≡ suc (m + n) = omega arith in next)
      ∙ ap (λ i. flag marks i) (let same : p + (m + n) ≡ p + m + n = omega arith in same)

  shifted_joined : (f : Bool) (p m n : ℕ) (reads : List Bool) →
      shifted marks f p (m + n) reads ≡ shifted marks f p m (shifted marks (entered_at marks f p m) (p + m) n reads)
  shifted_joined f p m zero reads = ap (λ i. shifted marks f p i reads) (let same : m + 0 ≡ m = omega arith in same)
  shifted_joined f p m (suc n) reads =
      let own = entered_at marks f p m in
      ap (λ i. shifted marks f p i reads) (let next : m + suc n ≡ suc (m + n) = omega arith in next)
      ∙ shifted_joined f p m n (slice_set reads (p + (m + n)) (entered_at marks f p (m + n)))
      ∙ ap₂ (λ i g. shifted marks f p m (shifted marks own (p + m) n (slice_set reads i g))) (let same : p + (m + n) ≡ p + m + n = omega arith in same)
      (entered_joined f p m n)

  -- and each of its positions can be read after the previous one
  pub sequence_reads : (e : Unfolded) (f : Bool) (p : ℕ) (reads : List Bool) → HasNoEmptyPart e → IsSequence e →
      shifted marks f p (position_count e) reads ≡ read_list marks e f p reads
  sequence_reads empty f p reads s is = absurd s
  sequence_reads (leaf b) f p reads s is = ap (λ i. slice_set reads i f) (let same : p + 0 ≡ p = omega arith in same)
  sequence_reads (cat a b) f p reads s is =
      let parts = cat_parts a b _ is in
      let k = p + position_count a in
      let own = entered_at marks f p (position_count a) in
      let enters : (f && nullable a) || ended marks a p ≡ own =
      ap (λ n. (f && n) || ended marks a p) (never_null a s.0 parts.0) ∙ second_alone f (ended marks a p) ∙ sequence_ended a p s.0 parts.0
      ∙ entered_behind f p (position_count a) (some_positions a s.0 parts.0) in
      shifted_joined f p (position_count a) (position_count b) reads
      ∙ ap (λ l. shifted marks f p (position_count a) l) (sequence_reads b own k reads s.1 parts.1)
      ∙ sequence_reads a f p (read_list marks b own k reads) s.0 parts.0
      ∙ ap (λ g. read_list marks a f p (read_list marks b g k reads)) (sym enters)
  sequence_reads (alt a b) f p reads s is = absurd (no_alternative a b _ is)
  sequence_reads (opt a) f p reads s is = absurd (no_other (nodes_of a) opt_node refl is)
  sequence_reads (plus a) f p reads s is = absurd (no_other (nodes_of a) plus_node refl is)

  -- the loop over the positions, from the last to the second
  pub shifted_next : (f : Bool) (p r n : ℕ) (reads : List Bool) → r ≡ n + 1 → 1 ≤ n →
      shifted marks f p n (slice_set reads (p + n) (flag marks (p + n - 1))) ≡ shifted marks f p r reads
  shifted_next f p r n reads next some =
      ap (λ g. shifted marks f p n (slice_set reads (p + n) g)) (entered_behind f p n some)
      ∙ ap (λ i. shifted marks f p i reads) (let same : suc n ≡ r = omega arith in same)
