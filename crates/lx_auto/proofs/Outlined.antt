-- The results for an expression's outline, which has a position for each block, determine those for the blocks.
use Rattle.std.proofs.Common.{◌≡◌, ℕ, suc, ◌+◌, ◌≤◌, ◌<◌, inr, Bool, true, false, ◌&&◌, ◌||◌, List, [], ◌∷◌, ◌++◌, length, refl, sym, ◌∙◌, ap, ap₂, subst, arith}
use Rattle.std.specs.FinSet as set
use Rattle.std.specs.Ordering.{nat_cmp}
use Rattle.lx_auto.specs.Unfolded.{Unfolded, position_count, nullable}
use Rattle.lx_auto.specs.Marking.{flag}
use Rattle.lx_auto.specs.Passing.{HasNoEmptyPart, ended, read_list}
use Rattle.lx_auto.specs.Outlines.{Chunking, one_block, chunked_cat, chunked_alt, chunked_opt, chunked_plus, tree_of, outline_of_block, outline, blocks_of, positions_of, HaveEnded, read_blocks}
use Rattle.lx_auto.proofs.FlagLemmas.{flag_set_same, length_joined}
use Rattle.lx_auto.proofs.Readable.{reads_length, reads_apart}

block_count : (s : set.FinSet nat_cmp) (b : Bool) → position_count (outline_of_block s b) ≡ 1
block_count s true = refl
block_count s false = refl

block_null : (s : set.FinSet nat_cmp) (b : Bool) → nullable (outline_of_block s b) ≡ b
block_null s true = refl
block_null s false = refl

block_no_empty : (s : set.FinSet nat_cmp) (b : Bool) → HasNoEmptyPart (outline_of_block s b)
block_no_empty s true = tt
block_no_empty s false = tt

pub outline_null : (c : Chunking) → nullable (outline c) ≡ nullable (tree_of c)
outline_null (one_block s e) = block_null s (nullable e)
outline_null (chunked_cat a b) = ap₂ (λ x y. x && y) (outline_null a) (outline_null b)
outline_null (chunked_alt a b) = ap₂ (λ x y. x || y) (outline_null a) (outline_null b)
outline_null (chunked_opt a) = refl
outline_null (chunked_plus a) = outline_null a

pub outline_count : (c : Chunking) → position_count (outline c) ≡ length (blocks_of c)
outline_count (one_block s e) = block_count s (nullable e)
outline_count (chunked_cat a b) = let x = outline_count a in let y = outline_count b in let z = length_joined (blocks_of a) (blocks_of b) in omega arith
outline_count (chunked_alt a b) = let x = outline_count a in let y = outline_count b in let z = length_joined (blocks_of a) (blocks_of b) in omega arith
outline_count (chunked_opt a) = outline_count a
outline_count (chunked_plus a) = outline_count a

pub outline_no_empty : (c : Chunking) → HasNoEmptyPart (outline c)
outline_no_empty (one_block s e) = block_no_empty s (nullable e)
outline_no_empty (chunked_cat a b) = (outline_no_empty a, outline_no_empty b)
outline_no_empty (chunked_alt a b) = (outline_no_empty a, outline_no_empty b)
outline_no_empty (chunked_opt a) = outline_no_empty a
outline_no_empty (chunked_plus a) = outline_no_empty a

positions_joined : (xs ys : List Unfolded) → positions_of (xs ++ ys) ≡ positions_of xs + positions_of ys
positions_joined [] ys = omega arith
positions_joined (x ∷ xs) ys = let h = positions_joined xs ys in omega arith

pub blocks_count : (c : Chunking) → positions_of (blocks_of c) ≡ position_count (tree_of c)
blocks_count (one_block s e) = omega arith
blocks_count (chunked_cat a b) = let x = blocks_count a in let y = blocks_count b in let z = positions_joined (blocks_of a) (blocks_of b) in omega arith
blocks_count (chunked_alt a b) = let x = blocks_count a in let y = blocks_count b in let z = positions_joined (blocks_of a) (blocks_of b) in omega arith
blocks_count (chunked_opt a) = blocks_count a
blocks_count (chunked_plus a) = blocks_count a

module _ (marks : List Bool) where
  ended_left : (flags : List Bool) (xs ys : List Unfolded) (j k : ℕ) → HaveEnded marks flags (xs ++ ys) j k → HaveEnded marks flags xs j k
  ended_left flags [] ys j k h = tt
  ended_left flags (x ∷ xs) ys j k h = (h.0, ended_left flags xs ys (suc j) (k + position_count x) h.1)

  ended_right : (flags : List Bool) (xs ys : List Unfolded) (j k m n : ℕ) → m ≡ j + length xs → n ≡ k + positions_of xs →
      HaveEnded marks flags (xs ++ ys) j k → HaveEnded marks flags ys m n
  ended_right flags [] ys j k m n at from h =
      let x : j ≡ m = omega arith in let y : k ≡ n = omega arith in subst (λ i. HaveEnded marks flags ys i n) x (subst (λ i. HaveEnded marks flags ys j i) y h)
  ended_right flags (x ∷ xs) ys j k m n at from h = ended_right flags xs ys (suc j) (k + position_count x) m n (omega arith) (omega arith) h.1

  blocks_joined : (entered : List Bool) (xs ys : List Unfolded) (j k m n : ℕ) (reads : List Bool) → m ≡ j + length xs → n ≡ k + positions_of xs →
      read_blocks marks entered (xs ++ ys) j k reads ≡ read_blocks marks entered xs j k (read_blocks marks entered ys m n reads)
  blocks_joined entered [] ys j k m n reads at from =
      let x : j ≡ m = omega arith in let y : k ≡ n = omega arith in ap₂ (λ u v. read_blocks marks entered ys u v reads) x y
  blocks_joined entered (x ∷ xs) ys j k m n reads at from =
      ap (λ l. read_list marks x (flag entered j) k l) (blocks_joined entered xs ys (suc j) (k + position_count x) m n reads (omega arith) (omega arith))

  -- the second of two parts
  second_ended : (flags : List Bool) (a b : Chunking) (j k : ℕ) → HaveEnded marks flags (blocks_of a ++ blocks_of b) j k →
      HaveEnded marks flags (blocks_of b) (j + position_count (outline a)) (k + position_count (tree_of a))
  second_ended flags a b j k h =
      let x = outline_count a in let y = blocks_count a in
      ended_right flags (blocks_of a) (blocks_of b) j k (j + position_count (outline a)) (k + position_count (tree_of a)) (omega arith) (omega arith) h

  block_ended : (flags : List Bool) (s : set.FinSet nat_cmp) (b : Bool) (j : ℕ) → ended flags (outline_of_block s b) j ≡ flag flags j
  block_ended flags s true j = refl
  block_ended flags s false j = refl

  -- upwards
  pub outline_ended : (flags : List Bool) (c : Chunking) (j k : ℕ) → HaveEnded marks flags (blocks_of c) j k → ended flags (outline c) j ≡ ended marks (tree_of c) k
  outline_ended flags (one_block s e) j k h = block_ended flags s (nullable e) j ∙ h.0
  outline_ended flags (chunked_cat a b) j k h =
      let x = outline_ended flags a j k (ended_left flags (blocks_of a) (blocks_of b) j k h) in
      let y = outline_ended flags b (j + position_count (outline a)) (k + position_count (tree_of a)) (second_ended flags a b j k h) in
      ap₂ (λ u v. u || v) y (ap₂ (λ u v. u && v) x (outline_null b))
  outline_ended flags (chunked_alt a b) j k h =
      let x = outline_ended flags a j k (ended_left flags (blocks_of a) (blocks_of b) j k h) in
      let y = outline_ended flags b (j + position_count (outline a)) (k + position_count (tree_of a)) (second_ended flags a b j k h) in
      ap₂ (λ u v. u || v) x y
  outline_ended flags (chunked_opt a) j k h = outline_ended flags a j k h
  outline_ended flags (chunked_plus a) j k h = outline_ended flags a j k h

  -- the flag of each block is true if it may be entered
  abbrev pub AreEntered : List Bool → Chunking → Bool → ℕ → ℕ → Type 0
  AreEntered entered (one_block s e) f j k = flag entered j ≡ f
  AreEntered entered (chunked_cat a b) f j k =
      AreEntered entered a f j k
      × AreEntered entered b ((f && nullable (tree_of a)) || ended marks (tree_of a) k) (j + position_count (outline a)) (k + position_count (tree_of a))
  AreEntered entered (chunked_alt a b) f j k = AreEntered entered a f j k × AreEntered entered b f (j + position_count (outline a)) (k + position_count (tree_of a))
  AreEntered entered (chunked_opt a) f j k = AreEntered entered a f j k
  AreEntered entered (chunked_plus a) f j k = AreEntered entered a (f || ended marks (tree_of a) k) j k

  entered_reads : (entered : List Bool) (c : Chunking) (f : Bool) (j k : ℕ) (reads : List Bool) → AreEntered entered c f j k →
      read_list marks (tree_of c) f k reads ≡ read_blocks marks entered (blocks_of c) j k reads
  entered_reads entered (one_block s e) f j k reads h = ap (λ g. read_list marks e g k reads) (sym h)
  entered_reads entered (chunked_cat a b) f j k reads h =
      let x = outline_count a in let y = blocks_count a in
      let m = j + position_count (outline a) in let n = k + position_count (tree_of a) in
      ap (λ l. read_list marks (tree_of a) f k l) (entered_reads entered b ((f && nullable (tree_of a)) || ended marks (tree_of a) k) m n reads h.1)
      ∙ entered_reads entered a f j k (read_blocks marks entered (blocks_of b) m n reads) h.0
      ∙ sym (blocks_joined entered (blocks_of a) (blocks_of b) j k m n reads (omega arith) (omega arith))
  entered_reads entered (chunked_alt a b) f j k reads h =
      let x = outline_count a in let y = blocks_count a in
      let m = j + position_count (outline a) in let n = k + position_count (tree_of a) in
      ap (λ l. read_list marks (tree_of a) f k l) (entered_reads entered b f m n reads h.1)
      ∙ entered_reads entered a f j k (read_blocks marks entered (blocks_of b) m n reads) h.0
      ∙ sym (blocks_joined entered (blocks_of a) (blocks_of b) j k m n reads (omega arith) (omega arith))
  entered_reads entered (chunked_opt a) f j k reads h = entered_reads entered a f j k reads h
  entered_reads entered (chunked_plus a) f j k reads h = entered_reads entered a (f || ended marks (tree_of a) k) j k reads h

-- the readable positions of the outline, with a flag for each position
block_read : (flags : List Bool) (s : set.FinSet nat_cmp) (b f : Bool) (j : ℕ) (old : List Bool) → j < length old →
    flag (read_list flags (outline_of_block s b) f j old) j ≡ f
block_read flags s true f j old h = flag_set_same old j f h
block_read flags s false f j old h = flag_set_same old j f h

module _ (marks flags entered : List Bool) where
  outline_entered : (c : Chunking) (f : Bool) (j k : ℕ) (old : List Bool) → HaveEnded marks flags (blocks_of c) j k → j + position_count (outline c) ≤ length old →
      ((i : ℕ) → j ≤ i → i < j + position_count (outline c) → flag entered i ≡ flag (read_list flags (outline c) f j old) i) → AreEntered marks entered c f j k
  outline_entered (one_block s e) f j k old h room same =
      let one = block_count s (nullable e) in same j (omega arith) (omega arith) ∙ block_read flags s (nullable e) f j old (omega arith)
  outline_entered (chunked_cat a b) f j k old h room same =
      let m = j + position_count (outline a) in let n = k + position_count (tree_of a) in
      let g = (f && nullable (outline a)) || ended flags (outline a) j in
      let first = ended_left marks flags (blocks_of a) (blocks_of b) j k h in
      let gh : g ≡ (f && nullable (tree_of a)) || ended marks (tree_of a) k =
      ap₂ (λ u v. (f && u) || v) (outline_null a) (outline_ended marks flags a j k first) in
      let inner = read_list flags (outline b) g m old in
      let long = reads_length flags (outline b) g m old in (
        outline_entered a f j k inner first (omega arith) (λ i low high. same i low (omega arith)),
        subst (λ x. AreEntered marks entered b x m n) gh
            (outline_entered b g m n old (second_ended marks flags a b j k h) (omega arith)
            (λ i low high. same i (omega arith) (omega arith) ∙ reads_apart flags (outline a) f j inner i (inr low))),
      )
  outline_entered (chunked_alt a b) f j k old h room same =
      let m = j + position_count (outline a) in let n = k + position_count (tree_of a) in
      let first = ended_left marks flags (blocks_of a) (blocks_of b) j k h in
      let inner = read_list flags (outline b) f m old in
      let long = reads_length flags (outline b) f m old in (
        outline_entered a f j k inner first (omega arith) (λ i low high. same i low (omega arith)),
        outline_entered b f m n old (second_ended marks flags a b j k h) (omega arith)
            (λ i low high. same i (omega arith) (omega arith) ∙ reads_apart flags (outline a) f j inner i (inr low)),
      )
  outline_entered (chunked_opt a) f j k old h room same = outline_entered a f j k old h room same
  outline_entered (chunked_plus a) f j k old h room same =
      let g = f || ended flags (outline a) j in
      let gh : g ≡ f || ended marks (tree_of a) k = ap (λ v. f || v) (outline_ended marks flags a j k h) in
      subst (λ x. AreEntered marks entered a x j k) gh (outline_entered a g j k old h room same)

  -- downwards
  pub outline_reads : (c : Chunking) (f : Bool) (k : ℕ) (old reads : List Bool) → HaveEnded marks flags (blocks_of c) 0 k → position_count (outline c) ≤ length old →
      entered ≡ read_list flags (outline c) f 0 old → read_list marks (tree_of c) f k reads ≡ read_blocks marks entered (blocks_of c) 0 k reads
  outline_reads c f k old reads h room is =
      entered_reads marks entered c f 0 k reads (outline_entered c f 0 k old h (omega arith) (λ i low high. ap (λ l. flag l i) is))
