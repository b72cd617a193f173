-- The results of the passes over a block, and over blocks one after the other.
use Rattle.std.proofs.Common.{◌≡◌, ℕ, zero, suc, ◌+◌, ◌-◌, ◌≤◌, ◌<◌, ◌⊎◌, inl, inr, Bool, true, false, ◌&&◌, ◌||◌, List, [], ◌∷◌, ◌++◌, Some, None, length, map, take, drop, refl, sym, ◌∙◌, ap, ap₂, subst, arith, append_assoc, append-nil}
use Rattle.std.proofs.lemmas.Bool.Decides.{eqb_tells}
use Rattle.std.specs.Prelude.{nat_eq, reverse, slice_get, slice_set}
use Rattle.std.specs.declared.alloc.Global.{Global}
use Rattle.std.specs.declared.vec.Vec.{Vec}
use Rattle.lx_auto.specs.Unfolded.{Unfolded, empty, leaf, cat, alt, opt, plus, position_count, nullable}
use Rattle.lx_auto.specs.Nodes.{PlainNode, nodes_of}
use Rattle.lx_auto.specs.NodeLeaves.{leaves_in}
use Rattle.lx_auto.specs.Marking.{flag, nulls_from, ends_from, reads_from}
use Rattle.lx_auto.specs.Passing.{HasNoEmptyPart, node_count, ended, end_list, EndsAt, read_list}
use Rattle.lx_auto.specs.Outlines.{positions_of, HaveEnded, read_blocks}
use Rattle.lx_auto.specs.Blocks.{IsBlockOver, AreBlocksOver, leaf_total, IsBlock, AreBlocks, HasEnds, HaveEnds, last_flag, IsClear, shifted}
use Rattle.lx_auto.specs.Chunks.{block_nodes}
use Rattle.lx_auto.specs.declared.rules.block.Block.{Block}
use Rattle.lx_auto.specs.declared.unfolding.node.Node.{Node}
use Rattle.lx_auto.proofs.FlagLemmas.{flag_right, length_joined}
use Rattle.lx_auto.proofs.LeafOrder.{tree_long}
use Rattle.lx_auto.proofs.PassResults.{some_nodes, end_length, ends_at, reads_pass}
use Rattle.lx_auto.proofs.RulePartLists.{slice_get_push}
use Rattle.lx_auto.proofs.Sequences.{IsSequence, sequence_ended, sequence_reads}
use Rattle.lx_auto.proofs.Readable.{ended_means, reads_apart}
use Rattle.lx_auto.proofs.RuleRead.{nulls_hold, no_empty_ends, ended_at_last}
use Rattle.lx_auto.proofs.Words.{in_last}

either_way : (b : Bool) → (b ≡ true) ⊎ (b ≡ false)
either_way true = inl refl
either_way false = inr refl

set_same : (xs : List Bool) (i : ℕ) → flag xs i ≡ false → slice_set xs i false ≡ xs
set_same [] i h = refl
set_same (x ∷ xs) zero h = ap (λ y. y ∷ xs) (sym h)
set_same (x ∷ xs) (suc i) h = ap (λ l. x ∷ l) (set_same xs i h)

no_items : (xs : List Bool) → length xs ≡ 0 → xs ≡ []
no_items [] h = refl
no_items (x ∷ xs) h = absurd (omega arith)

pub nil_of : (xs : List Bool) → nat_eq (length xs) 0 ≡ true → xs ≡ []
nil_of xs h = elim (eqb_tells (length xs) 0) [ inl y ↦ no_items xs y.1 | inr n ↦ let no : true ≡ false = sym h ∙ n.0 in absurd (cc) ]

module _ (marks : List Bool) where
  -- if no position is marked
  untouched_ended : (e : Unfolded) (p : ℕ) → ((q : ℕ) → p ≤ q → q < p + position_count e → flag marks q ≡ false) → ended marks e p ≡ false
  untouched_ended e p none = elim (either_way (ended marks e p)) [
    | inl t ↦
        let c = (ended_means marks e p).0 t in
        let s = in_last e p c.0 c.2 in
        let no : false ≡ true = sym (none c.0 s.0 s.1) ∙ c.1 in absurd (cc)
    | inr f ↦ f
  ]

  untouched_at : (e : Unfolded) (o p : ℕ) → ((q : ℕ) → p ≤ q → q < p + position_count e → flag marks q ≡ false) → EndsAt marks [] o e p
  untouched_at empty o p none = tt
  untouched_at (leaf b) o p none = tt
  untouched_at (cat a b) o p none = (
    untouched_at a o p (λ q l h. none q l (omega arith)),
    untouched_at b (o + node_count a) (p + position_count a) (λ q l h. none q (omega arith) (omega arith)),
    sym (untouched_ended a p (λ q l h. none q l (omega arith))),
  )
  untouched_at (alt a b) o p none = (
    untouched_at a o p (λ q l h. none q l (omega arith)),
    untouched_at b (o + node_count a) (p + position_count a) (λ q l h. none q (omega arith) (omega arith)),
  )
  untouched_at (opt a) o p none = untouched_at a o p none
  untouched_at (plus a) o p none = (untouched_at a o p none, sym (untouched_ended a p none))

  untouched_reads : (e : Unfolded) (p : ℕ) (reads : List Bool) → ((q : ℕ) → p ≤ q → q < p + position_count e → flag marks q ≡ false) →
      ((q : ℕ) → p ≤ q → q < p + position_count e → flag reads q ≡ false) → read_list marks e false p reads ≡ reads
  untouched_reads empty p reads none clear = refl
  untouched_reads (leaf b) p reads none clear = set_same reads p (clear p (omega arith) (omega arith))
  untouched_reads (cat a b) p reads none clear =
      let k = p + position_count a in
      let out : (false && nullable a) || ended marks a p ≡ false = untouched_ended a p (λ q l h. none q l (omega arith)) in
      ap (λ g. read_list marks a false p (read_list marks b g k reads)) out
      ∙ ap (λ l. read_list marks a false p l) (untouched_reads b k reads (λ q l h. none q (omega arith) (omega arith)) (λ q l h. clear q (omega arith) (omega arith)))
      ∙ untouched_reads a p reads (λ q l h. none q l (omega arith)) (λ q l h. clear q l (omega arith))
  untouched_reads (alt a b) p reads none clear =
      let k = p + position_count a in
      ap (λ l. read_list marks a false p l) (untouched_reads b k reads (λ q l h. none q (omega arith) (omega arith)) (λ q l h. clear q (omega arith) (omega arith)))
      ∙ untouched_reads a p reads (λ q l h. none q l (omega arith)) (λ q l h. clear q l (omega arith))
  untouched_reads (opt a) p reads none clear = untouched_reads a p reads none clear
  untouched_reads (plus a) p reads none clear =
      let out : false || ended marks a p ≡ false = untouched_ended a p none in
      ap (λ g. read_list marks a g p reads) out ∙ untouched_reads a p reads none clear

  -- the two passes over a block
  pub no_ends : (block : Block) (e : Unfolded) (ends : List Bool) → IsBlock block e → ends ≡ [] →
      ((q : ℕ) → block.base ≤ q → q < block.base + block.count → flag marks q ≡ false) → HasEnds marks ends block e
  no_ends block e ends is nil none =
      let k = is.count in
      let bare : (q : ℕ) → block.base ≤ q → q < block.base + position_count e → flag marks q ≡ false = λ q l h. none q l (omega arith) in
      record {
        at = λ other. subst (λ l. EndsAt marks l 0 e block.base) (sym nil) (untouched_at e 0 block.base bare);
        last = ap (λ l. flag l (length l - 1)) nil ∙ sym (untouched_ended e block.base bare);
        untouched = λ h. bare;
      }

  pub block_ends : (block : Block) (e : Unfolded) (nodes : List PlainNode) (nulls ends : List Bool) → IsBlock block e → nodes ≡ nodes_of e → nulls ≡ nulls_from (nodes_of e) [] →
      ends ≡ ends_from nulls marks block.base nodes [] → HasEnds marks ends block e
  block_ends block e nodes nulls ends is n m to =
      let all : ends ≡ ends_from (nulls_from (nodes_of e) []) marks block.base (nodes_of e) [] =
      to ∙ ap₂ (λ x y. ends_from x marks block.base y []) m n in
      let list = all ∙ no_empty_ends marks e block.base is.no_empty in
      record {
        at = λ other. ends_at marks e [] [] ends 0 block.base is.no_empty (list ∙ sym (append-nil (end_list marks e block.base))) refl;
        last = ended_at_last marks e block.base ends (inr is.no_empty) all;
        untouched = λ nil.
            let long = ap length (sym list ∙ nil) in
            let some = some_nodes e is.no_empty in
            let same = end_length marks e block.base in
            absurd (let zero_long : length (end_list marks e block.base) ≡ 0 = long in omega arith);
      }

  pub block_reads : (block : Block) (e : Unfolded) (nodes : List PlainNode) (nulls ends reads : List Bool) (f : Bool) → IsBlock block e → nodes ≡ nodes_of e →
      nulls ≡ nulls_from (nodes_of e) [] → HasEnds marks ends block e → block.is_sequence ≡ false →
      reads_from nulls ends (reverse nodes) (f ∷ []) (block.base + block.count) reads ≡ read_list marks e f block.base reads
  block_reads block e nodes nulls ends reads f is n m has other =
      let real = nulls_from (nodes_of e) [] in
      ap₂ (λ x y. reads_from x ends (reverse y) (f ∷ []) (block.base + block.count) reads) m n
      ∙ ap (λ l. reads_from real ends l (f ∷ []) (block.base + block.count) reads) (sym (append-nil (reverse (nodes_of e))))
      ∙ reads_pass marks real ends e [] f [] block.base (block.base + block.count) reads is.no_empty (ap (λ n. block.base + n) is.count) (nulls_hold marks e block.base is.no_empty) (has.at other)

  -- a sequence
  pub last_end : (block : Block) (e : Unfolded) (ends : List Bool) → IsBlock block e → block.is_sequence ≡ true →
      ends ≡ flag marks (block.base + block.count - 1) ∷ [] → HasEnds marks ends block e
  last_end block e ends is sequence to =
      let all : IsSequence e = sym is.is_sequence ∙ sequence in
      record {
        at = λ other. let no : true ≡ false = sym sequence ∙ other in absurd (cc);
        last = ap (λ l. flag l (length l - 1)) to ∙ ap (λ n. flag marks (block.base + n - 1)) is.count ∙ sym (sequence_ended marks e block.base is.no_empty all);
        untouched = λ nil. let no : flag marks (block.base + block.count - 1) ∷ [] ≡ [] = sym to ∙ nil in absurd (cc);
      }

  pub sequence_block_reads : (block : Block) (e : Unfolded) (reads : List Bool) (f : Bool) → IsBlock block e → block.is_sequence ≡ true →
      shifted marks f block.base block.count reads ≡ read_list marks e f block.base reads
  sequence_block_reads block e reads f is sequence =
      ap (λ n. shifted marks f block.base n reads) is.count ∙ sequence_reads marks e f block.base reads is.no_empty (sym is.is_sequence ∙ sequence)

  -- nothing can be read in a block that isn't touched and isn't entered
  pub block_stays : (block : Block) (e : Unfolded) (ends reads : List Bool) (f : Bool) → IsBlock block e → HasEnds marks ends block e → ends ≡ [] → f ≡ false →
      IsClear reads block.base (block.base + block.count) → reads ≡ read_list marks e f block.base reads
  block_stays block e ends reads f is has nil out clear =
      let k = is.count in
      sym (ap (λ g. read_list marks e g block.base reads) out
      ∙ untouched_reads e block.base reads (has.untouched nil) (λ q l h. clear.each q l (omega arith)))

-- one block more
pub ends_more : (marks : List Bool) (blocks : List Block) (ends : List (Vec Bool Global)) (n : ℕ) (block : Block) (own : Vec Bool Global) → HaveEnds marks blocks ends n →
    slice_get blocks n ≡ Some block → ((e : Unfolded) → IsBlock block e → HasEnds marks own.items block e) → HaveEnds marks blocks (ends ++ own ∷ []) (n + 1)
ends_more marks blocks ends n block own have here more = record {
  long = length_joined ends (own ∷ []) ∙ ap (λ l. l + 1) have.long;
  each = λ i b x e at found is. elim (slice_get_push ends own x i found) [
    | inl h ↦ have.each i b x e at h.1 is
    | inr h ↦
        let long = have.long in
        let same : i ≡ n = omega arith in
        let both : Some b ≡ Some block = sym at ∙ ap (λ j. slice_get blocks j) same ∙ here in
        let one : b ≡ block = cc in
        subst (λ y. HasEnds marks y.items b e) (sym h.1)
        (subst (λ (y : Block). HasEnds marks own.items y e) (sym one) (more e (subst (λ y. IsBlock y e) one is)))
  ];
}

pub no_ends_yet : (marks : List Bool) (blocks : List Block) (ends : List (Vec Bool Global)) → ends ≡ [] → HaveEnds marks blocks ends 0
no_ends_yet marks blocks ends nil = record {
  long = ap length nil;
  each = λ i b x e at found is. let no : None ≡ Some x = sym (ap (λ l. slice_get l i) nil) ∙ found in absurd (cc);
}

-- the meaning of the blocks' flags for their expressions
flags_tell : (marks flags front : List Bool) (blocks : List Block) (ends : List (Vec Bool Global)) (es : List Unfolded) (j k : ℕ) → AreBlocks blocks es k →
    length ends ≡ length blocks →
    ((i : ℕ) (b : Block) (x : Vec Bool Global) (e : Unfolded) → slice_get blocks i ≡ Some b → slice_get ends i ≡ Some x → IsBlock b e → HasEnds marks x.items b e) →
    flags ≡ front ++ map last_flag ends → j ≡ length front → HaveEnded marks flags es j k
flags_tell marks flags front [] ends [] j k are long each is at = tt
flags_tell marks flags front [] ends (e ∷ es) j k are long each is at = absurd are
flags_tell marks flags front (b ∷ bs) ends [] j k are long each is at = absurd are
flags_tell marks flags front (b ∷ bs) [] (e ∷ es) j k are long each is at = absurd (omega arith)
flags_tell marks flags front (b ∷ bs) (x ∷ xs) (e ∷ es) j k are long each is at =
    let has = each 0 b x e refl refl are.0 in
    let next = length_joined front (last_flag x ∷ []) in
    let place : j ≡ length front + 0 = omega arith in (
      ap₂ (λ l i. flag l i) is place ∙ flag_right front (last_flag x ∷ map last_flag xs) 0 ∙ has.last ∙ ap (λ n. ended marks e n) are.1,
      flags_tell marks flags (front ++ last_flag x ∷ []) bs xs es (suc j) (k + position_count e) are.2 (omega arith)
          (λ i c y d hc hy. each (suc i) c y d hc hy)
          (is ∙ sym (append_assoc front (last_flag x ∷ []) (map last_flag xs))) (omega arith),
    )

pub have_ended : (marks flags : List Bool) (blocks : List Block) (ends : List (Vec Bool Global)) (es : List Unfolded) (k : ℕ) → AreBlocks blocks es k →
    HaveEnds marks blocks ends (length blocks) → flags ≡ map last_flag ends → HaveEnded marks flags es 0 k
have_ended marks flags blocks ends es k are have is = flags_tell marks flags [] blocks ends es 0 k are have.long (λ i b x e. have.each i b x e) is refl

pub blocks_long : (blocks : List Block) (es : List Unfolded) (k : ℕ) → AreBlocks blocks es k → length blocks ≡ length es
blocks_long [] [] k are = refl
blocks_long [] (e ∷ es) k are = absurd are
blocks_long (b ∷ bs) [] k are = absurd are
blocks_long (b ∷ bs) (e ∷ es) k are = ap suc (blocks_long bs es (k + position_count e) are.2)

-- a block among others
record BlockAt (es : List Unfolded) (k i : ℕ) (block : Block) : Type 0 where
  pub tree : Unfolded
  pub is : IsBlock block tree
  pub base : block.base ≡ k + positions_of (take i es)
  pub rest : drop i es ≡ tree ∷ drop (suc i) es
  pub next : positions_of (take (suc i) es) ≡ positions_of (take i es) + position_count tree

block_at : (blocks : List Block) (es : List Unfolded) (k i : ℕ) (block : Block) → AreBlocks blocks es k → slice_get blocks i ≡ Some block → BlockAt es k i block
block_at [] es k i block are at = let no : None ≡ Some block = at in absurd (cc)
block_at (b ∷ bs) [] k i block are at = absurd are
block_at (b ∷ bs) (e ∷ es) k zero block are at =
    let same : b ≡ block = cc in
    let first : b.base ≡ k = are.1 in
    let here : block.base ≡ b.base = ap (λ (x : Block). x.base) (sym same) in
    record { tree = e; is = subst (λ x. IsBlock x e) same are.0; base = here ∙ first ∙ (let z : k ≡ k + 0 = omega arith in z); rest = refl; next = omega arith }
block_at (b ∷ bs) (e ∷ es) k (suc i) block are at =
    let h = block_at bs es (k + position_count e) i block are.2 at in
    let base = h.base in
    let next = h.next in
    record { tree = h.tree; is = h.is; base = omega arith; rest = h.rest; next = omega arith }

front_positions : (es : List Unfolded) (i : ℕ) → positions_of (take i es) ≤ positions_of es
front_positions es zero = omega arith
front_positions [] (suc i) = omega arith
front_positions (e ∷ es) (suc i) = let h = front_positions es i in omega arith

blocks_below : (marks entered : List Bool) (es : List Unfolded) (j k : ℕ) (reads : List Bool) (q : ℕ) → q < k →
    flag (read_blocks marks entered es j k reads) q ≡ flag reads q
blocks_below marks entered [] j k reads q h = refl
blocks_below marks entered (e ∷ es) j k reads q h =
    reads_apart marks e (flag entered j) k (read_blocks marks entered es (suc j) (k + position_count e) reads) q (inl h)
    ∙ blocks_below marks entered es (suc j) (k + position_count e) reads q (omega arith)

-- the loop over the blocks, from the last to the first
pub all_read : (marks entered reads : List Bool) (es : List Unfolded) (k n : ℕ) → length es ≤ n →
    reads ≡ read_blocks marks entered (drop n es) n (k + positions_of (take n es)) reads
all_read marks entered reads es k n long = ap (λ l. read_blocks marks entered l n (k + positions_of (take n es)) reads) (sym (none_left es n long))
  where
    none_left : (es : List Unfolded) (n : ℕ) → length es ≤ n → drop n es ≡ []
    none_left [] zero h = refl
    none_left [] (suc n) h = refl
    none_left (e ∷ es) zero h = absurd (omega arith)
    none_left (e ∷ es) (suc n) h = none_left es n (omega arith)

pub block_turn : (marks entered old mid new own : List Bool) (blocks : List Block) (es : List Unfolded) (k n r : ℕ) (block : Block) → r ≡ suc n →
    AreBlocks blocks es k → slice_get blocks n ≡ Some block → ((e : Unfolded) → IsBlock block e → HasEnds marks own block e) →
    IsClear old k (k + positions_of es) → mid ≡ read_blocks marks entered (drop r es) r (k + positions_of (take r es)) old →
    ((e : Unfolded) → IsBlock block e → HasEnds marks own block e → IsClear mid block.base (block.base + block.count) →
    new ≡ read_list marks e (flag entered n) block.base mid) →
    new ≡ read_blocks marks entered (drop n es) n (k + positions_of (take n es)) old
block_turn marks entered old mid new own blocks es k n r block next are here has clear so_far turn =
    let at = block_at blocks es k n block are here in
    let base = at.base in
    let count = at.is.count in
    let more = at.next in
    let all = front_positions es (suc n) in
    let behind = k + positions_of (take (suc n) es) in
    let before : mid ≡ read_blocks marks entered (drop (suc n) es) (suc n) behind old =
    so_far ∙ ap (λ i. read_blocks marks entered (drop i es) i (k + positions_of (take i es)) old) next in
    let bare : IsClear mid block.base (block.base + block.count) = record {
      each = λ q low high. ap (λ l. flag l q) before ∙ blocks_below marks entered (drop (suc n) es) (suc n) behind old q (omega arith)
          ∙ clear.each q (omega arith) (omega arith);
    } in
    let place : behind ≡ k + positions_of (take n es) + position_count at.tree = omega arith in
    turn at.tree at.is (has at.tree at.is) bare
    ∙ ap₂ (λ p l. read_list marks at.tree (flag entered n) p l) base
    (before ∙ ap (λ p. read_blocks marks entered (drop (suc n) es) (suc n) p old) place)
    ∙ ap (λ l. read_blocks marks entered l n (k + positions_of (take n es)) old) (sym at.rest)

-- blocks that are made of nodes
pub over_more : (blocks : List Block) (nodes : List (List PlainNode)) (block : Block) (own : List PlainNode) (k n : ℕ) → AreBlocksOver blocks nodes k →
    n ≡ k + leaf_total nodes → IsBlockOver block own n → AreBlocksOver (blocks ++ block ∷ []) (nodes ++ own ∷ []) k
over_more [] [] block own k n are at is = let z : n ≡ k = omega arith in (subst (λ i. IsBlockOver block own i) z is, tt)
over_more [] (x ∷ xs) block own k n are at is = absurd are
over_more (b ∷ bs) [] block own k n are at is = absurd are
over_more (b ∷ bs) (x ∷ xs) block own k n are at is = (are.0, over_more bs xs block own (k + length (leaves_in x)) n are.1 (omega arith) is)

pub total_more : (nodes : List (List PlainNode)) (own : List PlainNode) → leaf_total (nodes ++ own ∷ []) ≡ leaf_total nodes + length (leaves_in own)
total_more [] own = omega arith
total_more (x ∷ xs) own = let h = total_more xs own in omega arith

pub total_front : (nodes : List (Vec Node Global)) (n : ℕ) → leaf_total (block_nodes (take n nodes)) ≤ leaf_total (block_nodes nodes)
total_front nodes zero = omega arith
total_front [] (suc n) = omega arith
total_front (x ∷ xs) (suc n) = let h = total_front xs n in omega arith

abbrev pub HaveNoEmptyPart : List Unfolded → Type 0
HaveNoEmptyPart [] = Unit {0}
HaveNoEmptyPart (e ∷ es) = HasNoEmptyPart e × HaveNoEmptyPart es

pub tree_total : (es : List Unfolded) → leaf_total (map nodes_of es) ≡ positions_of es
tree_total [] = refl
tree_total (e ∷ es) = ap₂ (λ m n. m + n) (tree_long e) (tree_total es)

pub over_trees : (blocks : List Block) (es : List Unfolded) (k : ℕ) → HaveNoEmptyPart es → AreBlocksOver blocks (map nodes_of es) k → AreBlocks blocks es k
over_trees [] [] k no_empty are = tt
over_trees [] (e ∷ es) k no_empty are = absurd are
over_trees (b ∷ bs) [] k no_empty are = absurd are
over_trees (b ∷ bs) (e ∷ es) k no_empty are = (
  record { nodes = are.0.nodes; nulls = are.0.nulls; count = are.0.count ∙ tree_long e; is_sequence = are.0.is_sequence; no_empty = no_empty.0 },
  are.0.base,
  over_trees bs es (k + position_count e) no_empty.1 (subst (λ n. AreBlocksOver bs (map nodes_of es) (k + n)) (tree_long e) are.1),
)
