-- A mirror of `marking`: two passes over the nodes of an expression. Upwards they find where a set of its positions can end, and downwards the
-- positions that can be read next. Their results are `CanEnd` and `CanRead` of Positions (proofs/Readable). A law, `positions_spell_patterns`, states
-- that paths of these positions spell the pattern.
use Rattle.std.specs.Prelude.{ℕ, ◌+◌, ◌-◌, Bool, true, false, ◌&&◌, ◌||◌, List, [], ◌∷◌, ◌++◌, length, slice_index_or, slice_set}
use Rattle.lx_auto.specs.Nodes.{PlainNode, leaf_node, cat_node, alt_node, opt_node, plus_node}

-- the flag at a place, and false past the end
abbrev pub flag : List Bool → ℕ → Bool
flag xs i = slice_index_or xs i false

-- the index of the left child of the last of i + 1 nodes, whose right child has n nodes
abbrev pub left_of : ℕ → ℕ → ℕ
left_of i n = i - (n + 1)

-- true if the expression of a node matches the empty word, given the flags of the nodes before
abbrev pub null_of : PlainNode → List Bool → Bool
null_of (leaf_node s) nulls = false
null_of (cat_node n) nulls = flag nulls (left_of (length nulls) n) && flag nulls (length nulls - 1)
null_of (alt_node n) nulls = flag nulls (left_of (length nulls) n) || flag nulls (length nulls - 1)
null_of opt_node nulls = true
null_of plus_node nulls = flag nulls (length nulls - 1)

abbrev pub nulls_from : List PlainNode → List Bool → List Bool
nulls_from [] nulls = nulls
nulls_from (node ∷ nodes) nulls = nulls_from nodes (nulls ++ null_of node nulls ∷ [])

-- one more position after a leaf
abbrev pub behind_node : PlainNode → ℕ → ℕ
behind_node (leaf_node s) p = p + 1
behind_node (cat_node n) p = p
behind_node (alt_node n) p = p
behind_node opt_node p = p
behind_node plus_node p = p

-- true if a word whose last position is marked can end at a node, given the flags of the nodes before; p is the next position
abbrev pub end_of : List Bool → List Bool → ℕ → PlainNode → List Bool → Bool
end_of nulls marks p (leaf_node s) ends = flag marks p
end_of nulls marks p (cat_node n) ends = flag ends (length ends - 1) || (flag ends (left_of (length ends) n) && flag nulls (length ends - 1))
end_of nulls marks p (alt_node n) ends = flag ends (left_of (length ends) n) || flag ends (length ends - 1)
end_of nulls marks p opt_node ends = flag ends (length ends - 1)
end_of nulls marks p plus_node ends = flag ends (length ends - 1)

abbrev pub ends_from : List Bool → List Bool → ℕ → List PlainNode → List Bool → List Bool
ends_from nulls marks p [] ends = ends
ends_from nulls marks p (node ∷ nodes) ends =
    ends_from nulls marks (behind_node node p) nodes (ends ++ end_of nulls marks p node ends ∷ [])

-- Downwards, from the last node to the first. The stack has for each expression still to come a flag that is true if it may be entered, with that of
-- the next one first; p is the position after those still to come.
abbrev pub before_node : PlainNode → ℕ → ℕ
before_node (leaf_node s) p = p - 1
before_node (cat_node n) p = p
before_node (alt_node n) p = p
before_node opt_node p = p
before_node plus_node p = p

abbrev pub first_flag : List Bool → Bool
first_flag [] = false
first_flag (f ∷ stack) = f

abbrev pub other_flags : List Bool → List Bool
other_flags [] = []
other_flags (f ∷ stack) = stack

-- pushes the flags of a node's children, which are true if they may be entered; the node comes after i others
abbrev pub entered_children : List Bool → List Bool → PlainNode → ℕ → Bool → List Bool → List Bool
entered_children nulls ends (leaf_node s) i f stack = stack
entered_children nulls ends (cat_node n) i f stack = ((f && flag nulls (left_of i n)) || flag ends (left_of i n)) ∷ f ∷ stack
entered_children nulls ends (alt_node n) i f stack = f ∷ f ∷ stack
entered_children nulls ends opt_node i f stack = f ∷ stack
entered_children nulls ends plus_node i f stack = (f || flag ends (i - 1)) ∷ stack

-- a leaf that may be entered can be read
abbrev pub read_at : PlainNode → ℕ → Bool → List Bool → List Bool
read_at (leaf_node s) p f reads = slice_set reads (p - 1) f
read_at (cat_node n) p f reads = reads
read_at (alt_node n) p f reads = reads
read_at opt_node p f reads = reads
read_at plus_node p f reads = reads

-- the nodes are those still to come, the last one first
abbrev pub reads_from : List Bool → List Bool → List PlainNode → List Bool → ℕ → List Bool → List Bool
reads_from nulls ends [] stack p reads = reads
reads_from nulls ends (node ∷ nodes) stack p reads =
    reads_from nulls ends nodes (entered_children nulls ends node (length nodes) (first_flag stack) (other_flags stack)) (before_node node p)
    (read_at node p (first_flag stack) reads)
