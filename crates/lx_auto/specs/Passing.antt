-- The results of the passes over the nodes of an expression.
use Rattle.std.specs.Prelude.{◌≡◌, ◌⊎◌, ℕ, ◌+◌, ◌-◌, Bool, true, false, ◌&&◌, ◌||◌, List, [], ◌∷◌, ◌++◌, length, slice_set}
use Rattle.lx_auto.specs.Unfolded.{Unfolded, empty, leaf, cat, alt, opt, plus, position_count, nullable}
use Rattle.lx_auto.specs.Nodes.{nodes_of}
use Rattle.lx_auto.specs.Marking.{flag}

-- no part of the expression is without nodes
abbrev pub HasNoEmptyPart : Unfolded → Type 0
HasNoEmptyPart empty = ⊥
HasNoEmptyPart (leaf s) = Unit {0}
HasNoEmptyPart (cat a b) = HasNoEmptyPart a × HasNoEmptyPart b
HasNoEmptyPart (alt a b) = HasNoEmptyPart a × HasNoEmptyPart b
HasNoEmptyPart (opt a) = HasNoEmptyPart a
HasNoEmptyPart (plus a) = HasNoEmptyPart a

abbrev pub node_count : Unfolded → ℕ
node_count e = length (nodes_of e)

-- for each node, true if its expression matches the empty word
abbrev pub null_list : Unfolded → List Bool
null_list empty = []
null_list (leaf s) = false ∷ []
null_list (cat a b) = null_list a ++ (null_list b ++ (nullable a && nullable b) ∷ [])
null_list (alt a b) = null_list a ++ (null_list b ++ (nullable a || nullable b) ∷ [])
null_list (opt a) = null_list a ++ true ∷ []
null_list (plus a) = null_list a ++ nullable a ∷ []

-- true if a marked position can be last, with positions numbered from p on
abbrev pub ended : List Bool → Unfolded → ℕ → Bool
ended marks empty p = false
ended marks (leaf s) p = flag marks p
ended marks (cat a b) p = ended marks b (p + position_count a) || (ended marks a p && nullable b)
ended marks (alt a b) p = ended marks a p || ended marks b (p + position_count a)
ended marks (opt a) p = ended marks a p
ended marks (plus a) p = ended marks a p

abbrev pub end_list : List Bool → Unfolded → ℕ → List Bool
end_list marks empty p = []
end_list marks (leaf s) p = flag marks p ∷ []
end_list marks (cat a b) p = end_list marks a p ++ (end_list marks b (p + position_count a) ++ ended marks (cat a b) p ∷ [])
end_list marks (alt a b) p = end_list marks a p ++ (end_list marks b (p + position_count a) ++ ended marks (alt a b) p ∷ [])
end_list marks (opt a) p = end_list marks a p ++ ended marks a p ∷ []
end_list marks (plus a) p = end_list marks a p ++ ended marks a p ∷ []

-- the flags of the expression's parts, whose first node comes after o others, are true if these match the empty word
abbrev pub NullsAt : List Bool → ℕ → Unfolded → Type 0
NullsAt nulls o empty = Unit {0}
NullsAt nulls o (leaf s) = Unit {0}
NullsAt nulls o (cat a b) =
    NullsAt nulls o a × NullsAt nulls (o + node_count a) b
    × (flag nulls (o + node_count a - 1) ≡ nullable a) × (flag nulls (o + node_count a + node_count b - 1) ≡ nullable b)
NullsAt nulls o (alt a b) = NullsAt nulls o a × NullsAt nulls (o + node_count a) b
NullsAt nulls o (opt a) = NullsAt nulls o a
NullsAt nulls o (plus a) = NullsAt nulls o a

-- and these are true if a marked position can be last in them
abbrev pub EndsAt : List Bool → List Bool → ℕ → Unfolded → ℕ → Type 0
EndsAt marks ends o empty p = Unit {0}
EndsAt marks ends o (leaf s) p = Unit {0}
EndsAt marks ends o (cat a b) p =
    EndsAt marks ends o a p × EndsAt marks ends (o + node_count a) b (p + position_count a) × (flag ends (o + node_count a - 1) ≡ ended marks a p)
EndsAt marks ends o (alt a b) p = EndsAt marks ends o a p × EndsAt marks ends (o + node_count a) b (p + position_count a)
EndsAt marks ends o (opt a) p = EndsAt marks ends o a p
EndsAt marks ends o (plus a) p = EndsAt marks ends o a p × (flag ends (o + node_count a - 1) ≡ ended marks a p)

-- the flags of positions that can be read, those of the expression's positions set anew
abbrev pub read_list : List Bool → Unfolded → Bool → ℕ → List Bool → List Bool
read_list marks empty f p reads = reads
read_list marks (leaf s) f p reads = slice_set reads p f
read_list marks (cat a b) f p reads =
    read_list marks a f p (read_list marks b ((f && nullable a) || ended marks a p) (p + position_count a) reads)
read_list marks (alt a b) f p reads = read_list marks a f p (read_list marks b f (p + position_count a) reads)
read_list marks (opt a) f p reads = read_list marks a f p reads
read_list marks (plus a) f p reads = read_list marks a (f || ended marks a p) p reads

-- the expression is empty, or no part of it is
abbrev pub IsSimplified : Unfolded → Type 0
IsSimplified e = (e ≡ empty) ⊎ HasNoEmptyPart e
