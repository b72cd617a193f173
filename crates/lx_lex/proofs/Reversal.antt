-- The reversed expression matches the reversed texts.
use Rattle.std.proofs.Common.{ℕ, zero, suc, ◌≡◌, List, [], ◌++◌, reverse, inl, inr, refl, sym, ◌∙◌, ap, ap₂, subst, append_assoc, append-nil}
use Rattle.std.proofs.lemmas.List.{reverse-append, reverse-reverse}
use Rattle.lx_ere.specs.Matching.{Matches, Repeats, no_names}
use Rattle.lx_ere.specs.Regex.{Regex, nil, one_of, then, or, times, named}
use Rattle.lx_lex.specs.Cuts.{reversed}

-- one more word after k words
one-more : (L : List ℕ → Type 0) (k : ℕ) (v u : List ℕ) → Repeats L k v → L u → Repeats L (suc k) (v ++ u)
one-more L zero v u h g = (u, [], g, refl, ap (λ t. t ++ u) h ∙ sym (append-nil u))
one-more L (suc k) v u (x, y, hx, hy, is) g = (x, y ++ u, hx, one-more L k y u hy g, ap (λ t. t ++ u) is ∙ append_assoc x y u)

turned-repeats : (L M : List ℕ → Type 0) → ((w : List ℕ) → L w → M (reverse w)) → (k : ℕ) (w : List ℕ) → Repeats L k w → Repeats M k (reverse w)
turned-repeats L M f zero w h = ap reverse h
turned-repeats L M f (suc k) w (u, v, hu, hv, is) =
    subst (λ t. Repeats M (suc k) t) (sym (reverse-append u v) ∙ ap reverse (sym is)) (one-more M k (reverse v) (reverse u) (turned-repeats L M f k v hv) (f u hu))

pub turned : (tree : Regex) (w : List ℕ) → Matches no_names tree w → Matches no_names (reversed tree) (reverse w)
turned nil w h = ap reverse h
turned (one_of s) w (b, inside, is) = (b, inside, ap reverse is)
turned (then a b) w (u, v, hu, hv, is) = (reverse v, reverse u, turned b v hv, turned a u hu, ap reverse is ∙ reverse-append u v)
turned (or a b) w (inl h) = inl (turned a w h)
turned (or a b) w (inr h) = inr (turned b w h)
turned (times body low high) w (k, least, most, h) = (k, least, most, turned-repeats (Matches no_names body) (Matches no_names (reversed body)) (λ v g. turned body v g) k w h)
turned (named name) w h = absurd h

twice : (tree : Regex) → reversed (reversed tree) ≡ tree
twice nil = refl
twice (one_of s) = refl
twice (then a b) = ap₂ (λ (x y : Regex). then x y) (twice a) (twice b)
twice (or a b) = ap₂ (λ (x y : Regex). or x y) (twice a) (twice b)
twice (times body low high) = ap (λ t. times t low high) (twice body)
twice (named name) = refl

pub turned-back : (tree : Regex) (w : List ℕ) → Matches no_names (reversed tree) (reverse w) → Matches no_names tree w
turned-back tree w h =
    let again : Matches no_names (reversed (reversed tree)) (reverse (reverse w)) = turned (reversed tree) (reverse w) h in
    subst (λ v. Matches no_names tree v) (reverse-reverse w) (subst (λ t. Matches no_names t (reverse (reverse w))) (twice tree) again)
