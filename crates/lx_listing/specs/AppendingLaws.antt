-- Bytes that are appended one after the other, and prefixes.
use Rattle.std.proofs.Common.{ℕ, List, [], ◌++◌, Option, Some, None, refl, sym, ◌∙◌, ap, append_assoc, append-nil}
use Rattle.std.specs.Io.KnownBytes.{Appends}
use Rattle.lx_piece.specs.Pieces.{IsPrefix}

-- nothing was appended
pub appends_nothing : (o : Option (List ℕ)) → Appends o o []
appends_nothing None = tt
appends_nothing (Some xs) = sym (append-nil xs)

-- some bytes, and then further ones
pub appends_both : (a b c : Option (List ℕ)) (xs ys : List ℕ) → Appends a b xs → Appends b c ys → Appends a c (xs ++ ys)
appends_both None b c xs ys h k = tt
appends_both (Some a) None c xs ys h k = absurd h
appends_both (Some a) (Some b) None xs ys h k = absurd k
appends_both (Some a) (Some b) (Some c) xs ys h k = k ∙ (ap (λ bs. bs ++ ys) h ∙ append_assoc a xs ys)

-- a list is a prefix of itself, and of itself with more
pub prefix_all : {X : Type 0} (xs : List X) → IsPrefix xs xs
prefix_all xs = ([], append-nil xs)

pub prefix_then : {X : Type 0} (xs ys zs : List X) → IsPrefix xs ys → IsPrefix ys zs → IsPrefix xs zs
prefix_then xs ys zs f h = (f.0 ++ h.0, sym (append_assoc xs f.0 h.0) ∙ ap (λ l. l ++ h.0) f.1 ∙ h.1)

pub prefix_behind : {X : Type 0} (front xs ys : List X) → IsPrefix xs ys → IsPrefix (front ++ xs) (front ++ ys)
prefix_behind front xs ys f = (f.0, append_assoc front xs f.0 ∙ ap (λ l. front ++ l) f.1)

pub prefix_before : {X : Type 0} (xs ys : List X) → IsPrefix xs (xs ++ ys)
prefix_before xs ys = (ys, refl)
