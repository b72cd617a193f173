-- Bytes that were read, and more after them.
use Rattle.std.proofs.Common.{ℕ, zero, suc, ◌≡◌, ◌+◌, List, [], ◌∷◌, ◌++◌, Option, Some, None, sym, ◌∙◌, ap, refl, subst, append_assoc, arith, drop, length, take}
use Rattle.lx_forms.specs.NameLists.{separators}
use Rattle.std.specs.Io.KnownBytes.{Consumes}
use Rattle.lx_tool.specs.Sources.{ReadsOn}

pub reads_nothing : (a : Option (List ℕ)) → Consumes a a []
reads_nothing None = tt
reads_nothing (Some xs) = refl

pub reads_more : (a b c : Option (List ℕ)) (xs ys : List ℕ) → Consumes a b xs → Consumes b c ys → Consumes a c (xs ++ ys)
reads_more None b c xs ys h k = tt
reads_more (Some all) None c xs ys h k = absurd h
reads_more (Some all) (Some rest) None xs ys h k = absurd k
reads_more (Some all) (Some rest) (Some behind) xs ys h k = h ∙ ap (λ l. xs ++ l) k ∙ sym (append_assoc xs ys behind)

pub reads_on : (a b c : Option (List ℕ)) (old new : List ℕ) → Consumes a b old → ReadsOn b c old new → Consumes a c new
reads_on a b c old new before on = subst (λ (bytes : List ℕ). Consumes a c bytes) (sym on.behind) (reads_more a b c old on.more before on.read)

-- ---- separators among the first bytes, and among those after them
pub split : (s n : ℕ) (bytes : List ℕ) → separators s (take n bytes) + separators s (drop n bytes) ≡ separators s bytes
split s zero bytes = omega arith
split s (suc n) [] = refl
split s (suc n) (byte ∷ bytes) = let rest = split s n bytes in omega (arith, rest)

pub first_of : (old more : List ℕ) → take (length old) (old ++ more) ≡ old
first_of [] more = refl
first_of (byte ∷ old) more = ap (λ bytes. byte ∷ bytes) (first_of old more)
