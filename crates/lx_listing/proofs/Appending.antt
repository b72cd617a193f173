use Rattle.std.proofs.Common.{ℕ, ◌+◌, List, [], ◌++◌, take, drop, Option, Some, None, sym, ◌∙◌, subst, append-nil}
use Rattle.std.specs.Io.KnownBytes.{Appends, Keeps}
use Rattle.std.proofs.Math.Seq.{take-add}
use Rattle.std.proofs.lemmas.List.{take-append-drop}
use Rattle.lx_listing.specs.Appending.{AppendsPrefix}
use Rattle.lx_listing.specs.AppendingLaws.{appends_both, prefix_behind, prefix_then, prefix_before}

-- the first bytes of a text, and then further ones
pub appends_more : (a b c : Option (List ℕ)) (bs : List ℕ) (d n : ℕ) → Appends a b (take d bs) → Appends b c (take n (drop d bs)) → Appends a c (take (d + n) bs)
appends_more a b c bs d n h k = subst (Appends a c) (sym (take-add d n bs)) (appends_both a b c (take d bs) (take n (drop d bs)) h k)

-- bytes that stay as they were grow by nothing
pub kept_appends : (a b : Option (List ℕ)) → Keeps a b → Appends a b []
kept_appends None b h = tt
kept_appends (Some xs) None h = absurd h
kept_appends (Some xs) (Some ys) h = h ∙ sym (append-nil xs)

-- all of some bytes, and then a prefix of further ones
pub appends_prefix : (a b c : Option (List ℕ)) (xs ys : List ℕ) → Appends a b xs → AppendsPrefix b c ys → AppendsPrefix a c (xs ++ ys)
appends_prefix a b c xs ys h k = (xs ++ k.0, prefix_behind xs k.0 ys k.1, appends_both a b c xs k.0 h k.2)

-- a prefix of some bytes is one of these and further ones
pub prefix_more : (a b : Option (List ℕ)) (xs ys : List ℕ) → AppendsPrefix a b xs → AppendsPrefix a b (xs ++ ys)
prefix_more a b xs ys h = (h.0, prefix_then h.0 xs (xs ++ ys) h.1 (prefix_before xs ys), h.2)

-- the first bytes of a text, and then a prefix of some further ones
pub prefix_part : (a b c : Option (List ℕ)) (bs : List ℕ) (d n : ℕ) → Appends a b (take d bs) → AppendsPrefix b c (take n (drop d bs)) → AppendsPrefix a c bs
prefix_part a b c bs d n h k =
    subst (λ (all : List ℕ). AppendsPrefix a c all) (take-append-drop (d + n) bs)
    (prefix_more a c (take (d + n) bs) (drop (d + n) bs)
    (subst (λ (front : List ℕ). AppendsPrefix a c front) (sym (take-add d n bs)) (appends_prefix a b c (take d bs) (take n (drop d bs)) h k)))
