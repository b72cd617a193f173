-- Lengths of the texts that parts of an expression have give that of the whole.
use Rattle.std.proofs.Common.{ℕ, zero, suc, ◌≡◌, ◌+◌, ◌*◌, List, Option, Some, inl, inr, length, ◌∙◌, ap, ap₂, arith}
use Rattle.std.specs.FinSet as set
use Rattle.std.specs.Ordering.{nat_cmp}
use Rattle.std.proofs.Math.Nat.{mul-zero, mul_comm, suc-mul}
use Rattle.std.proofs.lemmas.List.{length-append}
use Rattle.lx_ere.specs.Matching.{Matches, Repeats, no_names}
use Rattle.lx_ere.specs.Regex.{Regex, nil, one_of, then, or, times}
use Rattle.lx_flex.specs.Lengths.{HasLength}

pub nil_length : HasLength nil 0
nil_length w h = ap length h

pub set_length : (s : set.FinSet nat_cmp) → HasLength (one_of s) 1
set_length s w (b, within, is) = ap length is

pub then_length : (a b : Regex) (n m : ℕ) → HasLength a n → HasLength b m → HasLength (then a b) (n + m)
then_length a b n m f g w (u, v, hu, hv, is) = ap length is ∙ (length-append u v ∙ ap₂ (λ (x y : ℕ). x + y) (f u hu) (g v hv))

pub or_length : (a b : Regex) (n : ℕ) → HasLength a n → HasLength b n → HasLength (or a b) n
or_length a b n f g w (inl h) = f w h
or_length a b n f g w (inr h) = g w h

repeats_length : (body : Regex) (n : ℕ) → HasLength body n → (k : ℕ) (w : List ℕ) → Repeats (Matches no_names body) k w → length w ≡ k * n
repeats_length body n f zero w h = ap length h ∙ (let e : 0 ≡ zero * n = omega arith in e)
repeats_length body n f (suc k) w (u, v, hu, hv, is) =
    ap length is ∙ (length-append u v ∙ (let first = f u hu in let more = repeats_length body n f k v hv in let e : length u + length v ≡ suc k * n = omega (arith, first, more, suc-mul k n) in e))

pub times_length : (body : Regex) (n k : ℕ) → HasLength body n → HasLength (times body k (Some k)) (n * k)
times_length body n k f w (j, least, most, h) =
    let same : j ≡ k = omega (arith, least, most) in
    repeats_length body n f j w h ∙ (ap (λ (i : ℕ). i * n) same ∙ mul_comm k n)

pub no_length : (body : Regex) (low : ℕ) (high : Option ℕ) → HasLength body 0 → HasLength (times body low high) 0
no_length body low high f w (j, least, most, h) = repeats_length body 0 f j w h ∙ mul-zero j
