-- Writes at places of one buffer, one after another.
use Rattle.std.proofs.Common.{◌≡◌, ℕ, ◌+◌, ◌≤◌, List, ◌++◌, length, take, drop, ap, sym, ◌∙◌, arith, append_assoc, length-append, length-take-le, length-drop, take-add, take-take, take_at, drop_at, subst}
use Rattle.std.proofs.lemmas.Simd.{take_more_put_chunk, length-put_chunk}
use lib.Lanes.{chunk, put_chunk}
use Rattle.lx_line.specs.Placed.{Placed}

-- a second write begins at the end of the first
pub Placed-then : {a b c xs ys : List ℕ} {i j k : ℕ} → Placed a b i xs j → Placed b c j ys k → Placed a c i (xs ++ ys) k
Placed-then {a} {b} {c} {xs} {ys} {i} p q = record {
  bytes = q.bytes ∙ ap (λ l. l ++ ys) p.bytes ∙ append_assoc (take i a) xs ys;
  moved = omega (arith, p.moved, q.moved, length-append xs ys);
  len = q.len ∙ p.len;
}

-- only the first n bytes of a write are kept
pub Placed-less : {a b xs : List ℕ} {i j : ℕ} (n : ℕ) → i ≤ length a → n ≤ length xs → Placed a b i xs j → Placed a b i (take n xs) (i + n)
Placed-less {a} {b} {xs} {i} {j} n within few p =
    let prefix = length-take-le i a within in
    record {
      bytes = sym (take-take (i + n) j b (omega (arith, p.moved))) ∙ ap (take (i + n)) p.bytes ∙ take-add i n (take i a ++ xs)
          ∙ (λ k. take_at (take i a) xs i prefix k ++ take n (drop_at (take i a) xs i prefix k));
      moved = omega (arith, length-take-le n xs few);
      len = p.len;
    }

-- n bytes of src are stored, of which the first len count
pub placed_chunk : (buf src : List ℕ) (at n from len : ℕ) → at + n ≤ length buf → from + n ≤ length src → len ≤ n
    → Placed buf (put_chunk at buf (chunk from n src)) at (take len (drop from src)) (at + len)
placed_chunk buf src at n from len room source part =
    let ys = chunk from n src in
    let long : length ys ≡ n = length-take-le n (drop from src) (omega (arith, length-drop from src)) in
    let whole : Placed buf (put_chunk at buf ys) at ys (at + n) = record {
      bytes = take_more_put_chunk at buf ys (at + n) (omega (arith, long)) room;
      moved = omega (arith, long);
      len = length-put_chunk at buf ys;
    } in
    let cut : Placed buf (put_chunk at buf ys) at (take len ys) (at + len) = Placed-less len (omega arith) (omega (arith, long)) whole in
    let P : List ℕ → Type 0 = λ zs. Placed buf (put_chunk at buf ys) at zs (at + len) in
    subst P (take-take len n (drop from src) part) cut

pub Placed-is : {a b xs ys : List ℕ} {i j : ℕ} → Placed a b i xs j → xs ≡ ys → Placed a b i ys j
Placed-is {a} {b} {xs} {ys} {i} {j} p e = let P : List ℕ → Type 0 = λ zs. Placed a b i zs j in subst P e p
