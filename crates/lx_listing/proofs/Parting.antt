-- The written part of lines that are written in parts.
use Rattle.std.proofs.Common.{ℕ, ◌≡◌, ◌+◌, ◌-◌, ◌<◌, inl, Bool, List, [], ◌∷◌, ◌++◌, length, take, drop, get_or, refl, sym, ◌∙◌, ap, subst, arith}
use Rattle.std.specs.List.{flat_map}
use Rattle.std.proofs.Math.Seq.{take-add}
use Rattle.std.proofs.lemmas.Grind.{flat_map-append}
use Rattle.std.proofs.lemmas.List.{take-append-drop, take_all}
use Rattle.std.proofs.Math.ListN.{length-drop}
use Rattle.lx_scan.specs.declared.item.Item.{Item}
use Rattle.lx_piece.specs.Plans.{Planned}
use Rattle.lx_piece.specs.declared.reader.ReaderFault.{ReaderFault}
use Rattle.lx_piece.specs.declared.reader.ReaderFault.TheVariants.{Device, Memory}
use Rattle.lx_line.specs.StyleLaws.{lines_whole, whole_both}
use Rattle.lx_line.specs.Styles.{HasWholeLines, Style, lines_by}
use Rattle.lx_listing.specs.Lines.{cut_lines_by}
use Rattle.lx_listing.specs.Listings.{AreWhole}
use Rattle.lx_listing.specs.AppendingLaws.{prefix_before, prefix_behind, prefix_then}
use Rattle.lx_listing.specs.Parts.{WrotePart}
use Rattle.lx_listing.specs.Printing.{WrotePrefix}

not_memory : (fault : ReaderFault) → fault ≡ Device → fault ≡ Memory → ⊥
not_memory fault d m = (cc)

-- nothing was written
pub part_none : {S : Type 0} (wrote : S → List ℕ → S → Type 0) (nothing : (s : S) → wrote s [] s) (s : S) (fault : ReaderFault) (bytes : List ℕ) → WrotePart wrote s fault bytes s
part_none wrote nothing s fault bytes = record {
  front = [];
  prefix = (bytes, refl);
  written = nothing s;
  whole = λ _. inl refl;
}

-- the writer failed
pub part_device : {S : Type 0} (wrote : S → List ℕ → S → Type 0) (s t : S) (fault : ReaderFault) (bytes : List ℕ) → fault ≡ Device → WrotePrefix wrote s bytes t → WrotePart wrote s fault bytes t
part_device wrote s t fault bytes device w = record {
  front = w.0;
  prefix = w.1;
  written = w.2;
  whole = λ memory. absurd (not_memory fault device memory);
}

-- whole lines were written, and then a part of further ones
pub part_then : {S : Type 0} (wrote : S → List ℕ → S → Type 0) (on : (s t u : S) (xs ys : List ℕ) → wrote s xs t → wrote t ys u → wrote s (xs ++ ys) u) (s t u : S) (fault : ReaderFault) (xs ys : List ℕ) → AreWhole xs → wrote s xs t → WrotePart wrote t fault ys u → WrotePart wrote s fault (xs ++ ys) u
part_then wrote on s t u fault xs ys lines w part =
    record {
      front = xs ++ part.front;
      prefix = prefix_behind xs part.front ys part.prefix;
      written = on s t u xs part.front w part.written;
      whole = λ memory. whole_both xs part.front lines (part.whole memory);
    }

-- a part of some lines is one of these and further ones
pub part_more : {S : Type 0} (wrote : S → List ℕ → S → Type 0) (s t : S) (fault : ReaderFault) (xs ys : List ℕ) → WrotePart wrote s fault xs t → WrotePart wrote s fault (xs ++ ys) t
part_more wrote s t fault xs ys part =
    record {
      front = part.front;
      prefix = prefix_then part.front xs (xs ++ ys) part.prefix (prefix_before xs ys);
      written = part.written;
      whole = part.whole;
    }

-- some bytes were written, and then a prefix of further ones
pub prefix_on : {S : Type 0} (wrote : S → List ℕ → S → Type 0) (on : (s t u : S) (xs ys : List ℕ) → wrote s xs t → wrote t ys u → wrote s (xs ++ ys) u) (s t u : S) (xs ys : List ℕ) → wrote s xs t → WrotePrefix wrote t ys u → WrotePrefix wrote s (xs ++ ys) u
prefix_on wrote on s t u xs ys w p = (xs ++ p.0, prefix_behind xs p.0 ys p.1, on s t u xs p.0 w p.2)

-- a prefix of some bytes is one of these and further ones
pub prefix_further : {S : Type 0} (wrote : S → List ℕ → S → Type 0) (s t : S) (xs ys : List ℕ) → WrotePrefix wrote s xs t → WrotePrefix wrote s (xs ++ ys) t
prefix_further wrote s t xs ys p = (p.0, prefix_then p.0 xs (xs ++ ys) p.1 (prefix_before xs ys), p.2)

-- the texts of the first elements, and of some after them
pub parts_join : {X : Type 0} (text : X → List ℕ) (xs : List X) (d n : ℕ) → flat_map text (take d xs) ++ flat_map text (take n (drop d xs)) ≡ flat_map text (take (d + n) xs)
parts_join text xs d n = sym (flat_map-append text (take d xs) (take n (drop d xs))) ∙ ap (flat_map text) (sym (take-add d n xs))

-- the texts of the first elements, and of all after them
pub rest_joins : {X : Type 0} (text : X → List ℕ) (xs : List X) (d : ℕ) → flat_map text (take d xs) ++ flat_map text (drop d xs) ≡ flat_map text xs
rest_joins text xs d = sym (flat_map-append text (take d xs) (drop d xs)) ∙ ap (flat_map text) (take-append-drop d xs)

-- the elements after the first ones
pub rest_all : {X : Type 0} (xs : List X) (d : ℕ) → take (length xs - d) (drop d xs) ≡ drop d xs
rest_all xs d = take_all (length xs - d) (drop d xs) (omega (arith, length-drop d xs))

-- the texts of the first elements were written, and then those of some after them
pub texts_on : {S X : Type 0} (wrote : S → List ℕ → S → Type 0) (on : (s t u : S) (xs ys : List ℕ) → wrote s xs t → wrote t ys u → wrote s (xs ++ ys) u) (text : X → List ℕ) (xs : List X) (d n : ℕ) (s t u : S) → wrote s (flat_map text (take d xs)) t → wrote t (flat_map text (take n (drop d xs))) u → wrote s (flat_map text (take (d + n) xs)) u
texts_on wrote on text xs d n s t u a b =
    subst (λ (bytes : List ℕ). wrote s bytes u) (parts_join text xs d n)
    (on s t u (flat_map text (take d xs)) (flat_map text (take n (drop d xs))) a b)

-- and then a prefix of these
pub texts_prefix : {S X : Type 0} (wrote : S → List ℕ → S → Type 0) (on : (s t u : S) (xs ys : List ℕ) → wrote s xs t → wrote t ys u → wrote s (xs ++ ys) u) (text : X → List ℕ) (xs : List X) (d n : ℕ) (s t u : S) → wrote s (flat_map text (take d xs)) t → WrotePrefix wrote t (flat_map text (take n (drop d xs))) u → WrotePrefix wrote s (flat_map text xs) u
texts_prefix wrote on text xs d n s t u a b =
    subst (λ (bytes : List ℕ). WrotePrefix wrote s bytes u) (rest_joins text xs (d + n))
    (prefix_further wrote s u (flat_map text (take (d + n) xs)) (flat_map text (drop (d + n) xs))
    (subst (λ (bytes : List ℕ). WrotePrefix wrote s bytes u) (parts_join text xs d n)
    (prefix_on wrote on s t u (flat_map text (take d xs)) (flat_map text (take n (drop d xs))) a b)))

-- a part of the texts of some first elements is one of all
pub part_taken : {S X : Type 0} (wrote : S → List ℕ → S → Type 0) (text : X → List ℕ) (xs : List X) (n : ℕ) (s t : S) (fault : ReaderFault) → WrotePart wrote s fault (flat_map text (take n xs)) t → WrotePart wrote s fault (flat_map text xs) t
part_taken wrote text xs n s t fault part =
    subst (λ (bytes : List ℕ). WrotePart wrote s fault bytes t) (rest_joins text xs n)
    (part_more wrote s t fault (flat_map text (take n xs)) (flat_map text (drop n xs)) part)

-- and so is a part of that of the first one
pub part_first : {S X : Type 0} (wrote : S → List ℕ → S → Type 0) (text : X → List ℕ) (xs : List X) (d : X) (s t : S) (fault : ReaderFault) → 0 < length xs → WrotePart wrote s fault (text (get_or xs 0 d)) t → WrotePart wrote s fault (flat_map text xs) t
part_first wrote text [] d s t fault some part = absurd (omega arith)
part_first wrote text (x ∷ xs) d s t fault some part = part_more wrote s t fault (text x) (flat_map text xs) part

-- the lines of the first elements were written, and then a part of those of some after them
pub part_on : {S X : Type 0} (wrote : S → List ℕ → S → Type 0) (on : (s t u : S) (xs ys : List ℕ) → wrote s xs t → wrote t ys u → wrote s (xs ++ ys) u) (text : X → List ℕ) (xs : List X) (d n : ℕ) (s t u : S) (fault : ReaderFault) → AreWhole (flat_map text (take d xs)) → wrote s (flat_map text (take d xs)) t → WrotePart wrote t fault (flat_map text (take n (drop d xs))) u → WrotePart wrote s fault (flat_map text xs) u
part_on wrote on text xs d n s t u fault lines a part =
    part_taken wrote text xs (d + n) s u fault
    (subst (λ (bytes : List ℕ). WrotePart wrote s fault bytes u) (parts_join text xs d n)
    (part_then wrote on s t u fault (flat_map text (take d xs)) (flat_map text (take n (drop d xs))) lines a part))

-- a line in three writes
pub three_writes : {S : Type 0} (wrote : S → List ℕ → S → Type 0) (on : (s t u : S) (xs ys : List ℕ) → wrote s xs t → wrote t ys u → wrote s (xs ++ ys) u) (s t u v : S) (h x e line : List ℕ) → (h ++ x) ++ e ≡ line → wrote s h t → wrote t x u → wrote u e v → wrote s line v
three_writes wrote on s t u v h x e line is a b d =
    subst (λ (bytes : List ℕ). wrote s bytes v) is (on s u v (h ++ x) e (on s t u h x a b) d)

-- the case that the first one fails
pub first_fails : {S : Type 0} (wrote : S → List ℕ → S → Type 0) (s t : S) (fault : ReaderFault) (h x e line : List ℕ) → (h ++ x) ++ e ≡ line → fault ≡ Device → WrotePrefix wrote s h t → WrotePart wrote s fault line t
first_fails wrote s t fault h x e line is device p =
    part_device wrote s t fault line device
    (subst (λ (bytes : List ℕ). WrotePrefix wrote s bytes t) is (prefix_further wrote s t (h ++ x) e (prefix_further wrote s t h x p)))

-- or the second
pub second_fails : {S : Type 0} (wrote : S → List ℕ → S → Type 0) (on : (s t u : S) (xs ys : List ℕ) → wrote s xs t → wrote t ys u → wrote s (xs ++ ys) u) (s t u : S) (fault : ReaderFault) (h x e line : List ℕ) → (h ++ x) ++ e ≡ line → fault ≡ Device → wrote s h t → WrotePrefix wrote t x u → WrotePart wrote s fault line u
second_fails wrote on s t u fault h x e line is device a p =
    part_device wrote s u fault line device
    (subst (λ (bytes : List ℕ). WrotePrefix wrote s bytes u) is (prefix_further wrote s u (h ++ x) e (prefix_on wrote on s t u h x a p)))

-- or the third
pub third_fails : {S : Type 0} (wrote : S → List ℕ → S → Type 0) (on : (s t u : S) (xs ys : List ℕ) → wrote s xs t → wrote t ys u → wrote s (xs ++ ys) u) (s t u v : S) (fault : ReaderFault) (h x e line : List ℕ) → (h ++ x) ++ e ≡ line → fault ≡ Device → wrote s h t → wrote t x u → WrotePrefix wrote u e v → WrotePart wrote s fault line v
third_fails wrote on s t u v fault h x e line is device a b p =
    part_device wrote s v fault line device
    (subst (λ (bytes : List ℕ). WrotePrefix wrote s bytes v) is (prefix_on wrote on s u v (h ++ x) e (on s t u h x a b) p))

-- a part of the lines of a piece, if they come before the cut line
pub lines_part : {S : Type 0} (wrote : S → List ℕ → S → Type 0) (s t : S) (fault : ReaderFault) (style : Style) (own plan : Planned) (file : ℕ) (items : List Item) (cut : List ℕ) → own ≡ plan → WrotePart wrote s fault (lines_by style plan file items) t → WrotePart wrote s fault (lines_by style own file items ++ cut) t
lines_part wrote s t fault style own plan file items cut e part =
    subst (λ (p : Planned). WrotePart wrote s fault (lines_by style p file items ++ cut) t) (sym e) (part_more wrote s t fault (lines_by style plan file items) cut part)

-- all of them, and then a part of the cut line
pub cut_part : {S : Type 0} (wrote : S → List ℕ → S → Type 0) (on : (s t u : S) (xs ys : List ℕ) → wrote s xs t → wrote t ys u → wrote s (xs ++ ys) u) (s t u : S) (fault : ReaderFault) (style : Style) (whole : HasWholeLines style) (own plan : Planned) (file : ℕ) (items : List Item) (ends cut : Bool) → own ≡ plan → ends ≡ cut → wrote s (lines_by style plan file items) t → WrotePart wrote t fault (cut_lines_by style file ends) u → WrotePart wrote s fault (lines_by style own file items ++ cut_lines_by style file cut) u
cut_part wrote on s t u fault style whole own plan file items ends cut e k w part =
    subst (λ (p : Planned). WrotePart wrote s fault (lines_by style p file items ++ cut_lines_by style file cut) u) (sym e)
    (part_then wrote on s t u fault (lines_by style plan file items) (cut_lines_by style file cut) (lines_whole style whole plan file items) w
    (subst (λ (b : Bool). WrotePart wrote t fault (cut_lines_by style file b) u) k part))
