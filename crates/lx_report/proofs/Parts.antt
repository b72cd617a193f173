-- A part of a line.
use Rattle.std.proofs.Common.{ℕ, ◌≡◌, ◌-◌, List, arith, ap, ◌∙◌, length, take, min, drop}
use Rattle.std.proofs.lemmas.List.{take_all, take_min, drop_min, length-drop}

-- the part after a place is all of the rest
rest_is : (line : List ℕ) (front : ℕ) → take (length line - front) (drop front line) ≡ drop front line
rest_is line front = take_all (length line - front) (drop front line) (omega (arith, length-drop front line))

pub part_is : (line : List ℕ) (h f n k : ℕ) → f ≡ min h (length line) → k ≡ min n (length (take (length line - f) (drop f line)))
    → take k (take (length line - f) (drop f line)) ≡ take n (drop h line)
part_is line h f n k front shown =
    ap (λ i. take i (take (length line - f) (drop f line))) shown
    ∙ (take_min n (take (length line - f) (drop f line))
    ∙ ap (λ xs. take n xs) (rest_is line f ∙ (ap (λ i. drop i line) front ∙ drop_min h line)))
