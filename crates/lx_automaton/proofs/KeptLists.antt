-- Lists that are kept one after the other.
use Rattle.std.proofs.Common.{◌≡◌, ℕ, zero, suc, ◌<◌, ◌≤◌, List, [], ◌∷◌, ◌++◌, length, get_or, take, drop, refl, sym, ◌∙◌, ap, ap₂, arith}
use Rattle.std.proofs.lemmas.List.{take_all, take-append-le, drop_at}
use Rattle.lx_automaton.specs.Lists.{AreEnds, begin_of, lists_from}

pub count_of_lists : (rules : List ℕ) (from : ℕ) (ends : List ℕ) → length (lists_from rules from ends) ≡ length ends
count_of_lists rules from [] = refl
count_of_lists rules from (end ∷ ends) = ap suc (count_of_lists rules end ends)

-- no list begins after the end of all
pub begin_before : (from : ℕ) (ends : List ℕ) (last : ℕ) → AreEnds from ends last → from ≤ last
begin_before from [] last are = omega arith
begin_before from (end ∷ ends) last are = let l = are.0 in let m = begin_before end ends last are.1 in omega arith

-- a list ends at or after its beginning, and not after the end of all
pub end_after : (from : ℕ) (ends : List ℕ) (last k : ℕ) → AreEnds from ends last → k < length ends → begin_of from ends k ≤ get_or ends k 0
end_after from [] last k are h = absurd (omega arith)
end_after from (end ∷ ends) last zero are h = are.0
end_after from (end ∷ ends) last (suc zero) are h = end_after end ends last zero are.1 (omega arith)
end_after from (end ∷ ends) last (suc (suc k)) are h = end_after end ends last (suc k) are.1 (omega arith)

pub end_within : (from : ℕ) (ends : List ℕ) (last k : ℕ) → AreEnds from ends last → k < length ends → get_or ends k 0 ≤ last
end_within from [] last k are h = absurd (omega arith)
end_within from (end ∷ ends) last zero are h = begin_before end ends last are.1
end_within from (end ∷ ends) last (suc k) are h = end_within end ends last k are.1 (omega arith)

-- the list with a number
pub list_at : (rules : List ℕ) (from : ℕ) (ends : List ℕ) (k : ℕ) → k < length ends →
    get_or (lists_from rules from ends) k [] ≡ drop (begin_of from ends k) (take (get_or ends k 0) rules)
list_at rules from [] k h = absurd (omega arith)
list_at rules from (end ∷ ends) zero h = refl
list_at rules from (end ∷ ends) (suc zero) h = list_at rules end ends zero (omega arith)
list_at rules from (end ∷ ends) (suc (suc k)) h = list_at rules end ends (suc k) (omega arith)

-- one list more
pub ends_more : (from : ℕ) (ends : List ℕ) (last end : ℕ) → AreEnds from ends last → last ≤ end → AreEnds from (ends ++ end ∷ []) end
ends_more from [] last end are h = let e = are in ((omega arith), refl)
ends_more from (first ∷ ends) last end are h = (are.0, ends_more first ends last end are.1 h)

pub lists_more : (rules list : List ℕ) (from : ℕ) (ends : List ℕ) (end : ℕ) → AreEnds from ends (length rules) → end ≡ length (rules ++ list) →
    lists_from (rules ++ list) from (ends ++ end ∷ []) ≡ lists_from rules from ends ++ list ∷ []
lists_more rules list from [] end are e =
    ap (λ (l : List ℕ). l ∷ [])
    (ap (λ (n : ℕ). drop from (take n (rules ++ list))) e ∙ ap (drop from) (take_all (length (rules ++ list)) (rules ++ list) (omega arith)) ∙ drop_at rules list from (sym are))
lists_more rules list from (first ∷ ends) end are e =
    ap₂ (λ (l : List ℕ) (ls : List (List ℕ)). l ∷ ls) (ap (drop from) (take-append-le first rules list (begin_before first ends (length rules) are.1)))
    (lists_more rules list first ends end are.1 e)
