-- Lists of numbers as sets.
use Rattle.std.proofs.Common.{◌≡◌, ℕ, zero, suc, ◌+◌, ◌≤◌, ◌<◌, ◌↔◌, inl, inr, Bool, true, false, List, [], ◌∷◌, length, get_or, refl, sym, ◌∙◌, subst, arith, drop, ap}
use Rattle.std.proofs.Math.Seq.{drop-cons}
use Rattle.std.specs.Prelude.{Contains, nat_eq}
use Rattle.std.proofs.lemmas.Bool.Decides.{eqb_tells}
use Rattle.lx_automaton.proofs.Members.{contains_nil, contains_head, contains_tail, contains_cases, contains_at}
use Rattle.lx_auto.specs.Members.{has_member, places_from}
use Rattle.lx_auto.specs.Marking.{flag}
use Rattle.lx_auto.specs.SetSteps.{IsRising}
use Rattle.lx_auto.proofs.Words.{or_true, or_left, or_right}

pub member_means : (set : List ℕ) (q : ℕ) → (has_member set q ≡ true) ↔ Contains set q
member_means [] q = ((λ t. absurd (cc)), (λ h. absurd (contains_nil q h)))
member_means (x ∷ set) q =
    let m = member_means set q in (
      (λ t. elim (or_true (nat_eq x q) (has_member set q) t) [
        | inl e ↦ elim (eqb_tells x q) [ inl y ↦ subst (λ z. Contains (x ∷ set) z) y.1 (contains_head x set) | inr n ↦ let no : true ≡ false = sym e ∙ n.0 in absurd (cc) ]
        | inr e ↦ contains_tail x q set (m.0 e)
      ]),
      (λ h. elim (contains_cases x q set h) [
        | inl e ↦ or_left (nat_eq x q) (has_member set q) (elim (eqb_tells x q) [ inl y ↦ y.0 | inr n ↦ absurd (n.1 e) ])
        | inr c ↦ or_right (nat_eq x q) (has_member set q) (m.1 c)
      ]),
    )

-- the places of flags
pub places_at_least : (i q : ℕ) (flags : List Bool) → Contains (places_from i flags) q → i ≤ q
places_at_least i q [] h = absurd (contains_nil q h)
places_at_least i q (true ∷ flags) h = elim (contains_cases i q (places_from (suc i) flags) h) [
  | inl e ↦ omega arith
  | inr c ↦ let l = places_at_least (suc i) q flags c in omega arith
]
places_at_least i q (false ∷ flags) h = let l = places_at_least (suc i) q flags h in omega arith

pub places_mean : (i k : ℕ) (flags : List Bool) → Contains (places_from i flags) (i + k) ↔ (flag flags k ≡ true)
places_mean i k [] = ((λ h. absurd (contains_nil (i + k) h)), (λ t. absurd (cc)))
places_mean i zero (true ∷ flags) =
    ((λ h. refl), (λ t. let e : i ≡ i + 0 = omega arith in subst (λ z. Contains (i ∷ places_from (suc i) flags) z) e (contains_head i (places_from (suc i) flags))))
places_mean i zero (false ∷ flags) =
    ((λ h. let l = places_at_least (suc i) (i + 0) flags h in absurd (omega arith)), (λ t. absurd (cc)))
places_mean i (suc k) (true ∷ flags) =
    let m = places_mean (suc i) k flags in
    let e : suc i + k ≡ i + suc k = omega arith in (
      (λ h. elim (contains_cases i (i + suc k) (places_from (suc i) flags) h) [
        | inl f ↦ absurd (omega arith)
        | inr c ↦ m.0 (subst (λ z. Contains (places_from (suc i) flags) z) (sym e) c)
      ]),
      (λ t. contains_tail i (i + suc k) (places_from (suc i) flags) (subst (λ z. Contains (places_from (suc i) flags) z) e (m.1 t))),
    )
places_mean i (suc k) (false ∷ flags) =
    let m = places_mean (suc i) k flags in
    let e : suc i + k ≡ i + suc k = omega arith in
    ((λ h. m.0 (subst (λ z. Contains (places_from (suc i) flags) z) (sym e) h)), (λ t. subst (λ z. Contains (places_from (suc i) flags) z) e (m.1 t)))

pub place_means : (flags : List Bool) (q : ℕ) → Contains (places_from 0 flags) q ↔ (flag flags q ≡ true)
place_means flags q =
    let e : 0 + q ≡ q = omega arith in
    let m = places_mean 0 q flags in
    ((λ h. m.0 (subst (λ z. Contains (places_from 0 flags) z) (sym e) h)), (λ t. subst (λ z. Contains (places_from 0 flags) z) e (m.1 t)))

rising_cons : (x : ℕ) (xs : List ℕ) → ((q : ℕ) → Contains xs q → x < q) → IsRising xs → IsRising (x ∷ xs)
rising_cons x xs below rising zero zero h l = absurd (omega arith)
rising_cons x xs below rising zero (suc j) h l = below (get_or xs j 0) (contains_at xs j (omega arith))
rising_cons x xs below rising (suc i) zero h l = absurd (omega arith)
rising_cons x xs below rising (suc i) (suc j) h l = rising i j (omega arith) (omega arith)

pub places_rise : (i : ℕ) (flags : List Bool) → IsRising (places_from i flags)
places_rise i [] = λ a b h l. absurd (omega arith)
places_rise i (true ∷ flags) = rising_cons i (places_from (suc i) flags) (λ q c. let l = places_at_least (suc i) q flags c in omega arith) (places_rise (suc i) flags)
places_rise i (false ∷ flags) = places_rise (suc i) flags

-- two ascending lists with the same members are the same
below_tail : (x q : ℕ) (xs : List ℕ) → IsRising (x ∷ xs) → Contains xs q → x < q
below_tail x q xs rising h =
    let l = rising 0 (suc h.0) (omega arith) (let m = h.1 in omega arith) in
    let e : get_or xs h.0 0 ≡ q = default xs h.0 h.1 ∙ h.2 in
    omega arith
  where
    default : (ys : List ℕ) (k : ℕ) → k < length ys → get_or ys k 0 ≡ get_or ys k q
    default [] k h = absurd (omega arith)
    default (y ∷ ys) zero h = refl
    default (y ∷ ys) (suc k) h = default ys k (omega arith)

rising_tail : (x : ℕ) (xs : List ℕ) → IsRising (x ∷ xs) → IsRising xs
rising_tail x xs rising i j h l = rising (suc i) (suc j) (omega arith) (omega arith)

pub same_rising : (xs ys : List ℕ) → IsRising xs → IsRising ys → ((q : ℕ) → Contains xs q ↔ Contains ys q) → xs ≡ ys
same_rising [] [] rx ry same = refl
same_rising [] (y ∷ ys) rx ry same = absurd (contains_nil y ((same y).1 (contains_head y ys)))
same_rising (x ∷ xs) [] rx ry same = absurd (contains_nil x ((same x).0 (contains_head x xs)))
same_rising (x ∷ xs) (y ∷ ys) rx ry same =
    let first : x ≡ y = elim (contains_cases y x ys ((same x).0 (contains_head x xs))) [
      | inl e ↦ sym e
      | inr c ↦ elim (contains_cases x y xs ((same y).1 (contains_head y ys))) [
        | inl e ↦ e
        | inr d ↦ let a = below_tail y x ys ry c in let b = below_tail x y xs rx d in absurd (omega arith)
      ]
    ] in
    let rest : xs ≡ ys = same_rising xs ys (rising_tail x xs rx) (rising_tail y ys ry) (λ q. (
      (λ h. elim (contains_cases y q ys ((same q).0 (contains_tail x q xs h))) [
        | inl e ↦ let l = below_tail x q xs rx h in absurd (omega arith)
        | inr c ↦ c
      ]),
      (λ h. elim (contains_cases x q xs ((same q).1 (contains_tail y q ys h))) [
        | inl e ↦ let l = below_tail y q ys ry h in absurd (omega arith)
        | inr c ↦ c
      ]),
    )) in
    cc

-- a stretch in which no flag is set has no places
pub clear_places : (flags : List Bool) (n from end : ℕ) → end ≡ from + n → end ≤ length flags → ((q : ℕ) → from ≤ q → q < end → flag flags q ≡ false) →
    places_from end (drop end flags) ≡ places_from from (drop from flags)
clear_places flags zero from end at within clear = let same : end ≡ from = omega arith in ap (λ (i : ℕ). places_from i (drop i flags)) same
clear_places flags (suc n) from end at within clear =
    clear_places flags n (suc from) end (omega arith) within (λ q low high. clear q (omega arith) high)
    ∙ sym (ap (places_from from) (drop-cons flags from false (omega arith))
    ∙ ap (λ f. places_from from (f ∷ drop (suc from) flags)) (clear from (omega arith) (omega arith)))
