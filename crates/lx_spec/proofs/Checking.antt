-- Checks one after the other.
use Rattle.std.proofs.Common.{◌≡◌, ℕ, suc, ◌+◌, ◌-◌, ◌≤◌, ◌<◌, Bool, nat_eq, List, [], ◌∷◌, ◌++◌, length, map, drop, get_or, refl, sym, ap, ◌∙◌, arith, length-drop, drop-cons, add-one, eq-eqb, subst}
use Rattle.std.proofs.lemmas.Bool.Decides.{nat_tests}
use Rattle.lx_spec.specs.Sections.{RawRule}
use Rattle.lx_spec.specs.First.{IsFirst, here, later, HoldsOfNone}
use Rattle.lx_spec.specs.Verdict.{SymbolTable, Case, Cause, Holds, IsCase, IsFirstFault, case_of, cases, cases_of, is_empty, fault_of}
use Rattle.lx_spec.specs.declared.fault.SpecFault.{SpecFault}

pub none-append : {A : Type 0} (P : A → Type 0) (xs ys : List A) → HoldsOfNone P xs → HoldsOfNone P ys → HoldsOfNone P (xs ++ ys)
none-append P [] ys n m = m
none-append P (x ∷ xs) ys n m = (n.0, none-append P xs ys n.1 m)

pub first-front : {A : Type 0} (P : A → Type 0) (xs ys : List A) (a : A) → IsFirst P xs a → IsFirst P (xs ++ ys) a
first-front P _ ys _ (here a more p) = here a (more ++ ys) p
first-front P _ ys _ (later b more a n f) = later b (more ++ ys) a n (first-front P more ys a f)

pub first-behind : {A : Type 0} (P : A → Type 0) (xs ys : List A) (a : A) → HoldsOfNone P xs → IsFirst P ys a → IsFirst P (xs ++ ys) a
first-behind P [] ys a n f = f
first-behind P (x ∷ xs) ys a n f = later x (xs ++ ys) a n.0 (first-behind P xs ys a n.1 f)

pub fault-front : (table : SymbolTable) (xs ys : List Case) (f : SpecFault) → IsFirstFault table xs f → IsFirstFault table (xs ++ ys) f
fault-front table xs ys f e = record { case = e.case; first = first-front (Holds table) xs ys e.case e.first; is = e.is }

pub fault-behind : (table : SymbolTable) (xs ys : List Case) (f : SpecFault) → HoldsOfNone (Holds table) xs → IsFirstFault table ys f → IsFirstFault table (xs ++ ys) f
fault-behind table xs ys f n e = record { case = e.case; first = first-behind (Holds table) xs ys e.case n e.first; is = e.is }

-- a case that holds, and the first of them
pub fault-here : (table : SymbolTable) (rule : RawRule) (is_last : Bool) (cause : Cause) (more : List Case) → IsCase table (case_of rule is_last cause) cause → IsFirstFault table (case_of rule is_last cause ∷ more) (fault_of (case_of rule is_last cause))
fault-here table rule is_last cause more h = record { case = case_of rule is_last cause; first = here (case_of rule is_last cause) more h; is = refl }

-- The answer for the first list is that for the second.
pub record Answers (table : SymbolTable) (rest whole : List Case) : Type 0 where
  pub none : HoldsOfNone (Holds table) rest → HoldsOfNone (Holds table) whole
  pub fault : (f : SpecFault) → IsFirstFault table rest f → IsFirstFault table whole f

pub Answers-start : (table : SymbolTable) (whole : List Case) → Answers table whole whole
Answers-start table whole = record { none = λ n. n; fault = λ f e. e }

pub Answers-behind : (table : SymbolTable) (front rest whole : List Case) → HoldsOfNone (Holds table) front → Answers table (front ++ rest) whole → Answers table rest whole
Answers-behind table front rest whole n a = record {
  none = λ m. a.none (none-append (Holds table) front rest n m);
  fault = λ f e. a.fault f (fault-behind table front rest f n e);
}

module _ {Raw : Type 0} (view : Raw → RawRule) where
  is_empty-drop : (xs : List Raw) (n : ℕ) → n ≤ length xs → (ys : List Raw) → drop n xs ≡ ys → is_empty (map view ys) ≡ nat_eq n (length xs)
  is_empty-drop xs n le [] e = let l : length xs - n ≡ 0 = sym (length-drop n xs) ∙ ap length e in let same : n ≡ length xs = omega arith in sym (eq-eqb n (length xs) same)
  is_empty-drop xs n le (y ∷ ys) e = let l : length xs - n ≡ suc (length ys) = sym (length-drop n xs) ∙ ap length e in let less : n < length xs = omega arith in sym (grind (arith, nat_tests))

  -- the cases from rule i on: those of the rule, and those from the next rule on
  pub cases-step : (rules : List Raw) (i : ℕ) (r : Raw) → i < length rules
      → cases (map view (drop i rules)) ≡ cases_of (view (get_or rules i r)) (nat_eq (i + 1) (length rules)) ++ cases (map view (drop (i + 1) rules))
  cases-step rules i r less =
      let rule = get_or rules i r in
      let first : drop i rules ≡ rule ∷ drop (i + 1) rules = drop-cons rules i r less ∙ ap (λ (n : ℕ). rule ∷ drop n rules) (sym (add-one i)) in
      ap (λ (rs : List Raw). cases (map view rs)) first
      ∙ ap (λ (b : Bool). cases_of (view rule) b ++ cases (map view (drop (i + 1) rules))) (is_empty-drop rules (i + 1) (omega arith) (drop (i + 1) rules) refl)

  -- a rule without a fault
  pub clean-at : (table : SymbolTable) (rules : List Raw) (i : ℕ) (r : Raw) (whole : List Case) → i < length rules → Answers table (cases (map view (drop i rules))) whole
      → HoldsOfNone (Holds table) (cases_of (view (get_or rules i r)) (nat_eq (i + 1) (length rules))) → Answers table (cases (map view (drop (i + 1) rules))) whole
  clean-at table rules i r whole less a n =
      Answers-behind table (cases_of (view (get_or rules i r)) (nat_eq (i + 1) (length rules))) (cases (map view (drop (i + 1) rules))) whole n (subst (λ (cs : List Case). Answers table cs whole) (cases-step rules i r less) a)

  -- a rule with a fault
  pub fault-at : (table : SymbolTable) (rules : List Raw) (i : ℕ) (r : Raw) (whole : List Case) (f : SpecFault) → i < length rules → Answers table (cases (map view (drop i rules))) whole
      → IsFirstFault table (cases_of (view (get_or rules i r)) (nat_eq (i + 1) (length rules))) f → IsFirstFault table whole f
  fault-at table rules i r whole f less a e =
      a.fault f (subst (λ (cs : List Case). IsFirstFault table cs f) (sym (cases-step rules i r less)) (fault-front table (cases_of (view (get_or rules i r)) (nat_eq (i + 1) (length rules))) (cases (map view (drop (i + 1) rules))) f e))
