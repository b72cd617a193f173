-- Findings, one after the other.
use Rattle.std.proofs.Common.{◌≡◌, ℕ, suc, ◌+◌, ◌-◌, ◌<◌, ◌≤◌, List, [], ◌∷◌, ◌++◌, Option, Some, None, length, refl, sym, ap, subst, ◌∙◌, arith, append_assoc}
use Rattle.std.proofs.lemmas.List.{append-nil}
use Rattle.lx_rules.specs.Plain.{PlainSpec}
use Rattle.lx_spec.specs.Whole.{IsFault, IsRead}
use Rattle.lx_spec.specs.declared.fault.SpecFault.{SpecFault}
use Rattle.lx_check.specs.Verdicts.{IsFinding, SaysTooLarge}
use Rattle.lx_check.specs.Findings.{BeginsWithFinding}
use Rattle.lx_check.specs.Further.{AreFindings, AreFurther, HasFurther, clean, enough, faults, found, hidden, too_large, too_long}
use Rattle.lx_check.specs.Without.{without}
use Rattle.lx_check.specs.declared.text_fault.TextFault.{TextFault}
use Rattle.lx_check.specs.declared.text_fault.TextFault.TheVariants.{Specification, TooManyPositions, TooManySets}

-- All that is found in the rest, after `count` faults were found, follows the first ones.
pub record GoesOn (most left : ℕ) (rest : Option (List ℕ)) (old : List TextFault) (count left_now : ℕ) (rest_now : Option (List ℕ)) (now : List TextFault) : Type 0 where
  pub more : (fs : List TextFault) → AreFurther (most - count) left_now rest_now fs → HasFurther most left rest old (now ++ fs)

pub begun : (most left : ℕ) (rest : Option (List ℕ)) (old : List TextFault) → GoesOn most left rest old 0 left rest old
begun most left rest old = record {
  more = λ fs are. record { more = fs; new_is = refl; are = subst (λ n. AreFurther n left rest fs) (omega arith) are };
}

pub one_more : (most left : ℕ) (rest : Option (List ℕ)) (old : List TextFault) (count left_now : ℕ) (rest_now : Option (List ℕ)) (now new : List TextFault) (text : List ℕ) (fault : SpecFault) (next : Option (List ℕ)) →
    GoesOn most left rest old count left_now rest_now now → rest_now ≡ Some text → count < most → length text ≤ left_now → IsFault text fault → next ≡ without text fault →
    new ≡ now ++ Specification fault ∷ [] → GoesOn most left rest old (count + 1) (left_now - length text) next new
one_more most left rest old count left_now rest_now now new text fault next goes is below within wrong next_is new_is = record {
  more = λ fs are.
      let behind : AreFurther (most - (count + 1)) (left_now - length text) (without text fault) fs = subst (λ o. AreFurther (most - (count + 1)) (left_now - length text) o fs) next_is are in
      let step : AreFurther (suc (most - (count + 1))) left_now (Some text) (Specification fault ∷ fs) = found (most - (count + 1)) left_now text fault fs within wrong behind in
      let here : AreFurther (most - count) left_now (Some text) (Specification fault ∷ fs) = subst (λ n. AreFurther n left_now (Some text) (Specification fault ∷ fs)) (omega arith) step in
      let all = goes.more (Specification fault ∷ fs) (subst (λ o. AreFurther (most - count) left_now o (Specification fault ∷ fs)) (sym is) here) in
      subst (λ xs. HasFurther most left rest old xs) (sym (ap (λ xs. xs ++ fs) new_is ∙ append_assoc now (Specification fault ∷ []) fs)) all;
}

no_more : (most left : ℕ) (rest : Option (List ℕ)) (old : List TextFault) (count left_now : ℕ) (rest_now : Option (List ℕ)) (now : List TextFault) →
    GoesOn most left rest old count left_now rest_now now → AreFurther (most - count) left_now rest_now [] → HasFurther most left rest old now
no_more most left rest old count left_now rest_now now goes are = subst (λ xs. HasFurther most left rest old xs) (append-nil now) (goes.more [] are)

pub ends_hidden : (most left : ℕ) (rest : Option (List ℕ)) (old : List TextFault) (count left_now : ℕ) (rest_now : Option (List ℕ)) (now : List TextFault) →
    GoesOn most left rest old count left_now rest_now now → rest_now ≡ None → HasFurther most left rest old now
ends_hidden most left rest old count left_now rest_now now goes is =
    no_more most left rest old count left_now rest_now now goes (subst (λ o. AreFurther (most - count) left_now o []) (sym is) (hidden (most - count) left_now))

pub ends_too_long : (most left : ℕ) (rest : Option (List ℕ)) (old : List TextFault) (count left_now : ℕ) (rest_now : Option (List ℕ)) (now : List TextFault) (text : List ℕ) →
    GoesOn most left rest old count left_now rest_now now → rest_now ≡ Some text → left_now < length text → HasFurther most left rest old now
ends_too_long most left rest old count left_now rest_now now text goes is long =
    no_more most left rest old count left_now rest_now now goes (subst (λ o. AreFurther (most - count) left_now o []) (sym is) (too_long (most - count) left_now text long))

pub ends_clean : (most left : ℕ) (rest : Option (List ℕ)) (old : List TextFault) (count left_now : ℕ) (rest_now : Option (List ℕ)) (now : List TextFault) (text : List ℕ) (spec : PlainSpec) →
    GoesOn most left rest old count left_now rest_now now → rest_now ≡ Some text → IsRead text spec → HasFurther most left rest old now
ends_clean most left rest old count left_now rest_now now text spec goes is read =
    no_more most left rest old count left_now rest_now now goes (subst (λ o. AreFurther (most - count) left_now o []) (sym is) (clean (most - count) left_now text spec read))

pub ends_enough : (most left : ℕ) (rest : Option (List ℕ)) (old : List TextFault) (count left_now : ℕ) (rest_now : Option (List ℕ)) (now : List TextFault) →
    GoesOn most left rest old count left_now rest_now now → most ≤ count → HasFurther most left rest old now
ends_enough most left rest old count left_now rest_now now goes all =
    let none : 0 ≡ most - count = omega arith in
    no_more most left rest old count left_now rest_now now goes (subst (λ n. AreFurther n left_now rest_now []) none (enough left_now rest_now))

-- ---- the first of the findings
pub one_fault : (most : ℕ) (text : List ℕ) (fault : SpecFault) (xs : List TextFault) → IsFault text fault → most < 2 → xs ≡ Specification fault ∷ [] → AreFindings most text xs
one_fault most text fault xs wrong few is =
    let none : 0 ≡ most - 1 = omega arith in
    subst (λ ys. AreFindings most text ys) (sym is) (faults fault [] wrong (subst (λ n. AreFurther n (2000000 - length text) (without text fault) []) none (enough (2000000 - length text) (without text fault))))

pub some_faults : (most : ℕ) (text : List ℕ) (fault : SpecFault) (n left : ℕ) (rest : Option (List ℕ)) (old xs : List TextFault) → IsFault text fault → n ≡ most - 1 → left ≡ 2000000 - length text → rest ≡ without text fault →
    old ≡ Specification fault ∷ [] → HasFurther n left rest old xs → AreFindings most text xs
some_faults most text fault n left rest old xs wrong n_is left_is rest_is old_is has =
    let a : AreFurther (most - 1) left rest has.more = subst (λ k. AreFurther k left rest has.more) n_is has.are in
    let b : AreFurther (most - 1) (2000000 - length text) rest has.more = subst (λ k. AreFurther (most - 1) k rest has.more) left_is a in
    let d : AreFurther (most - 1) (2000000 - length text) (without text fault) has.more = subst (λ o. AreFurther (most - 1) (2000000 - length text) o has.more) rest_is b in
    subst (λ ys. AreFindings most text ys) (sym (has.new_is ∙ ap (λ ys. ys ++ has.more) old_is)) (faults fault has.more wrong d)

pub begins : (most : ℕ) (text : List ℕ) (xs : List TextFault) → AreFindings most text xs → BeginsWithFinding text xs
begins most text xs (too_large finding says) = large finding says
  where
    large : (finding : TextFault) → SaysTooLarge text finding → IsFinding text finding
    large (Specification fault) says = absurd says.too_large
    large TooManyPositions says = says
    large TooManySets says = says
begins most text xs (faults fault more wrong behind) = wrong
