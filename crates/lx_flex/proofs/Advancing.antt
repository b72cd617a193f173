-- Steps through a text.
use Rattle.std.proofs.Common.{◌≡◌, ℕ, suc, ◌+◌, ◌-◌, ◌<◌, true, false, List, [], ◌∷◌, refl, sym, subst, ap, ◌∙◌, length, drop, arith}
use Rattle.std.proofs.lemmas.List.{drop-drop, length-drop}
use Rattle.lx_flex.specs.RulesSections.{IsAfterCode, at_end, no_code, more_code, IsLater, IsFurther, is_code}

pub later_by : (n : ℕ) (text rest : List ℕ) → rest ≡ drop n text → IsLater text rest
later_by n text rest h = record { count = n; is = h }

pub later_then : (text next rest : List ℕ) → IsLater text next → IsLater next rest → IsLater text rest
later_then text next rest a b = record { count = a.count + b.count; is = b.is ∙ (ap (drop b.count) a.is ∙ drop-drop b.count a.count text) }

pub later_of_further : (text rest : List ℕ) → IsFurther text rest → IsLater text rest
later_of_further text rest a = record { count = a.count + 1; is = a.is }

pub further_by : (n : ℕ) (text rest : List ℕ) → rest ≡ drop (n + 1) text → IsFurther text rest
further_by n text rest h = record { count = n; is = h }

pub further_after : (text next rest : List ℕ) → IsLater text next → IsFurther next rest → IsFurther text rest
further_after text next rest a b =
    let same : a.count + (b.count + 1) ≡ (a.count + b.count) + 1 = omega arith in
    record { count = a.count + b.count; is = b.is ∙ (ap (drop (b.count + 1)) a.is ∙ (drop-drop (b.count + 1) a.count text ∙ ap (λ (n : ℕ). drop n text) same)) }

pub further_then : (text next rest : List ℕ) → IsFurther text next → IsLater next rest → IsFurther text rest
further_then text next rest a b =
    let same : (a.count + 1) + b.count ≡ (a.count + b.count) + 1 = omega arith in
    record { count = a.count + b.count; is = b.is ∙ (ap (drop b.count) a.is ∙ (drop-drop b.count (a.count + 1) text ∙ ap (λ (n : ℕ). drop n text) same)) }

-- two skips, and more
pub skips_further : (n m : ℕ) (text first second rest : List ℕ) → first ≡ drop n text → second ≡ drop m first → IsFurther second rest → IsFurther text rest
skips_further n m text first second rest a b f = further_after text second rest (later_then text first second (later_by n text first a) (later_by m first second b)) f

pub further_further : (text next rest : List ℕ) → IsFurther text next → IsFurther next rest → IsFurther text rest
further_further text next rest a b = further_after text next rest (later_of_further text next a) b

-- so many turns are enough
pub further_shorter : (text rest : List ℕ) (turns bound : ℕ) → IsFurther text rest → turns + length text < suc bound → 0 < length text → (turns + 1) + length rest < suc bound
further_shorter text rest turns bound f h some =
    let e : length rest ≡ length text - (f.count + 1) = ap length f.is ∙ length-drop (f.count + 1) text in
    omega arith

-- lines of code that were skipped: whatever is skipped from here on, is skipped from the start
pub record SkipsCode (start text : List ℕ) : Type 0 where
  pub goes_on : (rest : List ℕ) → IsAfterCode text rest → IsAfterCode start rest

pub skips_none : (start : List ℕ) → SkipsCode start start
skips_none start = record { goes_on = λ rest a. a }

pub skips_more : (start text next : List ℕ) → SkipsCode start text → is_code false text ≡ true → IsFurther text next → SkipsCode start next
skips_more start text next s is f = record { goes_on = λ rest a. s.goes_on rest (more_code is f a) }

pub skips_all : (start text : List ℕ) → SkipsCode start text → text ≡ [] → IsAfterCode start text
skips_all start text s none = s.goes_on text (subst (λ (t : List ℕ). IsAfterCode t t) (sym none) at_end)

pub skips_to : (start text rest : List ℕ) → SkipsCode start text → is_code false text ≡ false → rest ≡ text → IsAfterCode start rest
skips_to start text rest s is same = s.goes_on rest (subst (λ (t : List ℕ). IsAfterCode text t) (sym same) (no_code is))

pub empty_list : (text : List ℕ) → length text ≡ 0 → text ≡ []
empty_list [] h = refl
empty_list (b ∷ text) h = absurd (omega arith)
