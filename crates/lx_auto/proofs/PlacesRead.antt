-- The places of the flags of one rule more.
use Rattle.std.proofs.Common.{◌≡◌, ℕ, zero, suc, ◌+◌, ◌≤◌, ◌<◌, ◌⊎◌, inl, inr, Bool, true, false, List, [], ◌∷◌, ◌++◌, length, take, drop, min, refl, sym, ◌∙◌, ap, arith}
use Rattle.std.proofs.lemmas.Bool.{cases_lt}
use Rattle.std.specs.Prelude.{slice_get, Some}
use Rattle.lx_rules.specs.Plain.{PlainSpec}
use Rattle.lx_auto.specs.Counts.{newline_count}
use Rattle.lx_auto.specs.Marking.{flag}
use Rattle.lx_auto.specs.Members.{places_from}
use Rattle.lx_auto.specs.PositionSets.{NumberedRule, size_of}
use Rattle.lx_auto.specs.Blocks.{IsClear}
use Rattle.lx_auto.specs.RuleParts.{IsPartOf, ArePartsOf}
use Rattle.lx_auto.specs.Following.{AreNumbered, FollowsMarked, AreReadBelow, ReadsOrStays}
use Rattle.lx_auto.specs.declared.rules.rule_part.RulePart.{RulePart}
use Rattle.lx_auto.proofs.StepAll.{some_at, follows_in, part_size, clear_part}

flag_take : (n : ℕ) (flags : List Bool) (k : ℕ) → k < n → flag (take n flags) k ≡ flag flags k
flag_take zero flags k h = absurd (omega arith)
flag_take (suc n) [] k h = refl
flag_take (suc n) (f ∷ flags) zero h = refl
flag_take (suc n) (f ∷ flags) (suc k) h = flag_take n flags k (omega arith)

flag_taken : (n : ℕ) (flags : List Bool) (k : ℕ) → n ≤ k → flag (take n flags) k ≡ false
flag_taken zero flags k h = refl
flag_taken (suc n) [] k h = refl
flag_taken (suc n) (f ∷ flags) zero h = absurd (omega arith)
flag_taken (suc n) (f ∷ flags) (suc k) h = flag_taken n flags k (omega arith)

-- flags that are set at the same places, regardless of the number of unset flags after them
same_places : (i : ℕ) (xs ys : List Bool) → ((k : ℕ) → flag xs k ≡ flag ys k) → places_from i xs ≡ places_from i ys
same_places i [] [] same = refl
same_places i [] (true ∷ ys) same = let no : false ≡ true = same 0 in absurd (cc)
same_places i [] (false ∷ ys) same = same_places (suc i) [] ys (λ k. same (suc k))
same_places i (true ∷ xs) [] same = let no : true ≡ false = same 0 in absurd (cc)
same_places i (false ∷ xs) [] same = same_places (suc i) xs [] (λ k. same (suc k))
same_places i (true ∷ xs) (true ∷ ys) same = ap (λ places. i ∷ places) (same_places (suc i) xs ys (λ k. same (suc k)))
same_places i (true ∷ xs) (false ∷ ys) same = let no : true ≡ false = same 0 in absurd (cc)
same_places i (false ∷ xs) (true ∷ ys) same = let no : false ≡ true = same 0 in absurd (cc)
same_places i (false ∷ xs) (false ∷ ys) same = same_places (suc i) xs ys (λ k. same (suc k))

split_places : (i b : ℕ) (flags : List Bool) → b ≤ length flags → places_from i flags ≡ places_from i (take b flags) ++ places_from (i + b) (drop b flags)
split_places i zero flags h = let e : i ≡ i + 0 = omega arith in ap (λ n. places_from n flags) e
split_places i (suc b) [] h = absurd (omega arith)
split_places i (suc b) (true ∷ flags) h =
    let e : suc i + b ≡ i + suc b = omega arith in
    ap (λ places. i ∷ places) (split_places (suc i) b flags (omega arith) ∙ ap (λ n. places_from (suc i) (take b flags) ++ places_from n (drop b flags)) e)
split_places i (suc b) (false ∷ flags) h =
    let e : suc i + b ≡ i + suc b = omega arith in
    split_places (suc i) b flags (omega arith) ∙ ap (λ n. places_from (suc i) (take b flags) ++ places_from n (drop b flags)) e

length_taken : (n : ℕ) (flags : List Bool) → n ≤ length flags → length (take n flags) ≡ n
length_taken zero flags h = refl
length_taken (suc n) [] h = absurd (omega arith)
length_taken (suc n) (f ∷ flags) h = ap suc (length_taken n flags (omega arith))

pub no_places : (flags : List Bool) → ((q : ℕ) → flag flags q ≡ false) → places_from 0 flags ≡ []
no_places flags clear = same_places 0 flags [] clear

-- flags that are new in only one stretch: before it they are unchanged, and after it none is set
places_after : (old new : List Bool) (b e : ℕ) → b ≤ e → e ≤ length new → ((q : ℕ) → q < b → flag new q ≡ flag old q) → ((q : ℕ) → b ≤ q → flag old q ≡ false) →
    ((q : ℕ) → e ≤ q → flag new q ≡ false) → places_from 0 new ≡ places_from 0 old ++ places_from b (drop b (take e new))
places_after old new b e order within below clear above =
    let whole : places_from 0 new ≡ places_from 0 (take e new) = same_places 0 new (take e new) (λ k. elim (cases_lt k e) [
      | inl l ↦ sym (flag_take e new k l)
      | inr l ↦ above k l ∙ sym (flag_taken e new k l)
    ]) in
    let before : places_from 0 (take b (take e new)) ≡ places_from 0 old = same_places 0 (take b (take e new)) old (λ k. elim (cases_lt k b) [
      | inl l ↦ flag_take b (take e new) k l ∙ flag_take e new k (omega arith) ∙ below k l
      | inr l ↦ flag_taken b (take e new) k l ∙ sym (clear k l)
    ]) in
    let long = length_taken e new within in
    let at : 0 + b ≡ b = omega arith in
    whole
    ∙ split_places 0 b (take e new) (omega arith)
    ∙ ap (λ places. places ++ places_from (0 + b) (drop b (take e new))) before
    ∙ ap (λ n. places_from 0 old ++ places_from n (drop b (take e new))) at

bool_cases : (b : Bool) → (b ≡ true) ⊎ (b ≡ false)
bool_cases true = inl refl
bool_cases false = inr refl

-- the rules before can read neither the next rule's positions nor later ones
unread_on : (marks : List Bool) (spec : PlainSpec) (rules : List NumberedRule) (n : ℕ) (r : NumberedRule) (old : List Bool) → AreNumbered spec rules →
    slice_get rules n ≡ Some r → AreReadBelow (FollowsMarked marks) rules n old → (q : ℕ) → r.base ≤ q → flag old q ≡ false
unread_on marks spec rules n r old numbered at so_far q low = elim (bool_cases (flag old q)) [
  | inl t ↦
      let h = (so_far.each q).0 t in
      let range = follows_in marks h.rule q h.reads in
      let apart = numbered.apart h.place n h.rule r h.below h.at at in
      absurd (omega arith)
  | inr f ↦ f
]

-- the flags after one more rule: those of the places before it, in it and after it
below_rule : (marks : List Bool) (r : NumberedRule) (old new : List Bool) → ReadsOrStays (FollowsMarked marks) r old new → (q : ℕ) → q < r.base → flag new q ≡ flag old q
below_rule marks r old new step q h = elim step [ inl reads ↦ reads.below q h | inr stays ↦ ap (λ flags. flag flags q) stays.0 ]

above_rule : (marks : List Bool) (r : NumberedRule) (old new : List Bool) → ReadsOrStays (FollowsMarked marks) r old new → (q : ℕ) → r.base + size_of r ≤ q → flag new q ≡ flag old q
above_rule marks r old new step q h = elim step [ inl reads ↦ reads.above q h | inr stays ↦ ap (λ flags. flag flags q) stays.0 ]

newline_most : (line_end : Bool) → newline_count line_end ≤ 1
newline_most true = omega arith
newline_most false = omega arith

-- the readable places after one more rule
pub next_all : (marks : List Bool) (spec : PlainSpec) (rules : List NumberedRule) (parts : List RulePart) (total n : ℕ) (part : RulePart) (old new : List Bool)
    (places more : List ℕ) → AreNumbered spec rules → ArePartsOf parts rules total → n < length parts → slice_get parts n ≡ Some part → length old ≡ total → length new ≡ total →
    ((r : NumberedRule) → IsPartOf part r → part.base + (part.count + newline_count part.line_end) ≤ length old → IsClear old part.base (part.base + part.count) →
    ReadsOrStays (FollowsMarked marks) r old new) →
    AreReadBelow (FollowsMarked marks) rules n old → places ≡ places_from 0 old →
    (part.base ≤ length new → more ≡ places ++ places_from part.base (drop part.base (take (min (part.base + part.count + 1) (length new)) new))) → more ≡ places_from 0 new
next_all marks spec rules parts total n part old new places more numbered are within here long same step so_far is_places added =
    let len = are.long in
    let r = some_at rules n (omega arith) in
    let is = are.each n part r.0 here r.1 in
    let size = part_size part r.0 is in
    let room = are.within n r.0 r.1 in
    let base = is.base in
    let newline = newline_most part.line_end in
    let unread = unread_on marks spec rules n r.0 old numbered r.1 so_far in
    let stepped = step r.0 is (omega arith) (clear_part part r.0 old is (λ q low high. unread q low)) in
    let after = places_after old new part.base (min (part.base + part.count + 1) (length new)) (omega arith) (omega arith)
    (λ q h. below_rule marks r.0 old new stepped q (omega arith))
    (λ q h. unread q (omega arith))
    (λ q h. above_rule marks r.0 old new stepped q (omega arith) ∙ unread q (omega arith)) in
    added (omega arith)
    ∙ ap (λ front. front ++ places_from part.base (drop part.base (take (min (part.base + part.count + 1) (length new)) new))) is_places ∙ sym after
