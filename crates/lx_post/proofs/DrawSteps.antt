-- Each step on the word keeps the rule of the draws.
use Rattle.std.proofs.Common.{◌≡◌, ◌≢◌, ⊎_elim, ℕ, zero, suc, ◌+◌, ◌%◌, ◌^◌, ◌<◌, ◌≤◌, List, [], ◌∷◌, ◌++◌, length, set, get_or, sym, refl, ap, ◌∙◌, subst, arith, All, length-set, get_or-set_same, min, cond, eqb}
use Rattle.std.specs.List.{sum_by}
use Rattle.std.proofs.lemmas.List.Sums.{sum_by-cons, sum_by_push, sum_by-append}
use Rattle.std.proofs.lemmas.List.Elements.{All-nil, All-cons}
use Rattle.std.proofs.lemmas.Bool.Decides.{nat_tests}
use mathlib.Core.Option.{none, some, some-injective, some-ne-none}
use mathlib.Core.Logic.{dite}
use native.Mathlib.Decide.{dec_lt}
use lib.ListN.{get_elem?}
use Rattle.atomic_table.specs.Table.{State, Me, step, keeps, stepped, Allows, Splits, Joins, opening}
use Rattle.atomic_table.proofs.Lists.{at_set, at_snoc, set_again}
use Rattle.lx_post.specs.declared.draw_rule.SeatView.{SeatView}
use Rattle.lx_post.specs.Claimed.{times, once_below}
use Rattle.lx_post.specs.Draws.{seat_view, IsFair, AreDrawnOnce, one_part_less, one_part, together, spent_seat, Draws, Counts}
use Rattle.lx_post.proofs.ViewSums.{sum_set, two_le_sum, sum_le_sum, sum_alone}

abbrev St : Type 0
St = State (Unit {0}) SeatView

abbrev parts_of : List SeatView → ℕ
parts_of = sum_by (λ (v : SeatView). v.parts)

abbrev past_of : List SeatView → ℕ
past_of = sum_by (λ (v : SeatView). v.past)

abbrev times_of : ℕ → List SeatView → ℕ
times_of x = sum_by (λ (v : SeatView). times x v.drawn)

-- the number of times that a number occurs in a longer list
pub times-push : (x : ℕ) (xs : List ℕ) (n : ℕ) → times x (xs ++ n ∷ []) ≡ times x xs + cond (eqb n x) 1 0
times-push x xs n = sum_by_push (λ y. cond (eqb y x) 1 0) xs n

pub times-append : (x : ℕ) (xs ys : List ℕ) → times x (xs ++ ys) ≡ times x xs + times x ys
times-append x xs ys = sum_by-append (λ y. cond (eqb y x) 1 0) xs ys

times-cons : (x y : ℕ) (ys : List ℕ) → times x (y ∷ ys) ≡ cond (eqb y x) 1 0 + times x ys
times-cons x y ys = sum_by-cons (λ z. cond (eqb z x) 1 0) y ys

here : (n y k : ℕ) → (n ≤ y → cond (eqb y y) 1 0 + k ≡ 0) → y < n
here n y k h = grind (arith, nat_tests)

-- if no number from n on occurs, all are below n
all_below : (n : ℕ) (xs : List ℕ) → ((x : ℕ) → n ≤ x → times x xs ≡ 0) → All (λ x. x < n) xs
all_below n [] h = All-nil (λ x. x < n)
all_below n (y ∷ ys) h = All-cons (λ x. x < n) y ys (here n y (times y ys) (λ le. sym (times-cons y y ys) ∙ h y le)) (all_below n ys (λ x le. let z : cond (eqb y x) 1 0 + times x ys ≡ 0 = sym (times-cons x y ys) ∙ h x le in omega arith))

only : (u : SeatView) (k : ℕ) (v : SeatView) → get_elem? (u ∷ []) k ≡ some v → u ≡ v
only u zero v e = some-injective u v e
only u (suc k) v e = absurd (some-ne-none v (sym e))

-- a seat that drew nothing, and found no file missing, is fair
fresh_is_fair : (files word own parts : ℕ) → IsFair files word (seat_view own parts 0 [])
fresh_is_fair files word own parts = record { few = omega arith; passed = λ lt. absurd (omega arith); idle = λ _. refl; below = λ x _. refl }

begins_once : (x files : ℕ) → 0 ≡ once_below x (min 0 files)
begins_once x files = grind (arith, nat_tests)

pub begins : (files workers : ℕ) → files + workers < 2 ^ 32 → AreDrawnOnce files workers (opening (0 ∷ []) [] (seat_view files workers 0 []))
begins files workers fits = record {
  one_word = refl;
  small = fits;
  all_parts = omega arith;
  each_once = λ x. begins_once x files;
  bounded = omega arith;
  fair = λ k v at. subst (IsFair files 0) (only (seat_view files workers 0 []) k v at) (fresh_is_fair files 0 files workers);
}

pub splits : (files workers id : ℕ) (v : SeatView) → 1 < v.parts → v.past ≡ 0 → Splits (AreDrawnOnce files workers) id v (one_part_less v) (one_part v)
splits files workers id v some_parts none_past s rule at =
    let views = set s.views id (one_part_less v) in
    let word = get_or s.words 0 0 in
    let mine = rule.fair id v at in
    record {
      one_word = rule.one_word;
      small = rule.small;
      all_parts = let a = sum_set (λ (u : SeatView). u.parts) s.views id v (one_part_less v) at in let b = sum_by_push (λ (u : SeatView). u.parts) views (one_part v) in let c = rule.all_parts in omega arith;
      each_once = λ x. let a = sum_set (λ (u : SeatView). times x u.drawn) s.views id v (one_part_less v) at in let b = sum_by_push (λ (u : SeatView). times x u.drawn) views (one_part v) in let c = rule.each_once x in omega arith;
      bounded = let a = sum_set (λ (u : SeatView). u.past) s.views id v (one_part_less v) at in let b = sum_by_push (λ (u : SeatView). u.past) views (one_part v) in let c = rule.bounded in omega arith;
      fair = λ k u at'. ⊎_elim
          (λ old. ⊎_elim
          (λ (is : (k ≡ id) × (one_part_less v ≡ u)). subst (IsFair files word) is.1 record { few = omega arith; passed = mine.passed; idle = λ none. absurd (omega arith); below = mine.below })
          (λ (is : (k ≢ id) × (get_elem? s.views k ≡ some u)). rule.fair k u is.1)
          (at_set s.views id k (one_part_less v) u old))
          (λ is. subst (IsFair files word) is (fresh_is_fair files word v.files 1))
          (at_snoc views (one_part v) u k at');
    }

-- the word stays within its type
pub fits : (files workers : ℕ) (s : St) → AreDrawnOnce files workers s → get_or s.words 0 0 ≤ files + workers
fits files workers s rule =
    let a = sum_le_sum (λ (u : SeatView). u.past) (λ (u : SeatView). u.parts) s.views (λ k u at. (rule.fair k u at).few) in
    let b = rule.all_parts in let c = rule.bounded in omega arith

more_once : (x n files old new : ℕ) → n < files → old ≡ once_below x (min n files) → new ≡ old + cond (eqb n x) 1 0 → new ≡ once_below x (min (n + 1) files)
more_once x n files old new lt a b = grind (arith, nat_tests)

same_once : (x n files old : ℕ) → files ≤ n → old ≡ once_below x (min n files) → old ≡ once_below x (min (n + 1) files)
same_once x n files old le a = grind (arith, nat_tests)

not_yet : (n x k m : ℕ) → n + 1 ≤ x → k ≡ 0 → m ≡ k + cond (eqb n x) 1 0 → m ≡ 0
not_yet n x k m le a b = grind (arith, nat_tests)

-- a fair seat stays so while the word grows
grows : (files word word' : ℕ) (v : SeatView) → word ≤ word' → IsFair files word v → IsFair files word' v
grows files word word' v le fair = record { few = fair.few; passed = λ lt. let h = fair.passed lt in omega arith; idle = fair.idle; below = λ x h. fair.below x (omega arith) }

-- the rule after the word grew by one and one seat changed
moved : (files workers id : ℕ) (s : St) (v w : SeatView) (rule : AreDrawnOnce files workers s) → get_elem? s.views id ≡ some v → w.parts ≡ v.parts
    → ((x : ℕ) → (old new : ℕ) → old ≡ once_below x (min (get_or s.words 0 0) files) → new + times x v.drawn ≡ old + times x w.drawn → new ≡ once_below x (min (get_or s.words 0 0 + 1) files))
    → ((past past' : ℕ) → past' + v.past ≡ past + w.past → get_or s.words 0 0 ≤ files + past → get_or s.words 0 0 + 1 ≤ files + past')
    → IsFair files (get_or s.words 0 0 + 1) w
    → (n : ℕ) → n ≡ get_or s.words 0 0 + 1
    → AreDrawnOnce files workers (stepped s 0 n id [] w keeps)
moved files workers id s v w rule at parts once bound fair n is =
    let word = get_or s.words 0 0 in
    let new : get_or (set s.words 0 n) 0 0 ≡ word + 1 = get_or-set_same s.words 0 n 0 (let l = rule.one_word in omega arith) ∙ is in
    record {
      one_word = length-set s.words 0 n ∙ rule.one_word;
      small = rule.small;
      all_parts = let a = sum_set (λ (u : SeatView). u.parts) s.views id v w at in let b = rule.all_parts in omega arith;
      each_once = λ x. rw new (once x (times_of x s.views) (times_of x (set s.views id w)) (rule.each_once x) (sum_set (λ (u : SeatView). times x u.drawn) s.views id v w at));
      bounded = rw new (bound (past_of s.views) (past_of (set s.views id w)) (sum_set (λ (u : SeatView). u.past) s.views id v w at) rule.bounded);
      fair = λ k u at'. rw new (⊎_elim
          (λ (is : (k ≡ id) × (w ≡ u)). subst (IsFair files (word + 1)) is.1 fair)
          (λ (is : (k ≢ id) × (get_elem? s.views k ≡ some u)). grows files word (word + 1) u (omega arith) (rule.fair k u is.1))
          (at_set s.views id k w u at'));
    }

pub draws : (slots files workers id : ℕ) (me : Me (Unit {0}) SeatView) → me.0.files ≡ files → me.0.parts ≡ 1 → me.0.past ≡ 0
    → Allows (AreDrawnOnce files workers) slots id me 0 (λ n. (n + 1) % 2 ^ 64) (Draws (step slots 0 1 0 none) me)
draws slots files workers id me own one fresh s rule _ at _ =
    let v = me.0 in let word = get_or s.words 0 0 in
    let room = fits files workers s rule in let small = rule.small in
    let next : (word + 1) % 2 ^ 64 ≡ word + 1 = omega arith in
    let mine = rule.fair id v at in
    let below = all_below word v.drawn mine.below in
    dite (dec_lt word files)
    (λ (lt : word < files).
    let w = seat_view v.files v.parts v.past (v.drawn ++ word ∷ []) in (
      w,
      keeps,
      tt,
      moved files workers id s v w rule at refl
          (λ x old new a b. more_once x word files old new lt a (let p = times-push x v.drawn word in omega arith))
          (λ past past' a b. omega arith)
          record { few = mine.few; passed = λ z. absurd (omega arith); idle = λ z. absurd (omega arith); below = λ x le. not_yet word x (times x v.drawn) (times x w.drawn) le (mine.below x (omega arith)) (times-push x v.drawn word) }
          ((word + 1) % 2 ^ 64) next,
      (refl, below, (λ _. refl), λ le. absurd (omega arith)),
    ))
    (λ not_lt.
    let le : files ≤ word = omega arith in
    let w = seat_view v.files v.parts (v.past + 1) v.drawn in (
      w,
      keeps,
      tt,
      moved files workers id s v w rule at refl
          (λ x old new a b. same_once x word files new le (omega arith))
          (λ past past' a b. omega arith)
          record { few = omega arith; passed = λ z. omega arith; idle = λ z. absurd (omega arith); below = λ x more. mine.below x (omega arith) }
          ((word + 1) % 2 ^ 64) next,
      (refl, below, (λ lt. absurd (omega arith)), λ _. refl),
    ))

nothing_twice : (xs ys : List ℕ) → xs ≡ [] → ys ≡ [] → xs ++ ys ≡ []
nothing_twice xs ys a b = rw (a, b)

first_past : (files word a b : ℕ) → 0 < a + b → (0 < a → files ≤ word) → (0 < b → files ≤ word) → files ≤ word
first_past files word a b lt f g = dite (dec_lt 0 a) f (λ no. g (omega arith))

pub joins : (files workers id : ℕ) (v : SeatView) (other : ℕ) (w : SeatView) → Joins (AreDrawnOnce files workers) id v other w (together v w) spent_seat
joins files workers id v other w s rule at apart at' =
    let both = together v w in
    let views = set s.views id both in
    let word = get_or s.words 0 0 in
    let was : get_elem? s.views other ≡ some w = ⊎_elim (λ (x : (other ≡ id) × (both ≡ w)). absurd (apart x.0)) (λ (x : (other ≢ id) × (get_elem? s.views other ≡ some w)). x.1) (at_set s.views id other both w at') in
    let mine = rule.fair id v at in let theirs = rule.fair other w was in
    let fair_both : IsFair files word both = record {
      few = (let a = mine.few in let b = theirs.few in omega arith);
      passed = λ lt. first_past files word v.past w.past lt mine.passed theirs.passed;
      idle = λ none. nothing_twice v.drawn w.drawn (mine.idle (omega arith)) (theirs.idle (omega arith));
      below = λ x le. let a = times-append x v.drawn w.drawn in let b = mine.below x le in let c = theirs.below x le in omega arith;
    } in
    record {
      one_word = rule.one_word;
      small = rule.small;
      all_parts = let a = sum_set (λ (u : SeatView). u.parts) s.views id v both at in let b = sum_set (λ (u : SeatView). u.parts) views other w spent_seat at' in let c = rule.all_parts in omega arith;
      each_once = λ x. let a = sum_set (λ (u : SeatView). times x u.drawn) s.views id v both at in let b = sum_set (λ (u : SeatView). times x u.drawn) views other w spent_seat at' in let c = rule.each_once x in let d = times-append x v.drawn w.drawn in omega arith;
      bounded = let a = sum_set (λ (u : SeatView). u.past) s.views id v both at in let b = sum_set (λ (u : SeatView). u.past) views other w spent_seat at' in let c = rule.bounded in omega arith;
      fair = λ k u at''. ⊎_elim
          (λ (is : (k ≡ other) × (spent_seat ≡ u)). subst (IsFair files word) is.1 (fresh_is_fair files word 0 0))
          (λ (is : (k ≢ other) × (get_elem? views k ≡ some u)). ⊎_elim
          (λ (same : (k ≡ id) × (both ≡ u)). subst (IsFair files word) same.1 fair_both)
          (λ (old : (k ≢ id) × (get_elem? s.views k ≡ some u)). rule.fair k u old.1)
          (at_set s.views id k both u is.1))
          (at_set views other k spent_seat u at'');
    }

set_again_or : (ws : List ℕ) → length ws ≡ 1 → set ws 0 (get_or ws 0 0) ≡ ws
set_again_or [] e = refl
set_again_or (x ∷ xs) e = refl

enough_once : (x word files own : ℕ) → own ≡ files → files ≤ word → once_below x (min word files) ≡ once_below x own
enough_once x word files own is le = ap (once_below x) (omega arith)

-- if a seat has all parts, no other has drawn
idle : (x files word : ℕ) {workers : ℕ} (s : St) (rule : AreDrawnOnce files workers s) (id : ℕ) (v : SeatView) → get_elem? s.views id ≡ some v → workers ≤ v.parts
    → (j : ℕ) (u : SeatView) → get_elem? s.views j ≡ some u → j ≢ id → times x u.drawn ≡ 0
idle x files word s rule id v at all j u at' other =
    let two = two_le_sum (λ (u : SeatView). u.parts) s.views id j v u at at' other in
    let a = rule.all_parts in
    ap (times x) ((rule.fair j u at').idle (omega arith))

pub counts : (slots files workers id : ℕ) (me : Me (Unit {0}) SeatView) → me.0.files ≡ files → workers ≤ me.0.parts → 0 < me.0.past
    → Allows (AreDrawnOnce files workers) slots id me 0 (λ n. n) (Counts (step slots 0 0 0 none) me)
counts slots files workers id me own all past s rule _ at _ =
    let v = me.0 in let word = get_or s.words 0 0 in
    let enough : files ≤ word = (rule.fair id v at).passed past in (
      v,
      keeps,
      tt,
      subst (λ (z : List ℕ × List SeatView). AreDrawnOnce files workers record { words = z.0; homes = s.homes; views = z.1 }) (λ i. (sym (set_again_or s.words rule.one_word) i, sym (set_again s.views id v at) i)) rule,
      (refl, refl, λ x. sym (sum_alone (λ (u : SeatView). times x u.drawn) s.views id v at (λ j u at' other. idle x files word s rule id v at all j u at' other)) ∙ rule.each_once x ∙ enough_once x word files me.0.files own enough),
    )
