-- Runs of bytes that pass a test.
use Rattle.std.proofs.Common.{◌≡◌, ℕ, zero, suc, ◌+◌, ◌-◌, ◌<◌, ◌≤◌, Bool, true, false, ◌&&◌, cond, List, [], ◌∷◌, ◌++◌, length, take, drop, get_or, refl, ap, arith, length-append, inl, inr}
use Rattle.std.specs.List.{list_all}
use Rattle.std.proofs.lemmas.Grind.{common_steps}
use Rattle.std.proofs.lemmas.List.{drop_more}
use Rattle.std.proofs.lemmas.Bool.{false≢true, cases_lt}
use Rattle.lx_ere.specs.Escapes.{NoneFirst}
use Rattle.lx_ere.specs.Lexing.{run_len}

-- a run ends if no byte that passes follows, or at the limit
pub run_len-append : (test : ℕ → Bool) (n : ℕ) (run behind : List ℕ) → list_all test run ≡ true → length run ≤ n → (length run < n → NoneFirst test behind) → run_len test n (run ++ behind) ≡ length run
run_len-append test zero [] behind all le ends = refl
run_len-append test zero (d ∷ run) behind all le ends = absurd (omega (arith, le))
run_len-append test (suc n) [] [] all le ends = refl
run_len-append test (suc n) [] (c ∷ behind) all le ends = rw (ends (omega arith)) refl
run_len-append test (suc n) (d ∷ run) behind all le ends = go (test d) refl all (λ more. run_len-append test n run behind more (omega (arith, le)) (λ lt. ends (omega (arith, lt))))
  where
    go : (b : Bool) → test d ≡ b → (b && list_all test run) ≡ true → (list_all test run ≡ true → run_len test n (run ++ behind) ≡ length run) → cond b (suc (run_len test n (run ++ behind))) 0 ≡ suc (length run)
    go true e all rest = ap suc (rest all)
    go false e all rest = absurd (false≢true all)

-- in a text that continues after the run
pub run_whole : (test : ℕ → Bool) (run behind : List ℕ) → list_all test run ≡ true → NoneFirst test behind → run_len test (length (run ++ behind)) (run ++ behind) ≡ length run
run_whole test run behind all ends = run_len-append test (length (run ++ behind)) run behind all (omega (arith, length-append run behind)) (λ _. ends)

pub take_prefix : (xs ys : List ℕ) → take (length xs) (xs ++ ys) ≡ xs
take_prefix xs ys = grind (arith, common_steps)

pub drop_prefix : (xs ys : List ℕ) → drop (length xs) (xs ++ ys) ≡ ys
drop_prefix xs ys = grind (arith, common_steps)

-- the run that is found is one
pub record IsRun (test : ℕ → Bool) (n : ℕ) (text : List ℕ) : Type 0 where
  pub within : run_len test n text ≤ length text
  pub few : run_len test n text ≤ n
  pub passes : list_all test (take (run_len test n text) text) ≡ true
  pub ends : run_len test n text < n → NoneFirst test (drop (run_len test n text) text)

pub run_is : (test : ℕ → Bool) (n : ℕ) (text : List ℕ) → IsRun test n text
run_is test zero text = record { within = omega arith; few = omega arith; passes = refl; ends = λ lt. absurd (omega (arith, lt)) }
run_is test (suc n) [] = record { within = omega arith; few = omega arith; passes = refl; ends = λ _. tt }
run_is test (suc n) (c ∷ text) = go (test c) refl (run_is test n text)
  where
    go : (b : Bool) → test c ≡ b → IsRun test n text → IsRun test (suc n) (c ∷ text)
    go true e i = record {
      within = rw e (omega (arith, i.within));
      few = rw e (omega (arith, i.few));
      passes = rw e (rw e i.passes);
      ends = rw e (λ lt. i.ends (omega (arith, lt)));
    }
    go false e i = record { within = rw e (omega arith); few = rw e (omega arith); passes = rw e refl; ends = rw e (λ _. e) }

-- the same for a run that only the text bounds, with length n
pub record IsWholeRun (test : ℕ → Bool) (n : ℕ) (text : List ℕ) : Type 0 where
  pub len : length (take n text) ≡ n
  pub passes : list_all test (take n text) ≡ true
  pub ends : NoneFirst test (drop n text)
  pub joins : text ≡ take n text ++ drop n text

pub take_len : (k : ℕ) (text : List ℕ) → k ≤ length text → length (take k text) ≡ k
take_len k text h = grind (arith, common_steps)

pub rejoin : (k : ℕ) (text : List ℕ) → text ≡ take k text ++ drop k text
rejoin k text = grind (arith, common_steps)

pub whole_run_is : (test : ℕ → Bool) (n : ℕ) (text : List ℕ) → run_len test (length text) text ≡ n → IsWholeRun test n text
whole_run_is test n text e =
    let i : IsRun test (length text) text = run_is test (length text) text in
    let within : n ≤ length text = rw (← e) i.within in
    let ends : n < length text → NoneFirst test (drop n text) = rw (← e) i.ends in
    record { len = take_len n text within; passes = rw (← e) i.passes; ends = at_end n text within ends; joins = rejoin n text }
  where
    at_end : (n : ℕ) (text : List ℕ) → n ≤ length text → (n < length text → NoneFirst test (drop n text)) → NoneFirst test (drop n text)
    at_end n text within ends = elim (cases_lt n (length text)) [ inl lt ↦ ends lt | inr ge ↦ let none : drop n text ≡ [] = grind (arith, common_steps) in rw none tt ]

pub run_positive : (test : ℕ → Bool) (n c : ℕ) (text : List ℕ) → test c ≡ true → 0 < run_len test (suc n) (c ∷ text)
run_positive test n c text e = rw e (omega arith)
