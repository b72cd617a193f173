-- A loop over a run of bytes that pass a test. All here are proofs, of which only the statements need be read.
use Rattle.std.proofs.Common.{◌≡◌, ℕ, zero, suc, ◌+◌, ◌-◌, ◌<◌, ◌≤◌, Bool, true, false, List, [], ◌∷◌, length, drop, get_or, refl, arith}
use Rattle.std.proofs.lemmas.Grind.{common_steps}
use Rattle.std.proofs.lemmas.List.{drop_more}
use Rattle.lx_ere.specs.Lexing.{run_len}

-- one byte more of a run, for a loop
pub run_more : (test : ℕ → Bool) (limit n : ℕ) (text : List ℕ) → n < limit → n < length text → test (get_or text n 0) ≡ true →
    run_len test (limit - n) (drop n text) ≡ suc (run_len test (limit - (n + 1)) (drop (n + 1) text))
run_more test limit n text lt within passes =
    let e : limit - n ≡ suc (limit - (n + 1)) = omega arith in
    rw (e, drop_more text n 0 within, passes) refl

pub run_stop : (test : ℕ → Bool) (limit n : ℕ) (text : List ℕ) → n < length text → test (get_or text n 0) ≡ false → run_len test (limit - n) (drop n text) ≡ 0
run_stop test limit n text within fails = go (limit - n)
  where
    go : (m : ℕ) → run_len test m (drop n text) ≡ 0
    go zero = refl
    go (suc m) = rw (drop_more text n 0 within, fails) refl

pub run_none : (test : ℕ → Bool) (limit n : ℕ) (text : List ℕ) → length text ≤ n → run_len test (limit - n) (drop n text) ≡ 0
run_none test limit n text past = let none : drop n text ≡ [] = grind (arith, common_steps) in rw none (go (limit - n))
  where
    go : (m : ℕ) → run_len test m [] ≡ 0
    go zero = refl
    go (suc m) = refl

pub run_full : (test : ℕ → Bool) (limit n : ℕ) (text : List ℕ) → limit ≤ n → run_len test (limit - n) (drop n text) ≡ 0
run_full test limit n text past = let none : limit - n ≡ 0 = omega arith in rw none refl

pub ruleset run_steps = (run_more, run_stop, run_none, run_full, common_steps)
