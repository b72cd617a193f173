-- Steps by a line, and the length of the rest.
use Rattle.std.proofs.Common.{ℕ, zero, suc, ◌≡◌, List, sym, subst}
use Rattle.lx_diagnose.specs.Places.{behind_line, behind_lines}

pub step_on : (m k : ℕ) (rest next whole : List ℕ) → k ≡ suc m → next ≡ behind_line rest → behind_lines k rest ≡ whole → behind_lines m next ≡ whole
unfolding behind_lines
step_on m k rest next whole e f h =
    subst (λ s. behind_lines m s ≡ whole) (sym f) (subst (λ j. behind_lines j rest ≡ whole) e h)

pub none_left : (k : ℕ) (rest whole : List ℕ) → k ≡ zero → behind_lines k rest ≡ whole → rest ≡ whole
unfolding behind_lines
none_left k rest whole e h = subst (λ j. behind_lines j rest ≡ whole) e h
