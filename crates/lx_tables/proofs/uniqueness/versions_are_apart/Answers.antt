use Rattle.std.proofs.Common.{◌≡◌, ℕ, List, ap, arith}
use Rattle.std.specs.Prelude.{slice_index}
use Rattle.lx_tables.specs.Texts.{text_1, text_2}
use Rattle.lx_tables.proofs.uniqueness.versions_are_apart.Goals as goal

-- the number of the version is at place 10
pub returns : goal.returns
returns c = λ s t e.
    let same : slice_index (text_1 s) 10 ≡ slice_index (text_2 t) 10 = ap (λ (text : List ℕ). slice_index text 10) e in
    let digits : ◌≡◌ {A = ℕ} 49 50 = same in
    absurd (omega (arith, digits))
