use Rattle.std.proofs.Common.{◌≡◌, ◌∙◌, sym, arith, codes, List, ℕ, Result}
use Rattle.std.specs.Str.Parse.{ParsesUnsigned, ExplainsUnsignedError, HasUnsignedDigitsIfOk}
use Rattle.std.specs.declared.num.ParseIntError.{ParseIntError}
use Rattle.clap.proofs.WalkLemmas.{one_text-rows}
use Rattle.clap.specs.Words.{found_of, one_text}
use Rattle.lx_cli.specs.Limits.{most_told}
use Rattle.lx_cli.proofs.NumbersRead.{in_range, not_in_range}
use Rattle.lx_cli.proofs.reading.most_of.Goals as goal

abbrev Read : List ℕ → Result ℕ ParseIntError → Type 0
Read t r = ParsesUnsigned 8 10 t r × ExplainsUnsignedError 10 t r × HasUnsignedDigitsIfOk t r

pub returns-in-Some-clause-most : goal.returns-in-Some-clause-most
returns-in-Some-clause-most c =
    rw (← one_text-rows (found_of c.args.found.now) (codes "most"))
    (in_range 8 1 most_told 20 (λ n small. omega (arith, small)) (omega arith) Read (λ t x g. g.0) (one_text (found_of c.args.found.now) (codes "most")) c.get_one.result c.in-Some.most c.get_one.ensures.none c.get_one.ensures.value c.in-Some.is c.if-most-gt0.true c.if-most-le-MOST_TOLD.true)

pub returns-in_default-clause-most : goal.returns-in_default-clause-most
returns-in_default-clause-most c =
    rw (← one_text-rows (found_of c.args.found.now) (codes "most"))
    (not_in_range 8 1 most_told 20 (λ n small. omega (arith, small)) (omega arith) Read (λ t x g. g.0) (one_text (found_of c.args.found.now) (codes "most")) c.get_one.result c.get_one.ensures.value
    (λ h. let is : c.in-Some.most ≡ h.0 = let e = sym c.in-Some.is ∙ h.1 in cc in absurd (omega arith)))

pub returns-in_default-2-clause-most : goal.returns-in_default-2-clause-most
returns-in_default-2-clause-most c =
    rw (← one_text-rows (found_of c.args.found.now) (codes "most"))
    (not_in_range 8 1 most_told 20 (λ n small. omega (arith, small)) (omega arith) Read (λ t x g. g.0) (one_text (found_of c.args.found.now) (codes "most")) c.get_one.result c.get_one.ensures.value
    (λ h. let is : c.in-Some.most ≡ h.0 = let e = sym c.in-Some.is ∙ h.1 in cc in absurd (omega arith)))

pub returns-in_default-3-clause-most : goal.returns-in_default-3-clause-most
returns-in_default-3-clause-most c =
    rw (← one_text-rows (found_of c.args.found.now) (codes "most"))
    (not_in_range 8 1 most_told 20 (λ n small. omega (arith, small)) (omega arith) Read (λ t x g. g.0) (one_text (found_of c.args.found.now) (codes "most")) c.get_one.result c.get_one.ensures.value
    (λ h. let is = sym c.in_default.is ∙ h.1 in cc))
