use Rattle.std.proofs.Common.{◌≤◌, ◌∙◌, sym, arith, codes, rules, List, ℕ, Result}
use Rattle.std.specs.Str.Parse.{ParsesUnsigned, ExplainsUnsignedError, HasUnsignedDigitsIfOk}
use Rattle.std.specs.declared.num.ParseIntError.{ParseIntError}
use Rattle.clap.proofs.WalkLemmas.{one_text-rows}
use Rattle.clap.specs.Words.{found_of, one_text}
use Rattle.lx_cli.specs.CommandLine.{max_number}
use Rattle.lx_cli.proofs.NumbersRead.{in_range, not_in_range}
use Rattle.lx_cli.proofs.reading.first_number_of.Goals as goal

abbrev Read : List ℕ → Result ℕ ParseIntError → Type 0
Read t r = ParsesUnsigned 32 10 t r × ExplainsUnsignedError 10 t r × HasUnsignedDigitsIfOk t r

pub returns-in-Some : goal.returns-in-Some
returns-in-Some c =
    let small : c.in-Some.first ≤ max_number = search rules in
    rw (← one_text-rows (found_of c.args.found.now) (codes "first"))
    (in_range 32 0 max_number 0 (λ n few. omega (arith, few)) (omega arith) Read (λ t x g. g.0) (one_text (found_of c.args.found.now) (codes "first")) c.get_one.result c.in-Some.first c.get_one.ensures.none c.get_one.ensures.value c.in-Some.is (omega arith) small)

pub returns-in-None : goal.returns-in-None
returns-in-None c =
    rw (← one_text-rows (found_of c.args.found.now) (codes "first"))
    (not_in_range 32 0 max_number 0 (λ n few. omega (arith, few)) (omega arith) Read (λ t x g. g.0) (one_text (found_of c.args.found.now) (codes "first")) c.get_one.result c.get_one.ensures.value
    (λ h. let is = sym c.in-None.is ∙ h.1 in cc))
