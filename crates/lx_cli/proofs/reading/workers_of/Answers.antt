use Rattle.std.proofs.Common.{◌≡◌, ◌∙◌, sym, arith, codes, List, ℕ, Result}
use Rattle.std.specs.Str.Parse.{ParsesUnsigned, ExplainsUnsignedError, HasUnsignedDigitsIfOk}
use Rattle.std.specs.declared.num.ParseIntError.{ParseIntError}
use Rattle.clap.proofs.WalkLemmas.{one_text-rows}
use Rattle.clap.specs.Words.{found_of, one_text}
use Rattle.lx_piece.specs.Plans.{max_workers}
use Rattle.lx_cli.proofs.NumbersRead.{in_range, not_in_range}
use Rattle.lx_cli.proofs.reading.workers_of.Goals as goal

abbrev Read : List ℕ → Result ℕ ParseIntError → Type 0
Read t r = ParsesUnsigned 8 10 t r × ExplainsUnsignedError 10 t r × HasUnsignedDigitsIfOk t r

pub returns-in-Some-clause-workers : goal.returns-in-Some-clause-workers
returns-in-Some-clause-workers c =
    rw (← one_text-rows (found_of c.args.found.now) (codes "workers"))
    (in_range 8 1 max_workers c.args.default (λ n small. omega (arith, small)) (omega arith) Read (λ t x g. g.0) (one_text (found_of c.args.found.now) (codes "workers")) c.get_one.result c.in-Some.workers c.get_one.ensures.none c.get_one.ensures.value c.in-Some.is c.if-workers-gt0.true c.if-workers-le-MAX_WORKERS.true)

pub returns-in_default-clause-workers : goal.returns-in_default-clause-workers
returns-in_default-clause-workers c =
    rw (← one_text-rows (found_of c.args.found.now) (codes "workers"))
    (not_in_range 8 1 max_workers c.args.default (λ n small. omega (arith, small)) (omega arith) Read (λ t x g. g.0) (one_text (found_of c.args.found.now) (codes "workers")) c.get_one.result c.get_one.ensures.value
    (λ h. let is : c.in-Some.workers ≡ h.0 = let e = sym c.in-Some.is ∙ h.1 in cc in absurd (omega arith)))

pub returns-in_default-2-clause-workers : goal.returns-in_default-2-clause-workers
returns-in_default-2-clause-workers c =
    rw (← one_text-rows (found_of c.args.found.now) (codes "workers"))
    (not_in_range 8 1 max_workers c.args.default (λ n small. omega (arith, small)) (omega arith) Read (λ t x g. g.0) (one_text (found_of c.args.found.now) (codes "workers")) c.get_one.result c.get_one.ensures.value
    (λ h. let is : c.in-Some.workers ≡ h.0 = let e = sym c.in-Some.is ∙ h.1 in cc in absurd (omega arith)))

pub returns-in_default-3-clause-workers : goal.returns-in_default-3-clause-workers
returns-in_default-3-clause-workers c =
    rw (← one_text-rows (found_of c.args.found.now) (codes "workers"))
    (not_in_range 8 1 max_workers c.args.default (λ n small. omega (arith, small)) (omega arith) Read (λ t x g. g.0) (one_text (found_of c.args.found.now) (codes "workers")) c.get_one.result c.get_one.ensures.value
    (λ h. let is = sym c.in_default.is ∙ h.1 in cc))
