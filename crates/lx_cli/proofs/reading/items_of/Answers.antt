use Rattle.std.proofs.Common.{◌≡◌, ◌∙◌, sym, arith, codes, List, ℕ, Result}
use Rattle.std.specs.Str.Parse.{ParsesUnsigned, ExplainsUnsignedError, HasUnsignedDigitsIfOk}
use Rattle.std.specs.declared.num.ParseIntError.{ParseIntError}
use Rattle.clap.proofs.WalkLemmas.{one_text-rows}
use Rattle.clap.specs.Words.{found_of, one_text}
use Rattle.lx_piece.specs.Plans.{max_items}
use Rattle.lx_cli.proofs.NumbersRead.{in_range, not_in_range}
use Rattle.lx_cli.proofs.reading.items_of.Goals as goal

abbrev Read : List ℕ → Result ℕ ParseIntError → Type 0
Read t r = ParsesUnsigned 32 10 t r × ExplainsUnsignedError 10 t r × HasUnsignedDigitsIfOk t r

pub returns-in-Some-clause-items : goal.returns-in-Some-clause-items
returns-in-Some-clause-items c =
    rw (← one_text-rows (found_of c.args.found.now) (codes "items"))
    (in_range 32 1 max_items 256 (λ n small. omega (arith, small)) (omega arith) Read (λ t x g. g.0) (one_text (found_of c.args.found.now) (codes "items")) c.get_one.result c.in-Some.items c.get_one.ensures.none c.get_one.ensures.value c.in-Some.is c.if-items-gt0.true c.if-items-le-MAX_ITEMS.true)

pub returns-in_default-clause-items : goal.returns-in_default-clause-items
returns-in_default-clause-items c =
    rw (← one_text-rows (found_of c.args.found.now) (codes "items"))
    (not_in_range 32 1 max_items 256 (λ n small. omega (arith, small)) (omega arith) Read (λ t x g. g.0) (one_text (found_of c.args.found.now) (codes "items")) c.get_one.result c.get_one.ensures.value
    (λ h. let is : c.in-Some.items ≡ h.0 = let e = sym c.in-Some.is ∙ h.1 in cc in absurd (omega arith)))

pub returns-in_default-2-clause-items : goal.returns-in_default-2-clause-items
returns-in_default-2-clause-items c =
    rw (← one_text-rows (found_of c.args.found.now) (codes "items"))
    (not_in_range 32 1 max_items 256 (λ n small. omega (arith, small)) (omega arith) Read (λ t x g. g.0) (one_text (found_of c.args.found.now) (codes "items")) c.get_one.result c.get_one.ensures.value
    (λ h. let is : c.in-Some.items ≡ h.0 = let e = sym c.in-Some.is ∙ h.1 in cc in absurd (omega arith)))

pub returns-in_default-3-clause-items : goal.returns-in_default-3-clause-items
returns-in_default-3-clause-items c =
    rw (← one_text-rows (found_of c.args.found.now) (codes "items"))
    (not_in_range 32 1 max_items 256 (λ n small. omega (arith, small)) (omega arith) Read (λ t x g. g.0) (one_text (found_of c.args.found.now) (codes "items")) c.get_one.result c.get_one.ensures.value
    (λ h. let is = sym c.in_default.is ∙ h.1 in cc))
