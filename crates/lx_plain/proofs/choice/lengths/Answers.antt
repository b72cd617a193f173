use Rattle.std.proofs.Common.{ℕ, List}
use Rattle.std.proofs.lemmas.Result.{IfOk-weaker}
use Rattle.lx_ere.specs.Regex.{regex_of}
use Rattle.lx_ere.specs.Matching.{Matches}
use Rattle.lx_rules.specs.Choice.{SpecNames}
use Rattle.lx_rules.specs.views.Specs.{spec_view}
use Rattle.lx_plain.specs.Places.{AreEnds, AreLengths}
use Rattle.lx_plain.proofs.PlaceLemmas.{lengths_from_ends}
use Rattle.lx_plain.proofs.choice.lengths.Goals as goal

pub returns : goal.returns
unfolding SpecNames
returns c =
    let L : List ℕ → Type 0 = Matches (SpecNames (spec_view c.args.spec.now)) (regex_of c.args.expr.now) in
    IfOk-weaker c.ends.result (AreEnds L c.args.text.now c.in_ok-front.front) (AreLengths L c.args.text.now) (λ ends. lengths_from_ends L c.args.text.now c.in_ok-front.front ends c.in_ok-front.ensures) (rw c.deref.ensures.value at c.ends.ensures)
