use Rattle.std.proofs.Common.{ℕ, ◌<◌, inl, inr, sym, ◌∙◌}
use Rattle.std.proofs.lemmas.Bool.{both_ways}
use Rattle.lx_piece.specs.Plans.{files_of}
use Rattle.lx_piece.specs.Relayed.{AreAllAmongBy}
use Rattle.lx_piece.proofs.AllCut.{all_came}
use Rattle.lx_piece.proofs.plan_pieces.relay_plan.Goals as goal

-- no piece was refused, so every piece of every file came
pub returns-clause-ok : goal.returns-clause-ok
returns-clause-ok g c = λ file within.
    let e = c.in_ok-_replies.ensures in
    let plan = c.args.plan.now in
    let came : (f : ℕ) → f < files_of plan → AreAllAmongBy g.M.Maker.made plan f e.ok.came = elim e.ended [
      | inl refused ↦ absurd (both_ways c.relay_of.new.arrivals.refused (sym c.is_refused.ensures ∙ c.if-is_refused.false) refused)
      | inr done ↦ all_came g.M.Maker.made plan c.new-pieces.result c.relay_of.new.arrivals e.ok.came c.new-pieces.ensures e.ok.led done
    ] in
    e.ok.whole file within (came file within)
