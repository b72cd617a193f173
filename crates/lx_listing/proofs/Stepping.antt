-- One call of a listing, which passes a piece on.
use Rattle.std.proofs.Common.{ℕ, inl, inr, List, sym, ◌∙◌, subst}
use Rattle.std.proofs.lemmas.Bool.{both_ways, cases_Bool}
use Rattle.lx_piece.specs.Passing.{Passing}
use Rattle.lx_piece.specs.Plans.{Planned}
use Rattle.lx_piece.specs.Turns.{IsTurnBy}
use Rattle.lx_listing.specs.ListedLaws.{Passed}
use Rattle.lx_listing.specs.Printing.{IsInStep, Printing}

-- the invariant between two calls
pub in_step : {S T : Type 0} (plan : Planned) (old new : Passing T) (at : T → Printing S) (wrote : S → List ℕ → S → Type 0) → IsInStep plan (at old.taker).listed.plan (at old.taker).turn old.counts old.failed → Passed wrote at old new → IsInStep plan (at new.taker).listed.plan (at new.taker).turn new.counts new.failed
in_step plan old new at wrote s passed =
    record {
      same = passed.same ∙ s.same;
      plan_is = s.plan_is;
      turn_is = λ going. elim (cases_Bool old.failed) [
        | inl failed ↦ absurd (both_ways new.failed going (passed.stopped failed).0)
        | inr working ↦
            subst (λ (p : Planned). IsTurnBy p new.counts (at new.taker).turn) (passed.same ∙ s.same)
            (passed.turned working going (subst (λ (p : Planned). IsTurnBy p old.counts (at old.taker).turn) (sym s.same) (s.turn_is working)))
      ];
    }
