use Rattle.std.proofs.Common.{ap, subst}
use Rattle.std.specs.Io.KnownBytes.{Appends}
use Rattle.lx_listing.specs.Listings.{Printed, Prints, plainly, printed}
use Rattle.lx_listing.specs.ListedLaws.{prints_passed, progress_of}
use Rattle.lx_listing.specs.Printing.{printing}
use Rattle.lx_listing.proofs.Stepping.{in_step}
use Rattle.lx_listing.proofs.listing.ListingReader.take.Goals as goal

pub invariant_of-self : goal.invariant_of-self
invariant_of-self g c =
    let s = c.self.inside in
    in_step s.plan.now s.queue c.take.new.self (λ t. printing (plainly t.draft.plan) t.file t.number t.sink) (λ a bytes b. Appends (g.W.Write.contents a.out) (g.W.Write.contents b.out) bytes) c.self.invariant c.take.ensures.follows

pub returns-clause-follows : goal.returns-clause-follows
returns-clause-follows g c =
    let s = c.self.inside in
    let new = c.take.new.self in
    subst (λ (old : Printed). Prints old (printed (progress_of s.plan.now new) (g.W.Write.contents new.taker.sink.out))) c.self.view_is
    (prints_passed s.plan.now s.queue new (λ t. printing (plainly t.draft.plan) t.file t.number t.sink) (λ a bytes b. Appends (g.W.Write.contents a.out) (g.W.Write.contents b.out) bytes) (λ a. g.W.Write.contents a.out) (λ _ _ _ h. h) c.self.invariant.plan_is (ap plainly c.self.invariant.same) c.self.invariant.turn_is c.take.ensures.follows)
