use Rattle.std.proofs.Common.{◌++◌, length, drop, ap, sym, ◌∙◌}
use Rattle.lx_post.specs.Notes.{fault_with, first_fault}
use Rattle.lx_post.specs.Posted.{Taken}
use Rattle.lx_post.proofs.Comings.{since_push, before_since, fault_push}
use Rattle.lx_post.proofs.post_arrivals.NoteArrivals.next_note.Goals as goal

pub invariant_of-self-2 : goal.invariant_of-self-2
invariant_of-self-2 g c =
    let before = c.self.inside.first.value.received in
    let all = c.self.inside.pass.received in
    let note = c.in_ok-note.note in
    let was = c.self.invariant in
    let pass = c.in_ok-note.ensures.some.1 in
    let grown = ap (λ (p : Taken _). p.received) pass in
    let since = ap (drop (length before)) grown ∙ since_push before all note was.1 in (
      (ap (λ (p : Taken _). p.queue) pass ∙ was.0.0, ap (λ (p : Taken _). p.workers) pass ∙ was.0.1),
      grown ∙ before_since before all note was.1 ∙ ap (λ l. before ++ drop (length before) l) (sym grown),
      c.fault_with-self-inside.ensures ∙ ap (λ f. fault_with f note) was.2 ∙ sym (fault_push (drop (length before) all) note) ∙ ap first_fault (sym since),
    )
