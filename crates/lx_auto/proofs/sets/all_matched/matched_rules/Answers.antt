use Rattle.std.proofs.Common.{◌∙◌, length, ap}
use Rattle.lx_auto.specs.Marking.{flag}
use Rattle.lx_auto.proofs.SetFollowed.{AreMarksOf, marked_in, matched_is, all_matched}
use Rattle.lx_auto.proofs.sets.all_matched.matched_rules.Goals as goal

pub returns-clause-matched : goal.returns-clause-matched
returns-clause-matched c = λ rules are none.
    let set = c.args.set.now in
    let total = length c.args.marks.now.items in
    let marks = c.deref.result.now in
    let of : AreMarksOf set total marks = record {
      long = ap length c.deref.ensures.value ∙ c.mark.ensures.long;
      each = λ q l. ap (λ m. flag m q) c.deref.ensures.value ∙ c.mark.ensures.marks q l;
    } in
    all_matched set total marks of rules c.args.parts.now are c.in_ok-found.found.items
    (c.in_ok-found.ensures rules total are (λ i less h. none i less ((matched_is set total marks of rules c.args.parts.now are i).0 h)))

pub returns-clause-clear : goal.returns-clause-clear
returns-clause-clear c =
    c.unmark.ensures.clear (marked_in c.args.set.now (length c.args.marks.now.items) c.mark.new.marks.items (record {
      long = c.mark.ensures.long;
      each = λ q l. c.mark.ensures.marks q l;
    }))
