use Rattle.std.proofs.Common.{◌∙◌, length, sym, ap, subst, arith}
use Rattle.std.specs.Prelude.{Contains}
use Rattle.lx_auto.specs.Marking.{flag}
use Rattle.lx_auto.specs.Sets.{AreFollowing}
use Rattle.lx_auto.proofs.Membership.{place_means}
use Rattle.lx_auto.proofs.SetFollowed.{AreMarksOf, marked_in, following, earliest}
use Rattle.lx_auto.proofs.sets.follow.follow.Goals as goal

pub step_rules-requires-clause-members : goal.step_rules-requires-clause-members
step_rules-requires-clause-members c =
    let long = c.requires.long in
    let total = length c.args.reads.now.items in
    let marks = c.deref.result.now in
    marked_in c.args.set.now total marks (record {
      long = ap length c.deref.ensures.value ∙ c.mark.ensures.long ∙ long;
      each = λ q l. ap (λ m. flag m q) c.deref.ensures.value ∙ c.mark.ensures.marks q (omega arith);
    })

pub returns-clause-next : goal.returns-clause-next
returns-clause-next c = λ spec rules numbered are clear.
    let long = c.requires.long in
    let total = length c.args.reads.now.items in
    let marks = c.deref.result.now in
    let of : AreMarksOf c.args.set.now total marks = record {
      long = ap length c.deref.ensures.value ∙ c.mark.ensures.long ∙ long;
      each = λ q l. ap (λ m. flag m q) c.deref.ensures.value ∙ c.mark.ensures.marks q (omega arith);
    } in
    let read = c.in_ok-matched.ensures.reads spec rules numbered are clear in
    let places = c.in_ok-matched.ensures.next spec rules numbered are clear c.new-next.ensures.items in
    subst (λ l. AreFollowing rules c.args.set.now l) (sym places)
    (following c.args.set.now total marks of rules c.args.parts.now are c.step_rules.new.reads.items read)

pub returns-clause-matched : goal.returns-clause-matched
returns-clause-matched c = λ spec rules numbered are.
    let long = c.requires.long in
    let total = length c.args.reads.now.items in
    let marks = c.deref.result.now in
    let of : AreMarksOf c.args.set.now total marks = record {
      long = ap length c.deref.ensures.value ∙ c.mark.ensures.long ∙ long;
      each = λ q l. ap (λ m. flag m q) c.deref.ensures.value ∙ c.mark.ensures.marks q (omega arith);
    } in
    earliest c.args.set.now total marks of rules c.args.parts.now are c.in_ok-matched.matched (c.in_ok-matched.ensures.matched spec rules numbered are)

pub returns-clause-clear_marks : goal.returns-clause-clear_marks
returns-clause-clear_marks c =
    let long = c.requires.long in
    c.unmark.ensures.clear (marked_in c.args.set.now (length c.args.reads.now.items) c.mark.new.marks.items (record {
      long = c.mark.ensures.long ∙ long;
      each = λ q l. c.mark.ensures.marks q (omega arith);
    }))

pub returns-clause-clear_reads : goal.returns-clause-clear_reads
returns-clause-clear_reads c = λ spec rules numbered are clear.
    let places = c.in_ok-matched.ensures.next spec rules numbered are clear c.new-next.ensures.items in
    c.unmark-2.ensures.clear (λ q t.
    subst (λ members. Contains members q) (sym (c.deref-2.ensures.value ∙ places)) ((place_means c.step_rules.new.reads.items q).1 t))
