use Rattle.std.proofs.Common.{◌≡◌, ◌+◌, ◌≤◌, ap, ap₂, ◌∙◌, sym, subst, arith, length}
use Rattle.std.specs.Prelude.{slice_set}
use Rattle.lx_auto.specs.Counts.{newline_count}
use Rattle.lx_auto.specs.Marking.{flag}
use Rattle.lx_auto.specs.PositionSets.{newline_of}
use Rattle.lx_auto.specs.Following.{FollowsMarked, ReadsRule}
use Rattle.lx_auto.proofs.Followed.{follow_plain, follow_end, matched_plain, matched_end}
use Rattle.lx_auto.proofs.rules.rule_part.RulePart.step.Goals as goal

pub returns-then-not-self-clause-matched : goal.returns-then-not-self-clause-matched
returns-then-not-self-clause-matched c = λ r part.
    let is = sym part.line_end ∙ c.if-not-self.true in
    let ends = c.in_ok-ended.ensures.ended r part in
    let plain = matched_plain r c.args.marks.now is in
    ((λ x. plain.0 (ends.0 x)), (λ x. ends.1 (plain.1 x)))

pub returns-then-not-self-clause-reads : goal.returns-then-not-self-clause-reads
returns-then-not-self-clause-reads c = λ r part room clear.
    let is = sym part.line_end ∙ c.if-not-self.true in
    let within : c.args.self.now.base + c.args.self.now.count ≤ length c.args.reads.now.items = omega arith in
    follow_plain r c.args.marks.now c.args.reads.now.items c.follow.new.reads.items is (c.in_ok-ended.ensures.reads r part within clear)

pub returns-clause-matched : goal.returns-clause-matched
returns-clause-matched c = λ r part.
    let is = sym part.line_end ∙ c.if-not-self.false in
    let at : c.args.self.now.base + c.args.self.now.count ≡ newline_of r = ap₂ (λ a b. a + b) part.base part.count in
    let same = c.flag.ensures ∙ ap (λ i. flag c.args.marks.now i) at in
    let end = matched_end r c.args.marks.now is in
    ((λ x. end.0 (sym same ∙ x)), (λ x. same ∙ end.1 x))

pub returns-clause-reads : goal.returns-clause-reads
returns-clause-reads c = λ r part room clear.
    let self = c.args.self.now in
    let is = sym part.line_end ∙ c.if-not-self.false in
    let b = part.base in
    let k = part.count in
    let within : self.base + self.count ≤ length c.args.reads.now.items = omega arith in
    let n : newline_count self.line_end ≡ newline_count r.rule.reading.line_end = ap newline_count part.line_end in
    let at : self.base + self.count ≡ newline_of r = ap₂ (λ a b. a + b) part.base part.count in
    let set = c.set_flag.ensures.set ∙ ap (λ i. slice_set c.follow.new.reads.items i c.in_ok-ended.ended) at in
    subst (λ l. ReadsRule (FollowsMarked c.args.marks.now) r c.args.reads.now.items l) (sym set)
    (follow_end r c.args.marks.now c.args.reads.now.items c.follow.new.reads.items c.in_ok-ended.ended is (c.in_ok-ended.ensures.reads r part within clear)
    (omega arith) (c.in_ok-ended.ensures.ended r part))
