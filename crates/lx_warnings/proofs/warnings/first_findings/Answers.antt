use Rattle.std.proofs.Common.{◌≡◌, All, min, true, ap, subst, sym, ◌∙◌, arith, length}
use Rattle.std.proofs.lemmas.List.{length_push}
use Rattle.std.proofs.lemmas.List.Elements.{All-push}
use Rattle.lx_warnings.specs.Kinds.{has_kind}
use Rattle.lx_warnings.specs.Told.{IsTold}
use Rattle.lx_warnings.specs.declared.warnings.Warning.{Warning}
use Rattle.lx_warnings.proofs.warnings.first_findings.Goals as goal
use Rattle.lx_warnings.proofs.warnings.first_findings.Goals.{then-len-most+in_ok-warning_of+in_ok-push, else-len-most}

pub loop-suspect-preserved : goal.loop-suspect-preserved
loop-suspect-preserved c =
    let Asked : Warning → Type 0 = λ warning. has_kind c.args.asked.now warning.kind ≡ true in
    elim c.if-len-most.branch [
      | then-len-most+in_ok-warning_of+in_ok-push w ↦
          let is = sym (ap (λ v. v.items) w.told-is ∙ w.in_ok-push.ensures.items) in
          record {
            told = subst (λ items. All (IsTold c.args.text.now) items) is (All-push (IsTold c.args.text.now) c.loop-suspect.told.items _ c.loop-suspect.invariant.told w.in_ok-warning_of.ensures.told);
            asked = subst (λ items. All Asked items) is (All-push Asked c.loop-suspect.told.items _ c.loop-suspect.invariant.asked (ap (λ kind. has_kind c.args.asked.now kind) w.in_ok-warning_of.ensures.kind ∙ sym c.contains.ensures ∙ c.if-not-contains.false));
            most =
                (let n = length_push c.loop-suspect.told.items w.in_ok-warning_of.field-0 in let l = c.len.ensures in let t = w.if-len-most.true in let s = c.saturating_add-count.ensures in
                subst (λ items. length items ≡ min c.saturating_add-count.result c.args.most) is (omega arith));
          }
      | else-len-most w ↦
          let is = sym (ap (λ v. v.items) w.told-is) in
          record {
            told = subst (λ items. All (IsTold c.args.text.now) items) is c.loop-suspect.invariant.told;
            asked = subst (λ items. All Asked items) is c.loop-suspect.invariant.asked;
            most =
                (let l = c.len.ensures in let t = w.if-len-most.false in let s = c.saturating_add-count.ensures in
                subst (λ items. length items ≡ min c.saturating_add-count.result c.args.most) is (omega arith));
          }
    ]
