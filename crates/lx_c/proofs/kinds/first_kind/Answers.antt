use Rattle.std.proofs.Common.{ap, sym, ◌∙◌, [], false, arith}
use Rattle.lx_c.specs.Numbers.{above, returned_by}
use Rattle.lx_tables.specs.Model.{rule_at}
use Rattle.lx_c.proofs.Numbers.{above_more}
use Rattle.lx_c.proofs.kinds.first_kind.Goals as goal

pub loop-rule-preserved : goal.loop-rule-preserved
loop-rule-preserved c =
    let more = above_more (λ rule. returned_by rule.steps) 256 c.args.tables.now.rules c.loop-rule.rule (record { line_end = false; steps = [] }) (omega arith) in
    record {
      number = c.number_above_steps-first.ensures.number
          ∙ (ap (λ steps. above c.loop-rule.first (returned_by steps)) c.steps.ensures
          ∙ (ap (λ n. above n (returned_by (rule_at c.args.tables.now c.loop-rule.rule).steps)) c.loop-rule.invariant.number ∙ sym more));
      small = c.number_above_steps-first.ensures.small;
    }
