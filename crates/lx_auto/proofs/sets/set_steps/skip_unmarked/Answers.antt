use Rattle.std.proofs.Common.{inl, inr, arith}
use Rattle.std.proofs.lemmas.Bool.{cases_lt}
use Rattle.lx_auto.proofs.sets.set_steps.skip_unmarked.Goals as goal

pub stretches-preserved : goal.stretches-preserved
stretches-preserved c =
    let later = c.stretches.invariant.later in
    let few = c.min-count.ensures in
    record {
      later = omega arith;
      within = λ inside. omega (arith, few);
      bare = λ q low high. elim (cases_lt q c.stretches.until) [
        | inl before ↦ c.stretches.invariant.bare q low before
        | inr behind ↦ c.has_flag.ensures c.if-has_flag.false q (omega arith) (omega arith)
      ];
    }
