use Rattle.std.proofs.Common.{◌≡◌, ℕ, arith, inl, inr, rules, subst}
use Rattle.std.proofs.lemmas.Bool.{cases_lt}
use Rattle.lx_reach.specs.Untaken.{TakesAll}
use Rattle.lx_reach.proofs.untaken.is_default_chosen.Goals as goal

pub loop-condition-preserved : goal.loop-condition-preserved
loop-condition-preserved c = λ k begin below.
    let m = c.args.tables.now.machine in
    elim (cases_lt k c.loop-condition.condition) as (λ _. TakesAll m k begin) [
      | inl less ↦ c.loop-condition.invariant k begin less
      | inr more ↦ (let same : c.loop-condition.condition ≡ k = omega arith in subst (λ (n : ℕ). TakesAll m n begin) same (c.takes_all_bytes.ensures.yes (search rules) begin))
    ]
