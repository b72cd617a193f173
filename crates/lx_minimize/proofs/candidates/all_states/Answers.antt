use Rattle.std.proofs.Common.{◌≡◌, ◌++◌, ◌∷◌, [], inl, inr, Contains, subst, arith}
use Rattle.std.proofs.lemmas.Bool.{cases_lt}
use Rattle.lx_minimize.proofs.Containing.{push_keeps, push_has, push_cases}
use Rattle.lx_minimize.proofs.candidates.all_states.Goals as goal

pub loop-state-preserved : goal.loop-state-preserved
loop-state-preserved c =
    let inv = c.loop-state.invariant in
    rw c.in_ok-push.ensures.items (record {
      below = λ s h. elim (push_cases c.loop-state.states.items _ s h) [
        | inl k ↦ let l = inv.below s k in omega arith
        | inr e ↦ omega arith
      ];
      all = λ s h. elim (cases_lt s c.loop-state.state) [
        | inl k ↦ push_keeps c.loop-state.states.items _ s (inv.all s k)
        | inr k ↦ let e : c.loop-state.state ≡ s = omega arith in subst (λ z. Contains (c.loop-state.states.items ++ c.loop-state.state ∷ []) z) e (push_has c.loop-state.states.items c.loop-state.state)
      ];
    })

pub returns : goal.returns
returns c =
    let e : c.loop-state.state ≡ c.args.count = (let f = c.loop-state.auto.state-end in let g = c.loop-state-test.false in omega arith) in
    rw e at c.loop-state.invariant
