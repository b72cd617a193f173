use Rattle.std.proofs.Common.{◌≡◌, ℕ, [], ◌∷◌, refl, replicate, rules}
use Rattle.lx_minimize.proofs.Completing.{completion_of_lists}
use Rattle.lx_minimize.proofs.complete.completion_of.Goals as goal

pub returns : goal.returns
returns c =
    let zeros : c.in_ok-next.next.items ≡ replicate {A = ℕ} c.args.automaton.now.width 0 = search rules in
    let zero_first : c.in_ok-labels.labels.items ≡ 0 ∷ [] = search rules in
    completion_of_lists c.args.automaton.now c.encoded_rules.result.now c.encoded_targets.result.now _ c.classes-width.ensures.machine c.encoded_rules.ensures c.encoded_targets.ensures c.classes-width.ensures.count
    (rw (c.in_ok-extend_from_slice.ensures.items, zeros) refl)
    (rw (c.in_ok-extend_from_slice-2.ensures.items, zero_first) refl)
