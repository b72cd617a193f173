use Rattle.std.proofs.Common.{◌≡◌, ◌*◌, ℕ, subst, arith}
use Rattle.lx_tables.specs.Joined.{AreEntries, joined_states, joined_width}
use Rattle.lx_tables.proofs.joining.entries_of.Goals as goal

pub returns : goal.returns
returns c =
    let all : c.loop-number.number ≡ joined_states c.args.tables.now = omega arith in
    subst (λ (n : ℕ). AreEntries c.args.tables.now c.loop-number.entries.items (n * joined_width c.args.tables.now)) all c.loop-number.invariant
