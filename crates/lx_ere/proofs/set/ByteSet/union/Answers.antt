use Rattle.std.proofs.Common.{◌≡◌, ℕ, Bool, ◌+◌, ◌≤◌, ◌<◌, sym, subst, ◌∙◌, arith}
use Rattle.std.specs.FinSet as byte_sets
use Rattle.lx_ere.specs.Bytes.{bytes_where}
use Rattle.lx_ere.specs.ByteLaws.{filled, fill_start, fill_with, fill_without, fill_end}
use Rattle.lx_ere.proofs.set.ByteSet.union.Goals as goal
use Rattle.lx_ere.proofs.set.ByteSet.union.Goals.{then-has, else-has}

pub loop-byte-init : goal.loop-byte-init
loop-byte-init c = record {
  within = omega arith;
  added = c.duplicate-union.ensures.listed ∙ fill_start (λ b. byte_sets.contains c.args.other.now b) (λ b. byte_sets.contains c.args.self.now b);
}

pub returns-after-has : goal.returns-after-has
returns-after-has c =
    let other : ℕ → Bool = λ b. byte_sets.contains c.args.other.now b in
    let own : ℕ → Bool = λ b. byte_sets.contains c.args.self.now b in
    let at : ℕ = c.loop-byte.byte in
    let next : c.if-has.union ≡ filled other own (at + 1) = elim c.if-has.branch [
      | then-has w ↦ w.union-is ∙ (w.insert.ensures _ c.loop-byte.invariant.added ∙ fill_with other own at (sym c.has.ensures ∙ w.if-has.true))
      | else-has w ↦ w.union-is ∙ (c.loop-byte.invariant.added ∙ fill_without other own at (sym c.has.ensures ∙ w.if-has.false))
    ] in
    next ∙ fill_end other own (at + 1) (omega arith)

pub loop-byte-preserved : goal.loop-byte-preserved
loop-byte-preserved c =
    let other : ℕ → Bool = λ b. byte_sets.contains c.args.other.now b in
    let own : ℕ → Bool = λ b. byte_sets.contains c.args.self.now b in
    let at : ℕ = c.loop-byte.byte in
    record {
      within = omega arith;
      added = elim c.if-has.branch [
        | then-has w ↦ w.union-is ∙ (w.insert.ensures _ c.loop-byte.invariant.added ∙ fill_with other own at (sym c.has.ensures ∙ w.if-has.true))
        | else-has w ↦ w.union-is ∙ (c.loop-byte.invariant.added ∙ fill_without other own at (sym c.has.ensures ∙ w.if-has.false))
      ];
    }
