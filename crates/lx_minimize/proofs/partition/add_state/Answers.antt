use Rattle.std.proofs.Common.{◌≡◌, ◌≢◌, ◌<◌, ℕ, length, slice_index, sym, ◌∙◌, ap, subst, arith}
use Rattle.std.proofs.lemmas.Grind.{get_or_default_zero}
use Rattle.lx_minimize.specs.Completion.{label_of}
use Rattle.lx_minimize.proofs.Labelled.{block_more}
use Rattle.lx_minimize.proofs.partition.add_state.Goals as goal

pub returns-clause-labels : goal.returns-clause-labels
returns-clause-labels c =
    let m = c.args.m.now in
    let state = c.args.state in
    let representatives = c.args.representatives.now.items in
    let held = c.args.representatives.now.ok.0 in
    let value : c.deref.result.now ≡ representatives = c.deref.ensures.value in
    let long : length c.deref.result.now ≡ length representatives = ap length value in
    let number : c.block_for-number.result ≡ length representatives = omega (arith, c.block_for-number.ensures.at_most, c.if-number-len.false, c.len.ensures) in
    let fresh = subst (λ list. (b : ℕ) → b < length list → label_of m (slice_index list b) ≢ label_of m state) value (c.block_for-number.ensures.fresh (number ∙ sym long)) in
    let label : c.index.result.now ≡ label_of m state = c.index.ensures ∙ get_or_default_zero m.labels.items state c.index.result.now (let inside = c.requires.state in omega arith) in
    rw (c.in_ok-push_state.ensures.more number, label, number) (block_more m representatives c.args.block_by_label.now.items state c.requires.state c.requires.labels fresh)
