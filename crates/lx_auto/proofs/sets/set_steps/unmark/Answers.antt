use Rattle.std.proofs.Common.{◌≡◌, ◌+◌, ℕ, true, drop, ◌∙◌, subst}
use Rattle.std.proofs.lemmas.List.{drop_more}
use Rattle.std.specs.Prelude.{Contains, slice_index}
use Rattle.lx_auto.specs.Marking.{flag}
use Rattle.lx_auto.proofs.BareMembers.{unmarked_more}
use Rattle.lx_auto.proofs.sets.set_steps.unmark.Goals as goal

pub loop-q-preserved : goal.loop-q-preserved
loop-q-preserved c =
    let set = c.args.set.now in
    let i = c.loop-q.q-index in
    let flags = c.loop-q.flags.items in
    record {
      long = c.set_flag.ensures.long ∙ c.loop-q.invariant.long;
      left = λ only q t.
          unmarked_more flags (slice_index set i) (drop (i + 1) set)
          (subst (λ members. (p : ℕ) → flag flags p ≡ true → Contains members p) (drop_more set i 0 c.loop-q-test.true) (c.loop-q.invariant.left only)) q
          (subst (λ new. flag new q ≡ true) c.set_flag.ensures.set t);
    }
