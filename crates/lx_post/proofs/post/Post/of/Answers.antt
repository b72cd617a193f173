use Rattle.std.proofs.Common.{◌≡◌, ◌<◌, ◌+◌, [], ◌∷◌, get_or, sym, ◌∙◌, ap, arith}
use mathlib.Core.Logic.{dite}
use native.Mathlib.Decide.{dec_lt}
use Rattle.std.proofs.lemmas.List.{get_or_append_left, get_or_push}
use Rattle.std.proofs.lemmas.Option.{slice_get_read}
use Rattle.lx_post.specs.declared.post_rule.PassView.{PassView}
use Rattle.lx_post.specs.Posted.{fresh_send}
use Rattle.lx_post.specs.Posting.{no_worker, taker}
use Rattle.lx_post.proofs.post.Post.of.Goals as goal

pub loop-worker-preserved : goal.loop-worker-preserved
loop-worker-preserved g c =
    let inv = c.loop-worker.invariant in
    let worker = c.loop-worker.worker in
    let others = c.loop-worker.passes.items in
    let added = c.add_worker-other.ensures in
    let pushed = c.push_reserved.ensures in
    record {
      post = added.post;
      known = added.next ∙ ap (λ (v : PassView _). taker v.plan (worker + 1) [] no_worker []) inv.known;
      room = (let same = pushed.capacity in let room = inv.room in omega arith);
      count = (let more = pushed.len in let count = inv.count in omega arith);
      passes = λ w d lt.
          ap (λ passes. get_or passes w d) pushed.items
          ∙ dite (dec_lt w worker)
          (λ before. get_or_append_left others (c.add_worker-other.result ∷ []) d w (let count = inv.count in let long = c.loop-worker.passes.ok.0 in omega arith) ∙ inv.passes w d before)
          (λ not.
          let same : w ≡ worker = omega arith in
          get_or_push others c.add_worker-other.result d w (let count = inv.count in let long = c.loop-worker.passes.ok.0 in omega arith)
          ∙ added.pass
          ∙ ap (λ (v : PassView _). fresh_send c.in_ok-post.post v.plan worker) inv.known
          ∙ ap (fresh_send c.in_ok-post.post c.args.plan.now) (sym same));
    }

pub returns-clause-passes : goal.returns-clause-passes
returns-clause-passes g c w lt =
    let all = c.loop-worker.invariant in
    let done = c.loop-worker.auto.worker-end in
    let within : w < c.loop-worker.worker = omega arith in
    slice_get_read c.loop-worker.passes.items c.args.workers w _ (omega arith) lt (sym (all.passes w _ within))
