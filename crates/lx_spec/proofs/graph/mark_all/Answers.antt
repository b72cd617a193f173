use Rattle.std.proofs.Common.{◌≡◌, ◌∙◌, ◌<◌, [], ◌∷◌, ◌++◌, List, ℕ, Bool, Global, take, false, true, length, get_or, ap, sym, subst, arith}
use Rattle.std.proofs.Math.ListN.{set}
use Rattle.std.specs.declared.vec.Vec.{Vec}
use Rattle.std.proofs.lemmas.List.{take_more}
use Rattle.std.proofs.lemmas.List.Elements.{Contains-get_or}
use Rattle.lx_spec.specs.Graph.{AreMarked}
use Rattle.lx_spec.proofs.Marks.{AreMarked-again, AreMarked-new, read_at}
use Rattle.lx_spec.proofs.graph.mark_all.Goals as goal
use Rattle.lx_spec.proofs.graph.mark_all.Goals.{then-not-index+in_ok-push, else-not-index}

pub index-requires : goal.index-requires
index-requires c =
    let ns = c.args.numbers.now in
    let k = c.loop-number.number-index in
    let below = c.requires (get_or ns k 0) (Contains-get_or ns k 0 c.loop-number-test.true) in
    omega (arith, below, c.loop-number.invariant.len)

pub index_mut-requires : goal.index_mut-requires
index_mut-requires c =
    let ns = c.args.numbers.now in
    let k = c.loop-number.number-index in
    let below = c.requires (get_or ns k 0) (Contains-get_or ns k 0 c.loop-number-test.true) in
    omega (arith, below, c.loop-number.invariant.len)

pub loop-number-preserved : goal.loop-number-preserved
loop-number-preserved c =
    let ns = c.args.numbers.now in
    let k = c.loop-number.number-index in
    let x = get_or ns k 0 in
    let seen = take k ns in
    let old = c.args.marks.now.items in
    let marks = c.loop-number.marks.items in
    let before = c.args.pending.now.items in
    let stack = c.loop-number.pending.items in
    let below = c.requires x (Contains-get_or ns k 0 c.loop-number-test.true) in
    let inside : x < length marks = omega (arith, below, c.loop-number.invariant.len) in
    let mark : get_or marks x false ≡ c.index.result.now = read_at marks x c.index.result.now false inside c.index.ensures in
    subst (λ (l : List ℕ). AreMarked l old c.if-not-index.marks.items before c.if-not-index.pending.items) (sym (take_more ns k 0 c.loop-number-test.true))
    (elim c.if-not-index.branch [
      | then-not-index+in_ok-push w ↦
          let new : c.if-not-index.marks.items ≡ set marks x true = ap (λ (v : Vec Bool Global). v.items) w.marks-is in
          let top : c.if-not-index.pending.items ≡ stack ++ x ∷ [] = ap (λ (v : Vec ℕ Global). v.items) w.pending-is ∙ w.in_ok-push.ensures.items in
          subst (λ (l : List Bool). AreMarked (seen ++ x ∷ []) old l before c.if-not-index.pending.items) (sym new)
          (subst (λ (l : List ℕ). AreMarked (seen ++ x ∷ []) old (set marks x true) before l) (sym top)
          (AreMarked-new seen old marks before stack c.loop-number.invariant x inside (mark ∙ w.if-not-index.true)))
      | else-not-index w ↦
          subst (λ (v : Vec Bool Global). AreMarked (seen ++ x ∷ []) old v.items before c.if-not-index.pending.items) (sym w.marks-is)
          (subst (λ (v : Vec ℕ Global). AreMarked (seen ++ x ∷ []) old marks before v.items) (sym w.pending-is)
          (AreMarked-again seen old marks before stack c.loop-number.invariant x (mark ∙ w.if-not-index.false)))
    ])
