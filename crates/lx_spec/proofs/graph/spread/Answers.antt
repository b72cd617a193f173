use Rattle.std.proofs.Common.{◌≡◌, ◌<◌, ◌↔◌, ◌∷◌, ◌++◌, [], List, ℕ, Bool, length, vec_len, subst, refl, arith}
use Rattle.std.specs.Prelude.{Contains, IsTrue}
use Rattle.lx_spec.specs.Graph.{IsMention, is_marked}
use Rattle.lx_spec.proofs.Marks.{Spreading, Spreading-start, Spreading-top, Spreading-more, Spreading-done, mentioners-read, mentioner-below}
use Rattle.lx_spec.proofs.graph.spread.Goals as goal

pub loop-number-init : goal.loop-number-init
loop-number-init c = record {
  len = refl;
  spreading = Spreading-start c.args.mentions.now c.args.marks.items c.in_ok-pending.pending.items (subst (λ (l : List Bool). (i : ℕ) → Contains c.in_ok-pending.pending.items i ↔ IsTrue (is_marked l i)) c.deref.ensures.value c.in_ok-pending.ensures);
}

pub index-requires : goal.index-requires
index-requires c =
    let inside = Spreading-top c.args.mentions.now c.args.marks.items c.loop-number.marks.items c.pop.new.self.items c.loop-number.pending.items c.in-Some.number c.loop-number.invariant.spreading c.in-Some.ensures.items in
    omega (arith, inside, c.loop-number.invariant.len, c.in_ok-mentioners.ensures.len, c.len.ensures)

pub mark_all-requires : goal.mark_all-requires
mark_all-requires c = λ i at_i.
    let ms = c.args.mentions.now in
    let lists = c.in_ok-mentioners.mentioners.items in
    let j = c.in-Some.number in
    let inside = Spreading-top ms c.args.marks.items c.loop-number.marks.items c.pop.new.self.items c.loop-number.pending.items j c.loop-number.invariant.spreading c.in-Some.ensures.items in
    let within : j < length lists = omega (arith, inside, c.loop-number.invariant.len, c.in_ok-mentioners.ensures.len, c.len.ensures) in
    let each = mentioners-read ms lists j c.index.result.now c.deref-in-Some.result.now c.in_ok-mentioners.ensures.each within c.index.ensures c.deref-in-Some.ensures.value i in
    let below = mentioner-below ms (vec_len c.args.marks) i j c.requires (each.0 at_i) in
    omega (arith, below, c.loop-number.invariant.len)

pub loop-number-preserved : goal.loop-number-preserved
loop-number-preserved c =
    let ms = c.args.mentions.now in
    let initial = c.args.marks.items in
    let marks = c.loop-number.marks.items in
    let lists = c.in_ok-mentioners.mentioners.items in
    let j = c.in-Some.number in
    let rest = c.pop.new.self.items in
    let numbers = c.deref-in-Some.result.now in
    let inside = Spreading-top ms initial marks rest c.loop-number.pending.items j c.loop-number.invariant.spreading c.in-Some.ensures.items in
    let within : j < length lists = omega (arith, inside, c.loop-number.invariant.len, c.in_ok-mentioners.ensures.len, c.len.ensures) in
    let each : (i : ℕ) → Contains numbers i ↔ IsMention ms i j = mentioners-read ms lists j c.index.result.now numbers c.in_ok-mentioners.ensures.each within c.index.ensures c.deref-in-Some.ensures.value in
    let was : Spreading ms initial marks (rest ++ j ∷ []) = subst (Spreading ms initial marks) c.in-Some.ensures.items c.loop-number.invariant.spreading in
    record {
      len = let l = c.in_ok-mark_all.ensures.len in omega (arith, l, c.loop-number.invariant.len);
      spreading = Spreading-more ms initial marks c.mark_all.new.marks.items rest c.mark_all.new.pending.items numbers j was each c.in_ok-mark_all.ensures;
    }

pub returns-clause-led : goal.returns-clause-led
returns-clause-led c = λ i.
    let s = c.loop-number.invariant.spreading in
    let none : length c.loop-number.pending.items ≡ 0 = (let k = c.in_default.ensures.cases in omega (arith, k.0)) in
    (s.led i, Spreading-done c.args.mentions.now c.args.marks.items c.loop-number.marks.items c.loop-number.pending.items s none i)
