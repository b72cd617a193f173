use Rattle.std.proofs.Common.{◌≡◌, ◌∙◌, ◌++◌, ◌∷◌, [], Bool, nat_eq, List, ℕ, Option, Some, None, ap, sym, cond, length, arith}
use Rattle.std.specs.Prelude.{is_some}
use Rattle.std.specs.Cmp.Lexicographic.{pointwise}
use Rattle.std.specs.List.{position}
use Rattle.std.specs.Option.{option_or}
use Rattle.std.specs.declared.alloc.Global.{Global}
use Rattle.std.specs.declared.vec.Vec.{Vec}
use Rattle.std.proofs.lemmas.List.{map_push, length-map}
use Rattle.lx_rules.specs.views.Rules.{names_view}
use Rattle.lx_spec.proofs.Indexing.{position-any, position-push}
use Rattle.lx_spec.proofs.kind_index.with_name.Goals as goal

pub returns-then-is_some-clause-kinds : goal.returns-then-is_some-clause-kinds
returns-then-is_some-clause-kinds c =
    let kinds = names_view c.args.index.kinds.items in
    let p : List ℕ → Bool = λ k. pointwise nat_eq k c.args.text.now in
    sym (ap (λ (b : Bool). cond b kinds (kinds ++ c.args.text.now ∷ [])) (sym (position-any p kinds) ∙ ap is_some (sym c.place_of.ensures) ∙ sym c.is_some.ensures ∙ c.if-is_some.true))

grown : (kinds new : List (Vec ℕ Global)) (kind : Vec ℕ Global) (text : List ℕ) → new ≡ kinds ++ kind ∷ [] → kind.items ≡ text → names_view new ≡ names_view kinds ++ text ∷ []
grown kinds new kind text pushed same = ap names_view pushed ∙ map_push (λ (k : Vec ℕ Global). k.items) kinds kind ∙ ap (λ (k : List ℕ). names_view kinds ++ k ∷ []) same

pub invariant_of-result : goal.invariant_of-result
invariant_of-result c = record {
  exact = λ text.
      let kinds = names_view c.args.index.kinds.items in
      let p : List ℕ → Bool = λ k. pointwise nat_eq k text in
      let len : c.len.result ≡ length kinds = omega (arith, c.len.ensures, length-map c.args.index.kinds.items (λ (k : Vec ℕ Global). k.items)) in
      c.in_ok-add_number.ensures text ∙ ap (λ (o : Option ℕ). option_or o (cond (p c.args.text.now) (Some c.len.result) None)) (c.args.index.exact text)
      ∙ ap (λ (n : ℕ). option_or (position p kinds) (cond (p c.args.text.now) (Some n) None)) len ∙ sym (position-push p kinds c.args.text.now) ∙ sym (ap (position p) (grown c.args.index.kinds.items c.push.new.self.items c.in_ok-from_slice.field-0 c.args.text.now c.in_ok-push.ensures.items c.in_ok-from_slice.ensures.items));
}

pub returns-clause-kinds : goal.returns-clause-kinds
returns-clause-kinds c =
    let kinds = names_view c.args.index.kinds.items in
    let p : List ℕ → Bool = λ k. pointwise nat_eq k c.args.text.now in
    grown c.args.index.kinds.items c.push.new.self.items c.in_ok-from_slice.field-0 c.args.text.now c.in_ok-push.ensures.items c.in_ok-from_slice.ensures.items ∙ sym (ap (λ (b : Bool). cond b kinds (kinds ++ c.args.text.now ∷ [])) (sym (position-any p kinds) ∙ ap is_some (sym c.place_of.ensures) ∙ sym c.is_some.ensures ∙ c.if-is_some.false))
