use Rattle.std.proofs.Common.{◌≡◌, ◌∙◌, ℕ, List, Option, Some, None, ap, ap₂, sym, nat_eq, cond, get_or, take, add-one}
use Rattle.std.specs.Cmp.Lexicographic.{pointwise}
use Rattle.std.specs.Option.{option_or}
use Rattle.std.proofs.lemmas.List.{take_all}
use Rattle.lx_auto.specs.NameViews.{place_of}
use Rattle.lx_rules.specs.declared.definition.Definition.{Definition}
use Rattle.lx_auto.proofs.Naming.{place-more}
use Rattle.lx_auto.proofs.unfolding.names.index_names.Goals as goal

pub loop-i-preserved : goal.loop-i-preserved
loop-i-preserved c = λ name.
    let here : Definition = c.index-definitions-i.result in
    let same : c.deref.result.now ≡ (get_or c.args.definitions.now c.loop-i.i here).name.items = cc in
    c.in_ok-add_number.ensures name
    ∙ ap₂ (λ (o : Option ℕ) (l : List ℕ). option_or o (cond (pointwise nat_eq l name) (Some c.loop-i.i) None)) (c.loop-i.invariant name) same
    ∙ sym (place-more c.args.definitions.now c.loop-i.i name here c.loop-i-test.true) ∙ ap (λ (k : ℕ). place_of (take k c.args.definitions.now) name) (sym (add-one c.loop-i.i))

pub invariant_of-result : goal.invariant_of-result
invariant_of-result c = record { exact = λ name. c.loop-i.invariant name ∙ ap (λ (l : List Definition). place_of l name) (take_all c.loop-i.i c.args.definitions.now c.loop-i-test.false) }
