use Rattle.std.proofs.Common.{◌≡◌, ◌≢◌, ◌≤◌, vec_len, ◌∙◌, ◌+◌, ◌-◌, List, [], ◌∷◌, ◌++◌, ℕ, Bor, map, length, Option, Some, None, option_map, unwrap_or, refl, subst, sym, ap, arith, rules}
use Rattle.std.proofs.lemmas.Bool.{eqb-true}
use Rattle.std.proofs.lemmas.List.{length-append, length-map, map-append}
use Rattle.lx_forms.specs.declared.name_list.NameListFault.TheVariants.{NoName}
use Rattle.lx_forms.specs.NameLists.{HasRead, IsNoName}
use Rattle.lx_forms.proofs.NamesFront.{is_whole, no_list, read_all}
use Rattle.lx_forms.proofs.NamesRead.{no_name, read_more}
use Rattle.lx_forms.proofs.name_list.push_names.Goals as goal

abbrev text_of : Bor (List ℕ) → List ℕ
text_of name = name.now

rest_or : (o : Option (Bor (List ℕ))) (d : Bor (List ℕ)) → d.now ≡ [] → (unwrap_or o d).now ≡ unwrap_or (option_map text_of o) []
rest_or None d none = none
rest_or (Some rest) d none = refl

pub returns-in_default-clause-err : goal.returns-in_default-clause-err
returns-in_default-clause-err c =
    let names = c.loop-rest.names in
    let old = c.args.names.now in
    let held = names.ok.0 in
    let was = old.ok.0 in
    let some : c.loop-rest.rest.now ≢ [] = λ e. let none = ap length e in absurd (search rules) in
    let count : length (map text_of names.items) - length (map text_of old.items) + 1 ≡ c.len-in_default.result - c.len-begun.result + 1 =
    omega (arith, length-map names.items text_of, length-map old.items text_of, c.len-in_default.ensures, c.len-begun.ensures, held, was) in
    let few : c.len-in_default.result - c.len-begun.result + 1 ≤ c.args.most - vec_len c.args.names.now =
    (let read = c.loop-rest.invariant.0 in let split = ap length read.behind ∙ length-append (map text_of old.items) read.names in
    omega (arith, split, length-map names.items text_of, length-map old.items text_of, c.len-in_default.ensures, c.len-begun.ensures, c.len.ensures, c.if-len-most.false, held, was)) in (
      subst (IsNoName c.args.separator c.args.text.now) count
          (no_name c.args.separator c.args.text.now (map text_of old.items) (map text_of names.items) c.loop-rest.rest.now c.loop-rest.invariant.0 some c.first_part.result.0.now c.first_part.ensures.free
          (option_map text_of c.first_part.result.1) c.first_part.ensures.parts c.in_default.ensures),
      few,
    )

pub loop-rest-preserved : goal.loop-rest-preserved
loop-rest-preserved c =
    let separator = c.args.separator in
    let text = c.args.text.now in
    let old = map text_of c.args.names.now.items in
    let new = map text_of c.loop-rest.names.items in
    let part = c.first_part.result.0.now in
    let behind = option_map text_of c.first_part.result.1 in
    let some : c.loop-rest.rest.now ≢ [] = λ e. let none = ap length e in absurd (search rules) in
    let read = read_more separator text old new c.loop-rest.rest.now c.loop-rest.invariant.0 some part c.first_part.ensures.free c.in-Some.ensures.1 c.in-Some.ensures.2 behind c.first_part.ensures.parts in
    let names_are : map text_of c.push.new.self.items ≡ new ++ part ∷ [] =
    ap (map text_of) c.in_ok-push.ensures.items ∙ map-append text_of c.loop-rest.names.items (c.in-Some.name ∷ []) ∙ ap (λ n. new ++ n ∷ []) c.in-Some.ensures.0 in
    let rest_is : c.unwrap_or-rest.result.now ≡ unwrap_or behind [] = ap text_of c.unwrap_or-rest.ensures ∙ rest_or c.first_part.result.1 _ refl in (
      subst (λ rest. HasRead separator text old (map text_of c.push.new.self.items) rest) (sym rest_is) (subst (λ names. HasRead separator text old names (unwrap_or behind [])) (sym names_are) read),
      λ few. search rules,
    )

pub returns-in_default-clause-err_of_front : goal.returns-in_default-clause-err_of_front
returns-in_default-clause-err_of_front c = λ whole part. no_list c.args.separator (c.args.most - vec_len c.args.names.now) whole c.args.text.now (NoName (c.len-in_default.result - c.len-begun.result + 1)) part (returns-in_default-clause-err c)

pub returns-clause-ok_of_front : goal.returns-clause-ok_of_front
returns-clause-ok_of_front c = λ whole few part.
    let names = c.loop-rest.names in
    let old = c.args.names.now in
    let read = c.loop-rest.invariant.0 in
    let none : length c.loop-rest.rest.now ≡ 0 = eqb-true (length c.loop-rest.rest.now) 0 (sym c.loop-rest-test.ensures) in
    let within = c.loop-rest.invariant.1 few in
    let split = ap length read.behind ∙ length-append (map text_of old.items) read.names in
    let count : length read.names ≤ c.args.most - vec_len old = omega (arith, within, split, length-map names.items text_of, length-map old.items text_of, names.ok.0, old.ok.0) in
    is_whole c.args.separator (c.args.most - vec_len old) whole c.args.text.now read.names part (read_all c.args.separator c.args.text.now _ _ c.loop-rest.rest.now read none) count
