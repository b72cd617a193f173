use Rattle.std.proofs.Common.{length, ap, ◌++◌, ◌∙◌}
use Rattle.std.specs.Prelude.{codes}
use Rattle.lx_c.proofs.Texts.{three}
use Rattle.lx_lex.specs.Arrays.{arrays_text}
use Rattle.lx_lex.specs.Lists.{list_arrays_text, place_array, rule_array}
use Rattle.lx_lex.proofs.list_arrays.list_arrays_of.Goals as goal

pub returns-clause-arrays : goal.returns-clause-arrays
unfolding list_arrays_text
returns-clause-arrays c =
    let m = c.args.made.now.automaton in
    let lists = c.args.made.now.lists in
    let automaton = arrays_text (codes "yy_reject_") m (length lists) in
    three _ _ _ _ automaton (place_array lists) (rule_array lists)
    (rw c.count-count.ensures at c.in_ok-push_arrays.ensures) c.in_ok-push_place_array.ensures.places c.in_ok-push_rule_array.ensures
    ∙ ap (λ bs. bs ++ (automaton ++ place_array lists ++ rule_array lists)) c.new-text.ensures.items
