use Rattle.lx_c.proofs.Texts.{then_3}
use Rattle.lx_lex.specs.Arrays.{arrays_text, class_array, row_array, start_array}
use Rattle.lx_lex.proofs.arrays.push_arrays.Goals as goal

pub returns : goal.returns
unfolding arrays_text
returns c =
    let prefix = c.args.prefix.now in
    let m = c.args.automaton.now in
    then_3 c.push_start_array.result _ _ _ _ (class_array prefix m) (row_array prefix m c.args.numbers) (start_array prefix m c.args.numbers)
    c.in_ok-push_class_array.ensures c.in_ok-push_row_array.ensures c.push_start_array.ensures
