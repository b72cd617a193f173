use Rattle.std.proofs.Common.{codes}
use Rattle.lx_c.proofs.Texts.{then_3}
use Rattle.lx_lex.specs.Arrays.{class_entries, end_class, head_text, named}
use Rattle.lx_lex.proofs.arrays.push_class_array.Goals as goal

pub returns : goal.returns
returns c =
    let m = c.args.automaton.now in
    then_3 c.push.result _ _ _ _ (head_text (end_class m) (named c.args.prefix.now (codes "class"))) (class_entries m) (codes "0};\n")
    (rw (c.from.ensures, c.classes.ensures.count) at c.in_ok-push_head.ensures) c.in_ok-push_classes.ensures c.push.ensures
