use Rattle.std.proofs.Common.{◌++◌, ◌∙◌, ap, length}
use Rattle.std.specs.Prelude.{codes}
use Rattle.lx_lex.specs.Arrays.{class_array, cut_arrays_text, row_array}
use Rattle.lx_lex.proofs.arrays.cut_arrays_of.Goals as goal

pub returns : goal.returns
unfolding cut_arrays_text
returns c =
    let table = c.args.tables.now in
    (rw (c.automaton-automaton.ensures.machine, c.from-rules.ensures, c.rules.ensures.count) at c.in_ok-push_row_array.ensures)
    ∙ ap (λ bs. bs ++ row_array (codes "yy_cut_") table.machine (length table.rules))
    ((rw c.automaton-automaton.ensures.machine at c.in_ok-push_class_array.ensures) ∙ ap (λ bs. bs ++ class_array (codes "yy_cut_") table.machine) c.new-text.ensures.items)
