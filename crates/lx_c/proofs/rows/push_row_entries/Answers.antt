use Rattle.std.proofs.Common.{append_assoc, arith, ◌++◌, ◌∙◌}
use Rattle.std.specs.Prelude.{codes}
use Rattle.lx_c.specs.Rows.{row_lines, zero_entries}
use Rattle.lx_automaton.specs.Automata.{state_count}
use Rattle.lx_c.proofs.Texts.{text_end}
use Rattle.lx_c.proofs.rows.push_row_entries.Goals as goal

pub returns : goal.returns
returns c =
    text_end _ _ _ (state_count c.args.tables.now.machine) _ c.loop-state.invariant (omega arith)
    ∙ append_assoc c.args.text.now.items (zero_entries c.args.tables.now.machine ++ codes "\n") (row_lines c.args.tables.now.machine)
