use Rattle.std.proofs.Common.{append_assoc, arith, ◌++◌, ◌∙◌}
use Rattle.std.specs.List.{flat_map, range_with_len}
use Rattle.std.specs.Prelude.{codes}
use Rattle.lx_automaton.specs.Automata.{state_count}
use Rattle.lx_c.proofs.Texts.{text_end}
use Rattle.lx_lex.specs.Arrays.{row_text, zero_entries}
use Rattle.lx_lex.proofs.arrays.push_rows.Goals as goal

pub returns : goal.returns
returns c =
    let m = c.args.automaton.now in
    text_end _ _ _ (state_count m) _ c.loop-state.invariant (omega arith)
    ∙ append_assoc c.args.text.now.items (zero_entries m ++ codes "\n") (flat_map (row_text m) (range_with_len 0 (state_count m)))
