use Rattle.std.proofs.Common.{◌∙◌, ap, arith}
use Rattle.std.proofs.lemmas.List.{get_or_read}
use Rattle.lx_automaton.specs.Automata.{class_target}
use Rattle.lx_automaton.specs.Numbered.{encoded_option_of}
use Rattle.lx_automaton.proofs.Rows.{row_push}
use Rattle.lx_automaton.proofs.reordering.add_row.Goals as goal

pub loop-class-preserved : goal.loop-class-preserved
loop-class-preserved c =
    let m = c.args.automaton.now in
    let states = c.args.state_order.now.states.items in
    let encoded_options = c.args.state_order.now.encoded_options.items in
    rw c.in_ok-push.ensures.items (row_push m states encoded_options _ c.args.place c.loop-class.class _ c.loop-class.invariant (omega arith)
    (c.encoded_target-encoded_option.ensures ∙ ap (λ s. encoded_option_of encoded_options (class_target m s c.loop-class.class)) (get_or_read states c.args.place c.index.result.now c.requires.place c.index.ensures 0)))
