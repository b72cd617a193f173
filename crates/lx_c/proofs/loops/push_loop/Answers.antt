use Rattle.std.proofs.Common.{Some, codes, rules}
use Rattle.lx_automaton.specs.Automata.{accepted_by}
use Rattle.std.specs.Prelude.{◌==◌}
use Rattle.lx_c.specs.StateCode.{loop_head, step_count}
use Rattle.lx_c.proofs.Texts.{then_3, when_false}
use Rattle.lx_c.specs.Templates.{number_then}
use Rattle.lx_c.specs.Words.{rule_word}
use Rattle.lx_c.proofs.loops.push_loop.Goals as goal

pub returns : goal.returns
returns c =
    let m = c.args.code.tables.now.machine in
    let s = c.args.state in
    when_false c.push_number_then.result (step_count m s (Some s) == 0) _ _ _ _ (search rules)
    (then_3 c.push_number_then.result _ _ _ _ (loop_head c.args.code.options.now c.args.code.nul_ends m s) (codes ", ") (number_then (rule_word (accepted_by m s)) (codes ")\n"))
    c.in_ok-push_loop_head.ensures c.in_ok-push.ensures (rw (c.from.ensures, c.rule_word.ensures) at c.push_number_then.ensures))
