use Rattle.lx_scan.proofs.Stepping.{HasRead}
use Rattle.lx_scan.proofs.choice.last_accepted.Given as goal

abbrev pub invariant-loop-i : goal.invariant-loop-i
invariant-loop-i l = HasRead l.tables l.condition l.begin l.text l.i l.state.0 l.last
