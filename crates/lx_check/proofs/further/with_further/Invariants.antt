use Rattle.std.proofs.Common.{option_map}
use Rattle.lx_check.proofs.Furthering.{GoesOn}
use Rattle.lx_check.proofs.further.with_further.Given as goal

abbrev pub invariant-loop-count : goal.invariant-loop-count
invariant-loop-count l = record {
  goes : GoesOn l.fn.most l.fn.left (option_map (λ text. text.items) l.fn.rest) l.fn.findings.items l._count l.left (option_map (λ text. text.items) l.rest) l.findings.items;
}
