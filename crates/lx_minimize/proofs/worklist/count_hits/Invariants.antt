use Rattle.std.proofs.Common.{◌≡◌, vec_len}
use Rattle.lx_minimize.proofs.worklist.count_hits.Given as goal

abbrev pub invariant-loop-i : goal.invariant-loop-i
invariant-loop-i l = record { pending : vec_len l.worklist.pending ≡ vec_len l.fn.worklist.pending; bounds : l.worklist.bounds ≡ l.fn.worklist.bounds }
