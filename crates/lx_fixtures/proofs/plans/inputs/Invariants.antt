use Rattle.std.proofs.Common.{◌≡◌, vec_len}
use Rattle.lx_fixtures.proofs.plans.inputs.Given as goal

abbrev pub invariant-loop-bytes : goal.invariant-loop-bytes
invariant-loop-bytes l = vec_len l.inputs ≡ l.bytes-index
