use Rattle.std.proofs.Common.{◌≡◌, vec_len}
use Rattle.lx_library_tests.proofs.plans.inputs_of_lens.Given as goal

abbrev pub invariant-loop-len : goal.invariant-loop-len
invariant-loop-len l = vec_len l.inputs ≡ l.len-index
