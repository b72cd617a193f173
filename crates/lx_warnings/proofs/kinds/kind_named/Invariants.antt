use Rattle.std.proofs.Common.{ℕ, ◌<◌, ◌≢◌, get_or}
use Rattle.lx_warnings.specs.Names.{name_text}
use Rattle.lx_warnings.specs.declared.kinds.TheConstants.{ALL}
use Rattle.lx_warnings.specs.declared.kinds.WarningKind.{WarningKind}
use Rattle.lx_warnings.proofs.kinds.kind_named.Given as goal

abbrev pub invariant-loop-kind : goal.invariant-loop-kind
invariant-loop-kind l = (k : ℕ) (d : WarningKind) → k < l.kind-index → name_text (get_or ALL k d) ≢ l.name
