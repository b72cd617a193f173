use Rattle.std.proofs.Common.{◌≡◌, drop}
use Rattle.lx_forms.specs.Choosing.{is_one_of}
use Rattle.lx_forms.proofs.choosing.is_name.Given as goal

abbrev pub invariant-loop-kind : goal.invariant-loop-kind
invariant-loop-kind l = is_one_of (drop l.kind l.tables.kinds) l.word ≡ is_one_of l.tables.kinds l.word
