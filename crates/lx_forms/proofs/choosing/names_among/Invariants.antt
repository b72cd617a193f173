use Rattle.std.proofs.Common.{◌≡◌, take, map}
use Rattle.lx_forms.specs.Choosing.{is_one_of}
use Rattle.lx_forms.proofs.choosing.names_among.Given as goal

abbrev pub invariant-loop-kind : goal.invariant-loop-kind
invariant-loop-kind l = l.names.items ≡ map (is_one_of (map (λ word. word.now) l.words)) (take l.kind l.tables.kinds)
