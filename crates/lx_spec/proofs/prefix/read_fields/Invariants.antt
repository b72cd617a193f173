use Rattle.std.proofs.Common.{◌≡◌, ◌++◌, length}
use Rattle.lx_spec.specs.Verdict as plain
use Rattle.lx_spec.specs.views.Fields.{texts_of}
use Rattle.lx_spec.proofs.prefix.read_fields.Given as goal

abbrev pub invariant-fields : goal.invariant-fields
invariant-fields l = texts_of l.fields.items ++ plain.fields_of l.rest ≡ plain.fields_of l.text

abbrev pub decreases-fields : goal.decreases-fields
decreases-fields l = length l.rest
