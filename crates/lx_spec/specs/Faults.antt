-- Faults of specifications.
use Rattle.std.specs.Prelude.{ℕ}
use Rattle.lx_spec.specs.declared.fault.Code.{Code}
use Rattle.lx_spec.specs.declared.fault.Code.TheVariants.{Memory}
use Rattle.lx_spec.specs.declared.fault.SpecFault.{SpecFault}

abbrev pub fault : Code → ℕ → SpecFault
fault c n = record { code = c; line = n }

-- the fault if an allocation failed
abbrev pub out_of_memory : SpecFault
out_of_memory = fault Memory 0
