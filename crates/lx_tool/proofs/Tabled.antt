-- The facts if tables aren't made.
use Rattle.std.specs.Prelude.{◌≡◌, ℕ, List}
use Rattle.lx_rules.specs.Plain.{PlainSpec}
use Rattle.lx_spec.specs.Whole.{IsRead}
use Rattle.lx_auto.specs.declared.fault.BuildFault.{BuildFault}
use Rattle.lx_auto.specs.declared.fault.BuildFault.TheVariants as build
use Rattle.lx_auto.specs.TooLarge.{HasTooManyPositions, HasTooManySets}
use Rattle.lx_tool.specs.Statuses.{failure_of_build}
use Rattle.lx_tool.specs.Tabling.{HasNoTables}

pub too_large : (text : List ℕ) (spec : PlainSpec) → IsRead text spec → (fault : BuildFault) → (fault ≡ build.TooManyPositions → HasTooManyPositions spec) →
    (fault ≡ build.TooManySets → HasTooManySets spec) → HasNoTables text (failure_of_build fault)
too_large text spec read build.TooManyPositions positions sets = record { spec = spec; read = read; known = λ e. cc; positions = positions; sets = sets }
too_large text spec read build.TooManySets positions sets = record { spec = spec; read = read; known = λ e. cc; positions = positions; sets = sets }
too_large text spec read build.Memory positions sets = tt
