-- The code that a cause belongs to.
use Rattle.lx_spec.specs.declared.fault.Code.{Code}
use Rattle.lx_spec.specs.declared.fault.Code.TheVariants as variants
use Rattle.lx_diagnose.specs.declared.causes.Cause.{Cause}
use Rattle.lx_diagnose.specs.declared.causes.Cause.TheVariants.{TooLong, NoRules, NotClosed, NoForm, Twice, TooMany, NoReading, Undefined, TooDeep, NoCondition, NoAction, NoNext, Memory}

abbrev pub code_of : Cause → Code
code_of TooLong = variants.TooLong
code_of (NoRules _) = variants.NoRules
code_of (NotClosed _) = variants.NotClosed
code_of (NoForm _) = variants.NoForm
code_of (Twice _) = variants.Twice
code_of (TooMany _) = variants.TooMany
code_of (NoReading _) = variants.NoReading
code_of (Undefined _) = variants.Undefined
code_of (TooDeep _) = variants.TooDeep
code_of (NoCondition _) = variants.NoCondition
code_of (NoAction _) = variants.NoAction
code_of NoNext = variants.NoNext
code_of Memory = variants.Memory
