-- The faults that don't say that flex has no such pattern.
use Rattle.std.specs.Prelude.{Bool, true, false}
use Rattle.lx_flex_pattern.specs.declared.fault.PatternFault.{PatternFault}
use Rattle.lx_flex_pattern.specs.declared.fault.PatternFault.TheVariants as fault

-- a limit of this reader, a pattern whose meaning isn't clear, or want of memory
abbrev pub is_limit : PatternFault → Bool
is_limit fault.NoForm = false
is_limit fault.NotClosed = false
is_limit fault.UnknownClass = false
is_limit fault.BackwardRange = false
is_limit fault.Undefined = false
is_limit fault.BadInterval = false
is_limit fault.LargeInterval = true
is_limit fault.LargeEscape = false
is_limit fault.AmbiguousClass = true
is_limit fault.ExcludedUnion = true
is_limit fault.TooLarge = true
is_limit fault.NotRead = true
is_limit fault.Memory = true
