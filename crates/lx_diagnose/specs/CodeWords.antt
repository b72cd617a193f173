-- Codes as they are printed.
use Rattle.std.specs.Prelude.{ℕ, List, codes}
use Rattle.lx_spec.specs.declared.fault.Code.{Code}
use Rattle.lx_spec.specs.declared.fault.Code.TheVariants.{TooLong, NoRules, NotClosed, NoForm, Twice, TooMany, NoReading, Undefined, TooDeep, NoCondition, NoAction, NoNext, Memory}

abbrev pub word_of : Code → List ℕ
word_of TooLong = codes "E01"
word_of NoRules = codes "E02"
word_of NotClosed = codes "E03"
word_of NoForm = codes "E04"
word_of Twice = codes "E05"
word_of TooMany = codes "E06"
word_of NoReading = codes "E10"
word_of Undefined = codes "E11"
word_of TooDeep = codes "E12"
word_of NoCondition = codes "E13"
word_of NoAction = codes "E20"
word_of NoNext = codes "E21"
word_of Memory = codes "E90"
