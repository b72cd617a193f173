-- The kinds of warnings, and sets of them.
use Rattle.std.specs.Prelude.{ℕ, Bool, true, false, slice_index_or}
use Rattle.lx_warnings.specs.declared.kinds.KindSet.{KindSet}
use Rattle.lx_warnings.specs.declared.kinds.WarningKind.{WarningKind}
use Rattle.lx_warnings.specs.declared.kinds.WarningKind.TheVariants.{ConditionWord, NeverEntered, UnusedDefinition, NeverChosen, EofRule, Interval, Lazy, LetterEscape, LongHex, ManyBytes, CurlyQuotes, ClassOutside, WideRange, DeadStatement, SkippedRule, SkippedLine, FarAhead, UnreadBytes}

-- the place of a kind in a set
abbrev pub number : WarningKind → ℕ
number ConditionWord = 0
number NeverEntered = 1
number UnusedDefinition = 2
number NeverChosen = 3
number EofRule = 4
number Interval = 5
number Lazy = 6
number LetterEscape = 7
number LongHex = 8
number ManyBytes = 9
number CurlyQuotes = 10
number ClassOutside = 11
number WideRange = 12
number DeadStatement = 13
number SkippedRule = 14
number SkippedLine = 15
number FarAhead = 16
number UnreadBytes = 17

-- the kind is in the set
abbrev pub has_kind : KindSet → WarningKind → Bool
has_kind set kind = slice_index_or set.flags (number kind) false

-- the kind is reported by default
abbrev pub is_usual : WarningKind → Bool
is_usual ConditionWord = true
is_usual NeverEntered = true
is_usual UnusedDefinition = true
is_usual NeverChosen = true
is_usual EofRule = true
is_usual Interval = true
is_usual Lazy = true
is_usual LetterEscape = true
is_usual LongHex = true
is_usual ManyBytes = true
is_usual CurlyQuotes = true
is_usual ClassOutside = true
is_usual WideRange = true
is_usual DeadStatement = true
is_usual SkippedRule = true
is_usual SkippedLine = true
is_usual FarAhead = false
is_usual UnreadBytes = false
