-- The names of the kinds of warnings.
use Rattle.std.specs.Prelude.{ℕ, List, codes}
use Rattle.lx_warnings.specs.declared.kinds.WarningKind.{WarningKind}
use Rattle.lx_warnings.specs.declared.kinds.WarningKind.TheVariants.{ConditionWord, NeverEntered, UnusedDefinition, NeverChosen, EofRule, Interval, Lazy, LetterEscape, LongHex, ManyBytes, CurlyQuotes, ClassOutside, WideRange, DeadStatement, SkippedRule, SkippedLine, FarAhead, UnreadBytes}

abbrev pub name_text : WarningKind → List ℕ
name_text ConditionWord = codes "condition-word"
name_text NeverEntered = codes "never-entered"
name_text UnusedDefinition = codes "unused-definition"
name_text NeverChosen = codes "never-chosen"
name_text EofRule = codes "eof-rule"
name_text Interval = codes "interval"
name_text Lazy = codes "lazy"
name_text LetterEscape = codes "letter-escape"
name_text LongHex = codes "long-hex"
name_text ManyBytes = codes "many-bytes"
name_text CurlyQuotes = codes "curly-quotes"
name_text ClassOutside = codes "class-outside"
name_text WideRange = codes "wide-range"
name_text DeadStatement = codes "dead-statement"
name_text SkippedRule = codes "skipped-rule"
name_text SkippedLine = codes "skipped-line"
name_text FarAhead = codes "far-ahead"
name_text UnreadBytes = codes "unread-bytes"
