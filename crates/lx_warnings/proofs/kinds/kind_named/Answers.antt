use Rattle.std.proofs.Common.{◌≡◌, ◌∙◌, ◌<◌, ap, arith, get_or, refl}
use Rattle.lx_warnings.specs.Kinds.{number}
use Rattle.lx_warnings.specs.Names.{name_text}
use Rattle.lx_warnings.specs.declared.kinds.TheConstants.{ALL}
use Rattle.lx_warnings.specs.declared.kinds.WarningKind.{WarningKind}
use Rattle.lx_warnings.specs.declared.kinds.WarningKind.TheVariants.{ConditionWord, NeverEntered, UnusedDefinition, NeverChosen, EofRule, Interval, Lazy, LetterEscape, LongHex, ManyBytes, CurlyQuotes, ClassOutside, WideRange, DeadStatement, SkippedRule, SkippedLine, FarAhead, UnreadBytes}
use Rattle.lx_warnings.proofs.kinds.kind_named.Goals as goal

listed : (kind : WarningKind) → get_or ALL (number kind) kind ≡ kind
listed ConditionWord = refl
listed NeverEntered = refl
listed UnusedDefinition = refl
listed NeverChosen = refl
listed EofRule = refl
listed Interval = refl
listed Lazy = refl
listed LetterEscape = refl
listed LongHex = refl
listed ManyBytes = refl
listed CurlyQuotes = refl
listed ClassOutside = refl
listed WideRange = refl
listed DeadStatement = refl
listed SkippedRule = refl
listed SkippedLine = refl
listed FarAhead = refl
listed UnreadBytes = refl

counted : (kind : WarningKind) → number kind < 18
counted ConditionWord = omega arith
counted NeverEntered = omega arith
counted UnusedDefinition = omega arith
counted NeverChosen = omega arith
counted EofRule = omega arith
counted Interval = omega arith
counted Lazy = omega arith
counted LetterEscape = omega arith
counted LongHex = omega arith
counted ManyBytes = omega arith
counted CurlyQuotes = omega arith
counted ClassOutside = omega arith
counted WideRange = omega arith
counted DeadStatement = omega arith
counted SkippedRule = omega arith
counted SkippedLine = omega arith
counted FarAhead = omega arith
counted UnreadBytes = omega arith

pub returns-clause-none : goal.returns-clause-none
returns-clause-none c = λ _ kind e. let below = counted kind in c.loop-kind.invariant (number kind) kind (omega (arith, below, c.loop-kind-test.false)) (ap name_text (listed kind) ∙ e)
