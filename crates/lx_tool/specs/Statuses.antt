-- The causes for which a command fails, and the exit statuses of the program.
use Rattle.std.specs.Prelude.{ℕ, List, Option, Some, None, MatchOption, length, ◌<◌, ◌≡◌, ◌≢◌, ◌⊎◌, ⊤}
use Rattle.std.specs.Io.KnownBytes.{Appends, Keeps}
use Rattle.clap.specs.declared.error.kind.ErrorKind.TheVariants as kind
use Rattle.clap.specs.Words.{kind_of}
use Rattle.lx_auto.specs.declared.fault.BuildFault.{BuildFault}
use Rattle.lx_auto.specs.declared.fault.BuildFault.TheVariants as build
use Rattle.lx_spec.specs.declared.fault.Code.TheVariants as code
use Rattle.lx_spec.specs.declared.fault.SpecFault.{SpecFault}
use Rattle.lx_tables.specs.declared.fault.TableFault.{TableFault}
use Rattle.lx_tables.specs.declared.fault.TableFault.TheVariants as table
use Rattle.lx_piece.specs.declared.reader.ReaderFault.{ReaderFault}
use Rattle.lx_piece.specs.declared.reader.ReaderFault.TheVariants as reader
use Rattle.lx_post.specs.declared.run_fault.RunFault.{RunFault}
use Rattle.lx_post.specs.declared.run_fault.RunFault.TheVariants as run
use Rattle.lx_forms.specs.declared.choosing.ChoiceFault.{ChoiceFault}
use Rattle.lx_forms.specs.declared.choosing.ChoiceFault.TheVariants as choice
use Rattle.lx_tool.specs.declared.failure.CommandFault.{CommandFault}
use Rattle.lx_tool.specs.declared.failure.CommandFault.TheVariants.{Specification, Automaton, Tables, Unprintable, Words, TooManyFiles, InputTwice, Refused, NotRead, Output, Memory}
use Rattle.lx_tool.specs.declared.target.TargetFault.{TargetFault}
use Rattle.lx_tool.specs.declared.target.TargetFault.TheVariants as target
use Rattle.lx_tool.specs.declared.failure.PrintFault.{PrintFault}
use Rattle.lx_tool.specs.declared.failure.PrintFault.TheVariants.{Numbers, Reserved, Declared, TooManyForCode, TooManyStates, Unexplained, NotImported, Reported}
use Rattle.lx_tool.specs.declared.failure.RequestFault.TheVariants.{NoKind, EmptyKind, NoTargets}

-- the exit status of a command that fails
abbrev pub status_of : CommandFault → ℕ
status_of (Specification fault) = 1
status_of (Automaton fault) = 1
status_of (Tables fault) = 1
status_of (Unprintable fault) = 1
status_of (Words error) = 2
status_of TooManyFiles = 2
status_of InputTwice = 2
status_of (Refused fault) = 2
status_of (NotRead name) = 3
status_of Output = 4
status_of Memory = 5

-- the report that a failure carries, which goes to the output
abbrev pub report_of_print : PrintFault → Option (List ℕ)
report_of_print Numbers = None
report_of_print (Reserved name) = None
report_of_print (Declared name) = None
report_of_print (TooManyForCode states) = None
report_of_print (TooManyStates states) = None
report_of_print Unexplained = None
report_of_print NotImported = None
report_of_print (Reported report) = Some report.items

abbrev pub report_in : CommandFault → Option (List ℕ)
report_in (Specification fault) = None
report_in (Automaton fault) = None
report_in (Tables fault) = None
report_in (Unprintable fault) = report_of_print fault
report_in (Words error) = None
report_in TooManyFiles = None
report_in InputTwice = None
report_in (Refused fault) = None
report_in (NotRead name) = None
report_in Output = None
report_in Memory = None

-- A command that fails writes its report, if it has one, and else nothing.
abbrev pub WroteReport : CommandFault → Option (List ℕ) → Option (List ℕ) → Type 0
WroteReport failure old new = MatchOption (report_in failure) (Keeps old new) (λ report. Appends old new report)

-- the exit status if all was done, except that these files were cut short
pub record HasStatusOfCut {X : Type 0} (status : ℕ) (cut : List X) : Type 0 where
  pub none : length cut ≡ 0 → status ≡ 0
  pub some : 0 < length cut → status ≡ 3

-- the failure of a command whose listing is not written whole
abbrev pub failure_of_run : RunFault → CommandFault
failure_of_run run.Memory = Memory
failure_of_run run.Reader = Output

-- the failure of a listing whose lines are not taken
abbrev pub failure_of_reader : ReaderFault → CommandFault
failure_of_reader reader.Memory = Memory
failure_of_reader reader.Device = Output

-- the failure of a listing whose `--only` is rejected
abbrev pub failure_of_choice : ChoiceFault → CommandFault
failure_of_choice (choice.NoKind word) = Refused (NoKind word)
failure_of_choice choice.NoName = Refused EmptyKind
failure_of_choice choice.Memory = Memory

-- the failure of a command whose text isn't put into a file
abbrev pub failure_of_target : TargetFault → CommandFault
failure_of_target target.NotServed = Refused NoTargets
failure_of_target target.NotWritten = Output
failure_of_target target.Memory = Memory

-- A fault of a specification is answered as it is, except for a failed allocation.
abbrev pub AnswersFault : SpecFault → CommandFault → Type 0
AnswersFault fault failure = ((fault.code ≡ code.Memory) × (failure ≡ Memory)) ⊎ ((fault.code ≢ code.Memory) × (failure ≡ Specification fault))

-- the failure of a command whose specification has no automaton
abbrev pub failure_of_build : BuildFault → CommandFault
failure_of_build build.TooManyPositions = Automaton build.TooManyPositions
failure_of_build build.TooManySets = Automaton build.TooManySets
failure_of_build build.Memory = Memory

-- the failure of a command whose tables are not read
abbrev pub failure_of_table : TableFault → CommandFault
failure_of_table table.NoTables = Tables table.NoTables
failure_of_table table.Memory = Memory

-- A failed allocation is reported by no other failure than Memory.
abbrev pub HidesNoMemory : CommandFault → Type 0
HidesNoMemory (Specification fault) = fault.code ≢ code.Memory
HidesNoMemory (Automaton fault) = fault ≢ build.Memory
HidesNoMemory (Tables fault) = fault ≢ table.Memory
HidesNoMemory (Unprintable fault) = ⊤
HidesNoMemory (Words error) = kind_of error ≢ kind.OutOfMemory
HidesNoMemory TooManyFiles = ⊤
HidesNoMemory InputTwice = ⊤
HidesNoMemory (Refused fault) = ⊤
HidesNoMemory (NotRead name) = ⊤
HidesNoMemory Output = ⊤
HidesNoMemory Memory = ⊤
