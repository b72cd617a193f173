-- The texts that `gen` and `up` print: tables in version 2, or a scanner in C.
use Rattle.std.specs.Prelude.{◌≡◌, ◌≢◌, ◌⊎◌, ◌&&◌, ◌||◌, ℕ, Bool, not, if◌then◌else◌, IsTrue, List, [], Option, Some, None, MatchOption, codes, is_some, map, slice_index_or, unwrap_or}
use Rattle.std.specs.Io.KnownBytes.{Keeps}
use Rattle.std.specs.declared.alloc.Global.{Global}
use Rattle.std.specs.declared.vec.Vec.{Vec}
use Rattle.lx_rules.specs.Plain.{PlainSpec}
use Rattle.lx_spec.specs.Whole.{IsRead}
use Rattle.lx_tables.specs.Model.{Table, IsTable, AreTablesOf}
use Rattle.lx_tables.specs.Output.{Wrote}
use Rattle.lx_tables.specs.Reading.{IsTextOf}
use Rattle.lx_tables.specs.Texts.{text_2}
use Rattle.lx_c.specs.Declarations.{header_text}
use Rattle.lx_c.specs.Kinds.{kind_fault}
use Rattle.lx_c.specs.Options.{Options, named, option_fault}
use Rattle.lx_c.specs.Scanner.{c_text}
use Rattle.lx_c.specs.declared.fault.KindFault.{KindFault}
use Rattle.lx_c.specs.declared.fault.KindFault.TheVariants as kind
use Rattle.lx_c.specs.declared.fault.OptionFault.{OptionFault}
use Rattle.lx_cli.specs.CommandLine.{PlainC}
use Rattle.lx_tool.specs.declared.failure.CommandFault.{CommandFault}
use Rattle.lx_tool.specs.declared.failure.CommandFault.TheVariants.{Unprintable, Memory, Refused}
use Rattle.lx_tool.specs.declared.failure.PrintFault.{PrintFault}
use Rattle.lx_tool.specs.declared.failure.PrintFault.TheVariants.{Numbers, Reserved, Declared, TooManyForCode}
use Rattle.lx_tool.specs.declared.failure.RequestFault.{RequestFault}
use Rattle.lx_tool.specs.declared.failure.RequestFault.TheVariants.{NoScanner, NoTargets, Scanner, ScannerAndHeader}

-- ---- the arguments for a scanner in C

-- true if it, or its declarations, are printed
abbrev pub is_in_c : PlainC → Bool
is_in_c c = c.scanner || c.header

-- its options, without the names of its conditions
abbrev pub options_by : PlainC → Options
options_by c = record { prefix = unwrap_or c.prefix (codes "lx"); conditions = []; include = c.include; direct = c.direct }

-- options that ask for one of both, and give details only if they ask for it
abbrev pub are_scanner_words : PlainC → Bool
are_scanner_words c = not (c.scanner && c.header) && (is_in_c c || not (is_some c.prefix || (is_some c.include || c.direct)))

-- the fault of them
abbrev pub IsScannerFault : PlainC → RequestFault → Type 0
IsScannerFault c fault =
    ((fault ≡ ScannerAndHeader) × IsTrue (c.scanner && c.header))
    ⊎ (((fault ≡ NoScanner) × IsTrue (not (is_in_c c) && (is_some c.prefix || (is_some c.include || c.direct))))
    ⊎ ((f : OptionFault) × (fault ≡ Scanner f) × (Some f ≡ option_fault (options_by c))))

-- They are rejected, or an allocation failed.
abbrev pub AreScannerWordsRefused : PlainC → CommandFault → Type 0
AreScannerWordsRefused c failure = (failure ≡ Memory) ⊎ ((fault : RequestFault) × (failure ≡ Refused fault) × IsScannerFault c fault)

-- ---- the text

abbrev pub printed_text : PlainC → Options → Table → List ℕ
printed_text c o table = if c.scanner then c_text o table else if c.header then header_text o table else text_2 table

-- the fault of the tables' states or kinds, if a scanner in C is printed
abbrev pub kinds_fault : PlainC → Options → Table → Option KindFault
kinds_fault c o table = if is_in_c c then kind_fault o table else None

-- the text goes to the output, unless there is a file for it
abbrev pub IsWritten : Option (List ℕ) → List ℕ → Option (List ℕ) → Option (List ℕ) → Type 0
IsWritten target text old new = MatchOption target (Wrote old new text) (λ name. Keeps old new)

-- the file gets the text, if there is one
abbrev pub IsPlaced : {T : Type 0} → (T → List ℕ → List ℕ → T → Type 0) → Option (List ℕ) → List ℕ → T → T → Type 0
IsPlaced places target text old new = MatchOption target (new ≡ old) (λ name. places old name text new)

-- The kinds can be printed, and the text was written, unless there is a file for it.
pub record WritesTables (c : PlainC) (o : Options) (table : Table) (target : Option (List ℕ)) (old new : Option (List ℕ)) : Type 0 where
  pub kinds : kinds_fault c o table ≡ None
  pub written : IsWritten target (printed_text c o table) old new

-- They can, and the file got it, if there is one.
pub record PlacesTables {T : Type 0} (places : T → List ℕ → List ℕ → T → Type 0) (c : PlainC) (o : Options) (table : Table) (target : Option (List ℕ)) (old new : T) : Type 0 where
  pub kinds : kinds_fault c o table ≡ None
  pub placed : IsPlaced places target (printed_text c o table) old new

-- the printed text of tables, with these names of conditions, if they are known
pub record IsTextPrinted (c : PlainC) (conditions : List (List ℕ)) (table : Table) (printed : List ℕ) : Type 0 where
  pub words : IsTrue (are_scanner_words c)
  pub kinds : kinds_fault c (named (options_by c) conditions) table ≡ None
  pub is : printed ≡ printed_text c (named (options_by c) conditions) table

-- the names of the conditions of a specification
abbrev pub condition_names : PlainSpec → List (List ℕ)
condition_names spec = map (λ condition. condition.name) spec.conditions

-- It is the printed text of the text's specification.
pub record PrintsSpecification (c : PlainC) (text printed : List ℕ) : Type 0 where
  pub spec : PlainSpec
  pub read : IsRead text spec
  pub table : Table
  pub of_spec : AreTablesOf spec table
  pub prints : IsTextPrinted c (condition_names spec) table printed

-- It is the printed text of the tables whose text it is.
pub record PrintsTables (c : PlainC) (text printed : List ℕ) : Type 0 where
  pub table : Table
  pub is_table : IsTable table
  pub of_text : IsTextOf table text
  pub prints : IsTextPrinted c [] table printed

-- ---- kinds that can't be names in C

abbrev pub kind_named : Table → ℕ → List ℕ
kind_named table number = slice_index_or table.kinds number []

-- the reported fault: a kind by its name
abbrev pub IsToldAs : Table → KindFault → PrintFault → Type 0
IsToldAs table kind.Numbers told = told ≡ Numbers
IsToldAs table (kind.Reserved number) told = (name : Vec ℕ Global) × (told ≡ Reserved name) × (name.items ≡ kind_named table number)
IsToldAs table (kind.Declared number) told = (name : Vec ℕ Global) × (told ≡ Declared name) × (name.items ≡ kind_named table number)
IsToldAs table (kind.States states) told = told ≡ TooManyForCode states
IsToldAs table kind.Memory told = ⊥

pub record AreKindsRefused (c : PlainC) (o : Options) (table : Table) (failure : CommandFault) : Type 0 where
  pub fault : KindFault
  pub is : kinds_fault c o table ≡ Some fault
  pub told : PrintFault
  pub answers : failure ≡ Unprintable told
  pub told_as : IsToldAs table fault told

pub record AreKindsOfSpecificationRefused (c : PlainC) (text : List ℕ) (failure : CommandFault) : Type 0 where
  pub spec : PlainSpec
  pub read : IsRead text spec
  pub table : Table
  pub of_spec : AreTablesOf spec table
  pub refused : AreKindsRefused c (named (options_by c) (condition_names spec)) table failure

pub record AreKindsOfTablesRefused (c : PlainC) (text : List ℕ) (failure : CommandFault) : Type 0 where
  pub table : Table
  pub is_table : IsTable table
  pub of_text : IsTextOf table text
  pub refused : AreKindsRefused c (named (options_by c) []) table failure

-- Nothing was written: no files can be made and one is asked for, or the kinds were rejected.
pub record FailsPrinting (c : PlainC) (o : Options) (table : Table) (target : Option (List ℕ)) (old new : Option (List ℕ)) (failure : CommandFault) : Type 0 where
  pub kept : Keeps old new
  pub cause : ((failure ≡ Refused NoTargets) × (target ≢ None)) ⊎ AreKindsRefused c o table failure
