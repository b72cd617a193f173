-- The listings of files, by tables and by the rules of a specification.
use Rattle.std.specs.Prelude.{◌≡◌, ℕ, ◌<◌, List, Option, All, length}
use Rattle.std.specs.Io.KnownBytes.{Appends}
use Rattle.lx_rules.specs.Plain.{PlainSpec}
use Rattle.lx_spec.specs.Whole.{IsRead}
use Rattle.lx_tables.specs.Model.{Table, IsTable, AreTablesOf}
use Rattle.lx_tables.specs.Reading.{IsTextOf}
use Rattle.lx_scan.specs.ByRules.{AreItemsBy}
use Rattle.lx_piece.specs.Plans.{PlainInput, Planned, bytes_of, items_of, kinds_of}
use Rattle.lx_listing.specs.Appending.{AppendsPrefix}
use Rattle.lx_listing.specs.Listings.{listing_of}
use Rattle.lx_forms.specs.Forms.{PlainForm}
use Rattle.lx_forms.specs.FormListings.{listing_in}
use Rattle.lx_cli.specs.CommandLine.{PlainFormWords}
use Rattle.lx_tool.specs.Naming.{IsFormOf}

-- the contents of the files are bytes
abbrev pub AreBytes : List PlainInput → Type 0
AreBytes inputs = All (λ input. All (λ b. b < 256) input.bytes) inputs

-- ---- by tables

-- The plan is of these files by these tables.
pub record IsPlanBy (table : Table) (inputs : List PlainInput) (plan : Planned) : Type 0 where
  pub table_is : plan.table ≡ table
  pub inputs_are : plan.inputs ≡ inputs

-- The lines of the items of these files by the tables were written.
pub record ListsBy (table : Table) (inputs : List PlainInput) (old new : Option (List ℕ)) : Type 0 where
  pub plan : Planned
  pub by_tables : IsPlanBy table inputs plan
  pub wrote : Appends old new (listing_of plan)

-- A prefix of those lines was written.
pub record ListsPrefixBy (table : Table) (inputs : List PlainInput) (old new : Option (List ℕ)) : Type 0 where
  pub plan : Planned
  pub by_tables : IsPlanBy table inputs plan
  pub wrote : AppendsPrefix old new (listing_of plan)

-- ---- by the rules of a specification

-- The plan is of these files, and of each it has the items by the rules of the specification.
pub record IsPlanByRules (spec : PlainSpec) (inputs : List PlainInput) (plan : Planned) : Type 0 where
  pub kinds_are : kinds_of plan ≡ spec.kinds
  pub inputs_are : plan.inputs ≡ inputs
  pub items : (file : ℕ) → file < length inputs → AreItemsBy spec (bytes_of plan file) (items_of plan file)

-- The lines of the items of these files by the rules of the text's specification were written.
pub record ListsByRules (text : List ℕ) (inputs : List PlainInput) (old new : Option (List ℕ)) : Type 0 where
  pub spec : PlainSpec
  pub read : IsRead text spec
  pub plan : Planned
  pub by_rules : IsPlanByRules spec inputs plan
  pub wrote : Appends old new (listing_of plan)

-- A prefix of those lines was written.
pub record ListsPrefixByRules (text : List ℕ) (inputs : List PlainInput) (old new : Option (List ℕ)) : Type 0 where
  pub spec : PlainSpec
  pub read : IsRead text spec
  pub plan : Planned
  pub by_rules : IsPlanByRules spec inputs plan
  pub wrote : AppendsPrefix old new (listing_of plan)

-- ---- by the text of tables

-- The lines of the items of these files by the tables whose text it is were written.
pub record ListsByText (text : List ℕ) (inputs : List PlainInput) (old new : Option (List ℕ)) : Type 0 where
  pub table : Table
  pub is_table : IsTable table
  pub of_text : IsTextOf table text
  pub listed : ListsBy table inputs old new

-- A prefix of those lines was written.
pub record ListsPrefixByText (text : List ℕ) (inputs : List PlainInput) (old new : Option (List ℕ)) : Type 0 where
  pub table : Table
  pub is_table : IsTable table
  pub of_text : IsTextOf table text
  pub listed : ListsPrefixBy table inputs old new

-- ---- in the form that arguments ask for

-- This form of the items of these files by the tables was written.
pub record ListsIn (form : PlainForm) (table : Table) (inputs : List PlainInput) (old new : Option (List ℕ)) : Type 0 where
  pub plan : Planned
  pub by_tables : IsPlanBy table inputs plan
  pub wrote : Appends old new (listing_in form plan)

-- A prefix of that was written.
pub record ListsPrefixIn (form : PlainForm) (table : Table) (inputs : List PlainInput) (old new : Option (List ℕ)) : Type 0 where
  pub plan : Planned
  pub by_tables : IsPlanBy table inputs plan
  pub wrote : AppendsPrefix old new (listing_in form plan)

-- The form that the arguments ask for was written, of the items of these files with these names, by the tables.
pub record ListsAsked (words : PlainFormWords) (table : Table) (names : List (List ℕ)) (inputs : List PlainInput) (old new : Option (List ℕ)) : Type 0 where
  pub form : PlainForm
  pub asked : IsFormOf words table names form
  pub listed : ListsIn form table inputs old new

-- The same of the items by the rules of the text's specification; its tables determine the kinds that `--only` lists.
pub record ListsByRulesIn (words : PlainFormWords) (text : List ℕ) (names : List (List ℕ)) (inputs : List PlainInput) (old new : Option (List ℕ)) : Type 0 where
  pub spec : PlainSpec
  pub read : IsRead text spec
  pub plan : Planned
  pub by_rules : IsPlanByRules spec inputs plan
  pub of_spec : AreTablesOf spec plan.table
  pub form : PlainForm
  pub asked : IsFormOf words plan.table names form
  pub wrote : Appends old new (listing_in form plan)

-- And by the tables whose text it is.
pub record ListsByTextIn (words : PlainFormWords) (text : List ℕ) (names : List (List ℕ)) (inputs : List PlainInput) (old new : Option (List ℕ)) : Type 0 where
  pub table : Table
  pub is_table : IsTable table
  pub of_text : IsTextOf table text
  pub listed : ListsAsked words table names inputs old new
