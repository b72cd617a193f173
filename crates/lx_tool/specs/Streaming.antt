-- Files that are listed while they are read.
use Rattle.std.specs.Prelude.{◌≡◌, ◌<◌, ℕ, Bool, true, List, ◌∷◌, ◌++◌, Option, All, length}
use Rattle.std.specs.Borrow.{Bor}
use Rattle.lx_tables.specs.Model.{Table}
use Rattle.lx_piece.specs.Plans.{PlainInput, Planned, input_of}
use Rattle.lx_listing.specs.Gathered.{Gathered, Gathers}
use Rattle.lx_listing.specs.Lines.{Style, file_lines_by}
use Rattle.lx_listing.specs.Listings.{listing_by, listing_to_by}
use Rattle.lx_cli.specs.CommandLine.{PlainOrder}
use Rattle.lx_tool.specs.Naming.{AreFileNames, AreJudged}
use Rattle.lx_tool.specs.Planning.{ListsAsked}
use Rattle.lx_tool.specs.Sources.{AreGiven}
use Rattle.lx_tool.specs.declared.failure.CommandFault.{CommandFault}
use Rattle.lx_tool.specs.declared.failure.CommandFault.TheVariants.{NotRead}

-- The sources gave the files before the one with this name, in order, and these were listed.
pub record StopsAt {S : Type 0} (gives : S → List ℕ → PlainInput → S → Type 0) (Lists : List PlainInput → Type 0) (names : List (List ℕ)) (before : S) (name : List ℕ) : Type 0 where
  pub front : List (List ℕ)
  pub rest : List (List ℕ)
  pub names_are : names ≡ front ++ name ∷ rest
  pub after : S
  pub inputs : List PlainInput
  pub given : AreGiven gives before front inputs after
  pub listed : Lists inputs

-- the same of a listing that fails
abbrev pub HasStoppedFor : {S : Type 0} → (S → List ℕ → PlainInput → S → Type 0) → (List PlainInput → Type 0) → List (List ℕ) → S → CommandFault → Type 0
HasStoppedFor gives Lists names before failure = (name : Bor (List ℕ)) × (failure ≡ NotRead name) × StopsAt gives Lists names before name.now

-- With `--stream`, the files before the one that the failure names were listed, in the form of the arguments, by these tables.
pub record HasStopped {S : Type 0} (gives : S → List ℕ → PlainInput → S → Type 0) (order : PlainOrder) (table : Table) (before : S) (old new : Option (List ℕ)) (failure : CommandFault) : Type 0 where
  pub asked : order.stream ≡ true
  pub names : List (List ℕ)
  pub between : S
  pub named : AreFileNames gives order before between names
  pub judged : AreJudged order names
  pub stopped : HasStoppedFor gives (λ inputs. ListsAsked order.form table names inputs old new) names between failure

-- ---- within a listing

-- The lines of these files by the tables, in a style, were written.
abbrev pub WroteAll : {K : Type 0} → (K → List ℕ → K → Type 0) → Style → Table → List PlainInput → K → K → Type 0
WroteAll wrote style table inputs old new = (plan : Planned) → plan.table ≡ table → plan.inputs ≡ inputs → wrote old (listing_by style plan) new

-- The lines of these first files were gathered, whatever files come after them.
abbrev pub GathersFront : {K : Type 0} → (K → List ℕ → K → Type 0) → Style → Table → List PlainInput → Gathered K → Gathered K → Type 0
GathersFront wrote style table inputs old new =
    (plan : Planned) (rest : List PlainInput) → plan.table ≡ table → plan.inputs ≡ inputs ++ rest → Gathers wrote old (listing_to_by style plan (length inputs)) new

-- The sources gave a file for the name. Its lines, as those of the file with this number, were gathered.
pub record IsStreamed {S K : Type 0} (gives : S → List ℕ → PlainInput → S → Type 0) (wrote : K → List ℕ → K → Type 0) (style : Style) (table : Table) (file : ℕ) (name : List ℕ) (before after : S) (cut : Bool) (old new : Gathered K) : Type 0 where
  pub bytes : List ℕ
  pub given : gives before name (record { bytes = bytes; cut = cut }) after
  pub are_bytes : All (λ b. b < 256) bytes
  pub lines : (plan : Planned) → plan.table ≡ table → input_of plan file ≡ record { bytes = bytes; cut = cut } → Gathers wrote old (file_lines_by style plan file) new
