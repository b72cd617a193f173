-- The listings of files that sources give, and the causes for which they aren't listed.
use Rattle.std.specs.Prelude.{◌≡◌, ℕ, ◌⊎◌, ⊤, List, Option, Contains}
use Rattle.std.specs.Io.KnownBytes.{Keeps}
use Rattle.lx_piece.specs.Plans.{PlainInput}
use Rattle.lx_tables.specs.Reading.{IsNoText}
use Rattle.lx_tables.specs.declared.fault.TableFault.TheVariants as table
use Rattle.lx_tool.specs.Planning.{AreBytes}
use Rattle.lx_tool.specs.Sources.{AreGiven, cut_names}
use Rattle.lx_tool.specs.declared.failure.CommandFault.{CommandFault}
use Rattle.lx_tool.specs.declared.failure.CommandFault.TheVariants.{Specification, Automaton, Tables, Unprintable, Words, TooManyFiles, InputTwice, Refused, NotRead, Output, Memory}

-- The sources gave these inputs for these names, in this order; `cut` names those that were cut short.
pub record AreRead {S : Type 0} (gives : S → List ℕ → PlainInput → S → Type 0) (names : List (List ℕ)) (before after : S) (inputs : List PlainInput) (cut : List (List ℕ)) : Type 0 where
  pub given : AreGiven gives before names inputs after
  pub bytes : AreBytes inputs
  pub cut_are : cut ≡ cut_names names inputs

-- The sources gave inputs for these names, in this order, which were listed by `Lists`; `cut` names those that were cut short.
pub record AreListed {S : Type 0} (gives : S → List ℕ → PlainInput → S → Type 0) (Lists : List PlainInput → Type 0) (names : List (List ℕ)) (before after : S) (cut : List (List ℕ)) : Type 0 where
  pub inputs : List PlainInput
  pub read : AreRead gives names before after inputs cut
  pub listed : Lists inputs

-- They gave them, and a prefix was listed.
pub record ArePartlyListed {S : Type 0} (gives : S → List ℕ → PlainInput → S → Type 0) (ListsPrefix : List PlainInput → Type 0) (names : List (List ℕ)) (before after : S) : Type 0 where
  pub inputs : List PlainInput
  pub given : AreGiven gives before names inputs after
  pub bytes : AreBytes inputs
  pub listed : ListsPrefix inputs

-- The sources gave inputs for these names, in this order. Their listing by `Lists` was written; `cut` names those that were cut short.
abbrev pub ListsGiven : {S : Type 0} → (S → List ℕ → PlainInput → S → Type 0) → (List PlainInput → Option (List ℕ) → Option (List ℕ) → Type 0) → List (List ℕ) → S → S →
    Option (List ℕ) → Option (List ℕ) → List (List ℕ) → Type 0
ListsGiven gives Lists names before after old new cut = AreListed gives (λ inputs. Lists inputs old new) names before after cut

-- one of the files with these names can't be opened, or an allocation failed
abbrev pub IsUnread : List (List ℕ) → CommandFault → Type 0
IsUnread names (Specification fault) = ⊥
IsUnread names (Automaton fault) = ⊥
IsUnread names (Tables fault) = ⊥
IsUnread names (Unprintable fault) = ⊥
IsUnread names (Words error) = ⊥
IsUnread names TooManyFiles = ⊥
IsUnread names InputTwice = ⊥
IsUnread names (Refused fault) = ⊥
IsUnread names (NotRead name) = Contains names name.now
IsUnread names Output = ⊥
IsUnread names Memory = ⊤

-- the cause for which a text is no table's, or a failed allocation
abbrev pub IsNoTable : List ℕ → CommandFault → Type 0
IsNoTable text (Specification fault) = ⊥
IsNoTable text (Automaton fault) = ⊥
IsNoTable text (Tables fault) = (fault ≡ table.NoTables) × IsNoText text
IsNoTable text (Unprintable fault) = ⊥
IsNoTable text (Words error) = ⊥
IsNoTable text TooManyFiles = ⊥
IsNoTable text InputTwice = ⊥
IsNoTable text (Refused fault) = ⊥
IsNoTable text (NotRead name) = ⊥
IsNoTable text Output = ⊥
IsNoTable text Memory = ⊤

-- Nothing was read and nothing written.
pub record IsUntouched {S : Type 0} (before after : S) (old new : Option (List ℕ)) : Type 0 where
  pub sources : after ≡ before
  pub output : Keeps old new

-- A listing fails in four ways. The text that files are listed by was rejected, by `Cause`, before a file was read. A file can't be opened, and
-- nothing was written. The output failed after a prefix, by `Part`. An allocation failed, and nothing was written or a prefix.
abbrev pub FailsListing : {S : Type 0} → (CommandFault → Type 0) → Type 0 → List (List ℕ) → S → S → Option (List ℕ) → Option (List ℕ) → CommandFault → Type 0
FailsListing Cause Part names before after old new (Specification fault) = Cause (Specification fault) × IsUntouched before after old new
FailsListing Cause Part names before after old new (Automaton fault) = Cause (Automaton fault) × IsUntouched before after old new
FailsListing Cause Part names before after old new (Tables fault) = Cause (Tables fault) × IsUntouched before after old new
FailsListing Cause Part names before after old new (Unprintable fault) = ⊥
FailsListing Cause Part names before after old new (Words error) = ⊥
FailsListing Cause Part names before after old new TooManyFiles = ⊥
FailsListing Cause Part names before after old new InputTwice = ⊥
FailsListing Cause Part names before after old new (Refused fault) = ⊥
FailsListing Cause Part names before after old new (NotRead name) = Contains names name.now × Keeps old new
FailsListing Cause Part names before after old new Output = Part
FailsListing Cause Part names before after old new Memory = Keeps old new ⊎ Part

-- That listing failed: the part that was written, if any, is one by `ListsPrefix`.
abbrev pub FailsGiven : {S : Type 0} → (S → List ℕ → PlainInput → S → Type 0) → (CommandFault → Type 0) → (List PlainInput → Option (List ℕ) → Option (List ℕ) → Type 0) → List (List ℕ) → S → S →
    Option (List ℕ) → Option (List ℕ) → CommandFault → Type 0
FailsGiven gives Cause ListsPrefix names before after old new failure =
    FailsListing Cause (ArePartlyListed gives (λ inputs. ListsPrefix inputs old new) names before after) names before after old new failure
