-- Listings of files that sources give, in other terms, and the consequences if they fail.
use Rattle.std.proofs.Common.{ℕ, ◌≡◌, List, [], Option, inl, inr, length, refl, subst, sym}
use Rattle.std.proofs.lemmas.List.{nil_from_length}
use Rattle.lx_piece.specs.Plans.{PlainInput}
use Rattle.lx_tables.specs.Model.{Table}
use Rattle.lx_listing.specs.AppendingLaws.{appends_nothing}
use Rattle.lx_tool.specs.Given.{AreListed, ArePartlyListed, AreRead, FailsListing}
use Rattle.lx_tool.specs.Planning.{AreBytes, ListsBy, ListsPrefixBy}
use Rattle.lx_tool.specs.Statuses.{failure_of_run}
use Rattle.lx_tool.specs.declared.failure.CommandFault.{CommandFault}
use Rattle.lx_tool.specs.declared.failure.CommandFault.TheVariants.{Specification, Automaton, Tables, Unprintable, Words, TooManyFiles, InputTwice, Refused, NotRead, Output, Memory}
use Rattle.lx_post.specs.declared.run_fault.RunFault.{RunFault}
use Rattle.lx_post.specs.declared.run_fault.RunFault.TheVariants as run

-- nothing is listed of no files
listed_nothing : (table : Table) (inputs : List PlainInput) (written : Option (List ℕ)) → length inputs ≡ 0 → ListsBy table inputs written written
listed_nothing table inputs written none = subst (λ (xs : List PlainInput). ListsBy table xs written written) (sym (nil_from_length inputs none)) (record {
  plan = record { run = 1; per_piece = 1; table = table; inputs = [] };
  by_tables = record { table_is = refl; inputs_are = refl };
  wrote = appends_nothing written;
})

-- the lines were begun
fails_late : {S : Type 0} (P : CommandFault → Type 0) (Part : Type 0) (names : List (List ℕ)) (before after : S) (old new : Option (List ℕ)) → Part → (fault : RunFault) → FailsListing P Part names before after old new (failure_of_run fault)
fails_late P Part names before after old new part run.Memory = inr part
fails_late P Part names before after old new part run.Reader = part

-- the inputs that were read were listed, or a part of them
module _ {S : Type 0} (gives : S → List ℕ → PlainInput → S → Type 0) (names : List (List ℕ)) (before after : S) (inputs : List PlainInput) (cut : List (List ℕ)) (read : AreRead gives names before after inputs cut) where
  pub listed_of : (Lists : List PlainInput → Type 0) → Lists inputs → AreListed gives Lists names before after cut
  listed_of Lists listed = record { inputs = inputs; read = read; listed = listed }

  pub listed_none : (table : Table) (written : Option (List ℕ)) → length inputs ≡ 0 → AreListed gives (λ xs. ListsBy table xs written written) names before after cut
  listed_none table written none = listed_of (λ xs. ListsBy table xs written written) (listed_nothing table inputs written none)

  pub failed_of : (table : Table) (old new : Option (List ℕ)) → ListsPrefixBy table inputs old new → (fault : RunFault) →
      FailsListing (λ _. ⊥) (ArePartlyListed gives (λ xs. ListsPrefixBy table xs old new) names before after) names before after old new (failure_of_run fault)
  failed_of table old new listed fault =
      fails_late (λ _. ⊥) (ArePartlyListed gives (λ xs. ListsPrefixBy table xs old new) names before after) names before after old new (record { inputs = inputs; given = read.given; bytes = read.bytes; listed = listed }) fault

module _ {S : Type 0} (gives : S → List ℕ → PlainInput → S → Type 0) (P Q : List PlainInput → Type 0) (as_well : (inputs : List PlainInput) → AreBytes inputs → P inputs → Q inputs)
    (names : List (List ℕ)) (before after : S) where
  pub listed_as_well : (cut : List (List ℕ)) → AreListed gives P names before after cut → AreListed gives Q names before after cut
  listed_as_well cut l = record { inputs = l.inputs; read = l.read; listed = as_well l.inputs l.read.bytes l.listed }

  pub partly_as_well : ArePartlyListed gives P names before after → ArePartlyListed gives Q names before after
  partly_as_well l = record { inputs = l.inputs; given = l.given; bytes = l.bytes; listed = as_well l.inputs l.bytes l.listed }

pub fails_as_well : {S : Type 0} (P Q : CommandFault → Type 0) (Part OtherPart : Type 0) (names : List (List ℕ)) (before after : S) (old new : Option (List ℕ)) → ((failure : CommandFault) → P failure → Q failure) → (Part → OtherPart) →
    (failure : CommandFault) → FailsListing P Part names before after old new failure → FailsListing Q OtherPart names before after old new failure
fails_as_well P Q Part OtherPart names before after old new refused part (Specification fault) h = (refused (Specification fault) h.0, h.1)
fails_as_well P Q Part OtherPart names before after old new refused part (Automaton fault) h = (refused (Automaton fault) h.0, h.1)
fails_as_well P Q Part OtherPart names before after old new refused part (Tables fault) h = (refused (Tables fault) h.0, h.1)
fails_as_well P Q Part OtherPart names before after old new refused part (Unprintable fault) h = h
fails_as_well P Q Part OtherPart names before after old new refused part (Words error) h = h
fails_as_well P Q Part OtherPart names before after old new refused part TooManyFiles h = h
fails_as_well P Q Part OtherPart names before after old new refused part InputTwice h = h
fails_as_well P Q Part OtherPart names before after old new refused part (Refused fault) h = h
fails_as_well P Q Part OtherPart names before after old new refused part (NotRead name) h = h
fails_as_well P Q Part OtherPart names before after old new refused part Output h = part h
fails_as_well P Q Part OtherPart names before after old new refused part Memory (inl h) = inl h
fails_as_well P Q Part OtherPart names before after old new refused part Memory (inr h) = inr (part h)
