-- The rejection of a listing for its `--only`, for the names of its files, or for one of them.
use Rattle.std.proofs.Common.{ℕ, ◌≡◌, ◌-◌, ◌<◌, List, Option, Some, None, inl, inr, arith, length, refl, subst, true}
use Rattle.std.specs.Prelude.{◌⊎◌, IsSomeAnd}
use Rattle.std.specs.Io.KnownBytes.{Keeps}
use Rattle.lx_tables.specs.Model.{Table}
use Rattle.lx_piece.specs.Plans.{PlainInput, max_files}
use Rattle.lx_forms.specs.declared.choosing.ChoiceFault.TheVariants as choice
use Rattle.lx_forms.specs.Choosing.{IsNoChoice, IsUnknown}
use Rattle.lx_forms.specs.Forms.{PlainForm}
use Rattle.lx_forms.specs.NameLists.{HasMoreNames, IsNoName}
use Rattle.lx_cli.specs.CommandLine.{PlainList, PlainOrder}
use Rattle.lx_tool.specs.Given.{IsUnread}
use Rattle.lx_tool.specs.Naming.{AreFileNames, AreJudged, AreNamesRefused, AreNamesUnread, IsFormOf, IsListRefused, IsListingRefused, IsOnlyRefused, ListSays}
use Rattle.lx_tool.specs.Planning.{ListsAsked, ListsIn}
use Rattle.lx_tool.specs.Statuses.{HidesNoMemory, status_of}
use Rattle.lx_tool.specs.Streaming.{HasStopped, HasStoppedFor}
use Rattle.lx_tool.specs.declared.failure.CommandFault.{CommandFault}
use Rattle.lx_tool.specs.declared.failure.CommandFault.TheVariants.{Specification, Automaton, Tables, Unprintable, Words, TooManyFiles, InputTwice, Refused, NotRead, Output, Memory}
use Rattle.lx_tool.proofs.StreamedFiles.{stops_as_well}

module _ {S : Type 0} (gives : S → List ℕ → PlainInput → S → Type 0) (order : PlainOrder) (table : Table) (before : S) (old new : Option (List ℕ)) where
  abbrev Refuses : CommandFault → Type 0
  Refuses failure = status_of failure < 4
      → (IsListingRefused gives order table before failure × HidesNoMemory failure × Keeps old new) ⊎ HasStopped gives order table before old new failure

  module _ (kept : Keeps old new) where
    by_list : (list : Option PlainList) → list ≡ order.list → (failure : CommandFault) → IsSomeAnd list (λ l. IsListRefused gives l order.files before failure) → Refuses failure
    by_list None is failure h = absurd h
    by_list (Some list) is failure (inl memory) = rw memory (λ low. absurd (omega (arith, low)))
    by_list (Some list) is failure (inr (inl h)) = rw h.1 (λ low. inl (inl (subst (λ o. IsSomeAnd o (λ l. h.0.now ≡ l.name)) is h.2), tt, kept))
    by_list (Some list) is failure (inr (inr (inl h))) =
        rw h.0 (λ low. inl (subst (λ o. IsSomeAnd o (λ l. ListSays gives l before (λ text. HasMoreNames l.separator text (max_files - length order.files)))) is h.1, tt, kept))
    by_list (Some list) is failure (inr (inr (inr h))) =
        rw h.2 (λ low. inl (subst (λ o. IsSomeAnd o (λ l. (h.1.now ≡ l.name) × ListSays gives l before (λ text. IsNoName l.separator text h.0))) is (h.3, h.4), tt, kept))

    pub names_refused : (failure : CommandFault) → AreNamesUnread gives order before failure → Refuses failure
    names_refused failure (inl memory) = rw memory (λ low. absurd (omega (arith, low)))
    names_refused failure (inr h) = by_list order.list refl failure h

    by_only : (only : Option (List ℕ)) → only ≡ order.form.only → (failure : CommandFault) → IsOnlyRefused table only failure → Refuses failure
    by_only None is failure h = absurd h
    by_only (Some text) is failure (choice.NoKind word, told, refused) = rw told (λ low. inl (subst (λ o. IsSomeAnd o (λ t. IsUnknown table t word.now)) is refused, tt, kept))
    by_only (Some text) is failure (choice.NoName, told, refused) = rw told (λ low. inl (subst (λ o. IsSomeAnd o IsNoChoice) is refused, tt, kept))
    by_only (Some text) is failure (choice.Memory, told, refused) = rw told (λ low. absurd (omega (arith, low)))

    pub only_refused : (failure : CommandFault) → IsOnlyRefused table order.form.only failure → Refuses failure
    only_refused failure h = by_only order.form.only refl failure h

  module _ (names : List (List ℕ)) (between : S) (named : AreFileNames gives order before between names) where
    pub judged_refused : Keeps old new → (failure : CommandFault) → AreNamesRefused order names failure → Refuses failure
    judged_refused kept failure (inl h) = rw h.0 (λ low. inl (record { names = names; after = between; named = named; have = h.1 }, tt, kept))
    judged_refused kept failure (inr (inl h)) = rw h.0 (λ low. inl (record { names = names; after = between; named = named; have = h.1 }, tt, kept))
    judged_refused kept failure (inr (inr h)) = rw h.0 (λ low. inl (record { names = names; after = between; named = named; have = h.1 }, tt, kept))

    -- one of the files can't be opened
    unread : (failure : CommandFault) → IsUnread names failure → Keeps old new → Refuses failure
    unread (Specification fault) h kept = absurd h
    unread (Automaton fault) h kept = absurd h
    unread (Tables fault) h kept = absurd h
    unread (Unprintable fault) h kept = absurd h
    unread (Words error) h kept = absurd h
    unread TooManyFiles h kept = absurd h
    unread InputTwice h kept = absurd h
    unread (Refused fault) h kept = absurd h
    unread (NotRead name) h kept = λ low. inl (inr (record { names = names; after = between; named = named; have = h }), tt, kept)
    unread Output h kept = absurd h
    unread Memory h kept = λ low. absurd (omega (arith, low))

    module _ (judged : AreJudged order names) (form : PlainForm) (asked : IsFormOf order.form table names form) where
      pub form_asked : (inputs : List PlainInput) → ListsIn form table inputs old new → ListsAsked order.form table names inputs old new
      form_asked inputs lists = record { form = form; asked = asked; listed = lists }

      listing_refused : (failure : CommandFault) → status_of failure < 4 →
          (IsUnread names failure × Keeps old new) ⊎ ((order.stream ≡ true) × HasStoppedFor gives (λ inputs. ListsIn form table inputs old new) names between failure) →
          (IsListingRefused gives order table before failure × HidesNoMemory failure × Keeps old new) ⊎ HasStopped gives order table before old new failure
      listing_refused failure low (inl h) = unread failure h.0 h.1 low
      listing_refused failure low (inr h) =
          let s = h.1 in
          inr (record {
            asked = h.0;
            names = names;
            between = between;
            named = named;
            judged = judged;
            stopped = (s.0, s.1, stops_as_well gives (λ inputs. ListsIn form table inputs old new) (λ inputs. ListsAsked order.form table names inputs old new) form_asked names between s.0.now s.2);
          })

      pub files_refused : (failure : CommandFault) →
          (status_of failure < 4 → (IsUnread names failure × Keeps old new) ⊎ ((order.stream ≡ true) × HasStoppedFor gives (λ inputs. ListsIn form table inputs old new) names between failure)) → Refuses failure
      files_refused failure h = λ low. listing_refused failure low (h low)
