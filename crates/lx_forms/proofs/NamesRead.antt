-- Names that are read of a text one by one.
use Rattle.std.proofs.Common.{ℕ, ◌≡◌, ◌≢◌, ◌+◌, ◌-◌, true, false, List, [], ◌∷◌, ◌++◌, Option, Some, None, inl, inr, ◌⊎◌, refl, sym, ◌∙◌, ap, length, All, arith, append_assoc, append-nil, unwrap_or}
use Rattle.std.specs.Str.{is_utf8}
use Rattle.std.proofs.lemmas.Grind.{flat_map-append}
use Rattle.std.proofs.lemmas.List.{length-append}
use Rattle.std.proofs.lemmas.List.Elements.{All-push}
use Rattle.lx_forms.specs.NameLists.{AreParts, HasRead, IsFree, IsName, IsNoName, ended}

-- one more name, with the separator after it
ended_more : (separator : ℕ) (names : List (List ℕ)) (name : List ℕ) → ended separator (names ++ name ∷ []) ≡ ended separator names ++ (name ++ separator ∷ [])
ended_more separator names name =
    flat_map-append (λ n. n ++ separator ∷ []) names (name ∷ []) ∙ ap (λ bytes. ended separator names ++ bytes) (append-nil (name ++ separator ∷ []))

module _ (separator : ℕ) (text : List ℕ) (old new : List (List ℕ)) (rest : List ℕ) (read : HasRead separator text old new rest) (some : rest ≢ []) (part : List ℕ) (free : IsFree separator part) where
  -- the text up to the rest of it
  before : text ≡ ended separator read.names ++ rest
  before = elim read.text_is [
    | inl is ↦ is
    | inr none ↦ absurd (some none.0)
  ]

  module _ (bytes : part ≢ []) (characters : is_utf8 part ≡ true) where
    names_more : All (IsName separator) (read.names ++ part ∷ [])
    names_more = All-push (IsName separator) read.names part read.names_are (record { some = bytes; characters = characters; free = free })

    behind_more : new ++ part ∷ [] ≡ old ++ (read.names ++ part ∷ [])
    behind_more = ap (λ names. names ++ part ∷ []) read.behind ∙ append_assoc old read.names (part ∷ [])

    pub read_more : (behind : Option (List ℕ)) → AreParts separator rest part behind → HasRead separator text old (new ++ part ∷ []) (unwrap_or behind [])
    read_more None is = record {
      names = read.names ++ part ∷ [];
      names_are = names_more;
      behind = behind_more;
      text_is = inr (
        refl,
        ap (λ bytes. bytes ++ separator ∷ []) (before ∙ ap (λ bytes. ended separator read.names ++ bytes) is)
            ∙ append_assoc (ended separator read.names) part (separator ∷ [])
            ∙ sym (ended_more separator read.names part),
      );
    }
    read_more (Some later) is = record {
      names = read.names ++ part ∷ [];
      names_are = names_more;
      behind = behind_more;
      text_is = inl (
          before
          ∙ ap (λ bytes. ended separator read.names ++ bytes) (is ∙ sym (append_assoc part (separator ∷ []) later))
          ∙ sym (append_assoc (ended separator read.names) (part ++ separator ∷ []) later)
          ∙ ap (λ bytes. bytes ++ later) (sym (ended_more separator read.names part))
          );
    }

  pub no_name : (behind : Option (List ℕ)) → AreParts separator rest part behind → (part ≡ []) ⊎ (is_utf8 part ≡ false) → IsNoName separator text (length new - length old + 1)
  no_name None is bad = record {
    names = read.names;
    name = part;
    rest = [];
    begins = record { names_are = read.names_are; text_is = before ∙ ap (λ bytes. ended separator read.names ++ bytes) (is ∙ sym (append-nil part)) };
    number_is = let count = ap length read.behind ∙ length-append old read.names in omega (arith, count);
    free = free;
    ends = inl refl;
    bad = elim bad [
      | inl none ↦ absurd (some (is ∙ none))
      | inr other ↦ inr other
    ];
  }
  no_name (Some later) is bad = record {
    names = read.names;
    name = part;
    rest = separator ∷ later;
    begins = record { names_are = read.names_are; text_is = before ∙ ap (λ bytes. ended separator read.names ++ bytes) is };
    number_is = let count = ap length read.behind ∙ length-append old read.names in omega (arith, count);
    free = free;
    ends = inr (later, refl);
    bad = elim bad [
      | inl none ↦ inl (none, λ e. let nobody = ap length e in absurd (omega (arith, nobody)))
      | inr other ↦ inr other
    ];
  }
