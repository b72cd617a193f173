-- The meaning of a front part of a list of names for the whole.
use Rattle.std.proofs.Common.{ℕ, ◌≡◌, List, sym, subst}
use Rattle.lx_forms.specs.NameLists.{AreNamed, IsFront}
use Rattle.lx_piece.specs.Plans.{PlainInput}
use Rattle.lx_cli.specs.CommandLine.{PlainList}
use Rattle.lx_tool.specs.Naming.{AreListNames, ListSays}
use Rattle.lx_tool.specs.Sources.{GivesFront, whole}

module _ {S : Type 0} (gives : S → List ℕ → PlainInput → S → Type 0) (list : PlainList) (before after : S) (front : List ℕ) (m n : ℕ) (same : m ≡ n) (part : GivesFront gives before list.name list.separator m (whole front) after) where
  is_front : IsFront list.separator n part.text front
  is_front = subst (λ (k : ℕ). IsFront list.separator k part.text front) same part.front

  pub names_of_list : (old new : List (List ℕ)) → AreNamed list.separator front old new → ((text : List ℕ) → IsFront list.separator n text front → text ≡ front) →
      AreListNames gives list old before after new
  names_of_list old new named is_whole = record {
    text = part.text;
    given = part.given;
    named = subst (λ (text : List ℕ). AreNamed list.separator text old new) (sym (is_whole part.text is_front)) named;
  }

  pub list_says : (Says : List ℕ → Type 0) → ((text : List ℕ) → IsFront list.separator n text front → Says text) → ListSays gives list before Says
  list_says Says says = record { text = part.text; after = after; given = part.given; says = says part.text is_front }
