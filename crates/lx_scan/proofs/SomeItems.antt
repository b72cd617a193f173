-- Each text has its items by the rules of any specification: a choice at each place, and so a run to the text's end.
use Rattle.std.proofs.Common.{◌≡◌, ℕ, zero, suc, ◌+◌, ◌-◌, ◌<◌, ◌≤◌, inl, inr, Bool, List, [], ◌∷◌, Option, Some, None, length, drop, refl, arith, length-drop}
use Rattle.lx_rules.specs.Choice.{IsChoice}
use Rattle.lx_rules.specs.Plain.{PlainSpec}
use Rattle.lx_scan.specs.declared.item.Item.{Item}
use Rattle.lx_scan.specs.declared.place.Match.{Match}
use Rattle.lx_scan.specs.declared.place.Place.{Place}
use Rattle.lx_scan.specs.ByRules.{IsNext, Run, place_behind, items_of_run, actions_of, AreItemsBy}
use Rattle.lx_scan.specs.Items.{first_place}
use Rattle.lx_ere.proofs.Deciding.{below_or_not}
use Rattle.lx_scan.proofs.SomeChoice.{some_choice}

-- the match that a choice at a place is
match_of : ℕ → Option (ℕ × ℕ) → Match
match_of start None = record { rule = None; start = start; len = 1 }
match_of start (Some found) = record { rule = Some found.0; start = start; len = found.1 }

module _ (spec : PlainSpec) (text : List ℕ) where
  is_next : (place : Place) (choice : Option (ℕ × ℕ)) → place.offset < length text → IsChoice spec place.condition place.at_line_begin (drop place.offset text) choice →
      IsNext (IsChoice spec) text place (match_of place.offset choice)
  unfolding match_of
  is_next place None more is = record { more = more; start = refl; choice = is; alone = λ e. refl }
  is_next place (Some found) more is = record { more = more; start = refl; choice = is; alone = λ e. absurd (cc) }

  -- a match has at least one byte, and all its bytes exist
  takes_some : (condition : ℕ) (begin : Bool) (start : ℕ) (rest : List ℕ) (choice : Option (ℕ × ℕ)) → 0 < length rest → IsChoice spec condition begin rest choice →
      (0 < (match_of start choice).len) × ((match_of start choice).len ≤ length rest)
  unfolding match_of
  takes_some condition begin start rest None more is = ((omega arith), (omega (arith, more)))
  takes_some condition begin start rest (Some found) more is = (is.fits.not_empty, is.fits.within)

  RunsOn : Place → Type 0
  RunsOn from = (ms : List Match) × (to : Place) × Run (IsChoice spec) (actions_of spec) text from ms to × (to.offset ≡ length text)

  some_run : (fuel : ℕ) (from : Place) → from.offset ≤ length text → length text ≤ from.offset + fuel → RunsOn from
  unfolding RunsOn
  some_run zero from within enough = ([], from, refl, omega (arith, within, enough))
  some_run (suc fuel) from within enough = elim (below_or_not (length text) from.offset) as (λ _. RunsOn from) [
    | inl done ↦ ([], from, refl, omega (arith, within, done))
    | inr more ↦
        let left : length (drop from.offset text) ≡ length text - from.offset = length-drop from.offset text in
        let choice = some_choice spec from.condition from.at_line_begin (drop from.offset text) in
        let found : Match = match_of from.offset choice.0 in
        let bytes = takes_some from.condition from.at_line_begin from.offset (drop from.offset text) choice.0 (omega (arith, left, more)) choice.1 in
        let some : 0 < found.len = bytes.0 in
        let there : found.len ≤ length (drop from.offset text) = bytes.1 in
        let rest = some_run fuel (place_behind (actions_of spec) text from found) (omega (arith, left, there, more)) (omega (arith, some, enough)) in
        (found ∷ rest.0, rest.1, (is_next from choice.0 more choice.1, rest.2), rest.3)
  ]

  pub some_items : (items : List Item) × AreItemsBy spec text items
  unfolding RunsOn
  some_items =
      let run = some_run (length text) first_place (omega arith) (omega arith) in
      (items_of_run (actions_of spec) text first_place run.0, record { matches = run.0; end = run.1; run = run.2; whole = run.3; items_are = refl })
