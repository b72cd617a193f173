-- The items of a part of a text, and those of the text: places and lines are further on by the same numbers.
use Rattle.std.proofs.Common.{◌≡◌, ℕ, zero, suc, ◌+◌, ◌-◌, ◌≤◌, Bool, List, [], ◌∷◌, ◌++◌, Option, take, map, refl, sym, ap, ap₂, ◌∙◌, arith}
use Rattle.std.specs.Prelude.{nat_eq, slice_index}
use Rattle.std.proofs.lemmas.List.{map-append}
use Rattle.lx_rules.specs.declared.rule.Step.{Step}
use Rattle.lx_rules.specs.declared.rule.Step.TheVariants.{Echo, Begin, Return}
use Rattle.lx_tables.specs.Model.{Table}
use Rattle.lx_scan.specs.declared.ends.End.{End}
use Rattle.lx_scan.specs.declared.item.Item.{Item}
use Rattle.lx_scan.specs.declared.item.Item.TheVariants as item
use Rattle.lx_scan.specs.declared.place.Place.{Place}
use Rattle.lx_scan.specs.Ends.{AreEnds, end_of, items_of_ends, line_of, shift_end, steps_of_code}
use Rattle.lx_scan.specs.Items.{choice_at, items_at, items_from, len_at, place_after, steps_at}
use Rattle.lx_scan.specs.Steps.{condition_after, items_of_steps, newlines}

module _ (table : Table) (d l : ℕ) where
  pub shift_item : Item → Item
  shift_item (item.Token line start len kind) = item.Token (l + line) (d + start) len kind
  shift_item (item.Echo line start len) = item.Echo (l + line) (d + start) len

  abbrev shifted : Place → Place
  shifted p = record { offset = d + p.offset; condition = p.condition; at_line_begin = p.at_line_begin; line = l + p.line }

  steps_shifted : (steps : List Step) (line start len : ℕ) → items_of_steps steps (l + line) (d + start) len ≡ map shift_item (items_of_steps steps line start len)
  unfolding shift_item
  steps_shifted [] line start len = refl
  steps_shifted (Echo ∷ steps) line start len = ap (λ (xs : List Item). item.Echo (l + line) (d + start) len ∷ xs) (steps_shifted steps line start len)
  steps_shifted (Begin next ∷ steps) line start len = steps_shifted steps line start len
  steps_shifted (Return kind ∷ steps) line start len = ap (λ (xs : List Item). item.Token (l + line) (d + start) len kind ∷ xs) (steps_shifted steps line start len)

  places : (o p c k m : ℕ) (b : Bool) → o ≡ p → k ≡ m → ◌≡◌ {A = Place} (record { offset = o; condition = c; at_line_begin = b; line = k }) (record { offset = p; condition = c; at_line_begin = b; line = m })
  places o p c k m b e f = cc

  next_shifted : (rest : List ℕ) (place : Place) (choice : Option (ℕ × ℕ)) → place_after table rest (shifted place) choice ≡ shifted (place_after table rest place choice)
  next_shifted rest place choice =
      places (d + place.offset + len_at choice) (d + (place.offset + len_at choice)) (condition_after (steps_at table choice) place.condition) (l + place.line + newlines (take (len_at choice) rest)) (l + (place.line + newlines (take (len_at choice) rest)))
      (nat_eq (slice_index rest (len_at choice - 1)) 10) (omega arith) (omega arith)

  pub from_shifted : (rest : List ℕ) (taken : ℕ) (place : Place) → items_from table rest taken (shifted place) ≡ map shift_item (items_from table rest taken place)
  from_shifted [] taken place = refl
  from_shifted (byte ∷ rest) (suc taken) place = from_shifted rest taken place
  from_shifted (byte ∷ rest) zero place =
      let choice : Option (ℕ × ℕ) = choice_at table (byte ∷ rest) place in
      let next : Place = place_after table (byte ∷ rest) place choice in
      ap₂ (λ (xs ys : List Item). xs ++ ys) (steps_shifted (steps_at table choice) place.line place.offset (len_at choice))
      (ap (λ (p : Place). items_from table rest (len_at choice - 1) p) (next_shifted (byte ∷ rest) place choice) ∙ from_shifted rest (len_at choice - 1) next)
      ∙ sym (map-append shift_item (items_at table place choice) (items_from table rest (len_at choice - 1) next))

  pub ends_shifted : (start line : ℕ) (ends : List End) → items_of_ends table (d + start) (l + line) (map (shift_end d l) ends) ≡ map shift_item (items_of_ends table start line ends)
  ends_shifted start line [] = refl
  ends_shifted start line (e ∷ ends) =
      let len : d + e.offset - (d + start) ≡ e.offset - start = omega arith in
      ap₂ (λ (xs ys : List Item). xs ++ ys)
      (ap (λ (n : ℕ). items_of_steps (steps_of_code table e.code) (l + line) (d + start) n) len ∙ steps_shifted (steps_of_code table e.code) line start (e.offset - start))
      (ends_shifted e.offset e.line ends)
      ∙ sym (map-append shift_item (items_of_steps (steps_of_code table e.code) line start (e.offset - start)) (items_of_ends table e.offset e.line ends))

  pub are_shifted : l ≤ d → (start : ℕ) (ends : List End) → AreEnds table start ends → AreEnds table (d + start) (map (shift_end d l) ends)
  are_shifted below start [] are = tt
  are_shifted below start (e ∷ ends) (is, are) = (record { further = (let f = is.further in omega arith); line_few = (let few = is.line_few in omega (arith, below)); some = is.some; known = is.known; few = is.few }, are_shifted below e.offset ends are)

  pub end_shifted : (start : ℕ) (ends : List End) → end_of (d + start) (map (shift_end d l) ends) ≡ d + end_of start ends
  end_shifted start [] = refl
  end_shifted start (e ∷ ends) = end_shifted e.offset ends

  pub line_shifted : (line : ℕ) (ends : List End) → line_of (l + line) (map (shift_end d l) ends) ≡ l + line_of line ends
  line_shifted line [] = refl
  line_shifted line (e ∷ ends) = line_shifted e.line ends
