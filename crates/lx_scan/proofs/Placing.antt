-- The items of a text lie in it and have their lines.
use Rattle.std.proofs.Common.{◌≡◌, ℕ, zero, suc, ◌+◌, ◌-◌, ◌<◌, ◌≤◌, List, [], ◌∷◌, length, take, drop, All, refl, sym, ap, ◌∙◌, arith}
use Rattle.std.proofs.lemmas.List.{length-drop}
use Rattle.std.proofs.lemmas.List.Elements.{All-append, All-nil}
use Rattle.lx_tables.specs.Model.{Table, IsTable}
use Rattle.lx_scan.specs.declared.place.Place.{Place}
use Rattle.lx_scan.specs.ItemParts.{IsItemOf, line_at}
use Rattle.lx_scan.specs.Items.{choice_at, first_place, items_at, items_from, items_of, len_at, place_after, steps_at}
use Rattle.lx_scan.specs.Steps.{newlines}
use Rattle.lx_scan.proofs.Actions.{items_known, steps_known}
use Rattle.lx_scan.proofs.Choosing.{by_answers}
use Rattle.lx_scan.proofs.Turns.{Takes, takes, drop_tail, rest_more, line_behind}

module _ (table : Table) (is : IsTable table) (text : List ℕ) where
  placed : (rest : List ℕ) (taken p : ℕ) (place : Place) → drop p text ≡ rest → p + taken ≡ place.offset → place.offset ≤ length text → place.condition < length table.machine.starts → place.line ≡ line_at text place.offset →
      All (IsItemOf table.kinds text) (items_from table rest taken place)
  placed [] taken p place at before within known line = All-nil (IsItemOf table.kinds text)
  placed (byte ∷ rest) (suc taken) p place at before within known line = placed rest taken (suc p) place (drop_tail text p byte rest at) (omega arith) within known line
  placed (byte ∷ rest) zero p place at before within known line =
      let choice = choice_at table (byte ∷ rest) place in
      let here : p ≡ place.offset = omega arith in
      let there : drop place.offset text ≡ byte ∷ rest = ap (λ (k : ℕ). drop k text) (sym here) ∙ at in
      let t : Takes table (byte ∷ rest) place choice = takes table is (byte ∷ rest) place choice (omega arith) known (by_answers table place.condition place.at_line_begin (byte ∷ rest)) in
      let some : 0 < len_at choice = t.some in
      let most : len_at choice ≤ length (byte ∷ rest) = t.within in
      let more : place.offset < length text = rest_more text place.offset byte rest there in
      let long : length (byte ∷ rest) ≡ length text - place.offset = sym (ap length there) ∙ length-drop place.offset text in
      let end : place.offset + len_at choice ≤ length text = omega (arith, most, more, long) in
      All-append (IsItemOf table.kinds text) (items_at table place choice) (items_from table rest (len_at choice - 1) (place_after table (byte ∷ rest) place choice))
      (items_known table.kinds text (steps_at table choice) (length table.machine.starts) place.line place.offset (len_at choice) end line (steps_known table is choice))
      (placed rest (len_at choice - 1) (suc p) (place_after table (byte ∷ rest) place choice) (drop_tail text p byte rest at) (omega (arith, some, here)) end t.known
      (ap (λ (xs : List ℕ). place.line + newlines (take (len_at choice) xs)) (sym there) ∙ line_behind text place.line place.offset (len_at choice) line))

-- The items of a text.
pub items_placed : (table : Table) (text : List ℕ) → IsTable table → All (IsItemOf table.kinds text) (items_of table text)
unfolding items_of
items_placed table text is = placed table is text text 0 0 first_place refl refl (omega arith) is.machine.some refl
