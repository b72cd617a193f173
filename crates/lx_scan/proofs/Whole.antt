-- A text that is whole, as one block of itself.
use Rattle.std.proofs.Common.{◌≡◌, ◌-◌, ◌++◌, Bool, true, List, [], ℕ, length, take, drop, refl, sym, ap, subst, ◌∙◌, arith}
use Rattle.std.proofs.lemmas.List.{append-nil, length-take}
use Rattle.lx_tables.specs.Model.{Table}
use Rattle.lx_scan.specs.declared.cursor.Cursor.{Cursor}
use Rattle.lx_scan.specs.declared.item.Item.{Item}
use Rattle.lx_scan.specs.declared.memory.ScanMemory.{ScanMemory}
use Rattle.lx_scan.specs.declared.progress.Progress.{Progress}
use Rattle.lx_scan.specs.Cursors.{IsInText, items_left}
use Rattle.lx_scan.specs.Ends.{Appends}
use Rattle.lx_scan.specs.Failing.{IsMemoryOf}
use Rattle.lx_scan.specs.Streams.{Gives, GivesTo, IsFedOf, IsOpenMemory, IsProgress, stream_at}
use Rattle.lx_scan.proofs.Walking.{memory_whole}

-- a progress at a cursor, in a text that is whole
module _ (table : Table) (text : List ℕ) (c : Cursor) (p : Progress) (is : IsProgress table text p) (cursor : p.cursor ≡ c) (start : p.start ≡ c.place.offset) (ended : p.has_ended ≡ true) where
  at : p.start ≡ p.cursor.place.offset
  at = start ∙ ap (λ (k : Cursor). k.place.offset) (sym cursor)

  -- it was fed all of the text
  fed : IsFedOf (stream_at table text p) text []
  fed =
      let within = is.parts.within in
      let long : length (take p.start text) ≡ p.start = omega (arith, within, length-take p.start text) in
      let none : p.cursor.place.offset - length (take p.start text) ≡ 0 = omega (arith, long, at) in
      let all : p.cursor.place.offset - 0 ≡ p.start = omega (arith, at) in
      record {
        within = omega (arith, within, at);
        held = ap (λ (n : ℕ). drop n text) (sym at) ∙ sym (append-nil (drop p.start text));
        kept = ap (λ (n : ℕ). take (p.cursor.place.offset - n) (drop n text)) none ∙ ap (λ (n : ℕ). take n text) all;
        end = λ e. refl;
      }

  module _ (q : Progress) (goes_on : IsProgress table text q) (given : List Item) (gives : Gives (stream_at table text p) (stream_at table text q) given) where
    -- its cursor is in the text then
    pub cursor_whole : IsInText table text q.cursor
    cursor_whole = record {
      within = (gives.fed text [] fed).within;
      behind = goes_on.parts.behind;
      known = goes_on.parts.known;
      line_some = goes_on.parts.line_some;
      line_few = goes_on.parts.line_few;
      rule = goes_on.parts.rule;
    }

    -- and these items were the first ones that were left
    pub items_whole : items_left table text c ≡ given ++ items_left table text q.cursor
    items_whole = ap (λ (k : Cursor). items_left table text k) (sym cursor) ∙ gives.items text [] fed

  pub appends_whole : (q : Progress) (before after : List Item) → IsProgress table text q → GivesTo (stream_at table text p) (stream_at table text q) before after →
      Appends before after (items_left table text c) (items_left table text q.cursor)
  appends_whole q before after goes_on g = record { added = g.given; new_is = g.after_is; left_is = items_whole q goes_on g.given g.gives }

  -- a memory of the text
  pub memory_known : (memory : ScanMemory) → IsOpenMemory table text p.has_ended memory → IsMemoryOf table text memory
  memory_known memory m = memory_whole table text memory (subst (λ (b : Bool). IsOpenMemory table text b memory) ended m)
