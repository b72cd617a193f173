-- A scanner that is fed a text in blocks, by its parts.
use Rattle.std.proofs.Common.{◌≡◌, ℕ, zero, suc, ◌+◌, ◌-◌, ◌<◌, ◌≤◌, inl, Bool, false, true, List, [], ◌∷◌, ◌++◌, Option, Some, None, length, take, drop, refl, sym, ap, ap₂, subst, ◌∙◌, arith}
use Rattle.std.specs.Prelude.{IfSome, IsTrue, flat_map, get_or, replicate, slice_range}
use Rattle.std.specs.Option.{is_some, option_map}
use Rattle.std.proofs.lemmas.List.{append-nil, append_assoc, drop-append-le, drop-take, length-append, length-drop, length-replicate, length-take, take-append-le, take-take, take_more}
use Rattle.std.proofs.lemmas.Grind.{flat_map-append}
use Rattle.std.proofs.lemmas.List.Elements.{All-append, All-cons, All-nil, All-weaker}
use Rattle.std.proofs.Math.Seq.{drop-append_seam, take-add, take-append_seam}
use Rattle.lx_rules.specs.declared.rule.Step.{Step}
use Rattle.lx_rules.specs.declared.rule.Step.TheVariants.{Echo, Begin, Return}
use Rattle.lx_tables.specs.Model.{IsTable, Table}
use Rattle.lx_scan.specs.declared.cursor.Cursor.{Cursor}
use Rattle.lx_scan.specs.declared.item.Item.{Item}
use Rattle.lx_scan.specs.declared.place.Match.{Match}
use Rattle.lx_scan.specs.declared.place.Place.{Place}
use Rattle.lx_scan.specs.Cursors.{listed, steps_left}
use Rattle.lx_scan.specs.ItemParts.{len_of, start_of, text_of}
use Rattle.lx_scan.specs.Items.{first_place, items_after, items_of, steps_at}
use Rattle.lx_scan.specs.Steps.{items_of_steps}
use Rattle.lx_scan.specs.Streams.{AreParts, Feeds, Gives, GivesTo, GoesOnBy, HasScanned, IsAfter, IsDrained, IsKept, IsFedOf, IsOver, IsSilentSince, IsWalked, Stream, first_stream, left_in, stream_of}
use Rattle.lx_scan.proofs.Cursors.{begins}
use Rattle.lx_scan.proofs.Turns.{drop_further}
use Rattle.lx_scan.proofs.Walking.{silent_more, walk_more}

-- ---- lists
drop_take : (n m : ℕ) (xs : List ℕ) → n ≤ m → drop n (take m xs) ≡ take (m - n) (drop n xs)
drop_take n m xs few =
    let both : m ≡ n + (m - n) = omega arith in
    ap (λ (k : ℕ). drop n (take k xs)) both ∙ drop-take n (m - n) xs

-- ---- from state to state
pub gives_none : (s : Stream) → Gives s s []
gives_none s = record { table = refl; end = refl; fed = λ text rest f. f; items = λ text rest f. refl; kept = λ item k. k }

pub gives_then : (a b c : Stream) (items more : List Item) → Gives a b items → Gives b c more → Gives a c (items ++ more)
gives_then a b c items more f g = record {
  table = g.table ∙ f.table;
  end = g.end ∙ f.end;
  fed = λ text rest fed. g.fed text rest (f.fed text rest fed);
  items = λ text rest fed.
      f.items text rest fed ∙ ap (λ (xs : List Item). items ++ xs) (g.items text rest (f.fed text rest fed)) ∙ sym (append_assoc items more (left_in c text));
  kept = λ item k. g.kept item (f.kept item k);
}

-- items that are appended to those before them
pub gives_to_both : (a b c : Stream) (x y z : List Item) → GivesTo a b x y → GivesTo b c y z → GivesTo a c x z
gives_to_both a b c x y z f g = record {
  given = f.given ++ g.given;
  after_is = g.after_is ∙ ap (λ (xs : List Item). xs ++ g.given) f.after_is ∙ append_assoc x f.given g.given;
  gives = gives_then a b c f.given g.given f.gives g.gives;
  kept = All-append (IsKept c) f.given g.given (All-weaker (IsKept b) (IsKept c) g.gives.kept f.given f.kept) g.kept;
}

pub gives_nothing : (a b : Stream) (items : List Item) → Gives a b [] → GivesTo a b items items
gives_nothing a b items g = record { given = []; after_is = sym (append-nil items); gives = g; kept = All-nil (IsKept b) }

-- nothing, then a match, then its first item if it has one
pub gives_on : (a b c d : Stream) (item : Option Item) (more : List Item) → is_some item ≡ false → Gives a b (listed item) → Gives b c [] → Gives c d more → Gives a d more
gives_on a b c d None more none f g h = gives_then a b d [] more f (gives_then b c d [] more g h)
gives_on a b c d (Some item) more none f g h = absurd (let no : true ≡ false = none in cc)

-- one item more
pub gives_to : (a b c : Stream) (before after new : List Item) (item : Item) → GivesTo a b before after → Gives b c (item ∷ []) → IsKept c item → new ≡ after ++ item ∷ [] → GivesTo a c before new
gives_to a b c before after new item f g kept is = record {
  given = f.given ++ item ∷ [];
  after_is = is ∙ ap (λ (xs : List Item). xs ++ item ∷ []) f.after_is ∙ append_assoc before f.given (item ∷ []);
  gives = gives_then a b c f.given (item ∷ []) f.gives g;
  kept = All-append (IsKept c) f.given (item ∷ []) (All-weaker (IsKept b) (IsKept c) g.kept f.given f.kept) (All-cons (IsKept c) item [] kept (All-nil (IsKept c)));
}

-- an item of the last match
pub gives_due : (a b : Stream) (item : Option Item) → b ≡ record a { due = b.due } → a.due ≡ listed item ++ b.due → Gives a b (listed item)
gives_due a b item same due = record {
  table = ap (λ (s : Stream). s.table) same;
  end = ap (λ (s : Stream). s.has_ended) same;
  fed = λ text rest fed. subst (λ (s : Stream). IsFedOf s text rest) (sym same) (record { within = fed.within; held = fed.held; kept = fed.kept; end = fed.end });
  items = λ text rest fed.
      ap (λ (xs : List Item). xs ++ items_after a.table text a.place) due
      ∙ append_assoc (listed item) b.due (items_after a.table text a.place)
      ∙ ap (λ (s : Stream). listed item ++ (b.due ++ items_after s.table text s.place)) (sym same);
  kept = λ item k. subst (λ (s : Stream). IsKept s item) (sym same) (record { from = k.from; to = k.to });
}

-- ---- the item's bytes
first_item : (steps : List Step) (line start len : ℕ) (item : Item) (more : List Item) → items_of_steps steps line start len ≡ item ∷ more → (start_of item ≡ start) × (len_of item ≡ len)
first_item [] line start len item more e = absurd (let n : 0 ≡ suc (length more) = ap length e in omega arith)
first_item (Echo ∷ steps) line start len item more e = (head_of start_of e, head_of len_of e)
  where
    head_or : (Item → ℕ) → List Item → ℕ
    head_or f [] = 0
    head_or f (x ∷ xs) = f x

    head_of : (f : Item → ℕ) {xs : List Item} → xs ≡ item ∷ more → f item ≡ head_or f xs
    head_of f e = sym (ap (λ (xs : List Item). head_or f xs) e)
first_item (Begin next ∷ steps) line start len item more e = first_item steps line start len item more e
first_item (Return kind ∷ steps) line start len item more e = (head_of start_of e, head_of len_of e)
  where
    head_or : (Item → ℕ) → List Item → ℕ
    head_or f [] = 0
    head_or f (x ∷ xs) = f x

    head_of : (f : Item → ℕ) {xs : List Item} → xs ≡ item ∷ more → f item ≡ head_or f xs
    head_of f e = sym (ap (λ (xs : List Item). head_or f xs) e)

-- the items of the last match are of bytes that are kept
pub item_kept : (table : Table) (bytes : List ℕ) (start : ℕ) (c new : Cursor) (ended : Bool) (item : Item) (more : List Item) →
    start ≤ length bytes → c.found.len ≤ start → c.found.start + c.found.len ≡ c.place.offset → new ≡ record c { done = new.done } →
    items_of_steps (steps_left table c) c.line c.found.start c.found.len ≡ item ∷ more → IsKept (stream_of table bytes start new ended) item
item_kept table bytes start c new ended item more within few behind same e =
    let parts = first_item (steps_left table c) c.line c.found.start c.found.len item more e in
    let offset : new.place.offset ≡ c.place.offset = ap (λ (k : Cursor). k.place.offset) same in
    let starts : start_of item ≡ c.found.start = parts.0 in
    let lens : len_of item ≡ c.found.len = parts.1 in
    record {
      from = omega (arith, offset, starts, few, behind, length-take start bytes);
      to = omega (arith, offset, starts, lens, behind);
    }

pub due_kept : (table : Table) (bytes : List ℕ) (start : ℕ) (c new : Cursor) (read state : ℕ) (last : Option (ℕ × ℕ)) (ended : Bool) (result : Option Item) (more : List Item) →
    AreParts table bytes start c read state last → new ≡ record c { done = new.done } → items_of_steps (steps_left table c) c.line c.found.start c.found.len ≡ listed result ++ more →
    IfSome result (λ item. IsKept (stream_of table bytes start new ended) item)
due_kept table bytes start c new read state last ended None more parts same e = tt
due_kept table bytes start c new read state last ended (Some item) more parts same e = item_kept table bytes start c new ended item more parts.within parts.found parts.behind same e

-- the bytes of an item, from those that are kept
pub kept_text : (s : Stream) (item : Item) (text rest : List ℕ) (at : ℕ) → IsKept s item → length s.kept ≤ s.place.offset → IsFedOf s text rest → at + s.place.offset ≡ start_of item + length s.kept →
    slice_range s.kept at (at + len_of item) ≡ text_of text item
kept_text s item text rest at kept few fed at_is =
    let from = kept.from in
    let to = kept.to in
    let front : ℕ = s.place.offset - length s.kept in
    let here : front + at ≡ start_of item = omega arith in
    let count : at + len_of item - at ≡ start_of item + len_of item - start_of item = omega arith in
    let long : at + (at + len_of item - at) ≤ s.place.offset - front = omega arith in
    ap (λ (w : List ℕ). slice_range w at (at + len_of item)) (sym fed.kept)
    ∙ take_of_take (at + len_of item - at) at (s.place.offset - front) (drop front text) long
    ∙ ap (λ (w : List ℕ). take (at + len_of item - at) w) (drop_further text front at)
    ∙ ap₂ (λ (a n : ℕ). take n (drop a text)) here count
  where
    take_of_take : (n at most : ℕ) (xs : List ℕ) → at + n ≤ most → take n (drop at (take most xs)) ≡ take n (drop at xs)
    take_of_take n at most xs h =
        ap (λ (w : List ℕ). take n w) (drop_take at most xs (omega arith)) ∙ take-take n (most - at) (drop at xs) (omega arith)

pub bytes_text : (table : Table) (bytes : List ℕ) (start : ℕ) (c : Cursor) (read state : ℕ) (last : Option (ℕ × ℕ)) (ended : Bool) (item : Item) (at len : ℕ) →
    AreParts table bytes start c read state last → IsKept (stream_of table bytes start c ended) item → at ≡ start_of item - (c.place.offset - start) → len ≡ len_of item →
    (text rest : List ℕ) → IsFedOf (stream_of table bytes start c ended) text rest → slice_range bytes at (at + len) ≡ text_of text item
bytes_text table bytes start c read state last ended item at len parts kept at_is len_is text rest fed =
    let front = parts.front in
    let long : length (take start bytes) ≡ start = (let within = parts.within in omega (arith, length-take start bytes)) in
    let from = kept.from in
    let to = kept.to in
    let first : c.place.offset ≤ start_of item + start = omega (arith, from, long) in
    let few : at + len ≤ start = omega (arith, first, to, front, at_is, len_is) in
    let count : at + len - at ≤ start - at = omega (arith, few) in
    let in_kept : slice_range (take start bytes) at (at + len) ≡ slice_range bytes at (at + len)
    = ap (λ (w : List ℕ). take (at + len - at) w) (drop_take at start bytes (omega (arith, few))) ∙ take-take (at + len - at) (start - at) (drop at bytes) count in
    sym in_kept ∙ ap (λ (n : ℕ). slice_range (take start bytes) at (at + n)) len_is
    ∙ kept_text (stream_of table bytes start c ended) item text rest at kept (omega (arith, long, front)) fed (omega (arith, at_is, first, front, long))

-- ---- further on
--  the scanner is some bytes further on, of those that are held
pub fed_further : (table : Table) (bytes : List ℕ) (start : ℕ) (c new : Cursor) (ended : Bool) (n : ℕ) (text rest : List ℕ) → start ≤ length bytes → start ≤ c.place.offset → new.place.offset ≡ c.place.offset + n → n ≤ length (drop start bytes) →
    new.place.offset ≤ length text → IsFedOf (stream_of table bytes start c ended) text rest → IsFedOf (stream_of table bytes (start + n) new ended) text rest
fed_further table bytes start c new ended n text rest start_within front offset inside within fed =
    let kept_len : length (take start bytes) ≡ start = omega (arith, length-take start bytes, start_within) in
    let next_len : length (take (start + n) bytes) ≡ start + n = omega (arith, length-take (start + n) bytes, length-drop start bytes, inside, start_within) in
    let base : ℕ = c.place.offset - length (take start bytes) in
    let here : take n (drop c.place.offset text) ≡ take n (drop start bytes) = ap (λ (w : List ℕ). take n w) fed.held ∙ take-append-le n (drop start bytes) rest inside in
    let from : new.place.offset - length (take (start + n) bytes) ≡ base = omega (arith, kept_len, next_len, offset, front) in
    let count : new.place.offset - base ≡ c.place.offset - base + n = omega (arith, offset) in
    let at : base + (c.place.offset - base) ≡ c.place.offset = omega arith in
    record {
      within = within;
      held = ap (λ (k : ℕ). drop k text) offset ∙ sym (drop_further text c.place.offset n) ∙ ap (λ (w : List ℕ). drop n w) fed.held ∙ drop-append-le n (drop start bytes) rest inside
          ∙ ap (λ (w : List ℕ). w ++ rest) (drop_further bytes start n);
      kept = ap (λ (a : ℕ). slice_range text a new.place.offset) from ∙ ap (λ (k : ℕ). take k (drop base text)) count ∙ take-add (c.place.offset - base) n (drop base text)
          ∙ ap₂ (λ (xs ys : List ℕ). xs ++ ys) fed.kept (ap (λ (w : List ℕ). take n w) (drop_further text base (c.place.offset - base) ∙ ap (λ (k : ℕ). drop k text) at) ∙ here)
          ∙ sym (take-add start n bytes);
      end = fed.end;
    }

-- the bytes of an item that were kept still are
pub kept_further : (table : Table) (bytes : List ℕ) (start : ℕ) (c new : Cursor) (ended : Bool) (n : ℕ) (item : Item) → start ≤ length bytes → new.place.offset ≡ c.place.offset + n → n ≤ length (drop start bytes) →
    IsKept (stream_of table bytes start c ended) item → IsKept (stream_of table bytes (start + n) new ended) item
kept_further table bytes start c new ended n item start_within offset inside k =
    let kept_len : length (take start bytes) ≡ start = omega (arith, length-take start bytes, start_within) in
    let next_len : length (take (start + n) bytes) ≡ start + n = omega (arith, length-take (start + n) bytes, length-drop start bytes, inside, start_within) in
    record {
      from = (let from = k.from in omega (arith, offset, kept_len, next_len));
      to = (let to = k.to in omega (arith, offset));
    }

-- no step is left after no match
pub none_after : (table : Table) (c : Cursor) (place : Place) → IsAfter c place → items_of_steps (steps_left table c) c.line c.found.start c.found.len ≡ []
none_after table c place a =
    ap (λ (steps : List Step). items_of_steps steps c.line c.found.start c.found.len)
    (ap (λ (r : Option ℕ). drop c.done (steps_at table (option_map (λ rule. (rule, c.found.len)) r))) a.rule ∙ all_done c.done a.done)
  where
    nothing : (k : ℕ) → ◌≡◌ {A = List Step} (drop k []) []
    nothing zero = refl
    nothing (suc k) = refl

    all_done : (done : ℕ) → 1 ≤ done → ◌≡◌ {A = List Step} (drop done (Echo ∷ [])) []
    all_done zero h = absurd (omega arith)
    all_done (suc done) h = nothing done

-- ---- before the first byte
pub first_parts : (table : Table) (c : Cursor) (place : Place) (read state : ℕ) (last : Option (ℕ × ℕ)) → IsTable table → place ≡ first_place → IsAfter c place → IsWalked table c.place [] read state last →
    AreParts table [] 0 c read state last
first_parts table c place read state last is first after walk =
    let offset : c.place.offset ≡ 0 = ap (λ (p : Place). p.offset) (after.place_is ∙ first) in
    let condition : c.place.condition ≡ 0 = ap (λ (p : Place). p.condition) (after.place_is ∙ first) in
    let line : c.place.line ≡ 1 = ap (λ (p : Place). p.line) (after.place_is ∙ first) in
    let at : place.offset ≡ 0 = ap (λ (p : Place). p.offset) first in
    let start = after.start in
    let len = after.len in
    let some = is.machine.some in
    record {
      is_table = is;
      within = omega arith;
      found = omega (arith, len);
      front = omega arith;
      behind = omega (arith, start, len, offset, at);
      known = omega (arith, some, condition);
      line_some = omega (arith, line);
      line_few = omega (arith, line);
      rule = λ i e. absurd (let f : None ≡ Some i = sym after.rule ∙ e in cc);
      few = omega (arith, offset);
      walk = walk;
    }

pub first_is : (table : Table) (c : Cursor) (place : Place) → place ≡ first_place → IsAfter c place → stream_of table [] 0 c false ≡ first_stream table
first_is table c place first after =
    ap₂ (λ (items : List Item) (p : Place). record { table = table; due = items; kept = []; held = []; place = p; has_ended = false })
    (none_after table c place after) (after.place_is ∙ first)

-- ---- the next match
module _ (table : Table) (bytes : List ℕ) (start : ℕ) (c : Cursor) (read state : ℕ) (last : Option (ℕ × ℕ)) (ended : Bool) (m : Match) (next : Place)
    (parts : AreParts table bytes start c read state last) (due : items_of_steps (steps_left table c) c.line c.found.start c.found.len ≡ []) (goes : GoesOnBy table c.place (drop start bytes) ended m next) where
  abbrev cursor : Cursor
  cursor = record { found = m; line = c.place.line; done = 0; place = next }

  held_next : drop m.len (drop start bytes) ≡ drop (start + m.len) bytes
  held_next = drop_further bytes start m.len

  fed_next : (text rest : List ℕ) → IsFedOf (stream_of table bytes start c ended) text rest → IsFedOf (stream_of table bytes (start + m.len) cursor ended) text rest
  fed_next text rest fed =
      let there = goes.goes_on text rest fed.within fed.held fed.end in
      fed_further table bytes start c cursor ended m.len text rest parts.within parts.front goes.offset goes.within there.within fed

  pub gives_match : Gives (stream_of table bytes start c ended) (stream_of table bytes (start + m.len) cursor ended) []
  gives_match = record {
    table = refl;
    end = refl;
    fed = fed_next;
    items = λ text rest fed. ap (λ (xs : List Item). xs ++ items_after table text c.place) due ∙ (goes.goes_on text rest fed.within fed.held fed.end).items;
    kept = λ item k. kept_further table bytes start c cursor ended m.len item parts.within goes.offset goes.within k;
  }

  pub parts_next : (read_new state_new : ℕ) (last_new : Option (ℕ × ℕ)) → IsWalked table next (drop (start + m.len) bytes) read_new state_new last_new → AreParts table bytes (start + m.len) cursor read_new state_new last_new
  parts_next read_new state_new last_new walk =
      let start_within : start ≤ length bytes = parts.within in
      let few = parts.few in
      record {
        is_table = parts.is_table;
        within = omega (arith, parts.within, goes.within, length-drop start bytes);
        found = omega arith;
        front = omega (arith, goes.offset, parts.front);
        behind = (let s : m.start ≡ c.place.offset = goes.start in let o = goes.offset in omega arith);
        known = goes.known;
        line_some = goes.line_some;
        line_few = goes.line_few;
        rule = goes.rule;
        few = omega (arith, few, goes.offset, goes.within, length-drop start bytes, length-drop (start + m.len) bytes);
        walk = walk;
      }

  pub fewer_held : length (drop (start + m.len) bytes) < length (drop start bytes)
  fewer_held = omega (arith, goes.some, goes.within, length-drop start bytes, length-drop (start + m.len) bytes)

-- ---- a block
module _ (table : Table) (bytes : List ℕ) (start : ℕ) (c : Cursor) (read state : ℕ) (last : Option (ℕ × ℕ)) (parts : AreParts table bytes start c read state last) (removed : ℕ) (few : removed ≤ start - c.found.len) where
  held_same : drop (start - removed) (drop removed bytes) ≡ drop start bytes
  held_same = let same : removed + (start - removed) ≡ start = omega arith in drop_further bytes removed (start - removed) ∙ ap (λ (n : ℕ). drop n bytes) same

  kept_same : take (start - removed) (drop removed bytes) ≡ drop removed (take start bytes)
  kept_same = sym (drop_take removed start bytes (omega arith))

  start_within : start - removed ≤ length (drop removed bytes)
  start_within = let s = parts.within in omega (arith, length-drop removed bytes)

  -- the same, without bytes that are no longer needed
  pub parts_removed : AreParts table (drop removed bytes) (start - removed) c read state last
  parts_removed = let found = parts.found in record {
    is_table = parts.is_table;
    within = start_within;
    found = omega arith;
    front = (let front = parts.front in omega arith);
    behind = parts.behind;
    known = parts.known;
    line_some = parts.line_some;
    line_few = parts.line_few;
    rule = parts.rule;
    few = (let f = parts.few in omega (arith, ap length held_same));
    walk = subst (λ (w : List ℕ). IsWalked table c.place w read state last) (sym held_same) parts.walk;
  }

  pub stream_removed : (ended : Bool) → stream_of table (drop removed bytes) (start - removed) c ended ≡ record (stream_of table bytes start c ended) { kept = drop removed (take start bytes) }
  stream_removed ended = ap₂ (λ (a b : List ℕ). record (stream_of table bytes start c ended) { kept = a; held = b }) kept_same held_same

module _ (table : Table) (bytes block : List ℕ) (start : ℕ) (c : Cursor) (read state : ℕ) (last : Option (ℕ × ℕ)) (parts : AreParts table bytes start c read state last) where
  held_fed : drop start (bytes ++ block) ≡ drop start bytes ++ block
  held_fed = drop-append-le start bytes block parts.within

  kept_fed : take start (bytes ++ block) ≡ take start bytes
  kept_fed = take-append-le start bytes block parts.within

  -- the same, with a block after the bytes that are held
  pub parts_fed : c.place.offset + (length (drop start bytes) + length block) + 1 < 18446744073709551616 → AreParts table (bytes ++ block) start c read state last
  parts_fed few = record {
    is_table = parts.is_table;
    within = (let within = parts.within in omega (arith, length-append bytes block));
    found = parts.found;
    front = parts.front;
    behind = parts.behind;
    known = parts.known;
    line_some = parts.line_some;
    line_few = parts.line_few;
    rule = parts.rule;
    few = omega (arith, few, ap length held_fed, length-append (drop start bytes) block);
    walk = subst (λ (w : List ℕ). IsWalked table c.place w read state last) (sym held_fed) (walk_more table c.place (drop start bytes) block read state last parts.walk);
  }

  pub stream_fed : (ended : Bool) → stream_of table (bytes ++ block) start c ended ≡ record (stream_of table bytes start c ended) { held = drop start bytes ++ block }
  stream_fed ended = ap₂ (λ (a b : List ℕ). record (stream_of table bytes start c ended) { kept = a; held = b }) kept_fed held_fed

-- a block is fed, and bytes at the front of those that are kept may be removed
pub feeds : (s new : Stream) (block : List ℕ) (removed : ℕ) → length s.kept ≤ s.place.offset → removed ≤ length s.kept → new ≡ record s { kept = drop removed s.kept; held = s.held ++ block } → Feeds s new block
feeds s new block removed front few is = record {
  same = is ∙ ap (λ (k : List ℕ). record s { kept = k; held = s.held ++ block }) (sym (ap (λ (n : Stream). n.kept) is));
  fed = λ text rest fed. subst (λ (n : Stream). IsFedOf n text rest) (sym is) (record {
    within = fed.within;
    held = fed.held ∙ sym (append_assoc s.held block rest);
    kept = kept text (block ++ rest) fed;
    end = λ ended. none_both block rest (fed.end ended);
  });
  items = λ text. ap (λ (n : Stream). left_in n text) is;
}
  where
    none_both : (xs ys : List ℕ) → xs ++ ys ≡ [] → ys ≡ []
    none_both [] ys e = e
    none_both (x ∷ xs) ys e = absurd (let n : suc (length (xs ++ ys)) ≡ 0 = ap length e in omega arith)

    kept : (text rest : List ℕ) → IsFedOf s text rest → slice_range text (s.place.offset - length (drop removed s.kept)) s.place.offset ≡ drop removed s.kept
    kept text rest fed =
        let base : ℕ = s.place.offset - length s.kept in
        let from : s.place.offset - length (drop removed s.kept) ≡ base + removed = omega (arith, length-drop removed s.kept) in
        let count : s.place.offset - (base + removed) ≡ s.place.offset - base - removed = omega arith in
        ap (λ (a : ℕ). slice_range text a s.place.offset) from
        ∙ ap₂ (λ (n : ℕ) (w : List ℕ). take n w) count (sym (drop_further text base removed))
        ∙ sym (drop_take removed (s.place.offset - base) (drop base text) (omega arith))
        ∙ ap (λ (w : List ℕ). drop removed w) fed.kept

-- both, by the parts
module _ (table : Table) (bytes block : List ℕ) (start : ℕ) (c : Cursor) (read state : ℕ) (last : Option (ℕ × ℕ)) (parts : AreParts table bytes start c read state last)
    (few : c.place.offset + (length (drop start bytes) + length block) + 1 < 18446744073709551616) (removed : ℕ) (unused : removed ≤ start - c.found.len) (new : List ℕ) (new_is : new ≡ drop removed (bytes ++ block)) where
  both : AreParts table (bytes ++ block) start c read state last
  both = parts_fed table bytes block start c read state last parts few

  pub feed_parts : AreParts table new (start - removed) c read state last
  feed_parts = subst (λ (xs : List ℕ). AreParts table xs (start - removed) c read state last) (sym new_is) (parts_removed table (bytes ++ block) start c read state last both removed unused)

  pub feed_silent : (since back : ℕ) → IsSilentSince table.machine (drop start bytes) read state since back → IsSilentSince table.machine (drop (start - removed) new) read state since back
  feed_silent since back s =
      let same : drop (start - removed) new ≡ drop start bytes ++ block
      = ap (λ (xs : List ℕ). drop (start - removed) xs) new_is ∙ held_same table (bytes ++ block) start c read state last both removed unused ∙ held_fed table bytes block start c read state last parts in
      subst (λ (held : List ℕ). IsSilentSince table.machine held read state since back) (sym same) (silent_more table.machine (drop start bytes) block read state since back s)

  pub feed_feeds : (ended : Bool) → Feeds (stream_of table bytes start c ended) (stream_of table new (start - removed) c ended) block
  feed_feeds ended = feeds (stream_of table bytes start c ended) (stream_of table new (start - removed) c ended) block removed (omega (arith, kept_len, parts.front)) (omega (arith, kept_len, unused)) is
    where
      kept_len : length (take start bytes) ≡ start
      kept_len = omega (arith, parts.within, length-take start bytes)

      is : stream_of table new (start - removed) c ended ≡ record (stream_of table bytes start c ended) { kept = drop removed (take start bytes); held = drop start bytes ++ block }
      is = ap (λ (xs : List ℕ). stream_of table xs (start - removed) c ended) new_is
          ∙ stream_removed table (bytes ++ block) start c read state last both removed unused ended
          ∙ ap₂ (λ (k h : List ℕ). record (stream_of table bytes start c ended) { kept = drop removed k; held = h }) (kept_fed table bytes block start c read state last parts) (held_fed table bytes block start c read state last parts)

-- ---- whole runs
--  a text that goes on with the bytes that are kept and held, and ends after them
pub text_ahead : Stream → List ℕ
text_ahead s = replicate (s.place.offset - length s.kept) 0 ++ (s.kept ++ s.held)

pub fed_ahead : (s : Stream) → length s.kept ≤ s.place.offset → IsFedOf s (text_ahead s) []
unfolding text_ahead
fed_ahead s few =
    let base : ℕ = s.place.offset - length s.kept in
    let zeros : List ℕ = replicate base 0 in
    let whole : s.place.offset ≡ base + length s.kept = omega arith in
    let zeros_len : length zeros ≡ base = length-replicate base 0 in
    let behind : drop base (zeros ++ (s.kept ++ s.held)) ≡ s.kept ++ s.held
    = ap (λ (n : ℕ). drop n (zeros ++ (s.kept ++ s.held))) (sym zeros_len) ∙ drop-append_seam zeros (s.kept ++ s.held) in
    let count : s.place.offset - base ≡ length s.kept = omega arith in
    record {
      within = omega (arith, zeros_len, length-append zeros (s.kept ++ s.held), length-append s.kept s.held);
      held = ap (λ (n : ℕ). drop n (zeros ++ (s.kept ++ s.held))) whole ∙ sym (drop_further (zeros ++ (s.kept ++ s.held)) base (length s.kept))
          ∙ ap (λ (w : List ℕ). drop (length s.kept) w) behind ∙ drop-append_seam s.kept s.held ∙ sym (append-nil s.held);
      kept = ap₂ (λ (n : ℕ) (w : List ℕ). take n w) count behind ∙ take-append_seam s.kept s.held;
      end = λ ended. refl;
    }

pub begins_scanned : (table : Table) (s : Stream) → s ≡ first_stream table → HasScanned s [] []
begins_scanned table s is = subst (λ (t : Stream). HasScanned t [] []) (sym is) (record {
  fed = λ rest end. record { within = omega arith; held = refl; kept = refl; end = end };
  items = λ rest end. sym (begins table rest);
})

pub feeds_scanned : (a b : Stream) (front block : List ℕ) (given : List Item) → a.has_ended ≡ false → Feeds a b block → HasScanned a front given → HasScanned b (front ++ block) given
feeds_scanned a b front block given goes_on f h = record {
  fed = λ rest end.
      let same = append_assoc front block rest in
      subst (λ (text : List ℕ). IsFedOf b text rest) (sym same) (f.fed (front ++ (block ++ rest)) rest (h.fed (block ++ rest) going));
  items = λ rest end.
      let table : b.table ≡ a.table = ap (λ (s : Stream). s.table) f.same in
      let same = append_assoc front block rest in
      ap₂ (λ (t : Table) (text : List ℕ). items_of t text) table same ∙ h.items (block ++ rest) going
      ∙ ap (λ (xs : List Item). given ++ xs) (sym (f.items (front ++ (block ++ rest))))
      ∙ ap (λ (text : List ℕ). given ++ left_in b text) (sym same);
}
  where
    going : {xs : List ℕ} → IsTrue a.has_ended → xs ≡ []
    going ended = absurd (let no : true ≡ false = sym ended ∙ goes_on in cc)

pub gives_scanned : (a b : Stream) (front : List ℕ) (before after : List Item) → GivesTo a b before after → HasScanned a front before → HasScanned b front after
gives_scanned a b front before after g h = record {
  fed = λ rest end. g.gives.fed (front ++ rest) rest (h.fed rest (ended end));
  items = λ rest end.
      ap (λ (t : Table). items_of t (front ++ rest)) g.gives.table ∙ h.items rest (ended end)
      ∙ ap (λ (xs : List Item). before ++ xs) (g.gives.items (front ++ rest) rest (h.fed rest (ended end)))
      ∙ sym (append_assoc before g.given (left_in b (front ++ rest)))
      ∙ ap (λ (xs : List Item). xs ++ left_in b (front ++ rest)) (sym g.after_is);
}
  where
    ended : {rest : List ℕ} → (IsTrue b.has_ended → rest ≡ []) → IsTrue a.has_ended → rest ≡ []
    ended end e = end (g.gives.end ∙ e)

-- the text ends after the bytes
pub ends_scanned : (a b : Stream) (front : List ℕ) (given : List Item) → a.has_ended ≡ false → b ≡ record a { has_ended = true } → HasScanned a front given → HasScanned b front given
ends_scanned a b front given goes_on is h = subst (λ (s : Stream). HasScanned s front given) (sym is) (record {
  fed = λ rest end. let f = h.fed rest going in record { within = f.within; held = f.held; kept = f.kept; end = end };
  items = λ rest end. h.items rest going;
})
  where
    going : {xs : List ℕ} → IsTrue a.has_ended → xs ≡ []
    going ended = absurd (let no : true ≡ false = sym ended ∙ goes_on in cc)

pub all_scanned : (s : Stream) (front : List ℕ) (given : List Item) → IsTrue s.has_ended → IsOver s → HasScanned s front given → given ≡ items_of s.table front
all_scanned s front given ended over h =
    let end : IsTrue s.has_ended → [] ≡ [] = λ e. refl in
    let whole : front ++ [] ≡ front = append-nil front in
    sym (
    ap (λ (text : List ℕ). items_of s.table text) (sym whole) ∙ h.items [] end
    ∙ ap (λ (xs : List Item). given ++ xs) (over.none_left (front ++ []) ended (h.fed [] end)) ∙ append-nil given)

-- fewer items are left after one was given
module _ (s a b : Stream) (before after : List Item) (few : length s.kept ≤ s.place.offset) (f : GivesTo s a before after) where
  fed_there : IsFedOf a (text_ahead s) []
  fed_there = f.gives.fed (text_ahead s) [] (fed_ahead s few)

  pub fewer_left : (item : Item) → Gives a b (item ∷ []) → length (left_in b (text_ahead s)) < length (left_in a (text_ahead s))
  fewer_left item g =
      let len : length (left_in a (text_ahead s)) ≡ suc (length (left_in b (text_ahead s))) = ap length (g.items (text_ahead s) [] fed_there) in
      omega (arith, len)

pub kept_few : (table : Table) (bytes : List ℕ) (start : ℕ) (c : Cursor) (read state : ℕ) (last : Option (ℕ × ℕ)) (ended : Bool) → AreParts table bytes start c read state last →
    length (stream_of table bytes start c ended).kept ≤ c.place.offset
kept_few table bytes start c read state last ended parts = let front = parts.front in omega (arith, length-take start bytes)

-- one block more
pub front_more : {X : Type 0} (f : X → List ℕ) (front : List ℕ) (xs : List X) (i : ℕ) (x : X) → i < length xs → get_or xs i x ≡ x → (front ++ flat_map f (take i xs)) ++ f x ≡ front ++ flat_map f (take (i + 1) xs)
front_more {X = X} f front xs i x more is =
    append_assoc front (flat_map f (take i xs)) (f x)
    ∙ ap (λ (w : List ℕ). front ++ w) (
    ap (λ (w : List ℕ). flat_map f (take i xs) ++ w) (sym (append-nil (f x)))
    ∙ sym (flat_map-append f (take i xs) (x ∷ []))
    ∙ ap (λ (y : X). flat_map f (take i xs ++ y ∷ [])) (sym is)
    ∙ ap (flat_map f) (sym (take_more xs i x more)))

-- a new scanner is drained
pub first_drained : (table : Table) (s : Stream) → s ≡ first_stream table → IsDrained s
first_drained table s is = subst IsDrained (sym is) (record { none_due = refl; undecided = inl refl })
