-- A run over the joined table in the bytes that are held, whatever bytes follow.
use Rattle.std.proofs.Common.{◌≡◌, ℕ, ◌+◌, ◌-◌, ◌<◌, ◌≤◌, Bool, nat_eq, List, [], ◌∷◌, ◌++◌, Option, Some, None, length, take, drop, map, refl, sym, ap, ap₂, subst, ◌∙◌, arith}
use Rattle.std.specs.Prelude.{All, slice_index}
use Rattle.std.proofs.lemmas.List.{get_or_append_left, length-append, length-drop, length-take, map-append, take_rest}
use Rattle.std.proofs.lemmas.List.Elements.{All-append, All-cons, All-nil, All-weaker}
use Rattle.lx_rules.specs.declared.rule.Step.{Step}
use Rattle.lx_rules.specs.declared.rule.Step.TheVariants.{Echo, Begin, Return}
use Rattle.lx_tables.specs.Model.{Table}
use Rattle.lx_scan.specs.declared.cursor.Cursor.{Cursor}
use Rattle.lx_scan.specs.declared.ends.End.{End}
use Rattle.lx_scan.specs.declared.item.Item.{Item}
use Rattle.lx_scan.specs.declared.place.Place.{Place}
use Rattle.lx_scan.specs.Cursors.{steps_left}
use Rattle.lx_scan.specs.Ends.{AreEnds, LeadTo, end_of, items_of_ends, line_of, place_behind, shift_end, steps_of_code}
use Rattle.lx_scan.specs.ItemParts.{len_of, start_of}
use Rattle.lx_scan.specs.Items.{items_after, items_from}
use Rattle.lx_scan.specs.Steps.{items_of_steps}
use Rattle.lx_scan.specs.Streams.{AreParts, Gives, GivesTo, IsKept, IsWalked, stream_of}
use Rattle.lx_scan.proofs.Runs.{ends_rise, rises}
use Rattle.lx_scan.proofs.Shifting.{are_shifted, end_shifted, ends_shifted, from_shifted, line_shifted, shift_item}
use Rattle.lx_scan.proofs.Streaming.{fed_further, kept_further}
use Rattle.lx_scan.proofs.Turns.{drop_further}

-- ---- the items of ends lie between these
record IsBetween (from to : ℕ) (item : Item) : Type 0 where
  pub begin : from ≤ start_of item
  pub end : start_of item + len_of item ≤ to

steps_between : (steps : List Step) (line start len to : ℕ) → start + len ≤ to → All (IsBetween start to) (items_of_steps steps line start len)
steps_between [] line start len to few = All-nil (IsBetween start to)
steps_between (Echo ∷ steps) line start len to few = All-cons (IsBetween start to) _ _ (record { begin = omega arith; end = few }) (steps_between steps line start len to few)
steps_between (Begin next ∷ steps) line start len to few = steps_between steps line start len to few
steps_between (Return kind ∷ steps) line start len to few = All-cons (IsBetween start to) _ _ (record { begin = omega arith; end = few }) (steps_between steps line start len to few)

ends_between : (table : Table) (start line : ℕ) (ends : List End) → AreEnds table start ends → All (IsBetween start (end_of start ends)) (items_of_ends table start line ends)
ends_between table start line [] are = All-nil (IsBetween start start)
ends_between table start line (e ∷ ends) (is, are) =
    let to : ℕ = end_of e.offset ends in
    let here = is.further in
    let there = rises table e.offset ends are in
    All-append (IsBetween start to) (items_of_steps (steps_of_code table e.code) line start (e.offset - start)) (items_of_ends table e.offset e.line ends)
    (steps_between (steps_of_code table e.code) line start (e.offset - start) to (omega arith))
    (All-weaker (IsBetween e.offset to) (IsBetween start to) (λ item b. record { begin = (let begin = b.begin in omega arith); end = b.end }) (items_of_ends table e.offset e.line ends) (ends_between table e.offset e.line ends are))

-- ---- a run
module _ (table : Table) (bytes : List ℕ) (start : ℕ) (c : Cursor) (read state : ℕ) (last : Option (ℕ × ℕ)) (ended : Bool) (parts : AreParts table bytes start c read state last) (due : items_of_steps (steps_left table c) c.line c.found.start c.found.len ≡ [])
    (from : Place) (from_is : from ≡ record { offset = 0; condition = c.place.condition; at_line_begin = c.place.at_line_begin; line = 1 }) (ends : List End) (condition : ℕ) (some : 0 < length ends)
    (leads : (rest : List ℕ) → LeadTo table (drop start bytes ++ rest) from ends (place_behind (drop start bytes ++ rest) from ends condition)) where
  abbrev held : List ℕ
  held = drop start bytes

  abbrev d : ℕ
  d = c.place.offset

  abbrev l : ℕ
  l = c.place.line - 1

  abbrev pub n : ℕ
  n = end_of from.offset ends

  offset_zero : from.offset ≡ 0
  offset_zero = ap (λ (p : Place). p.offset) from_is

  lines_few : l ≤ d
  lines_few = let few = parts.line_few in omega arith

  line_one : from.line ≡ 1
  line_one = ap (λ (p : Place). p.line) from_is

  pub inside : n ≤ length held
  inside = let within = (leads []).is_place.within in omega (arith, length-append held [])

  pub further : 0 < n
  further = let rise = ends_rise table from.offset ends (leads []).are_ends some in omega arith

  -- the place after the run
  abbrev pub next : Place
  next = record { offset = d + n; condition = condition; at_line_begin = nat_eq (slice_index held (n - 1)) 10; line = l + line_of from.line ends }

  abbrev rel : List ℕ → Place
  rel rest = place_behind (held ++ rest) from ends condition

  begin_is : (rest : List ℕ) → nat_eq (slice_index (held ++ rest) (n - 1)) 10 ≡ nat_eq (slice_index held (n - 1)) 10
  begin_is rest = ap (λ (b : ℕ). nat_eq b 10) (get_or_append_left held rest 0 (n - 1) (omega (arith, inside, further)))

  places : (o p k m : ℕ) (a b : Bool) → o ≡ p → k ≡ m → a ≡ b → ◌≡◌ {A = Place} (record { offset = o; condition = c.place.condition; at_line_begin = a; line = k }) (record { offset = p; condition = c.place.condition; at_line_begin = b; line = m })
  places o p k m a b e f g = cc

  here_is : record { offset = d + from.offset; condition = from.condition; at_line_begin = from.at_line_begin; line = l + from.line } ≡ c.place
  here_is =
      let line_some = parts.line_some in
      let line : l + 1 ≡ c.place.line = omega arith in
      let offset : d + 0 ≡ d = omega arith in
      ap (λ (p : Place). record { offset = d + p.offset; condition = p.condition; at_line_begin = p.at_line_begin; line = l + p.line }) from_is
      ∙ places (d + 0) d (l + 1) c.place.line c.place.at_line_begin c.place.at_line_begin offset line refl

  abbrev pub items : List Item
  items = items_of_ends table (d + from.offset) (l + from.line) (map (shift_end d l) ends)

  items_run : (text rest : List ℕ) → drop d text ≡ held ++ rest → items_after table text c.place ≡ items ++ items_after table text next
  items_run text rest is_held =
      let shift = shift_item table d l in
      let whole : drop from.offset (held ++ rest) ≡ held ++ rest = ap (λ (k : ℕ). drop k (held ++ rest)) offset_zero in
      let behind : drop (d + n) text ≡ drop n (held ++ rest) = sym (drop_further text d n) ∙ ap (λ (w : List ℕ). drop n w) is_held in
      ap₂ (λ (w : List ℕ) (p : Place). items_from table w 0 p) is_held (sym here_is)
      ∙ from_shifted table d l (held ++ rest) 0 from
      ∙ ap (λ (w : List ℕ). map shift (items_from table w 0 from)) (sym whole)
      ∙ ap (map shift) (leads rest).items
      ∙ map-append shift (items_of_ends table from.offset from.line ends) (items_from table (drop n (held ++ rest)) 0 (rel rest))
      ∙ ap₂ (λ (xs ys : List Item). xs ++ ys) (sym (ends_shifted table d l from.offset from.line ends))
      (sym (from_shifted table d l (drop n (held ++ rest)) 0 (rel rest))
      ∙ ap₂ (λ (w : List ℕ) (b : Bool). items_from table w 0 (record { offset = d + n; condition = condition; at_line_begin = b; line = l + line_of from.line ends })) (sym behind) (begin_is rest))

  module _ (new : Cursor) (place_is : new.place ≡ next) (none : items_of_steps (steps_left table new) new.line new.found.start new.found.len ≡ []) where
    offset_is : new.place.offset ≡ c.place.offset + n
    offset_is = ap (λ (p : Place). p.offset) place_is

    pub gives_run : Gives (stream_of table bytes start c ended) (stream_of table bytes (start + n) new ended) items
    gives_run = record {
      table = refl;
      end = refl;
      fed = λ text rest fed.
          let whole : length (drop d text) ≡ length (held ++ rest) = ap length fed.held in
          fed_further table bytes start c new ended n text rest parts.within parts.front offset_is inside (omega (arith, offset_is, whole, inside, length-append held rest, length-drop d text, fed.within)) fed;
      items = λ text rest fed.
          ap (λ (xs : List Item). xs ++ items_after table text c.place) due
          ∙ items_run text rest fed.held
          ∙ ap₂ (λ (xs : List Item) (p : Place). items ++ (xs ++ items_after table text p)) (sym none) (sym place_is);
      kept = λ item k. kept_further table bytes start c new ended n item parts.within offset_is inside k;
    }

    pub kept_run : All (IsKept (stream_of table bytes (start + n) new ended)) items
    kept_run =
        let are = are_shifted table d l lines_few from.offset ends (leads []).are_ends in
        let to : end_of (d + from.offset) (map (shift_end d l) ends) ≡ d + n = end_shifted table d l from.offset ends in
        let long : length (take (start + n) bytes) ≡ start + n = omega (arith, inside, parts.within, length-take (start + n) bytes, length-drop start bytes) in
        All-weaker (IsBetween (d + from.offset) (end_of (d + from.offset) (map (shift_end d l) ends))) (IsKept (stream_of table bytes (start + n) new ended))
        (λ item b. record {
          from = (let begin = b.begin in omega (arith, begin, offset_is, long));
          to = (let end = b.end in omega (arith, end, to, offset_is));
        }) items (ends_between table (d + from.offset) (l + from.line) (map (shift_end d l) ends) are)

    pub gives_to_run : (given before after : List Item) → given ≡ items → after ≡ before ++ given → GivesTo (stream_of table bytes start c ended) (stream_of table bytes (start + n) new ended) before after
    gives_to_run given before after given_is after_is = record {
      given = items;
      after_is = after_is ∙ ap (λ (xs : List Item). before ++ xs) given_is;
      gives = gives_run;
      kept = kept_run;
    }

    pub parts_run : (read_new state_new : ℕ) (last_new : Option (ℕ × ℕ)) → new.found.len ≡ 0 → new.found.start ≡ new.place.offset → new.found.rule ≡ None → IsWalked table new.place (drop (start + n) bytes) read_new state_new last_new →
        AreParts table bytes (start + n) new read_new state_new last_new
    parts_run read_new state_new last_new no_len found_start no_rule walk =
        let is_place = (leads []).is_place in
        let line_is : new.place.line ≡ l + line_of from.line ends = ap (λ (p : Place). p.line) place_is in
        let condition_is : new.place.condition ≡ condition = ap (λ (p : Place). p.condition) place_is in
        let few = parts.few in
        let line_some = parts.line_some in
        let line_few = parts.line_few in
        let known = is_place.known in
        record {
          is_table = parts.is_table;
          within = omega (arith, inside, parts.within, length-drop start bytes);
          found = omega (arith, no_len);
          front = omega (arith, offset_is, parts.front);
          behind = omega (arith, no_len, found_start);
          known = omega (arith, known, condition_is);
          line_some = (let some_line = is_place.line_some in omega (arith, some_line, line_is));
          line_few = (let few_line = is_place.line_few in omega (arith, few_line, line_is, offset_is));
          rule = λ i e. absurd (let f : None ≡ Some i = sym no_rule ∙ e in cc);
          few = omega (arith, few, offset_is, inside, length-drop start bytes, length-drop (start + n) bytes);
          walk = walk;
        }

  -- ---- by the ends that were moved on
  module _ (moved : List End) (moved_is : moved ≡ map (shift_end d l) ends) where
    from_offset : d + from.offset ≡ d
    from_offset = omega (arith, offset_zero)

    from_line : l + from.line ≡ c.place.line
    from_line = let some_line = parts.line_some in omega (arith, line_one)

    pub are_run : AreEnds table d moved
    are_run = subst (λ (es : List End). AreEnds table d es) (sym moved_is)
        (subst (λ (k : ℕ). AreEnds table k (map (shift_end d l) ends)) from_offset (are_shifted table d l lines_few from.offset ends (leads []).are_ends))

    pub end_run : end_of d moved ≡ d + n
    end_run = ap₂ (λ (k : ℕ) (es : List End). end_of k es) (sym from_offset) moved_is ∙ end_shifted table d l from.offset ends

    pub line_run : line_of c.place.line moved ≡ l + line_of from.line ends
    line_run = ap₂ (λ (k : ℕ) (es : List End). line_of k es) (sym from_line) moved_is ∙ line_shifted table d l from.line ends

    pub items_moved : items_of_ends table d c.place.line moved ≡ items
    items_moved = ap (λ (es : List End). items_of_ends table d c.place.line es) moved_is
        ∙ ap₂ (λ (k m : ℕ). items_of_ends table k m (map (shift_end d l) ends)) (sym from_offset) (sym from_line)

    pub known_run : condition < length table.machine.starts
    known_run = (leads []).is_place.known

    pub next_is : (offset line : ℕ) (begin : Bool) → offset ≡ end_of d moved → line ≡ line_of c.place.line moved → begin ≡ nat_eq (slice_index held (offset - d - 1)) 10 →
        ◌≡◌ {A = Place} (record { offset = offset; condition = condition; at_line_begin = begin; line = line }) next
    next_is offset line begin offset_is line_is begin_is =
        let at : offset - d - 1 ≡ n - 1 = omega (arith, offset_is, end_run) in
        both (offset_is ∙ end_run) (line_is ∙ line_run) (begin_is ∙ ap (λ (k : ℕ). nat_eq (slice_index held k) 10) at)
      where
        both : {o p k m : ℕ} {a b : Bool} → o ≡ p → k ≡ m → a ≡ b → ◌≡◌ {A = Place} (record { offset = o; condition = condition; at_line_begin = a; line = k }) (record { offset = p; condition = condition; at_line_begin = b; line = m })
        both e f g = cc

-- a run in a slice of the bytes is one in those that are held
pub leads_held : (table : Table) (bytes : List ℕ) (start : ℕ) (from : Place) (ends : List End) (condition : ℕ) →
    ((rest : List ℕ) → LeadTo table (take (length bytes - start) (drop start bytes) ++ rest) from ends (place_behind (take (length bytes - start) (drop start bytes) ++ rest) from ends condition)) →
    (rest : List ℕ) → LeadTo table (drop start bytes ++ rest) from ends (place_behind (drop start bytes ++ rest) from ends condition)
leads_held table bytes start from ends condition leads rest =
    subst (λ (held : List ℕ). LeadTo table (held ++ rest) from ends (place_behind (held ++ rest) from ends condition)) (take_rest bytes start) (leads rest)
