-- A run over the joined table: the ends that it has found, and its state.
use Rattle.std.proofs.Common.{◌≡◌, ◌≢◌, ℕ, zero, suc, ◌+◌, ◌-◌, ◌*◌, ◌<◌, ◌≤◌, Bool, true, false, nat_eq, nat_le, if◌then◌else◌, List, [], ◌∷◌, ◌++◌, Option, Some, None, length, take, drop, refl, sym, ap, ap₂, subst, ◌∙◌, arith, append_assoc, append-nil, add-zero}
use Rattle.std.specs.Prelude.{slice_index, slice_set}
use Rattle.std.specs.Option.{option_map}
use Rattle.std.proofs.lemmas.Bool.{eq-eqb, eqb-true, le-leb, lt-leb}
use Rattle.std.proofs.lemmas.List.{length-append, length-take-le, take-set, take_more_set}
use Rattle.lx_automaton.specs.Automata.{accepted_by}
use Rattle.lx_tables.specs.Joined.{IsJoined, IsJoinedState, begun, ended, is_told, joined_entry, joined_number, joined_step, joined_width, rule_ended, stepped, target_from, transition_at}
use Rattle.lx_tables.specs.Model.{Table, IsTable, rule_at}
use Rattle.lx_tables.specs.declared.joined.JoinedState.{JoinedState}
use Rattle.lx_tables.specs.declared.joined.Transition.{Transition}
use Rattle.lx_scan.specs.declared.ends.End.{End}
use Rattle.lx_scan.specs.declared.item.Item.{Item}
use Rattle.lx_scan.specs.declared.place.Place.{Place}
use Rattle.lx_scan.specs.Ends.{AreEnds, IsEnd, IsPlace, LeadTo, end_of, items_of_ends, line_of, place_behind, rule_of_code, steps_of_code}
use Rattle.lx_scan.specs.Items.{items_after, steps_at}
use Rattle.lx_scan.specs.Steps.{items_of_steps, newlines}
use Rattle.lx_scan.proofs.Entries.{Stands, Tells, goes, newlines_more, next_place, stands_begun, stands_stepped, steps_alike, tells}

-- ---- one end more
end_more : (start : ℕ) (es : List End) (e : End) → end_of start (es ++ e ∷ []) ≡ e.offset
end_more start [] e = refl
end_more start (x ∷ es) e = end_more x.offset es e

line_more : (line : ℕ) (es : List End) (e : End) → line_of line (es ++ e ∷ []) ≡ e.line
line_more line [] e = refl
line_more line (x ∷ es) e = line_more x.line es e

are_more : (table : Table) (start : ℕ) (es : List End) (e : End) → AreEnds table start es → IsEnd table (end_of start es) e → AreEnds table start (es ++ e ∷ [])
are_more table start [] e are is = (is, tt)
are_more table start (x ∷ es) e (here, are) is = (here, are_more table x.offset es e are is)

items_more : (table : Table) (start line : ℕ) (es : List End) (e : End) →
    items_of_ends table start line (es ++ e ∷ []) ≡ items_of_ends table start line es ++ items_of_steps (steps_of_code table e.code) (line_of line es) (end_of start es) (e.offset - end_of start es)
items_more table start line [] e = append-nil (items_of_steps (steps_of_code table e.code) line start (e.offset - start))
items_more table start line (x ∷ es) e =
    let here = items_of_steps (steps_of_code table x.code) line start (x.offset - start) in
    let last = items_of_steps (steps_of_code table e.code) (line_of x.line es) (end_of x.offset es) (e.offset - end_of x.offset es) in
    ap (λ (xs : List Item). here ++ xs) (items_more table x.offset x.line es e) ∙ sym (append_assoc here (items_of_ends table x.offset x.line es) last)

-- ---- codes
--  a match has ended if a step is missing
ended_some : (table : Table) (state : Option ℕ) → ended table state ≢ 0
ended_some table None e = absurd (omega arith)
ended_some table (Some p) e = accepted (accepted_by table.machine p) e
  where
    told : (rule : ℕ) (b : Bool) → (if b then rule + 1 else 8191) ≡ 0 → ⊥
    told rule true e = omega arith
    told rule false e = omega arith

    accepted : (a : Option ℕ) → rule_ended table a ≡ 0 → ⊥
    accepted None e = omega arith
    accepted (Some rule) e = told rule (is_told (rule_at table rule)) e

-- an entry, in its parts
pub record IsEntry (table : Table) (q : JoinedState) (byte : ℕ) (entry : Transition) : Type 0 where
  pub code : entry.code ≡ (joined_step table q (slice_index table.machine.classes byte) (nat_eq byte 10)).0
  pub row : entry.row ≡ joined_number table (joined_step table q (slice_index table.machine.classes byte) (nat_eq byte 10)).1 * joined_width table

pub is_entry : (table : Table) (columns : List ℕ) (entries : List Transition) (labels : List ℕ) → IsJoined table columns entries labels → (q : JoinedState) (row byte : ℕ) (entry : Transition) → IsJoinedState table q → byte < 256 →
    row ≡ joined_number table q * joined_width table → entry ≡ transition_at entries (row + slice_index columns byte) → IsEntry table q byte entry
is_entry table columns entries labels joined q row byte entry known small row_is entry_is =
    let whole : entry ≡ joined_entry table (joined_step table q (slice_index table.machine.classes byte) (nat_eq byte 10)) =
    entry_is ∙ ap₂ (λ (r c : ℕ). transition_at entries (r + c)) row_is (joined.byte_columns byte small) ∙ joined.each q byte known small in
    record {
      code = ap (λ (t : Transition). t.code) whole;
      row = ap (λ (t : Transition). t.row) whole;
    }

-- only a newline has the last column
pub last_column : (table : Table) → IsTable table → (columns : List ℕ) (entries : List Transition) (labels : List ℕ) → IsJoined table columns entries labels → (byte : ℕ) → byte < 256 →
    ◌≡◌ {A = ℕ} (if nat_le (slice_index columns 10) (slice_index columns byte) then 1 else 0) (if nat_eq byte 10 then 1 else 0)
last_column table is columns entries labels joined byte small =
    ap₂ (λ (l c : ℕ). if nat_le l c then 1 else 0) (joined.byte_columns 10 (omega arith)) (joined.byte_columns byte small) ∙ on (nat_eq byte 10)
  where
    on : (b : Bool) → ◌≡◌ {A = ℕ} (if nat_le table.machine.width (if b then table.machine.width else slice_index table.machine.classes byte) then 1 else 0) (if b then 1 else 0)
    on true = ap (λ (t : Bool). if t then 1 else 0) (le-leb table.machine.width table.machine.width (omega arith))
    on false = ap (λ (t : Bool). if t then 1 else 0) (lt-leb table.machine.width (slice_index table.machine.classes byte) (is.machine.below byte small))

-- ---- bytes that follow
pub more_bytes : (text rest : List ℕ) (n : ℕ) → n < length text → n < length (text ++ rest)
more_bytes text rest n few = omega (arith, few, length-append text rest)

pub is_place_more : (table : Table) (text rest : List ℕ) (place : Place) → IsPlace table text place → IsPlace table (text ++ rest) place
is_place_more table text rest place p = record { within = (let within = p.within in omega (arith, length-append text rest)); known = p.known; line_some = p.line_some; line_few = p.line_few }

-- ---- a run
--  From a place a run found these ends. It has read this number of bytes of the text, and is on this line and in this row.
pub record Runs (table : Table) (text : List ℕ) (from : Place) (ends : List End) (read line row : ℕ) : Type 0 where
  pub place : Place
  pub q : JoinedState
  pub stands : Stands table text place read q
  pub known : IsJoinedState table q
  pub row_is : row ≡ joined_number table q * joined_width table
  pub line_is : line ≡ place.line + newlines (take (read - place.offset) (drop place.offset text))
  pub leads : LeadTo table text from ends place
  pub offset_is : place.offset ≡ end_of from.offset ends
  pub line_was : place.line ≡ line_of from.line ends
  pub begin : 0 < length ends → place.at_line_begin ≡ nat_eq (slice_index text (place.offset - 1)) 10

no_bytes : (text : List ℕ) (offset : ℕ) → newlines (take (offset - offset) (drop offset text)) ≡ 0
no_bytes text offset = let none : offset - offset ≡ 0 = omega arith in ap (λ n. newlines (take n (drop offset text))) none

first_line : (text : List ℕ) (offset line byte : ℕ) → offset < length text → slice_index text offset ≡ byte →
    line + (if nat_eq byte 10 then 1 else 0) ≡ line + newlines (take (offset + 1 - offset) (drop offset text))
first_line text offset line byte more is =
    let one = newlines_more text offset offset byte (omega arith) more is in
    let none = no_bytes text offset in
    omega arith

pub runs_begun : (table : Table) (text : List ℕ) (from : Place) (byte line row : ℕ) → IsPlace table text from → from.offset < length text → slice_index text from.offset ≡ byte →
    IsJoinedState table (begun table from.condition from.at_line_begin (slice_index table.machine.classes byte) (nat_eq byte 10)) →
    row ≡ joined_number table (begun table from.condition from.at_line_begin (slice_index table.machine.classes byte) (nat_eq byte 10)) * joined_width table →
    line ≡ from.line + (if nat_eq byte 10 then 1 else 0) → Runs table text from [] (from.offset + 1) line row
runs_begun table text from byte line row p more is known row_is line_is = record {
  place = from;
  q = begun table from.condition from.at_line_begin (slice_index table.machine.classes byte) (nat_eq byte 10);
  stands = stands_begun table text from byte more is;
  known = known;
  row_is = row_is;
  line_is = line_is ∙ first_line text from.offset from.line byte more is;
  leads = record { are_ends = tt; is_place = p; items = refl };
  offset_is = refl;
  line_was = refl;
  begin = λ h. absurd (omega arith);
}

module _ (table : Table) (is : IsTable table) (columns : List ℕ) (entries : List Transition) (labels : List ℕ) (joined : IsJoined table columns entries labels) (text : List ℕ) (from : Place) (ends : List End) (read line row byte : ℕ) (entry : Transition)
    (r : Runs table text from ends read line row) (more : read < length text) (is_byte : slice_index text read ≡ byte) (small : byte < 256) (entry_is : entry ≡ transition_at entries (row + slice_index columns byte)) where
  abbrev class : ℕ
  class = slice_index table.machine.classes byte

  abbrev found : ℕ × JoinedState
  found = joined_step table r.q class (nat_eq byte 10)

  parts : IsEntry table r.q byte entry
  parts = is_entry table columns entries labels joined r.q row byte entry r.known small r.row_is entry_is

  -- nothing has ended
  pub runs_on : entry.code ≡ 0 → Runs table text from ends (read + 1) (line + (if nat_eq byte 10 then 1 else 0)) entry.row
  runs_on none = on (target_from table.machine r.q.state class) refl
    where
      on : (o : Option ℕ) → target_from table.machine r.q.state class ≡ o → Runs table text from ends (read + 1) (line + (if nat_eq byte 10 then 1 else 0)) entry.row
      on None missing =
          let code : entry.code ≡ ended table r.q.state = parts.code ∙ ap (λ o. (stepped table r.q class (nat_eq byte 10) o).0) missing in
          absurd (ended_some table r.q.state (sym code ∙ none))
      on (Some t) step =
          let further = r.stands.further in
          let new = newlines_more text r.place.offset read byte (omega arith) more is_byte in
          let line_is = r.line_is in
          let is_found : found ≡ (0, record { condition = r.q.condition; newline = nat_eq byte 10; state = Some t }) = ap (λ o. stepped table r.q class (nat_eq byte 10) o) step in
          record {
            place = r.place;
            q = record { condition = r.q.condition; newline = nat_eq byte 10; state = Some t };
            stands = stands_stepped table text r.place read byte t r.q r.stands more is_byte step;
            known = subst (λ (f : ℕ × JoinedState). IsJoinedState table f.1) is_found (joined.known r.q byte r.known small);
            row_is = parts.row ∙ ap (λ (f : ℕ × JoinedState). joined_number table f.1 * joined_width table) is_found;
            line_is = omega arith;
            leads = r.leads;
            offset_is = r.offset_is;
            line_was = r.line_was;
            begin = r.begin;
          }

  abbrev e : End
  e = record { code = entry.code; offset = read; line = line }

  -- a match has ended
  pub runs_further : entry.code ≢ 0 → entry.code ≢ 8191 → Runs table text from (ends ++ e ∷ []) (read + 1) (line + (if nat_eq byte 10 then 1 else 0)) entry.row
  runs_further some told = on (target_from table.machine r.q.state class) refl
    where
      positive : (n : ℕ) → n ≢ 0 → 0 < n
      positive zero h = absurd (h refl)
      positive (suc n) h = omega arith

      on : (o : Option ℕ) → target_from table.machine r.q.state class ≡ o → Runs table text from (ends ++ e ∷ []) (read + 1) (line + (if nat_eq byte 10 then 1 else 0)) entry.row
      on (Some t) step = absurd (some (parts.code ∙ ap (λ o. (stepped table r.q class (nat_eq byte 10) o).0) step))
      on None missing =
          let code : entry.code ≡ ended table r.q.state = parts.code ∙ ap (λ o. (stepped table r.q class (nat_eq byte 10) o).0) missing in
          let here = r.leads.is_place in
          let t : Tells table text r.place read r.q entry.code = tells table text is r.place here.known read byte r.q r.stands r.known more is_byte entry.code missing code told in
          let g = goes table text is r.place here.known read byte r.q r.stands r.known more is_byte entry.code here t in
          let next = next_place table text is r.place here.known read byte r.q r.stands r.known more is_byte entry.code in
          let is_found : found ≡ (ended table r.q.state, begun table next.condition next.at_line_begin class (nat_eq byte 10)) = ap (λ o. stepped table r.q class (nat_eq byte 10) o) missing in
          let line_is : line ≡ next.line = r.line_is in
          let further = r.stands.further in
          let items : items_of_steps (steps_at table (option_map (λ rule. (rule, read - r.place.offset)) (rule_of_code table entry.code))) r.place.line r.place.offset (read - r.place.offset)
          ≡ items_of_steps (steps_of_code table e.code) (line_of from.line ends) (end_of from.offset ends) (e.offset - end_of from.offset ends) =
          ap (λ xs. items_of_steps xs r.place.line r.place.offset (read - r.place.offset)) (steps_alike table (rule_of_code table entry.code) (read - r.place.offset))
          ∙ ap₂ (λ (l o : ℕ). items_of_steps (steps_of_code table e.code) l o (read - o)) r.line_was r.offset_is in
          record {
            place = next;
            q = begun table next.condition next.at_line_begin class (nat_eq byte 10);
            stands = stands_begun table text next byte more is_byte;
            known = subst (λ (f : ℕ × JoinedState). IsJoinedState table f.1) is_found (joined.known r.q byte r.known small);
            row_is = parts.row ∙ ap (λ (f : ℕ × JoinedState). joined_number table f.1 * joined_width table) is_found;
            line_is = ap (λ l. l + (if nat_eq byte 10 then 1 else 0)) line_is ∙ first_line text read next.line byte more is_byte;
            leads = record {
              are_ends = are_more table from.offset ends e r.leads.are_ends (record { further = subst (λ (n : ℕ). n < read) r.offset_is further; line_few = (let few = g.line_few in omega (arith, few, line_is)); some = positive entry.code some; known = t.known; few = t.few });
              is_place = record { within = g.within; known = g.known; line_some = g.line_some; line_few = g.line_few };
              items = r.leads.items
                  ∙ ap (λ (xs : List Item). items_of_ends table from.offset from.line ends ++ xs) (g.items ∙ ap (λ (xs : List Item). xs ++ items_after table text next) items)
                  ∙ sym (append_assoc (items_of_ends table from.offset from.line ends) _ (items_after table text next))
                  ∙ ap (λ (xs : List Item). xs ++ items_after table text next) (sym (items_more table from.offset from.line ends e));
            };
            offset_is = sym (end_more from.offset ends e);
            line_was = sym line_is ∙ sym (line_more from.line ends e);
            begin = λ h. r.stands.newline;
          }

-- the same, as a run writes its ends over one another
pub runs_turn : (table : Table) → IsTable table → (columns : List ℕ) (entries : List Transition) (labels : List ℕ) → IsJoined table columns entries labels → (text : List ℕ) (from : Place) (ends : List End) (count read line row byte : ℕ) (entry : Transition) (one : ℕ) →
    Runs table text from (take count ends) read line row → read < length text → slice_index text read ≡ byte → byte < 256 → entry ≡ transition_at entries (row + slice_index columns byte) →
    count < length ends → entry.code ≢ 8191 → one ≡ (if nat_eq entry.code 0 then 0 else 1) →
    Runs table text from (take (count + one) (slice_set ends count (record { code = entry.code; offset = read; line = line }))) (read + 1) (line + (if nat_eq byte 10 then 1 else 0)) entry.row
runs_turn table is columns entries labels joined text from ends count read line row byte entry one r more is_byte small entry_is room told one_is = on (nat_eq entry.code 0) refl
  where
    on : (b : Bool) → nat_eq entry.code 0 ≡ b → Runs table text from (take (count + one) (slice_set ends count (record { code = entry.code; offset = read; line = line }))) (read + 1) (line + (if nat_eq byte 10 then 1 else 0)) entry.row
    on true none =
        let same : take (count + one) (slice_set ends count (record { code = entry.code; offset = read; line = line })) ≡ take count ends =
        ap (λ (n : ℕ). take (count + n) (slice_set ends count (record { code = entry.code; offset = read; line = line }))) (one_is ∙ ap (λ (b : Bool). if b then 0 else 1) none)
        ∙ ap (λ (n : ℕ). take n (slice_set ends count (record { code = entry.code; offset = read; line = line }))) (add-zero count)
        ∙ take-set ends count _ in
        subst (λ (es : List End). Runs table text from es (read + 1) (line + (if nat_eq byte 10 then 1 else 0)) entry.row) (sym same)
        (runs_on table is columns entries labels joined text from (take count ends) read line row byte entry r more is_byte small entry_is (eqb-true entry.code 0 none))
    on false some =
        let same : take (count + one) (slice_set ends count (record { code = entry.code; offset = read; line = line })) ≡ take count ends ++ record { code = entry.code; offset = read; line = line } ∷ [] =
        ap (λ (n : ℕ). take (count + n) (slice_set ends count (record { code = entry.code; offset = read; line = line }))) (one_is ∙ ap (λ (b : Bool). if b then 0 else 1) some)
        ∙ take_more_set ends count _ room in
        subst (λ (es : List End). Runs table text from es (read + 1) (line + (if nat_eq byte 10 then 1 else 0)) entry.row) (sym same)
        (runs_further table is columns entries labels joined text from (take count ends) read line row byte entry r more is_byte small entry_is
        (λ zero_is. let yes = eq-eqb entry.code 0 zero_is in let no : true ≡ false = sym yes ∙ some in cc) told)

-- if matches have ended, the last end and the condition determine the place after them
pub runs_behind : (table : Table) (text : List ℕ) (from : Place) (ends : List End) (count read line row condition : ℕ) → Runs table text from (take count ends) read line row → count ≤ length ends →
    ((q : JoinedState) → IsJoinedState table q → row ≡ joined_number table q * joined_width table → condition ≡ q.condition) →
    0 < count → LeadTo table text from (take count ends) (place_behind text from (take count ends) condition)
runs_behind table text from ends count read line row condition r room condition_is some =
    let long : length (take count ends) ≡ count = length-take-le count ends room in
    subst (λ (p : Place). LeadTo table text from (take count ends) p)
    (parts r.place.offset _ r.place.condition _ r.place.line _ r.place.at_line_begin _ r.offset_is (sym r.stands.condition ∙ sym (condition_is r.q r.known r.row_is))
    (r.begin (omega (arith, long)) ∙ ap (λ (n : ℕ). nat_eq (slice_index text (n - 1)) 10) r.offset_is) r.line_was)
    r.leads
  where
    parts : (o p c d l k : ℕ) (a b : Bool) → o ≡ p → c ≡ d → a ≡ b → l ≡ k → ◌≡◌ {A = Place} (record { offset = o; condition = c; at_line_begin = a; line = l }) (record { offset = p; condition = d; at_line_begin = b; line = k })
    parts o p c d l k a b e f g h = cc

-- after ends the place isn't before the first
pub rises : (table : Table) (start : ℕ) (ends : List End) → AreEnds table start ends → start ≤ end_of start ends
rises table start [] are = omega arith
rises table start (e ∷ ends) (is, are) = let here = is.further in let there = rises table e.offset ends are in omega arith

-- after some ends the place is further on
pub ends_rise : (table : Table) (start : ℕ) (ends : List End) → AreEnds table start ends → 0 < length ends → start < end_of start ends
ends_rise table start [] are some = absurd (omega arith)
ends_rise table start (e ∷ []) (is, are) some = is.further
ends_rise table start (e ∷ x ∷ es) (is, are) some =
    let here = is.further in
    let there = ends_rise table e.offset (x ∷ es) are (omega arith) in
    omega arith
