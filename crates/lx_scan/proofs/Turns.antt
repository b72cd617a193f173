-- One match of a scanner: it stays in the text, and the items continue after it.
use Rattle.std.proofs.Common.{◌≡◌, ℕ, zero, suc, ◌+◌, ◌-◌, ◌<◌, ◌≤◌, Bool, nat_eq, List, [], ◌∷◌, ◌++◌, Option, Some, None, length, take, drop, refl, sym, ap, ap₂, subst, ◌∙◌, arith, append_assoc}
use Rattle.std.specs.Prelude.{slice_index}
use Rattle.std.specs.Option.{option_map, ForSome}
use Rattle.std.proofs.lemmas.List.{length-drop, take_rest}
use Rattle.std.proofs.Math.Seq.{drop-nil, take-add}
use Rattle.lx_tables.specs.Model.{Table, IsTable}
use Rattle.lx_scan.specs.declared.item.Item.{Item}
use Rattle.lx_scan.specs.declared.place.Match.{Match}
use Rattle.lx_scan.specs.declared.place.Place.{Place}
use Rattle.lx_scan.specs.Answers.{IsByAnswers}
use Rattle.lx_scan.specs.ItemParts.{line_at}
use Rattle.lx_scan.specs.Items.{choice_at, items_at, items_after, items_from, len_at, place_after, steps_at}
use Rattle.lx_scan.specs.Matching.{IsFound, GoesOn, choice_in}
use Rattle.lx_scan.specs.Steps.{condition_after, items_of_steps, newlines}
use Rattle.lx_scan.proofs.Actions.{condition_known, steps_known}
use Rattle.lx_scan.proofs.Choosing.{by_answers, chosen_there}

-- ---- the rest of a text
--  after its first byte
pub drop_tail : (text : List ℕ) (p byte : ℕ) (rest : List ℕ) → drop p text ≡ byte ∷ rest → drop (suc p) text ≡ rest
drop_tail [] p byte rest e = absurd (let nothing : [] ≡ byte ∷ rest = sym (drop-nil p) ∙ e in cc)
drop_tail (x ∷ text) zero byte rest e = cc
drop_tail (x ∷ text) (suc p) byte rest e = drop_tail text p byte rest e

pub rest_more : (text : List ℕ) (p byte : ℕ) (rest : List ℕ) → drop p text ≡ byte ∷ rest → p < length text
rest_more text p byte rest e =
    let long : length (drop p text) ≡ suc (length rest) = ap length e in
    omega (arith, long, length-drop p text)

-- if it is empty, all is taken
pub rest_none : (text : List ℕ) (p : ℕ) → drop p text ≡ [] → length text ≤ p
rest_none text p e =
    let none : length (drop p text) ≡ 0 = ap length e in
    omega (arith, none, length-drop p text)

-- ---- lines
pub newlines_both : (xs ys : List ℕ) → newlines (xs ++ ys) ≡ newlines xs + newlines ys
newlines_both [] ys = omega arith
newlines_both (x ∷ xs) ys = let more = newlines_both xs ys in omega (arith, more)

-- the line after some bytes
pub line_behind : (text : List ℕ) (line start len : ℕ) → line ≡ line_at text start → line + newlines (take len (drop start text)) ≡ line_at text (start + len)
line_behind text line start len is =
    let both : newlines (take (start + len) text) ≡ newlines (take start text) + newlines (take len (drop start text))
    = ap newlines (take-add start len text) ∙ newlines_both (take start text) (take len (drop start text)) in
    omega (arith, both, is)

-- ---- a match
--  a choice takes bytes that exist, and leads to a condition that exists
pub record Takes (table : Table) (rest : List ℕ) (place : Place) (choice : Option (ℕ × ℕ)) : Type 0 where
  pub some : 0 < len_at choice
  pub within : len_at choice ≤ length rest
  pub known : condition_after (steps_at table choice) place.condition < length table.machine.starts

pub takes : (table : Table) → IsTable table → (rest : List ℕ) (place : Place) (choice : Option (ℕ × ℕ)) → 0 < length rest → place.condition < length table.machine.starts →
    IsByAnswers table place.condition place.at_line_begin rest choice → Takes table rest place choice
takes table is rest place None more known by = record { some = omega arith; within = omega arith; known = known }
takes table is rest place (Some found) more known by =
    let there = chosen_there table is place.condition place.at_line_begin rest found.0 found.1 by in
    record {
      some = there.some;
      within = there.within;
      known = condition_known (steps_at table (Some found)) place.condition (length table.machine.starts) (length table.kinds) known (steps_known table is (Some found));
    }

-- a choice, as a match
pub found_is : (table : Table) → IsTable table → (rest : List ℕ) (place : Place) (m : Match) → 0 < length rest → m.start ≡ place.offset → choice_in m ≡ choice_at table rest place → (m.rule ≡ None → m.len ≡ 1) → IsFound table rest place m
found_is table is rest place m more start choice alone =
    let by : IsByAnswers table place.condition place.at_line_begin rest (choice_in m)
    = subst (λ (o : Option (ℕ × ℕ)). IsByAnswers table place.condition place.at_line_begin rest o) (sym choice) (by_answers table place.condition place.at_line_begin rest) in
    let parts = there m.rule m.len by alone in
    record { start = start; choice = choice; by_answers = by; alone = alone; some = parts.0; within = parts.1; rule = parts.2 }
  where
    there : (rule : Option ℕ) (len : ℕ) → IsByAnswers table place.condition place.at_line_begin rest (option_map (λ r. (r, len)) rule) → (rule ≡ None → len ≡ 1) → (0 < len) × (len ≤ length rest) × ForSome rule (λ i. i < length table.rules)
    there None len by alone = let one : len ≡ 1 = alone refl in (omega arith, omega arith, λ i e. absurd (let f : None ≡ Some i = e in cc))
    there (Some r) len by alone =
        let is_there = chosen_there table is place.condition place.at_line_begin rest r len by in
        (is_there.some, is_there.within, λ i e. let f : r ≡ i = cc in subst (λ (k : ℕ). k < length table.rules) f is_there.below)

-- the bytes of a match are those that its choice takes
pub len_of_match : (m : Match) → (m.rule ≡ None → m.len ≡ 1) → len_at (choice_in m) ≡ m.len
len_of_match m alone = at m.rule m.len alone
  where
    at : (rule : Option ℕ) (len : ℕ) → (rule ≡ None → len ≡ 1) → len_at (option_map (λ r. (r, len)) rule) ≡ len
    at None len alone = sym (alone refl)
    at (Some r) len alone = refl

-- ---- items
--  A match takes the bytes up to its end; the next items are those of the rest after them.
items_behind : (table : Table) (rest : List ℕ) (taken : ℕ) (place : Place) → items_from table rest taken place ≡ items_from table (drop taken rest) 0 place
items_behind table [] zero place = refl
items_behind table [] (suc taken) place = refl
items_behind table (byte ∷ rest) zero place = refl
items_behind table (byte ∷ rest) (suc taken) place = items_behind table rest taken place

-- The items from a place on: those of the match there, and then those of the rest after it.
pub items_next : (table : Table) (rest : List ℕ) (place : Place) (choice : Option (ℕ × ℕ)) → 0 < length rest → choice ≡ choice_at table rest place → 0 < len_at choice →
    items_from table rest 0 place ≡ items_at table place choice ++ items_from table (drop (len_at choice) rest) 0 (place_after table rest place choice)
items_next table [] place choice more is some = absurd (omega arith)
items_next table (byte ∷ rest) place choice more is some =
    ap (λ (o : Option (ℕ × ℕ)). items_at table place o ++ items_from table rest (len_at o - 1) (place_after table (byte ∷ rest) place o)) (sym is)
    ∙ at (len_at choice) some (items_at table place choice) (place_after table (byte ∷ rest) place choice)
  where
    at : (n : ℕ) → 0 < n → (items : List Item) (next : Place) → items ++ items_from table rest (n - 1) next ≡ items ++ items_from table (drop n (byte ∷ rest)) 0 next
    at zero l items next = absurd (omega arith)
    at (suc n) l items next = let less : suc n - 1 ≡ n = omega arith in
        ap (λ (k : ℕ). items ++ items_from table rest k next) less ∙ ap (λ (xs : List Item). items ++ xs) (items_behind table rest n next)

-- ---- from place to place
pub drop_further : (text : List ℕ) (p n : ℕ) → drop n (drop p text) ≡ drop (p + n) text
drop_further [] p n = ap (λ (xs : List ℕ). drop n xs) (drop-nil p) ∙ drop-nil n ∙ sym (drop-nil (p + n))
drop_further (x ∷ text) zero n = let same : n ≡ zero + n = omega arith in ap (λ (k : ℕ). drop k (x ∷ text)) same
drop_further (x ∷ text) (suc p) n = let same : suc (p + n) ≡ suc p + n = omega arith in drop_further text p n ∙ ap (λ (k : ℕ). drop k (x ∷ text)) same

-- the items from a place on: those of the match there, and then those from the next place on
items_step : (table : Table) (text : List ℕ) (place : Place) (m : Match) (next : Place) → IsFound table (drop place.offset text) place m → next ≡ place_after table (drop place.offset text) place (choice_in m) →
    items_after table text place ≡ items_of_steps (steps_at table (choice_in m)) place.line m.start m.len ++ items_after table text next
items_step table text place m next found after =
    let rest = drop place.offset text in
    let choice = choice_in m in
    let len : len_at choice ≡ m.len = len_of_match m found.alone in
    let some : 0 < m.len = found.some in
    let one : items_from table rest 0 place ≡ items_at table place choice ++ items_from table (drop (len_at choice) rest) 0 (place_after table rest place choice)
    = items_next table rest place choice (omega (arith, some, found.within)) found.choice (omega (arith, len, some)) in
    let here : items_of_steps (steps_at table choice) place.line m.start m.len ≡ items_at table place choice
    = ap₂ (λ (s n : ℕ). items_of_steps (steps_at table choice) place.line s n) found.start (sym len) in
    let there : drop next.offset text ≡ drop (len_at choice) rest
    = ap (λ (p : Place). drop p.offset text) after ∙ sym (drop_further text place.offset (len_at choice)) in
    let more : items_after table text next ≡ items_from table (drop (len_at choice) rest) 0 (place_after table rest place choice)
    = ap₂ (λ (r : List ℕ) (p : Place). items_from table r 0 p) there after in
    one ∙ sym (ap₂ (λ (xs ys : List Item). xs ++ ys) here more)

-- the place after a match, if the rest of the text from the match's place on is a slice
pub goes_on : (table : Table) (text rest : List ℕ) (place : Place) (m : Match) (next : Place) → IsTable table → rest ≡ take (length text - place.offset) (drop place.offset text) → place.offset < length text → place.condition < length table.machine.starts →
    place.line ≤ place.offset + 1 → 1 ≤ place.line → IsFound table rest place m → next.line ≤ place.line + m.len →
    next.offset ≡ place.offset + m.len → next.condition ≡ condition_after (steps_at table (choice_in m)) place.condition →
    next.at_line_begin ≡ nat_eq (slice_index rest (m.len - 1)) 10 → next.line ≡ place.line + newlines (take m.len rest) → GoesOn table text place m next
goes_on table text rest place m next is rest_is more known line_few line_some found few offset condition begin line =
    let rest_whole : rest ≡ drop place.offset text = rest_is ∙ take_rest text place.offset in
    let found_whole : IsFound table (drop place.offset text) place m = subst (λ (r : List ℕ). IsFound table r place m) rest_whole found in
    let len : len_at (choice_in m) ≡ m.len = len_of_match m found.alone in
    let most : m.len ≤ length (drop place.offset text) = found_whole.within in
    let long : length (drop place.offset text) ≡ length text - place.offset = length-drop place.offset text in
    let some : 0 < m.len = found.some in
    let t : Takes table rest place (choice_in m) = takes table is rest place (choice_in m) (omega (arith, some, found.within)) known found.by_answers in
    let there : condition_after (steps_at table (choice_in m)) place.condition < length table.machine.starts = t.known in
    record {
      more = more;
      found = found_whole;
      after = after rest_whole len;
      further = omega (arith, some, offset);
      within = omega (arith, most, long, offset, more);
      known = omega (arith, there, condition);
      line_some = omega (arith, line, line_some);
      line_few = omega (arith, line, line_few, few, offset);
      items = items_step table text place m next found_whole (after rest_whole len);
    }
  where
    parts : (o p c d l k : ℕ) (a b : Bool) → o ≡ p → c ≡ d → a ≡ b → l ≡ k → ◌≡◌ {A = Place} (record { offset = o; condition = c; at_line_begin = a; line = l }) (record { offset = p; condition = d; at_line_begin = b; line = k })
    parts o p c d l k a b e f g h = cc

    after : rest ≡ drop place.offset text → len_at (choice_in m) ≡ m.len → next ≡ place_after table (drop place.offset text) place (choice_in m)
    after rest_whole len = parts next.offset _ next.condition _ next.line _ next.at_line_begin _
        (offset ∙ ap (λ (n : ℕ). place.offset + n) (sym len))
        condition
        (begin ∙ ap (λ (r : List ℕ). nat_eq (slice_index r (m.len - 1)) 10) rest_whole ∙ ap (λ (n : ℕ). nat_eq (slice_index (drop place.offset text) (n - 1)) 10) (sym len))
        (line ∙ ap (λ (r : List ℕ). place.line + newlines (take m.len r)) rest_whole ∙ ap (λ (n : ℕ). place.line + newlines (take n (drop place.offset text))) (sym len))

-- the items of the text, one match further
pub items_further : (table : Table) (text : List ℕ) (place : Place) (m : Match) (next : Place) (before items : List Item) → GoesOn table text place m next →
    items ≡ before ++ items_of_steps (steps_at table (choice_in m)) place.line m.start m.len →
    items ++ items_after table text next ≡ before ++ items_after table text place
items_further table text place m next before items goes is =
    ap (λ (xs : List Item). xs ++ items_after table text next) is
    ∙ append_assoc before (items_of_steps (steps_at table (choice_in m)) place.line m.start m.len) (items_after table text next)
    ∙ ap (λ (xs : List Item). before ++ xs) (sym goes.items)
