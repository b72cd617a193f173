-- By tables of a specification, the items of a text are those of a run by its rules.
use Rattle.std.proofs.Common.{◌≡◌, ℕ, zero, suc, ◌+◌, ◌-◌, ◌<◌, ◌≤◌, Bool, false, nat_eq, List, [], ◌∷◌, ◌++◌, Option, Some, None, length, take, drop, map, All, refl, sym, ap, ap₂, subst, ◌∙◌, arith}
use Rattle.std.specs.Prelude.{slice_index, slice_index_or}
use Rattle.std.specs.Option.{option_map}
use Rattle.std.proofs.lemmas.List.{length-drop, get_or-drop}
use Rattle.std.proofs.lemmas.List.Elements.{All-drop}
use Rattle.lx_rules.specs.declared.rule.Step.{Step}
use Rattle.lx_rules.specs.Choice.{IsChoice}
use Rattle.lx_rules.specs.Plain.{PlainRule, PlainSpec}
use Rattle.lx_tables.specs.Model.{AreTablesOf, IsTable, Table, TableRule, table_rule}
use Rattle.lx_scan.specs.declared.item.Item.{Item}
use Rattle.lx_scan.specs.declared.place.Match.{Match}
use Rattle.lx_scan.specs.declared.place.Place.{Place}
use Rattle.lx_scan.specs.Answers.{IsByAnswers}
use Rattle.lx_scan.specs.ByRules.{AreItemsBy, Run, actions_of, items_of_run, place_behind, steps_of}
use Rattle.lx_scan.specs.Items.{choice_at, first_place, items_at, items_from, items_of, len_at, place_after, steps_at}
use Rattle.lx_scan.specs.Matching.{choice_in}
use Rattle.lx_scan.specs.Steps.{condition_after, items_of_steps, newlines}
use Rattle.lx_scan.proofs.ByFits.{choice_is}
use Rattle.lx_scan.proofs.Choosing.{by_answers}
use Rattle.lx_scan.proofs.Turns.{Takes, takes, drop_tail, rest_more, rest_none}

-- a choice at a place, as a match
abbrev match_of : Place → Option (ℕ × ℕ) → Match
match_of place choice = record { rule = option_map (λ f. f.0) choice; start = place.offset; len = len_at choice }

choice_back : (place : Place) (choice : Option (ℕ × ℕ)) → choice_in (match_of place choice) ≡ choice
choice_back place None = refl
choice_back place (Some found) = refl

alone : (choice : Option (ℕ × ℕ)) → option_map {T = ℕ × ℕ} {U = ℕ} (λ f. f.0) choice ≡ None → len_at choice ≡ 1
alone None e = refl
alone (Some found) e = absurd (let f : Some found.0 ≡ None = e in cc)

-- the substitute for a missing rule
abbrev no_rule : TableRule
no_rule = record { line_end = false; steps = [] }

-- tables have the steps of the rules
steps_same : (rules : List PlainRule) (i : ℕ) (d : TableRule) → d.steps ≡ [] → slice_index_or (map (λ r. r.steps) rules) i [] ≡ (slice_index_or (map table_rule rules) i d).steps
steps_same [] i d e = sym e
steps_same (r ∷ rules) zero d e = refl
steps_same (r ∷ rules) (suc i) d e = steps_same rules i d e

module _ (spec : PlainSpec) (table : Table) (is : IsTable table) (of : AreTablesOf spec table) where
  steps_are : (choice : Option (ℕ × ℕ)) → steps_of (actions_of spec) (option_map (λ f. f.0) choice) ≡ steps_at table choice
  steps_are None = refl
  steps_are (Some found) =
      steps_same spec.rules found.0 no_rule refl ∙ ap (λ (rules : List TableRule). (slice_index_or rules found.0 no_rule).steps) (sym of.rules)

  module _ (text : List ℕ) (are_bytes : All (λ b. b < 256) text) where
    -- the place after a match is the same
    places_are : (rest : List ℕ) (place : Place) (choice : Option (ℕ × ℕ)) → drop place.offset text ≡ rest → 0 < len_at choice →
        place_behind (actions_of spec) text place (match_of place choice) ≡ place_after table rest place choice
    places_are rest place choice at some =
        parts (place.offset + len_at choice) _ _ _ _ _ _
        (ap (λ (steps : List Step). condition_after steps place.condition) (steps_are choice))
        (ap (λ (n : ℕ). nat_eq n 10) byte)
        (ap (λ (xs : List ℕ). place.line + newlines (take (len_at choice) xs)) at)
      where
        parts : (o c d l k : ℕ) (a b : Bool) → c ≡ d → a ≡ b → l ≡ k → ◌≡◌ {A = Place} (record { offset = o; condition = c; at_line_begin = a; line = l }) (record { offset = o; condition = d; at_line_begin = b; line = k })
        parts o c d l k a b f g h = cc

        byte : slice_index text (place.offset + len_at choice - 1) ≡ slice_index rest (len_at choice - 1)
        byte =
            let last : place.offset + len_at choice - 1 ≡ place.offset + (len_at choice - 1) = omega (arith, some) in
            ap (λ (n : ℕ). slice_index text n) last ∙ sym (get_or-drop place.offset text (len_at choice - 1) 0) ∙ ap (λ (xs : List ℕ). slice_index xs (len_at choice - 1)) at

    -- the matches from a place to the end of the text, which give these items
    record Reaches (place : Place) (items : List Item) : Type 0 where
      pub matches : List Match
      pub end : Place
      pub run : Run (IsChoice spec) (actions_of spec) text place matches end
      pub whole : end.offset ≡ length text
      pub items_are : items ≡ items_of_run (actions_of spec) text place matches

    -- a match, and then those after it
    one_more : (rest : List ℕ) (place : Place) (choice : Option (ℕ × ℕ)) (items : List Item) → drop place.offset text ≡ rest → place.offset < length text → place.condition < length table.machine.starts → 0 < len_at choice →
        IsByAnswers table place.condition place.at_line_begin rest choice → Reaches (place_after table rest place choice) items → Reaches place (items_at table place choice ++ items)
    one_more rest place choice items at more known some by r =
        let m = match_of place choice in
        let same : place_behind (actions_of spec) text place m ≡ place_after table rest place choice = places_are rest place choice at some in
        let conditions : length table.machine.starts ≡ length spec.conditions = of.automaton.conditions in
        let rest_bytes : All (λ b. b < 256) rest = subst (λ (xs : List ℕ). All (λ b. b < 256) xs) at (All-drop (λ b. b < 256) place.offset text are_bytes) in
        let chosen : IsChoice spec place.condition place.at_line_begin rest choice = choice_is spec place.condition place.at_line_begin rest table of (omega arith) rest_bytes choice by in
        record {
          matches = m ∷ r.matches;
          end = r.end;
          run = (
            record {
              more = more;
              start = refl;
              choice = subst (λ (o : Option (ℕ × ℕ)). IsChoice spec place.condition place.at_line_begin (drop place.offset text) o) (sym (choice_back place choice))
                  (subst (λ (xs : List ℕ). IsChoice spec place.condition place.at_line_begin xs choice) (sym at) chosen);
              alone = alone choice;
            },
            subst (λ (p : Place). Run (IsChoice spec) (actions_of spec) text p r.matches r.end) (sym same) r.run,
          );
          whole = r.whole;
          items_are = ap₂ (λ (xs ys : List Item). xs ++ ys)
              (ap (λ (steps : List Step). items_of_steps steps place.line place.offset (len_at choice)) (sym (steps_are choice)))
              (r.items_are ∙ ap (λ (p : Place). items_of_run (actions_of spec) text p r.matches) (sym same));
        }

    reaches : (rest : List ℕ) (taken p : ℕ) (place : Place) → drop p text ≡ rest → p + taken ≡ place.offset → place.offset ≤ length text → place.condition < length table.machine.starts →
        Reaches place (items_from table rest taken place)
    reaches [] taken p place at before within known =
        let past : length text ≤ p = rest_none text p at in
        record { matches = []; end = place; run = refl; whole = omega arith; items_are = refl }
    reaches (byte ∷ rest) (suc taken) p place at before within known = reaches rest taken (suc p) place (drop_tail text p byte rest at) (omega arith) within known
    reaches (byte ∷ rest) zero p place at before within known =
        let choice = choice_at table (byte ∷ rest) place in
        let by : IsByAnswers table place.condition place.at_line_begin (byte ∷ rest) choice = by_answers table place.condition place.at_line_begin (byte ∷ rest) in
        let here : p ≡ place.offset = omega arith in
        let there : drop place.offset text ≡ byte ∷ rest = ap (λ (k : ℕ). drop k text) (sym here) ∙ at in
        let t : Takes table (byte ∷ rest) place choice = takes table is (byte ∷ rest) place choice (omega arith) known by in
        let some : 0 < len_at choice = t.some in
        let most : len_at choice ≤ length (byte ∷ rest) = t.within in
        let more : place.offset < length text = rest_more text place.offset byte rest there in
        let long : length (byte ∷ rest) ≡ length text - place.offset = sym (ap length there) ∙ length-drop place.offset text in
        one_more (byte ∷ rest) place choice (items_from table rest (len_at choice - 1) (place_after table (byte ∷ rest) place choice)) there more known some by
        (reaches rest (len_at choice - 1) (suc p) (place_after table (byte ∷ rest) place choice) (drop_tail text p byte rest at) (omega (arith, some, here)) (omega (arith, most, more, long)) t.known)

    pub items_by_rules : AreItemsBy spec text (items_of table text)
    unfolding items_of
    items_by_rules =
        let r : Reaches first_place (items_of table text) = reaches text 0 0 first_place refl refl (omega arith) is.machine.some in
        record { matches = r.matches; end = r.end; run = r.run; whole = r.whole; items_are = r.items_are }
