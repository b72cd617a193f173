-- The effect of a rule's steps: a condition and kinds that exist.
use Rattle.std.proofs.Common.{◌≡◌, ℕ, zero, suc, ◌+◌, ◌<◌, ◌≤◌, Bool, true, nat_lt, List, [], ◌∷◌, Option, Some, None, length, All, refl, sym, ltb-true}
use Rattle.std.specs.Prelude.{slice_index_or}
use Rattle.std.specs.List.{list_all}
use Rattle.std.proofs.lemmas.Bool.{and_parts, true≢false}
use Rattle.std.proofs.lemmas.List.Elements.{All-nil, All-cons}
use Rattle.lx_rules.specs.declared.rule.Kind.{Kind}
use Rattle.lx_rules.specs.declared.rule.Kind.TheVariants.{Name, Number}
use Rattle.lx_rules.specs.declared.rule.Step.{Step}
use Rattle.lx_rules.specs.declared.rule.Step.TheVariants.{Echo, Begin, Return}
use Rattle.lx_rules.specs.Invariant.{are_steps, is_kind}
use Rattle.lx_tables.specs.Model.{Table, IsTable}
use Rattle.lx_scan.specs.ItemParts.{IsItemOf, IsKindAmong, line_at}
use Rattle.lx_scan.specs.Items.{steps_at}
use Rattle.lx_scan.specs.Steps.{condition_after, items_of_steps}

-- a condition that steps lead to is one that exists
pub condition_known : (steps : List Step) (condition conditions kinds : ℕ) → condition < conditions → are_steps conditions kinds steps ≡ true → condition_after steps condition < conditions
condition_known [] condition conditions kinds h is = h
condition_known (Echo ∷ steps) condition conditions kinds h is = condition_known steps condition conditions kinds h is
condition_known (Begin next ∷ steps) condition conditions kinds h is =
    let both = and_parts (nat_lt next conditions) (are_steps conditions kinds steps) is in
    condition_known steps next conditions kinds (ltb-true next conditions both.0) both.1
condition_known (Return kind ∷ []) condition conditions kinds h is = h
condition_known (Return kind ∷ step ∷ steps) condition conditions kinds h is = absurd (true≢false (sym is))

kind_known : (names : List (List ℕ)) (kind : Kind) → is_kind (length names) kind ≡ true → IsKindAmong names kind
kind_known names (Name n) is = ltb-true n (length names) is
kind_known names (Number n) is = tt

-- the items that steps give of bytes of the text lie in the text, have kinds that exist and the line of the bytes
pub items_known : (names : List (List ℕ)) (text : List ℕ) (steps : List Step) (conditions line start len : ℕ) → start + len ≤ length text → line ≡ line_at text start → are_steps conditions (length names) steps ≡ true →
    All (IsItemOf names text) (items_of_steps steps line start len)
items_known names text [] conditions line start len h l is = All-nil (IsItemOf names text)
items_known names text (Echo ∷ steps) conditions line start len h l is =
    All-cons (IsItemOf names text) _ (items_of_steps steps line start len) (record { inside = h; named = tt; line = l }) (items_known names text steps conditions line start len h l is)
items_known names text (Begin next ∷ steps) conditions line start len h l is =
    items_known names text steps conditions line start len h l ((and_parts (nat_lt next conditions) (are_steps conditions (length names) steps) is).1)
items_known names text (Return kind ∷ []) conditions line start len h l is =
    All-cons (IsItemOf names text) _ [] (record { inside = h; named = kind_known names kind is; line = l }) (All-nil (IsItemOf names text))
items_known names text (Return kind ∷ step ∷ steps) conditions line start len h l is = absurd (true≢false (sym is))

-- a test that all elements of a list pass, and so does the substitute of a missing one
all_or : {X : Type 0} (test : X → Bool) (xs : List X) (i : ℕ) (d : X) → list_all test xs ≡ true → test d ≡ true → test (slice_index_or xs i d) ≡ true
all_or test [] i d all default = default
all_or test (x ∷ xs) zero d all default = (and_parts (test x) (list_all test xs) all).0
all_or test (x ∷ xs) (suc i) d all default = all_or test xs i d ((and_parts (test x) (list_all test xs) all).1) default

-- the steps at a choice name conditions and kinds that exist
pub steps_known : (table : Table) → IsTable table → (choice : Option (ℕ × ℕ)) → are_steps (length table.machine.starts) (length table.kinds) (steps_at table choice) ≡ true
steps_known table is None = refl
steps_known table is (Some found) = all_or (λ rule. are_steps (length table.machine.starts) (length table.kinds) rule.steps) table.rules found.0 _ is.steps refl
