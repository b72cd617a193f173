-- The sections have distinct names, and INITIAL first.
use Rattle.std.proofs.Common.{◌≡◌, ◌∙◌, ℕ, Bool, true, false, cond, nat_eq, nat_lt, List, [], ◌∷◌, ◌++◌, length, map, Result, Ok, Err, refl, sym, subst}
use Rattle.std.specs.Prelude.{IsTrue}
use Rattle.std.specs.List.{list_any}
use Rattle.std.specs.Cmp.Lexicographic.{pointwise}
use Rattle.std.proofs.lemmas.List.{map_push}
use Rattle.lx_rules.specs.Limits.{max_definitions, max_rules, max_start_conditions}
use Rattle.lx_rules.specs.Plain.{StartCondition}
use Rattle.lx_rules.specs.Invariant.{are_distinct, begins_initial, are_start_conditions}
use Rattle.lx_spec.specs.Faults.{fault}
use Rattle.lx_spec.specs.Sections.{RawDefinition, RawRule, ParsedSections, Entry, conditions, definition, rule, formless, unclosed, endless, ◌>>=◌, with_start_condition, with_start_conditions, with_definition, with_rule, with_entry, with_entries, only_initial}
use Rattle.lx_spec.specs.WellFormed.{are_raw_definitions, AreWellFormed}
use Rattle.lx_spec.specs.declared.fault.Code.TheVariants as code
use Rattle.lx_spec.specs.declared.fault.SpecFault.{SpecFault}
use Rattle.lx_spec.proofs.Conjunctions.{both, left-of, right-of}
use Rattle.lx_spec.proofs.Words.{list_any-map}
use Rattle.lx_spec.proofs.Distinct.{distinct-push}

begins-push : (start_conditions : List StartCondition) (s : StartCondition) → IsTrue (begins_initial start_conditions) → IsTrue (begins_initial (start_conditions ++ s ∷ []))
begins-push [] s h = cc
begins-push (x ∷ start_conditions) s h = h

start_conditions-push : (start_conditions : List StartCondition) (s : StartCondition) → list_any (λ t. pointwise nat_eq t.name s.name) start_conditions ≡ false → IsTrue (are_start_conditions start_conditions) → IsTrue (are_start_conditions (start_conditions ++ s ∷ []))
unfolding are_start_conditions
start_conditions-push start_conditions s new h =
    both (begins_initial (start_conditions ++ s ∷ [])) (are_distinct (map (λ t. t.name) (start_conditions ++ s ∷ [])))
    (begins-push start_conditions s (left-of (begins_initial start_conditions) (are_distinct (map (λ t. t.name) start_conditions)) h))
    (subst (λ (names : List (List ℕ)). IsTrue (are_distinct names)) (sym (map_push (λ (t : StartCondition). t.name) start_conditions s))
    (distinct-push (map (λ t. t.name) start_conditions) s.name (list_any-map (λ k. pointwise nat_eq k s.name) (λ (t : StartCondition). t.name) start_conditions ∙ new) (right-of (begins_initial start_conditions) (are_distinct (map (λ t. t.name) start_conditions)) h)))

definitions-push : (raw_definitions : List RawDefinition) (d : RawDefinition) → list_any (λ t. pointwise nat_eq t.name d.name) raw_definitions ≡ false → IsTrue (are_raw_definitions raw_definitions) → IsTrue (are_raw_definitions (raw_definitions ++ d ∷ []))
definitions-push raw_definitions d new h =
    subst (λ (names : List (List ℕ)). IsTrue (are_distinct names)) (sym (map_push (λ (t : RawDefinition). t.name) raw_definitions d))
    (distinct-push (map (λ t. t.name) raw_definitions) d.name (list_any-map (λ k. pointwise nat_eq k d.name) (λ (t : RawDefinition). t.name) raw_definitions ∙ new) h)

start_condition-kept : (before sections : ParsedSections) (n : ℕ) (x : Bool) (name : List ℕ) → with_start_condition before n x name ≡ Ok sections → AreWellFormed before → AreWellFormed sections
start_condition-kept before sections n x name e k = by (list_any (λ s. pointwise nat_eq s.name name) before.start_conditions) (nat_lt (length before.start_conditions) max_start_conditions) refl e where
  more : ParsedSections
  more = record before { start_conditions = before.start_conditions ++ record { name = name; exclusive = x } ∷ [] }

  by : (a b : Bool) → list_any (λ s. pointwise nat_eq s.name name) before.start_conditions ≡ a → cond a (Err (fault code.Twice n)) (cond b (Ok more) (Err (fault code.TooMany n))) ≡ Ok sections → AreWellFormed sections
  by true b new f = cc
  by false true new f = let same : more ≡ sections = cc in subst AreWellFormed same (record { start_conditions = start_conditions-push before.start_conditions (record { name = name; exclusive = x }) new k.start_conditions; definitions = k.definitions })
  by false false new f = cc

definition-kept : (before sections : ParsedSections) (n : ℕ) (name substitute : List ℕ) → with_definition before n name substitute ≡ Ok sections → AreWellFormed before → AreWellFormed sections
definition-kept before sections n name substitute e k = by (list_any (λ d. pointwise nat_eq d.name name) before.definitions) (nat_lt (length before.definitions) max_definitions) refl e where
  more : ParsedSections
  more = record before { definitions = before.definitions ++ record { name = name; substitute = substitute } ∷ [] }

  by : (a b : Bool) → list_any (λ d. pointwise nat_eq d.name name) before.definitions ≡ a → cond a (Err (fault code.Twice n)) (cond b (Ok more) (Err (fault code.TooMany n))) ≡ Ok sections → AreWellFormed sections
  by true b new f = cc
  by false true new f = let same : more ≡ sections = cc in subst AreWellFormed same (record { start_conditions = k.start_conditions; definitions = definitions-push before.definitions (record { name = name; substitute = substitute }) new k.definitions })
  by false false new f = cc

rule-kept : (before sections : ParsedSections) (raw : RawRule) (closed : Bool) → with_rule before raw closed ≡ Ok sections → AreWellFormed before → AreWellFormed sections
rule-kept before sections raw closed e k = by (nat_lt (length before.rules) max_rules) closed e where
  more : ParsedSections
  more = record before { rules = before.rules ++ raw ∷ [] }

  by : (a b : Bool) → cond a (cond b (Ok more) (Err (fault code.NotClosed raw.line))) (Err (fault code.TooMany raw.line)) ≡ Ok sections → AreWellFormed sections
  by true true f = let same : more ≡ sections = cc in subst AreWellFormed same (record { start_conditions = k.start_conditions; definitions = k.definitions })
  by true false f = cc
  by false b f = cc

start_conditions-kept : (names : List (List ℕ)) (before sections : ParsedSections) (n : ℕ) (x : Bool) → with_start_conditions before n x names ≡ Ok sections → AreWellFormed before → AreWellFormed sections
start_conditions-kept [] before sections n x e k = let same : before ≡ sections = cc in subst AreWellFormed same k
start_conditions-kept (name ∷ names) before sections n x e k = by (with_start_condition before n x name) refl e (λ d. start_conditions-kept names d sections n x) where
  by : (r : Result ParsedSections SpecFault) → with_start_condition before n x name ≡ r → (r >>= λ d. with_start_conditions d n x names) ≡ Ok sections → ((d : ParsedSections) → with_start_conditions d n x names ≡ Ok sections → AreWellFormed d → AreWellFormed sections) → AreWellFormed sections
  by (Ok d) is f rest = rest d f (start_condition-kept before d n x name is k)
  by (Err f) is g rest = cc

entry-kept : (entry : Entry) (before sections : ParsedSections) → with_entry before entry ≡ Ok sections → AreWellFormed before → AreWellFormed sections
entry-kept (conditions n x names) before sections e k = start_conditions-kept names before sections n x e k
entry-kept (definition n name substitute) before sections e k = definition-kept before sections n name substitute e k
entry-kept (rule raw closed) before sections e k = rule-kept before sections raw closed e k
entry-kept (formless n) before sections e k = cc
entry-kept (unclosed n) before sections e k = cc
entry-kept endless before sections e k = cc

pub entries-kept : (entries : List Entry) (before sections : ParsedSections) → with_entries before entries ≡ Ok sections → AreWellFormed before → AreWellFormed sections
entries-kept [] before sections e k = let same : before ≡ sections = cc in subst AreWellFormed same k
entries-kept (entry ∷ more) before sections e k = by (with_entry before entry) refl e (λ d. entries-kept more d sections) where
  by : (r : Result ParsedSections SpecFault) → with_entry before entry ≡ r → (r >>= λ d. with_entries d more) ≡ Ok sections → ((d : ParsedSections) → with_entries d more ≡ Ok sections → AreWellFormed d → AreWellFormed sections) → AreWellFormed sections
  by (Ok d) is f rest = rest d f (entry-kept entry before d is k)
  by (Err f) is g rest = cc

pub first-kept : AreWellFormed only_initial
unfolding are_start_conditions
first-kept = record { start_conditions = refl; definitions = refl }
