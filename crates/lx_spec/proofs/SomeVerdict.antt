-- Every text has a verdict: a first fault, or its specification.
use Rattle.std.proofs.Common.{◌≡◌, ℕ, suc, ◌+◌, ◌≤◌, ◌<◌, ◌⊎◌, inl, inr, false, List, [], ◌∷◌, length, Option, Some, None, Result, Ok, Err, refl, subst, arith, true≢false}
use Rattle.lx_ere.specs.Regex.{Regex, Reading}
use Rattle.lx_ere.specs.Pattern.{IsPattern, IsSubstitute}
use Rattle.lx_ere.proofs.Deciding.{below_or_not}
use Rattle.lx_rules.specs.Limits.{max_specification_bytes}
use Rattle.lx_rules.specs.Plain.{PlainDefinition, PlainSpec}
use Rattle.lx_spec.specs.Actions.{Action, IsAction}
use Rattle.lx_spec.specs.Dictionary.{IsTreeOf, AreTrees, is_unreadable, unreadable_marks}
use Rattle.lx_spec.specs.Faults.{fault}
use Rattle.lx_spec.specs.First.{IsFirst, HoldsOfNone}
use Rattle.lx_spec.specs.Graph.{is_marked}
use Rattle.lx_spec.specs.Outcome.{conditions_of, ResolvedRule, AreResolved, kinds_of, rules_of, IsReached, AreReached, none, reached, passed, patterns_in, AreSpec}
use Rattle.lx_spec.specs.Sections.{RawDefinition, RawRule, ParsedSections, sections_of}
use Rattle.lx_spec.specs.Verdict.{SymbolTable, symbols_of, Case, Holds, cases, fault_of}
use Rattle.lx_spec.specs.Whole.{IsFault, too_long, in_sections, in_rules, IsRead}
use Rattle.lx_spec.specs.declared.fault.Code.TheVariants as code
use Rattle.lx_spec.specs.declared.fault.SpecFault.{SpecFault}
use Rattle.lx_spec.proofs.DecidingActions.{decide_action}
use Rattle.lx_spec.proofs.DecidingCases.{decide_case, first_or_none}
use Rattle.lx_spec.proofs.Reached.{reached-readable}
use Rattle.lx_spec.proofs.Walking.{decide_reached}

-- ---- the readings of the substitutes

some_tree : (text : List ℕ) → ((u : Regex) × IsSubstitute text u) ⊎ ((u : Regex) → IsSubstitute text u → ⊥) → (t : Option Regex) × IsTreeOf text t
some_tree text (inl u) = (Some u.0, u.1)
some_tree text (inr never) = (None, never)

some_trees : ((text : List ℕ) → ((u : Regex) × IsSubstitute text u) ⊎ ((u : Regex) → IsSubstitute text u → ⊥)) → (raw_definitions : List RawDefinition) → (trees : List (Option Regex)) × AreTrees raw_definitions trees
some_trees substitutes [] = ([], tt)
some_trees substitutes (d ∷ raw_definitions) =
    let t = some_tree d.substitute (substitutes d.substitute) in
    let more = some_trees substitutes raw_definitions in
    (t.0 ∷ more.0, (t.1, more.1))

-- ---- the resolved rules, if they have no fault

its_reading : (text : List ℕ) → ((r : Reading) × IsPattern text r) ⊎ ((r : Reading) → IsPattern text r → ⊥) → (((r : Reading) → IsPattern text r → ⊥) → ⊥) → (r : Reading) × IsPattern text r
its_reading text (inl r) some = r
its_reading text (inr never) some = absurd (some never)

its_action : (text : List ℕ) → Dec ((a : Action) × IsAction text a) → (((a : Action) → IsAction text a → ⊥) → ⊥) → (a : Action) × IsAction text a
its_action text (yes a) some = a
its_action text (no never) some = absurd (some (λ a is. never (a, is)))

some_resolved : ((text : List ℕ) → ((r : Reading) × IsPattern text r) ⊎ ((r : Reading) → IsPattern text r → ⊥)) → (table : SymbolTable) (raws : List RawRule) → HoldsOfNone (Holds table) (cases raws) →
    (resolved : List ResolvedRule) × AreResolved table.start_conditions raws resolved
some_resolved readings table [] clean = ([], tt)
some_resolved readings table (raw ∷ raws) clean =
    let r = its_reading raw.pattern (readings raw.pattern) (λ never. clean.1.1.0 (inl never)) in
    let a = its_action raw.action (decide_action raw.action) clean.1.1.1.1.1.0 in
    let more = some_resolved readings table raws clean.1.1.1.1.1.1.1.1 in
    (record { conditions = conditions_of table.start_conditions raw.prefix; reading = r.0; action = a.0 } ∷ more.0, (record { conditions = refl; reading = r.1; action = a.1 }, more.1))

-- ---- the definitions that are reached

one_more : (R : ℕ → Type 0) (i : ℕ) (d : RawDefinition) (raw_definitions : List RawDefinition) (t : Option Regex) (trees : List (Option Regex)) → Dec (R i) → (R i → is_unreadable t ≡ false) →
    ((ds : List PlainDefinition) × AreReached R (suc i) raw_definitions trees ds) → (ds : List PlainDefinition) × AreReached R i (d ∷ raw_definitions) (t ∷ trees) ds
one_more R i d raw_definitions (Some tree) trees (yes r) readable more = (record { name = d.name; tree = tree } ∷ more.0, reached i d tree raw_definitions trees more.0 r more.1)
one_more R i d raw_definitions None trees (yes r) readable more = absurd (true≢false (readable r))
one_more R i d raw_definitions t trees (no never) readable more = (more.0, passed i d t raw_definitions trees more.0 never more.1)

some_definitions : (R : ℕ → Type 0) → ((i : ℕ) → Dec (R i)) → (i : ℕ) (raw_definitions : List RawDefinition) (trees : List (Option Regex)) → AreTrees raw_definitions trees →
    ((j k : ℕ) → j ≡ i + k → R j → is_marked (unreadable_marks trees) k ≡ false) → (ds : List PlainDefinition) × AreReached R i raw_definitions trees ds
some_definitions R decided i [] [] are readable = ([], none i)
some_definitions R decided i [] (t ∷ trees) are readable = absurd are
some_definitions R decided i (d ∷ raw_definitions) [] are readable = absurd are
some_definitions R decided i (d ∷ raw_definitions) (t ∷ trees) are readable =
    one_more R i d raw_definitions t trees (decided i) (readable i 0 (omega arith))
    (some_definitions R decided (suc i) raw_definitions trees are.1 (λ j k e r. readable j (suc k) (omega (arith, e)) r))

-- the specification of rules that have no fault
some_spec : (table : SymbolTable) (raws : List RawRule) (resolved : List ResolvedRule) → AreTrees table.definitions table.trees → HoldsOfNone (Holds table) (cases raws) → AreResolved table.start_conditions raws resolved →
    (spec : PlainSpec) × AreSpec table raws resolved spec
some_spec table raws resolved read clean resolves =
    let definitions = some_definitions (IsReached table.definitions table.trees (patterns_in resolved)) (decide_reached table.definitions table.trees (patterns_in resolved)) 0 table.definitions table.trees read readable in (
      record { conditions = table.start_conditions; definitions = definitions.0; kinds = kinds_of resolved; rules = rules_of table.start_conditions (kinds_of resolved) raws resolved },
      record { conditions = refl; definitions = definitions.1; kinds = refl; rules = refl },
    )
  where
    readable : (j k : ℕ) → j ≡ 0 + k → IsReached table.definitions table.trees (patterns_in resolved) j → is_marked (unreadable_marks table.trees) k ≡ false
    readable j k e r = let same : j ≡ k = omega (arith, e) in subst (λ (i : ℕ). is_marked (unreadable_marks table.trees) i ≡ false) same (reached-readable table raws resolved clean resolves j r)

-- ---- the verdict

abbrev HasVerdict : List ℕ → Type 0
HasVerdict text = ((f : SpecFault) × IsFault text f) ⊎ ((spec : PlainSpec) × IsRead text spec)

module _ (readings : (text : List ℕ) → ((r : Reading) × IsPattern text r) ⊎ ((r : Reading) → IsPattern text r → ⊥))
    (substitutes : (text : List ℕ) → ((u : Regex) × IsSubstitute text u) ⊎ ((u : Regex) → IsSubstitute text u → ⊥))
    (unique : (text : List ℕ) (r s : Reading) → IsPattern text r → IsPattern text s → r ≡ s) where
  by_rules : (text : List ℕ) → length text ≤ max_specification_bytes → (sections : ParsedSections) → sections_of text ≡ Ok sections → (trees : List (Option Regex)) → AreTrees sections.definitions trees →
      ((case : Case) × IsFirst (Holds (symbols_of sections trees)) (cases sections.rules) case) ⊎ HoldsOfNone (Holds (symbols_of sections trees)) (cases sections.rules) → HasVerdict text
  by_rules text short sections parsed trees read (inl first) =
      inl (fault_of first.0, in_rules sections trees (fault_of first.0) short parsed read (record { case = first.0; first = first.1; is = refl }))
  by_rules text short sections parsed trees read (inr clean) =
      let resolved = some_resolved readings (symbols_of sections trees) sections.rules clean in
      let spec = some_spec (symbols_of sections trees) sections.rules resolved.0 read clean resolved.1 in
      inr (spec.0, record { short = short; sections = sections; parsed = parsed; trees = trees; read = read; clean = clean; resolved = resolved.0; resolves = resolved.1; is = spec.1 })

  by_sections : (text : List ℕ) → length text ≤ max_specification_bytes → (said : Result ParsedSections SpecFault) → sections_of text ≡ said → HasVerdict text
  by_sections text short (Err f) e = inl (f, in_sections f short e)
  by_sections text short (Ok sections) e =
      let trees = some_trees substitutes sections.definitions in
      by_rules text short sections e trees.0 trees.1 (first_or_none (Holds (symbols_of sections trees.0)) (decide_case readings unique (symbols_of sections trees.0)) (cases sections.rules))

  pub some_verdict : (text : List ℕ) → HasVerdict text
  some_verdict text = by (below_or_not (length text) max_specification_bytes) where
    by : (length text ≤ max_specification_bytes) ⊎ (max_specification_bytes < length text) → HasVerdict text
    by (inl short) = by_sections text short (sections_of text) refl
    by (inr long) = inl (fault code.TooLong 0, too_long long)
