-- A text without a fault has one specification.
use Rattle.std.proofs.Common.{◌≡◌, ◌∙◌, ℕ, suc, List, [], ◌∷◌, Option, Some, None, refl, ap, sym, subst}
use Rattle.lx_ere.specs.Regex.{Regex, Reading}
use Rattle.lx_ere.specs.Pattern.{IsPattern, IsSubstitute}
use Rattle.lx_rules.specs.Plain.{StartCondition, PlainDefinition, PlainRule, PlainSpec}
use Rattle.lx_spec.specs.Actions.{Action}
use Rattle.lx_spec.specs.Sections.{RawDefinition, RawRule}
use Rattle.lx_spec.specs.Dictionary.{IsTreeOf, AreTrees}
use Rattle.lx_spec.specs.Outcome.{ResolvedRule, IsResolved, AreResolved, IsReached, AreReached, none, reached, passed, AreSpec, patterns_in}
use Rattle.lx_spec.specs.Verdict.{SymbolTable}
use Rattle.lx_spec.proofs.ActionSteps.{one_action}

-- The reached definitions are listed in one way.
pub one_reached : (R : ℕ → Type 0) (i : ℕ) (raw_definitions : List RawDefinition) (trees : List (Option Regex)) (ds es : List PlainDefinition) → AreReached R i raw_definitions trees ds → AreReached R i raw_definitions trees es → ds ≡ es
one_reached R _ _ _ _ _ (none i) (none _) = refl
one_reached R _ _ _ _ _ (reached i d tree raw_definitions trees ds r are) (reached _ _ _ _ _ es q other) = ap (λ (l : List PlainDefinition). record { name = d.name; tree = tree } ∷ l) (one_reached R (suc i) raw_definitions trees ds es are other)
one_reached R _ _ _ _ _ (reached i d tree raw_definitions trees ds r are) (passed _ _ _ _ _ es never other) = absurd (never r)
one_reached R _ _ _ _ _ (passed i d t raw_definitions trees ds never are) (reached _ _ _ _ _ es q other) = absurd (never q)
one_reached R _ _ _ _ _ (passed i d t raw_definitions trees ds never are) (passed _ _ _ _ _ es unreached other) = one_reached R (suc i) raw_definitions trees ds es are other

module _ (unique : (text : List ℕ) (r s : Regex) → IsSubstitute text r → IsSubstitute text s → r ≡ s) where
  one_tree : (text : List ℕ) (t u : Option Regex) → IsTreeOf text t → IsTreeOf text u → t ≡ u
  one_tree text None None a b = refl
  one_tree text None (Some u) a b = absurd (a u b)
  one_tree text (Some t) None a b = absurd (b t a)
  one_tree text (Some t) (Some u) a b = ap (λ (r : Regex). Some r) (unique text t u a b)

  -- Substitutes read in one way.
  pub one_trees : (raw_definitions : List RawDefinition) (trees others : List (Option Regex)) → AreTrees raw_definitions trees → AreTrees raw_definitions others → trees ≡ others
  one_trees [] [] [] a b = refl
  one_trees [] [] (u ∷ others) a b = absurd b
  one_trees [] (t ∷ trees) others a b = absurd a
  one_trees (d ∷ raw_definitions) [] others a b = absurd a
  one_trees (d ∷ raw_definitions) (t ∷ trees) [] a b = absurd b
  one_trees (d ∷ raw_definitions) (t ∷ trees) (u ∷ others) a b = ap (λ (o : Option Regex). o ∷ trees) (one_tree d.substitute t u a.0 b.0) ∙ ap (λ (l : List (Option Regex)). u ∷ l) (one_trees raw_definitions trees others a.1 b.1)

resolved-same : (s t : ResolvedRule) → s.conditions ≡ t.conditions → s.reading ≡ t.reading → s.action ≡ t.action → s ≡ t
resolved-same s t c r a =
    ap (λ (x : Option (List ℕ)). record { conditions = x; reading = s.reading; action = s.action }) c ∙ ap (λ (x : Reading). record { conditions = t.conditions; reading = x; action = s.action }) r
    ∙ ap (λ (x : Action). record { conditions = t.conditions; reading = t.reading; action = x }) a

spec-same : (s t : PlainSpec) → s.conditions ≡ t.conditions → s.definitions ≡ t.definitions → s.kinds ≡ t.kinds → s.rules ≡ t.rules → s ≡ t
spec-same s t c d k r =
    ap (λ (x : List StartCondition). record { conditions = x; definitions = s.definitions; kinds = s.kinds; rules = s.rules }) c ∙ ap (λ (x : List PlainDefinition). record { conditions = t.conditions; definitions = x; kinds = s.kinds; rules = s.rules }) d
    ∙ ap (λ (x : List (List ℕ)). record { conditions = t.conditions; definitions = t.definitions; kinds = x; rules = s.rules }) k
    ∙ ap (λ (x : List PlainRule). record { conditions = t.conditions; definitions = t.definitions; kinds = t.kinds; rules = x }) r

module _ (unique : (text : List ℕ) (r s : Reading) → IsPattern text r → IsPattern text s → r ≡ s) where
  one_rule_resolved : (start_conditions : List StartCondition) (raw : RawRule) (s t : ResolvedRule) → IsResolved start_conditions raw s → IsResolved start_conditions raw t → s ≡ t
  one_rule_resolved start_conditions raw s t a b = resolved-same s t (a.conditions ∙ sym b.conditions) (unique raw.pattern s.reading t.reading a.reading b.reading) (one_action raw.action s.action t.action a.action b.action)

  -- A rule is resolved in one way.
  pub one_resolved : (start_conditions : List StartCondition) (raws : List RawRule) (resolved others : List ResolvedRule) → AreResolved start_conditions raws resolved → AreResolved start_conditions raws others → resolved ≡ others
  one_resolved start_conditions [] [] [] a b = refl
  one_resolved start_conditions [] [] (t ∷ others) a b = absurd b
  one_resolved start_conditions [] (s ∷ resolved) others a b = absurd a
  one_resolved start_conditions (raw ∷ raws) [] others a b = absurd a
  one_resolved start_conditions (raw ∷ raws) (s ∷ resolved) [] a b = absurd b
  one_resolved start_conditions (raw ∷ raws) (s ∷ resolved) (t ∷ others) a b = ap (λ (x : ResolvedRule). x ∷ resolved) (one_rule_resolved start_conditions raw s t a.0 b.0) ∙ ap (λ (l : List ResolvedRule). t ∷ l) (one_resolved start_conditions raws resolved others a.1 b.1)

-- Resolved rules make one specification.
pub one_spec-of : (table : SymbolTable) (raws : List RawRule) (resolved : List ResolvedRule) (s t : PlainSpec) → AreSpec table raws resolved s → AreSpec table raws resolved t → s ≡ t
one_spec-of table raws resolved s t a b =
    spec-same s t (a.conditions ∙ sym b.conditions) (one_reached (IsReached table.definitions table.trees (patterns_in resolved)) 0 table.definitions table.trees s.definitions t.definitions a.definitions b.definitions) (a.kinds ∙ sym b.kinds) (a.rules ∙ sym b.rules)

-- There is one specification of these conditions, definitions and rules.
pub one_spec : (one_substitute : (text : List ℕ) (r s : Regex) → IsSubstitute text r → IsSubstitute text s → r ≡ s) (one_reading : (text : List ℕ) (r s : Reading) → IsPattern text r → IsPattern text s → r ≡ s)
    (start_conditions : List StartCondition) (raw_definitions : List RawDefinition) (raws : List RawRule) (trees others : List (Option Regex)) (resolved again : List ResolvedRule) (s t : PlainSpec) → AreTrees raw_definitions trees → AreTrees raw_definitions others
    → AreResolved start_conditions raws resolved → AreResolved start_conditions raws again → AreSpec (record { start_conditions = start_conditions; definitions = raw_definitions; trees = trees }) raws resolved s → AreSpec (record { start_conditions = start_conditions; definitions = raw_definitions; trees = others }) raws again t → s ≡ t
one_spec one_substitute one_reading start_conditions raw_definitions raws trees others resolved again s t read read_too resolves resolves_too is is_too =
    let same = one_trees one_substitute raw_definitions others trees read_too read in
    let alike = one_resolved one_reading start_conditions raws again resolved resolves_too resolves in
    let moved : AreSpec (record { start_conditions = start_conditions; definitions = raw_definitions; trees = trees }) raws again t = subst (λ (l : List (Option Regex)). AreSpec (record { start_conditions = start_conditions; definitions = raw_definitions; trees = l }) raws again t) same is_too in
    one_spec-of (record { start_conditions = start_conditions; definitions = raw_definitions; trees = trees }) raws resolved s t is (subst (λ (l : List ResolvedRule). AreSpec (record { start_conditions = start_conditions; definitions = raw_definitions; trees = trees }) raws l t) alike moved)
