-- Each fault of a rule is decidable, so there is a first one, or none.
use Rattle.std.proofs.Common.{◌≡◌, ℕ, ◌⊎◌, inl, inr, false, List, [], ◌∷◌, subst}
use Rattle.std.specs.List.{list_all}
use Rattle.lx_ere.specs.Regex.{Regex, Reading}
use Rattle.lx_ere.specs.Pattern.{IsPattern}
use Rattle.lx_ere.proofs.Deciding.{along, both, either, decide_not, decide_true, decide_false, decide_in}
use Rattle.lx_rules.specs.Limits.{max_name_depth}
use Rattle.lx_rules.specs.Plain.{StartCondition}
use Rattle.lx_spec.specs.Actions.{Statement, Action, shared, own, IsAction}
use Rattle.lx_spec.specs.Dictionary.{row_of, all_defined, mentions_of, unreadable_marks, incomplete_marks}
use Rattle.lx_spec.specs.First.{IsFirst, here, later, HoldsOfNone}
use Rattle.lx_spec.specs.Graph.{IsMention, Leads, Follow}
use Rattle.lx_spec.specs.Verdict.{SymbolTable, LeadsUnreadable, LeadsUndefined, LeadsDeep, Case, Cause, prefix_form, prefix_name, reading, undefined, depth, action_form, begin_name, no_next, is_prefix, fields_in, are_declared, begin_is_declared, IsCase, Holds}
use Rattle.lx_spec.proofs.ActionSteps.{one_action}
use Rattle.lx_spec.proofs.DecidingActions.{decide_action}
use Rattle.lx_spec.proofs.Walking.{decide_leads, decide_follow}

-- ---- the expression of a pattern

decide_unreadable : (table : SymbolTable) (tree : Regex) → Dec (LeadsUnreadable table tree)
decide_unreadable table tree =
    let mentions = mentions_of table.definitions table.trees in
    decide_in (Leads mentions (unreadable_marks table.trees)) (decide_leads mentions (unreadable_marks table.trees)) (row_of table.definitions tree)

decide_undefined : (table : SymbolTable) (tree : Regex) → Dec (LeadsUndefined table tree)
decide_undefined table tree =
    let mentions = mentions_of table.definitions table.trees in
    let marks = incomplete_marks table.definitions table.trees in
    either (decide_false (all_defined table.definitions tree)) (decide_in (Leads mentions marks) (decide_leads mentions marks) (row_of table.definitions tree))

decide_deep : (table : SymbolTable) (tree : Regex) → Dec (LeadsDeep table tree)
decide_deep table tree =
    let mentions = mentions_of table.definitions table.trees in
    decide_in (Follow (IsMention mentions) max_name_depth) (decide_follow mentions max_name_depth) (row_of table.definitions tree)

-- ---- the action

decide_begin : (start_conditions : List StartCondition) (text : List ℕ) → Dec ((a : Action) × IsAction text a) →
    Dec ((ss : List Statement) × IsAction text (own ss) × (list_all (begin_is_declared start_conditions) ss ≡ false))
decide_begin start_conditions text (no never) = no (λ h. never (own h.0, h.1))
decide_begin start_conditions text (yes (shared, is)) = no (λ h. let same : shared ≡ own h.0 = one_action text shared (own h.0) is h.1 in absurd (cc))
decide_begin start_conditions text (yes (own ss, is)) = along (λ e. (ss, is, e)) back (decide_false (list_all (begin_is_declared start_conditions) ss)) where
  back : ((ts : List Statement) × IsAction text (own ts) × (list_all (begin_is_declared start_conditions) ts ≡ false)) → list_all (begin_is_declared start_conditions) ss ≡ false
  back h =
      let same : own h.0 ≡ own ss = one_action text (own h.0) (own ss) h.1 is in
      let list : h.0 ≡ ss = cc in
      subst (λ (ts : List Statement). list_all (begin_is_declared start_conditions) ts ≡ false) list h.2

decide_shared : (text : List ℕ) → Dec ((a : Action) × IsAction text a) → Dec (IsAction text shared)
decide_shared text (no never) = no (λ h. never (shared, h))
decide_shared text (yes (shared, is)) = yes is
decide_shared text (yes (own ss, is)) = no (λ h. let same : shared ≡ own ss = one_action text shared (own ss) h is in absurd (cc))

decide_formless : (text : List ℕ) → Dec ((a : Action) × IsAction text a) → Dec ((a : Action) → IsAction text a → ⊥)
decide_formless text d = along (λ n a is. n (a, is)) (λ n h. n h.0 h.1) (decide_not d)

-- ---- a case

module _ (readings : (text : List ℕ) → ((r : Reading) × IsPattern text r) ⊎ ((r : Reading) → IsPattern text r → ⊥))
    (unique : (text : List ℕ) (r s : Reading) → IsPattern text r → IsPattern text s → r ≡ s) where
  -- it is decidable if the expression of a pattern has a property
  decide_read : (Q : Regex → Type 0) → ((tree : Regex) → Dec (Q tree)) → (text : List ℕ) → ((r : Reading) × IsPattern text r) ⊎ ((r : Reading) → IsPattern text r → ⊥) → Dec ((r : Reading) × IsPattern text r × Q r.tree)
  decide_read Q d text (inl r) = along (λ q. (r.0, r.1, q)) (λ h. subst (λ (s : Reading). Q s.tree) (unique text h.0 r.0 h.1 r.1) h.2) (d r.0.tree)
  decide_read Q d text (inr never) = no (λ h. never h.0 h.1)

  decide_reading : (table : SymbolTable) (text : List ℕ) → ((r : Reading) × IsPattern text r) ⊎ ((r : Reading) → IsPattern text r → ⊥) →
      Dec (((r : Reading) → IsPattern text r → ⊥) ⊎ ((r : Reading) × IsPattern text r × LeadsUnreadable table r.tree))
  decide_reading table text (inl r) = either (no (λ never. never r.0 r.1)) (decide_read (LeadsUnreadable table) (decide_unreadable table) text (inl r))
  decide_reading table text (inr never) = yes (inl never)

  decide_cause : (table : SymbolTable) (case : Case) (cause : Cause) → Dec (IsCase table case cause)
  decide_cause table case prefix_form = decide_false (is_prefix case.rule.prefix)
  decide_cause table case prefix_name = decide_false (are_declared table.start_conditions (fields_in case.rule.prefix))
  decide_cause table case reading = decide_reading table case.rule.pattern (readings case.rule.pattern)
  decide_cause table case undefined = decide_read (LeadsUndefined table) (decide_undefined table) case.rule.pattern (readings case.rule.pattern)
  decide_cause table case depth = decide_read (LeadsDeep table) (decide_deep table) case.rule.pattern (readings case.rule.pattern)
  decide_cause table case action_form = decide_formless case.rule.action (decide_action case.rule.action)
  decide_cause table case begin_name = decide_begin table.start_conditions case.rule.action (decide_action case.rule.action)
  decide_cause table case no_next = both (decide_shared case.rule.action (decide_action case.rule.action)) (decide_true case.is_last)

  pub decide_case : (table : SymbolTable) (case : Case) → Dec (Holds table case)
  decide_case table case = decide_cause table case case.cause

-- ---- the first case

-- the first element that has a property, or none has it
pub first_or_none : {A : Type 0} (P : A → Type 0) → ((a : A) → Dec (P a)) → (list : List A) → ((a : A) × IsFirst P list a) ⊎ HoldsOfNone P list
first_or_none P d [] = inr tt
first_or_none {A} P d (x ∷ list) = by (d x) (first_or_none P d list) where
  by : Dec (P x) → ((a : A) × IsFirst P list a) ⊎ HoldsOfNone P list → ((a : A) × IsFirst P (x ∷ list) a) ⊎ HoldsOfNone P (x ∷ list)
  by (yes p) more = inl (x, here x list p)
  by (no n) (inl first) = inl (first.0, later x list first.0 n first.1)
  by (no n) (inr clean) = inr (n, clean)
