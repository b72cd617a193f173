-- The verdict on the rules of a specification: the possible faults of a rule, in the order in which they are answered.
use Rattle.std.specs.Prelude.{◌≡◌, ◌≢◌, ℕ, Bool, true, false, IsTrue, not, nat_eq, if◌then◌else◌, List, [], ◌∷◌, ◌++◌, ◌⊎◌, Option, Some, is_some, Result, Ok, Err, Contains}
use Rattle.std.specs.List.{list_all, position}
use Rattle.std.specs.Cmp.Lexicographic.{pointwise}
use Rattle.lx_ere.specs.Regex.{Regex, Reading}
use Rattle.lx_ere.specs.Pattern.{IsPattern}
use Rattle.lx_rules.specs.Limits.{max_name_depth}
use Rattle.lx_rules.specs.Plain.{StartCondition}
use Rattle.lx_spec.specs.Faults.{fault, out_of_memory}
use Rattle.lx_spec.specs.First.{IsFirst, HoldsOfNone}
use Rattle.lx_spec.specs.Sections.{RawDefinition, RawRule, ParsedSections}
use Rattle.lx_spec.specs.RuleLines.{RulePrefix, absent, unclosed, listed}
use Rattle.lx_spec.specs.Actions.{Statement, Action, shared, own, IsAction, nothing, echo, begin, return, is_condition_name}
use Rattle.lx_spec.specs.Dictionary.{row_of, all_defined, mentions_of, unreadable_marks, incomplete_marks}
use Rattle.lx_spec.specs.Graph.{IsMention, Leads, Follow}
use Rattle.lx_spec.specs.declared.fault.Code.{Code}
use Rattle.lx_spec.specs.declared.fault.Code.TheVariants as code
use Rattle.lx_spec.specs.declared.fault.SpecFault.{SpecFault}

abbrev pub onto_field : ℕ → List (List ℕ) → List (List ℕ)
onto_field c [] = (c ∷ []) ∷ []
onto_field c (field ∷ fields) = (c ∷ field) ∷ fields

abbrev pub is_no_comma : ℕ → Bool
is_no_comma c = not (nat_eq c 44)

-- the texts between the commas of a text
abbrev pub fields_of : List ℕ → List (List ℕ)
fields_of [] = [] ∷ []
fields_of (c ∷ text) = if nat_eq c 44 then [] ∷ fields_of text else onto_field c (fields_of text)

-- the names that a prefix lists
abbrev pub fields_in : RulePrefix → List (List ℕ)
fields_in absent = []
fields_in unclosed = []
fields_in (listed text) = fields_of text

-- nothing, or a list of names
abbrev pub is_prefix : RulePrefix → Bool
is_prefix absent = true
is_prefix unclosed = false
is_prefix (listed text) = list_all is_condition_name (fields_of text)

-- the number of the condition with this name; the name 0 is INITIAL
abbrev pub condition_number : List StartCondition → List ℕ → Option ℕ
condition_number start_conditions name = if pointwise nat_eq name (48 ∷ []) then Some 0 else position (λ s. pointwise nat_eq s.name name) start_conditions

abbrev pub are_declared : List StartCondition → List (List ℕ) → Bool
are_declared start_conditions names = list_all (λ name. is_some (condition_number start_conditions name)) names

-- a condition that a statement begins is declared
abbrev pub begin_is_declared : List StartCondition → Statement → Bool
begin_is_declared start_conditions nothing = true
begin_is_declared start_conditions echo = true
begin_is_declared start_conditions (begin c) = is_some (condition_number start_conditions c)
begin_is_declared start_conditions (return v) = true

-- the possible faults of a rule
pub data Cause : Type 0 where
  -- the prefix is no list of names
  prefix_form : Cause
  -- a condition of the prefix isn't declared
  prefix_name : Cause
  -- the pattern, or a substitute that it reaches, has no reading
  reading : Cause
  -- a name that it reaches isn't defined
  undefined : Cause
  -- a chain of names has more than 32
  depth : Cause
  -- the action has no form
  action_form : Cause
  -- a condition that the action begins isn't declared
  begin_name : Cause
  -- the action is that of the next rule, and no rule follows
  no_next : Cause

abbrev pub code_of : Cause → Code
code_of prefix_form = code.NoReading
code_of prefix_name = code.NoCondition
code_of reading = code.NoReading
code_of undefined = code.Undefined
code_of depth = code.TooDeep
code_of action_form = code.NoAction
code_of begin_name = code.NoCondition
code_of no_next = code.NoNext

pub record Case : Type 0 where
  pub rule : RawRule
  pub is_last : Bool
  pub cause : Cause

-- the symbols that the rules use: the conditions, the definitions, and the readings of these
pub record SymbolTable : Type 0 where
  pub start_conditions : List StartCondition
  pub definitions : List RawDefinition
  pub trees : List (Option Regex)

-- the symbols that the rules of the sections use
abbrev pub symbols_of : ParsedSections → List (Option Regex) → SymbolTable
symbols_of sections trees = record { start_conditions = sections.start_conditions; definitions = sections.definitions; trees = trees }

-- An expression names a definition that leads to one whose substitute has no reading.
abbrev pub LeadsUnreadable : SymbolTable → Regex → Type 0
LeadsUnreadable table tree = (j : ℕ) × Contains (row_of table.definitions tree) j × Leads (mentions_of table.definitions table.trees) (unreadable_marks table.trees) j

-- A name isn't defined, in an expression or in a definition that it leads to.
abbrev pub LeadsUndefined : SymbolTable → Regex → Type 0
LeadsUndefined table tree = (all_defined table.definitions tree ≡ false) ⊎ ((j : ℕ) × Contains (row_of table.definitions tree) j × Leads (mentions_of table.definitions table.trees) (incomplete_marks table.definitions table.trees) j)

-- Too many names follow one another: one in the expression, and `max_name_depth` more after it.
abbrev pub LeadsDeep : SymbolTable → Regex → Type 0
LeadsDeep table tree = (j : ℕ) × Contains (row_of table.definitions tree) j × Follow (IsMention (mentions_of table.definitions table.trees)) max_name_depth j

abbrev pub IsCase : SymbolTable → Case → Cause → Type 0
IsCase table case prefix_form = is_prefix case.rule.prefix ≡ false
IsCase table case prefix_name = are_declared table.start_conditions (fields_in case.rule.prefix) ≡ false
IsCase table case reading = ((r : Reading) → IsPattern case.rule.pattern r → ⊥) ⊎ ((r : Reading) × IsPattern case.rule.pattern r × LeadsUnreadable table r.tree)
IsCase table case undefined = (r : Reading) × IsPattern case.rule.pattern r × LeadsUndefined table r.tree
IsCase table case depth = (r : Reading) × IsPattern case.rule.pattern r × LeadsDeep table r.tree
IsCase table case action_form = (a : Action) → IsAction case.rule.action a → ⊥
IsCase table case begin_name = (ss : List Statement) × IsAction case.rule.action (own ss) × (list_all (begin_is_declared table.start_conditions) ss ≡ false)
IsCase table case no_next = IsAction case.rule.action shared × IsTrue case.is_last

abbrev pub Holds : SymbolTable → Case → Type 0
Holds table case = IsCase table case case.cause

abbrev pub case_of : RawRule → Bool → Cause → Case
case_of rule is_last cause = record { rule = rule; is_last = is_last; cause = cause }

abbrev pub is_empty : {A : Type 0} → List A → Bool
is_empty [] = true
is_empty (a ∷ more) = false

-- the causes in the order in which they are answered
abbrev pub cases_of : RawRule → Bool → List Case
cases_of rule is_last =
    case_of rule is_last prefix_form ∷ case_of rule is_last prefix_name ∷ case_of rule is_last reading ∷ case_of rule is_last undefined ∷ case_of rule is_last depth
    ∷ case_of rule is_last action_form ∷ case_of rule is_last begin_name ∷ case_of rule is_last no_next ∷ []

-- the possible faults of the rules, in the order in which they are answered
abbrev pub cases : List RawRule → List Case
cases [] = []
cases (rule ∷ rules) = cases_of rule (is_empty rules) ++ cases rules

abbrev pub fault_of : Case → SpecFault
fault_of case = fault (code_of case.cause) case.rule.line

-- It is the fault of the first case that holds.
pub record IsFirstFault (table : SymbolTable) (list : List Case) (f : SpecFault) : Type 0 where
  pub case : Case
  pub first : IsFirst (Holds table) list case
  pub is : f ≡ fault_of case

-- No case holds of the rules that were read. Otherwise the fault of the first that holds was answered, unless an allocation failed.
abbrev pub Checked : {X : Type 0} → SymbolTable → List Case → Result X SpecFault → Type 0
Checked table list (Ok x) = HoldsOfNone (Holds table) list
Checked table list (Err f) = f ≢ out_of_memory → IsFirstFault table list f
