-- lx reads the rules of the flex file.
use Rattle.std.specs.Prelude.{◌≡◌, ℕ, ◌⊎◌, List, [], ◌∷◌, Option}
use Rattle.lx_ere.specs.Regex.{Regex, Reading}
use Rattle.lx_flex_pattern.specs.Translation.{IsReadAs, HaveSameTexts}
use Rattle.lx_rules.specs.Plain.{PlainSpec, PlainRule, PlainDefinition, StartCondition}
use Rattle.lx_spec.specs.Whole.{IsRead}

-- a rule of flex: the numbers of its conditions, in ascending order, and its pattern
pub record FlexRule : Type 0 where
  pub conditions : Option (List ℕ)
  pub pattern : Reading

-- a definition of flex, by its name in lx
pub record FlexDefinition : Type 0 where
  pub name : List ℕ
  pub tree : Regex

-- The rule of lx is active in the conditions of the flex rule, with the same anchors and the same texts.
pub record IsRule (rule : FlexRule) (read : PlainRule) : Type 0 where
  pub active : read.conditions ≡ rule.conditions
  pub matches : IsReadAs rule.pattern read.reading

-- There are equally many rules, and each is the flex rule at its place.
abbrev pub AreRules : List FlexRule → List PlainRule → Type 0
AreRules [] [] = Unit {0}
AreRules [] (read ∷ more) = ⊥
AreRules (rule ∷ rules) [] = ⊥
AreRules (rule ∷ rules) (read ∷ more) = IsRule rule read × AreRules rules more

-- The definition of lx has the name and the texts of that of flex.
pub record IsThis (definition : FlexDefinition) (read : PlainDefinition) : Type 0 where
  pub same_name : read.name ≡ definition.name
  pub same_texts : HaveSameTexts definition.tree read.tree

-- One of the definitions is this one.
abbrev pub IsDefinition : List FlexDefinition → PlainDefinition → Type 0
IsDefinition [] read = ⊥
IsDefinition (d ∷ ds) read = IsThis d read ⊎ IsDefinition ds read

-- Each definition that the rules reach is one of flex.
abbrev pub AreDefinitions : List FlexDefinition → List PlainDefinition → Type 0
AreDefinitions ds [] = Unit {0}
AreDefinitions ds (read ∷ more) = IsDefinition ds read × AreDefinitions ds more

-- The text is a specification of lx. It has these conditions, these rules in this order, and those of the definitions that rules reach.
pub record IsImported (conditions : List StartCondition) (definitions : List FlexDefinition) (rules : List FlexRule) (text : List ℕ) : Type 0 where
  pub spec : PlainSpec
  pub is_read : IsRead text spec
  pub same_conditions : spec.conditions ≡ conditions
  pub same_definitions : AreDefinitions definitions spec.definitions
  pub same_rules : AreRules rules spec.rules
