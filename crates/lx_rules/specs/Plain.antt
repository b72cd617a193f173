-- A specification as plain values, without its place in memory.
use Rattle.std.specs.Prelude.{ℕ, Bool, List, Option}
use Rattle.lx_ere.specs.Regex.{Regex, Reading}
use Rattle.lx_rules.specs.declared.rule.Step.{Step}

-- a start condition (XCU `lex`, "Definitions in lex": `%s` and `%x`)
pub record StartCondition : Type 0 where
  pub name : List ℕ
  -- true if only rules that name the condition are active in it
  pub exclusive : Bool

-- a name, and its expression
pub record PlainDefinition : Type 0 where
  pub name : List ℕ
  pub tree : Regex

-- a rule: the line on which it begins, the numbers of the conditions that it names, its pattern and its steps
pub record PlainRule : Type 0 where
  pub line : ℕ
  pub conditions : Option (List ℕ)
  pub reading : Reading
  pub steps : List Step

-- a specification: its conditions, the definitions that rules reach, the names that rules return, and its rules
pub record PlainSpec : Type 0 where
  pub conditions : List StartCondition
  pub definitions : List PlainDefinition
  pub kinds : List (List ℕ)
  pub rules : List PlainRule
