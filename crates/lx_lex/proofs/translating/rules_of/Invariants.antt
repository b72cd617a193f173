use Rattle.std.proofs.Common.{◌≡◌, ◌++◌, map}
use Rattle.lx_rules.specs.views.Rules.{rule_view}
use Rattle.lx_lex.specs.Translation.{rules_of}
use Rattle.lx_lex.specs.views.{file_rule}
use Rattle.lx_lex.proofs.translating.rules_of.Given as goal

abbrev pub invariant-loop-raw : goal.invariant-loop-raw
invariant-loop-raw l = map rule_view l.rules.items ++ rules_of (map file_rule l.raw-iterator.rest.items) ≡ rules_of (map file_rule l.fn.raws.items)
