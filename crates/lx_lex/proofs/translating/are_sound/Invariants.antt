use Rattle.std.proofs.Common.{map}
use Rattle.std.specs.List.{list_all}
use Rattle.std.specs.Prelude.{IsTrue}
use Rattle.lx_rules.specs.views.Rules.{rule_view}
use Rattle.lx_lex.specs.Checked.{is_sound}
use Rattle.lx_lex.proofs.translating.are_sound.Given as goal

abbrev pub invariant-loop : goal.invariant-loop
invariant-loop l = IsTrue (list_all (is_sound l.conditions) (map rule_view l.left)) → IsTrue (list_all (is_sound l.conditions) (map rule_view l.rules))
