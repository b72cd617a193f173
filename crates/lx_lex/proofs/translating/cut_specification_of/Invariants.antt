use Rattle.std.proofs.Common.{◌≡◌, ◌+◌, ◌<◌, ◌++◌, drop, length, map}
use Rattle.lx_rules.specs.views.Rules.{rule_view}
use Rattle.lx_lex.specs.Cuts.{part_rules, parts_of}
use Rattle.lx_lex.specs.views.{file_rule}
use Rattle.lx_lex.proofs.translating.cut_specification_of.Given as goal

abbrev pub invariant-loop-raw : goal.invariant-loop-raw
invariant-loop-raw l = record {
  count : length l.rules.items + length (parts_of (map file_rule (drop l.raw-index l.raws))) ≡ length (parts_of (map file_rule l.raws));
  rules : length l.rules.items < 65536 → map rule_view l.rules.items ++ part_rules (length l.rules.items + 1) (parts_of (map file_rule (drop l.raw-index l.raws))) ≡ part_rules 1 (parts_of (map file_rule l.raws));
}
