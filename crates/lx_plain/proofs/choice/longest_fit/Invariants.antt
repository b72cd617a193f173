use Rattle.std.proofs.Common.{◌≡◌, ℕ, ◌≤◌, true, length, take}
use Rattle.std.specs.Ordering.{nat_cmp}
use Rattle.std.specs.BTreeSet.{contains, btree_set_len}
use Rattle.lx_ere.specs.Regex.{regex_of}
use Rattle.lx_ere.specs.Matching.{Matches}
use Rattle.lx_rules.specs.Choice.{Fits, SpecNames}
use Rattle.lx_rules.specs.views.Rules.{rule_view}
use Rattle.lx_rules.specs.views.Specs.{spec_view}
use Rattle.lx_plain.proofs.choice.longest_fit.Given as goal

abbrev pub invariant-loop-n : goal.invariant-loop-n
invariant-loop-n l = record {
  within : (m : ℕ) → contains nat_cmp l.found m ≡ true → m ≤ length l.text;
  sound : (m : ℕ) → contains nat_cmp l.found m ≡ true → Matches (SpecNames (spec_view l.spec)) (regex_of l.rule.pattern.expr) (take m l.text);
  whole : (m : ℕ) → Fits (spec_view l.spec) (rule_view l.rule) l.condition l.begin l.text m → contains nat_cmp l.found m ≡ true;
}

abbrev pub decreases-loop-n : goal.decreases-loop-n
decreases-loop-n l = btree_set_len l.found
