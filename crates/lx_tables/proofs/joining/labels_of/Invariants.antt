use Rattle.std.proofs.Common.{◌≡◌, ◌<◌, ◌+◌, ℕ, length}
use Rattle.std.specs.Prelude.{slice_index}
use Rattle.lx_tables.specs.Joined.{giving}
use Rattle.lx_tables.specs.Labels.{step_of_label}
use Rattle.lx_tables.specs.Model.{rule_at}
use Rattle.lx_tables.proofs.joining.labels_of.Given as goal

abbrev pub invariant-loop-rule : goal.invariant-loop-rule
invariant-loop-rule l = record {
  long : length l.labels.items ≡ l.rule + 1;
  rules : (rule : ℕ) → rule < l.rule → step_of_label (slice_index l.labels.items (rule + 1)) ≡ giving (rule_at l.tables rule).steps;
}
