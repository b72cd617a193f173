use Rattle.std.proofs.Common.{◌≡◌, ◌+◌, ◌-◌, ◌≤◌, length, drop}
use Rattle.lx_flex_pattern.specs.Spelling.{is_inner_name_byte}
use Rattle.lx_ere.specs.Lexing.{run_len}
use Rattle.lx_flex_pattern.proofs.spelling.name_run.Given as goal

abbrev pub invariant-loop-n : goal.invariant-loop-n
invariant-loop-n l = record {
  within : l.n ≤ length l.text;
  counted : l.n + run_len is_inner_name_byte (length l.text - l.n) (drop l.n l.text) ≡ run_len is_inner_name_byte (length l.text) l.text;
}

abbrev pub decreases-loop-n : goal.decreases-loop-n
decreases-loop-n l = length l.text - l.n
