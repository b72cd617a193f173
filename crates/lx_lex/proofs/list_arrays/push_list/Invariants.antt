use Rattle.std.proofs.Common.{◌+◌}
use Rattle.std.specs.Prelude.{slice_index}
use Rattle.lx_c.proofs.Texts.{HasTexts}
use Rattle.lx_lex.specs.Arrays.{entry_text}
use Rattle.lx_lex.proofs.list_arrays.push_list.Given as goal

abbrev pub invariant-loop-place : goal.invariant-loop-place
invariant-loop-place l = HasTexts (λ i. entry_text (slice_index l.rules i + 1)) l.fn.text.items l.text.items l.place
