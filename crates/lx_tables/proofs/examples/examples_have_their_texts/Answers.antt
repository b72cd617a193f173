use Rattle.std.proofs.Common.{refl}
use Rattle.std.specs.Fmt.{digits}
use Rattle.lx_tables.specs.Texts.{all_bytes}
use Rattle.lx_tables.proofs.examples.examples_have_their_texts.Goals as goal

pub returns : goal.returns
unfolding digits all_bytes
returns c = record {
  three_rules_1 = refl;
  three_rules_2 = refl;
  line_end_1 = refl;
  line_end_2 = refl;
  line_begin_1 = refl;
  line_begin_2 = refl;
  no_rules_1 = refl;
  no_rules_2 = refl;
}
