use Rattle.lx_flex_pattern.proofs.KeptBounds.{small_kept, ordered_kept}
use Rattle.lx_flex_pattern.proofs.KeptTexts.{kept_texts}
use Rattle.lx_flex_pattern.proofs.reading.kept_trees_mean_the_same.Goals as goal

pub returns-clause-texts : goal.returns-clause-texts
returns-clause-texts c = kept_texts

pub returns-clause-small : goal.returns-clause-small
returns-clause-small c = small_kept

pub returns-clause-ordered : goal.returns-clause-ordered
returns-clause-ordered c = ordered_kept
