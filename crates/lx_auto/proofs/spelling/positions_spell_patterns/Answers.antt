use Rattle.lx_auto.proofs.SpelledPatterns.{spelled_patterns}
use Rattle.lx_auto.proofs.spelling.positions_spell_patterns.Goals as goal

pub returns : goal.returns
returns c = spelled_patterns
