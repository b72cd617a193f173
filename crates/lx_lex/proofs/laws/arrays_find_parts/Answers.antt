use Rattle.lx_lex.proofs.CutParts.{find_parts}
use Rattle.lx_lex.proofs.laws.arrays_find_parts.Goals as goal

pub returns : goal.returns
returns c = find_parts
