use Rattle.std.proofs.Common.{◌≡◌, map}
use Rattle.lx_ere.specs.Groups.{groups_of}
use Rattle.lx_ere.specs.Lexemes.{lexeme_of}
use Rattle.lx_ere.specs.Stacks.{run}
use Rattle.lx_flex_pattern.proofs.reading.take_lexemes.Given as goal

abbrev pub invariant-loop-lexeme : goal.invariant-loop-lexeme
invariant-loop-lexeme l = run (map lexeme_of l.lexeme-iterator.rest.items) (groups_of l.groups) ≡ run (map lexeme_of l.fn.lexemes.items) (groups_of l.fn.groups)
