use Rattle.std.proofs.Common.{◌≡◌, map, take}
use Rattle.lx_ere.specs.Lexemes.{lexeme_of}
use Rattle.lx_flex_pattern.proofs.StringLemmas.{opened}
use Rattle.lx_flex_pattern.proofs.lexing.string_lexemes.Given as goal

abbrev pub invariant-loop-byte : goal.invariant-loop-byte
invariant-loop-byte l = map lexeme_of l.lexemes.items ≡ opened l.fold (take l.byte-index l.bytes)
