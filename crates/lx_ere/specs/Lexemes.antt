-- The meaning of the code's lexemes.
use Rattle.lx_ere.specs.Grammar.{Lexeme, set_of, quoted, name, interval, repeat, empty_word, open_group, close_group, bar}
use Rattle.lx_ere.specs.declared.lexeme.Lexeme as code
use Rattle.lx_ere.specs.declared.lexeme.Lexeme.TheVariants as token

abbrev pub lexeme_of : code.Lexeme → Lexeme
lexeme_of (token.Set s) = set_of s
lexeme_of (token.Quoted first more) = quoted first more.items
lexeme_of (token.Name n) = name n.items
lexeme_of (token.Interval low high) = interval low high
lexeme_of token.OpenGroup = open_group
lexeme_of token.CloseGroup = close_group
lexeme_of (token.Repeat low high) = repeat low high
lexeme_of token.EmptyWord = empty_word
lexeme_of token.Bar = bar
