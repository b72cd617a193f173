-- The words of actions in the code, without their places in memory.
use Rattle.std.specs.Prelude.{List, map}
use Rattle.lx_spec.specs.ActionWords as words
use Rattle.lx_spec.specs.declared.word.Word.{Word}
use Rattle.lx_spec.specs.declared.word.Word.TheVariants.{Letters, Byte, Bar, Semicolon, OpenBrace, CloseBrace, OpenGroup, CloseGroup}

abbrev pub word_view : Word → words.Word
word_view (Letters text) = words.letters text.now
word_view (Byte b) = words.byte b
word_view Bar = words.bar
word_view Semicolon = words.semicolon
word_view OpenBrace = words.open_brace
word_view CloseBrace = words.close_brace
word_view OpenGroup = words.open_group
word_view CloseGroup = words.close_group

abbrev pub words_view : List Word → List words.Word
words_view ws = map word_view ws
