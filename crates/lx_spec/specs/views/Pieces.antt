-- The pieces of actions in the code, without their places in memory.
use Rattle.std.specs.Prelude.{ℕ, ◌<◌, length}
use Rattle.lx_spec.specs.ActionWords as words
use Rattle.lx_spec.specs.views.Words.{word_view}
use Rattle.lx_spec.specs.declared.word.WordConstruct.{WordConstruct}
use Rattle.lx_spec.specs.declared.word.WordConstruct.TheVariants.{Ended, Passed, Found, NoWord}

abbrev pub piece_view : WordConstruct → words.WordConstruct
piece_view Ended = words.ended
piece_view (Passed rest) = words.passed rest.now
piece_view (Found w rest) = words.word (word_view w) rest.now
piece_view NoWord = words.no_word

-- the text after the piece is shorter
abbrev pub LeavesLess : WordConstruct → ℕ → Type 0
LeavesLess Ended n = Unit {0}
LeavesLess (Passed rest) n = length rest.now < n
LeavesLess (Found w rest) n = length rest.now < n
LeavesLess NoWord n = Unit {0}
