use Rattle.std.proofs.Common.{◌≡◌, true, All, take, map}
use Rattle.lx_forms.specs.Choosing.{is_kind_word}
use Rattle.lx_forms.proofs.choosing.judge_words.Given as goal

abbrev pub invariant-loop-word : goal.invariant-loop-word
invariant-loop-word l = All (λ word. is_kind_word l.tables word ≡ true) (take l.word-index (map (λ word. word.now) l.words))
