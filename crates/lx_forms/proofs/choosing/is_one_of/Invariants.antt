use Rattle.std.proofs.Common.{◌≡◌, drop, map}
use Rattle.lx_forms.specs.Choosing.{is_one_of}
use Rattle.lx_forms.proofs.choosing.is_one_of.Given as goal

abbrev pub invariant-loop-word : goal.invariant-loop-word
invariant-loop-word l = is_one_of (drop l.word-index (map (λ word. word.now) l.words)) l.text ≡ is_one_of (map (λ word. word.now) l.words) l.text
