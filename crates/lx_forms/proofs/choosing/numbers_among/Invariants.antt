use Rattle.std.proofs.Common.{◌≡◌, decimal, take, map}
use Rattle.std.specs.List.{filter}
use Rattle.lx_forms.specs.Choosing.{is_one_of}
use Rattle.lx_forms.proofs.choosing.numbers_among.Given as goal

abbrev pub invariant-loop-number : goal.invariant-loop-number
invariant-loop-number l = l.among.items ≡ filter (λ n. is_one_of (map (λ word. word.now) l.words) (decimal n)) (take l.number-index l.numbers)
