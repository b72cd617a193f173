use Rattle.std.proofs.Common.{◌≡◌, decimal, drop, map}
use Rattle.lx_forms.specs.Choosing.{is_one_of}
use Rattle.lx_forms.proofs.choosing.is_number.Given as goal

abbrev pub invariant-loop-number : goal.invariant-loop-number
invariant-loop-number l = is_one_of (drop l.number-index (map decimal l.numbers)) l.word ≡ is_one_of (map decimal l.numbers) l.word
