use Rattle.std.proofs.Common.{◌≡◌, ◌++◌, [], ◌∷◌, take}
use Rattle.std.specs.List.{flat_map, range_with_len}
use Rattle.lx_report.proofs.bytes.push_times.Given as goal

abbrev pub invariant-loop : goal.invariant-loop
invariant-loop l = l.text.items ≡ l.fn.text.items ++ flat_map (λ k. l.byte ∷ []) (take l.counter (range_with_len 0 l.times))
