use Rattle.std.proofs.Common.{◌≡◌, ℕ, List, take, nat_eq}
use Rattle.std.specs.Cmp.Lexicographic.{pointwise}
use Rattle.std.specs.List.{position}
use Rattle.lx_rules.specs.views.NameTables.{number_at}
use Rattle.lx_spec.proofs.definition_index.definition_index_of.Given as goal

abbrev pub invariant-loop-i : goal.invariant-loop-i
invariant-loop-i l = (name : List ℕ) → number_at l.numbers name ≡ position (λ d. pointwise nat_eq d.name.now name) (take l.i l.definitions)
