use Rattle.std.proofs.Common.{◌≡◌, ℕ, List, take}
use Rattle.lx_rules.specs.views.NameTables.{number_at}
use Rattle.lx_auto.specs.NameViews.{place_of}
use Rattle.lx_auto.proofs.unfolding.names.index_names.Given as goal

abbrev pub invariant-loop-i : goal.invariant-loop-i
invariant-loop-i l = (name : List ℕ) → number_at l.numbers name ≡ place_of (take l.i l.definitions) name
