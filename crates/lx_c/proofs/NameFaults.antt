-- The first fault of the names of kinds, from one kind to the next.
use Rattle.std.proofs.Common.{ℕ, ◌≡◌, ◌<◌, ◌≤◌, ◌+◌, List, [], length, drop, get_or, Some, None, sym, ap, ◌∙◌}
use Rattle.std.proofs.lemmas.List.{drop_more, drop_all}
use Rattle.lx_c.specs.declared.fault.KindFault.{KindFault}
use Rattle.lx_c.specs.Options.{Options}
use Rattle.lx_c.specs.Kinds.{name_fault, first_name_fault, or_else}

step : (o : Options) (k : ℕ) (kinds : List (List ℕ)) → k < length kinds →
    first_name_fault o k (drop k kinds) ≡ or_else (name_fault o k (get_or kinds k [])) (first_name_fault o (k + 1) (drop (k + 1) kinds))
step o k kinds l = ap (λ rest. first_name_fault o k rest) (drop_more kinds k [] l)

-- the name of this kind has no fault
pub passes : (o : Options) (k : ℕ) (kinds : List (List ℕ)) → k < length kinds → None ≡ name_fault o k (get_or kinds k []) →
    first_name_fault o k (drop k kinds) ≡ first_name_fault o (k + 1) (drop (k + 1) kinds)
passes o k kinds l e = step o k kinds l ∙ ap (λ fault. or_else fault (first_name_fault o (k + 1) (drop (k + 1) kinds))) (sym e)

-- it has one
pub fails : (o : Options) (k : ℕ) (kinds : List (List ℕ)) (fault : KindFault) → k < length kinds → Some fault ≡ name_fault o k (get_or kinds k []) →
    first_name_fault o k (drop k kinds) ≡ Some fault
fails o k kinds fault l e = step o k kinds l ∙ ap (λ f. or_else f (first_name_fault o (k + 1) (drop (k + 1) kinds))) (sym e)

-- all have none
pub ends : (o : Options) (k : ℕ) (kinds : List (List ℕ)) → length kinds ≤ k → first_name_fault o k (drop k kinds) ≡ None
ends o k kinds l = ap (λ rest. first_name_fault o k rest) (drop_all k kinds l)
