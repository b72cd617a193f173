-- Each text is that of one table.
use Rattle.std.specs.Prelude.{◌≡◌, ℕ, List}
use Rattle.lx_tables.specs.Model.{Table, IsTable}

-- tables with the same text are the same
pub record IsOneToOne (text : Table → List ℕ) : Type 0 where
  pub same : (s t : Table) → IsTable s → IsTable t → text s ≡ text t → s ≡ t
