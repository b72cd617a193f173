use Rattle.std.proofs.Common.{◌≡◌, subst}
use Rattle.lx_tables.specs.Joined.{IsJoined}
use Rattle.lx_tables.specs.declared.joined.Joined.{Joined}
use Rattle.lx_tables.proofs.JoinedStates.{is_joined}
use Rattle.lx_tables.proofs.joining.joined_of.Goals as goal

pub returns : goal.returns
returns c = λ x e.
    let made : Joined = record { columns = c.in_ok-columns.columns; entries = c.in_ok-entries.entries; labels = c.in_ok-labels.labels } in
    let same : made ≡ x = cc in
    subst (λ (j : Joined). IsJoined c.args.tables.now j.columns.items j.entries.items j.labels.items) same
    (is_joined c.args.tables.now c.in_ok-columns.columns.items c.in_ok-entries.entries.items c.in_ok-labels.labels.items c.conditions.ensures.table c.in_ok-labels.ensures c.in_ok-columns.ensures.bytes c.in_ok-columns.ensures.columns c.in_ok-entries.ensures)
