use Rattle.std.proofs.Common.{sym, ◌∙◌, length}
use Rattle.lx_tables.proofs.Tested.{machine_tested, lengths_tested, range_tested}
use Rattle.lx_tables.proofs.limits.is_machine.Goals as goal

pub returns-then-have_lengths : goal.returns-then-have_lengths
returns-then-have_lengths c =
    let raw = c.args.raw.now in
    let n = length raw.rules.items in (
      (λ yes. machine_tested n raw.starts.items raw.classes.items raw.width raw.accepted.items raw.targets.items c.requires (sym c.have_lengths.ensures ∙ c.if-have_lengths.true) (sym c.are_in_range.ensures ∙ yes)),
      (λ is. c.are_in_range.ensures ∙ range_tested n raw.starts.items raw.classes.items raw.width raw.accepted.items raw.targets.items is),
    )

pub returns-else-have_lengths : goal.returns-else-have_lengths
returns-else-have_lengths c =
    let raw = c.args.raw.now in
    let n = length raw.rules.items in (
      (λ yes. cc),
      (λ is. let h = lengths_tested n raw.starts.items raw.classes.items raw.width raw.accepted.items raw.targets.items is in let f = sym c.if-have_lengths.false ∙ c.have_lengths.ensures ∙ h in cc),
    )
