use Rattle.std.proofs.Common.{◌≡◌, ◌∙◌, false, sym, rules}
use Rattle.lx_rules.proofs.Numbering.{number-added}
use Rattle.lx_rules.proofs.name_table.add_number.Goals as goal

pub returns-in_ok-insert : goal.returns-in_ok-insert
returns-in_ok-insert c = number-added c.args.name.now c.in_ok-from_slice.field-0.items c.args.numbers.now c.insert.new.self c.args.number c.in_ok-from_slice.ensures.items (let h : c.contains_key.result ≡ false = search rules in sym c.contains_key.ensures ∙ h) c.in_ok-insert.ensures.updates
