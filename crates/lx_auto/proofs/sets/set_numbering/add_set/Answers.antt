use Rattle.std.proofs.Common.{◌≡◌, ◌++◌, ◌∷◌, [], arith, cond, Some}
use Rattle.std.proofs.lemmas.Grind.{common_steps}
use Rattle.std.specs.HashMap.{get}
use Rattle.lx_auto.specs.SetTable.{Positions, same}
use Rattle.lx_auto.proofs.SetNumbers.{numbering_after}
use Rattle.lx_auto.proofs.sets.set_numbering.add_set.Goals as goal

pub returns-clause-numbering : goal.returns-clause-numbering
returns-clause-numbering c =
    let long = c.args.table.now.sets.ok.0 in
    let items : c.push.new.self.items ≡ c.args.table.now.sets.items ++ c.args.set ∷ [] = grind (arith, common_steps) in
    let key : c.in-Ok.key.items ≡ c.args.set.items = grind (arith, common_steps, c.in-Ok.ensures.ok) in
    let update : (q : Positions) → get same c.insert.new.self q ≡ cond (same c.in-Ok.key q) (Some c.len-number.result) (get same c.args.table.now.numbers q) = c.in-Ok-insert.ensures.updates.0 in
    rw items (numbering_after c.args.table.now.sets.items c.args.table.now.numbers c.insert.new.self c.args.set c.in-Ok.key c.len-number.result
    c.requires.numbering c.requires.absent key (omega (arith, c.len-number.ensures)) update)
