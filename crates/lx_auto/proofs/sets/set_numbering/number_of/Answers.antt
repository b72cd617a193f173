use Rattle.std.proofs.Common.{◌≡◌, ◌++◌, ◌∷◌, [], refl, inl, inr, length, sym, ◌∙◌, ap, subst, arith}
use Rattle.lx_auto.specs.SetTable.{IsExtendedBy, set_of}
use Rattle.lx_auto.proofs.SetLists.{extended_by_nothing, extended_by_push, set_of_last}
use Rattle.lx_auto.proofs.SetNumbers.{absent}
use Rattle.lx_auto.proofs.sets.set_numbering.number_of.Goals as goal

pub returns-in-Some-clause-at : goal.returns-in-Some-clause-at
returns-in-Some-clause-at c = (c.requires.numbering.numbered c.args.set c.in-Some.number (sym c.in-Some.ensures)).0

pub returns-in-Some-clause-found : goal.returns-in-Some-clause-found
returns-in-Some-clause-found c = (c.requires.numbering.numbered c.args.set c.in-Some.number (sym c.in-Some.ensures)).1

pub returns-in-Some-clause-extended_by : goal.returns-in-Some-clause-extended_by
returns-in-Some-clause-extended_by c = extended_by_nothing c.args.table.now.sets.items c.args.set.items

pub returns-in-Some-clause-fresh : goal.returns-in-Some-clause-fresh
returns-in-Some-clause-fresh c = inl refl

pub returns-then-number-limit-clause-many : goal.returns-then-number-limit-clause-many
returns-then-number-limit-clause-many c = λ e.
    let long = c.args.table.now.sets.ok.0 in
    (omega arith, absent c.args.table.now.sets.items c.args.table.now.numbers c.args.set c.requires.numbering (sym c.in_default.ensures))

pub returns-clause-found : goal.returns-clause-found
returns-clause-found c =
    let long = c.args.table.now.sets.ok.0 in
    let at : c.len-number.result ≡ length c.args.table.now.sets.items = omega arith in
    ap (λ l. set_of l c.len-number.result) c.in_ok-add_set.ensures.added
    ∙ ap (λ i. set_of (c.args.table.now.sets.items ++ c.args.set ∷ []) i) at ∙ set_of_last c.args.table.now.sets.items c.args.set

pub returns-clause-extended_by : goal.returns-clause-extended_by
returns-clause-extended_by c =
    subst (λ l. IsExtendedBy c.args.table.now.sets.items l c.args.set.items) (sym c.in_ok-add_set.ensures.added) (extended_by_push c.args.table.now.sets.items c.args.set)

pub returns-clause-fresh : goal.returns-clause-fresh
returns-clause-fresh c = inr (absent c.args.table.now.sets.items c.args.table.now.numbers c.args.set c.requires.numbering (sym c.in_default.ensures))
