use Rattle.std.proofs.Common.{sym, subst}
use Rattle.std.proofs.lemmas.Result.{err_from_is_err_and}
use Rattle.lx_auto.specs.PositionSets.{numbered}
use Rattle.lx_auto.specs.RuleParts.{ArePartsOf}
use Rattle.lx_auto.specs.Sets.{IsEarliestMatched}
use Rattle.lx_auto.proofs.ListedSets.{list_of_set}
use Rattle.lx_auto.proofs.list_numbers.list_number.Goals as goal

pub returns-in_err-number-clause-many : goal.returns-in_err-number-clause-many
returns-in_err-number-clause-many c = λ spec tree_of positions earliest.
    let own = c.args.positions.now in
    let rules = numbered tree_of 0 spec.rules in
    let set = c.args.set.now in
    let found = c.in_ok-list.list.items in
    let parts = subst (λ n. ArePartsOf c.deref.result.now rules n) (sym c.requires.unmarked.long)
    (subst (λ p. ArePartsOf p rules own.total) (sym c.deref.ensures.value) positions.parts) in
    let first = subst (λ o. IsEarliestMatched rules set o) c.in-Some.is earliest in
    let p = err_from_is_err_and c.from_residual-in_err-number.result c.from_residual-in_err-number.ensures.1 in
    rw (p.1, p.2) (λ is. record {
      full = (c.in_err-number.ensures.many is).0;
      list = found;
      is = list_of_set rules set found c.in-Some.earliest first.0 (c.in_ok-list.ensures.matched rules parts first.1);
      absent = (c.in_err-number.ensures.many is).1;
    })
