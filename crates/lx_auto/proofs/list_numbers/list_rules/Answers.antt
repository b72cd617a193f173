use Rattle.std.proofs.Common.{◌≡◌, ◌+◌, ◌<◌, None, length, sym, ◌∙◌, arith, subst}
use Rattle.std.proofs.lemmas.List.{get_or_read}
use Rattle.std.proofs.lemmas.Result.{err_from_is_err_and}
use Rattle.lx_auto.specs.PositionSets.{numbered}
use Rattle.lx_auto.specs.RuleLists.{AreListed}
use Rattle.lx_auto.specs.Sets.{IsEarliestMatched}
use Rattle.lx_auto.specs.SetTable.{set_of}
use Rattle.lx_auto.proofs.ListedSets.{listed_push, more_lists, numbered_differ}
use Rattle.lx_auto.proofs.SetLists.{set_of_read}
use Rattle.lx_auto.proofs.list_numbers.list_rules.Goals as goal

pub returns-in_err-number-clause-many : goal.returns-in_err-number-clause-many
returns-in_err-number-clause-many c = λ spec tree_of positions matched.
    let rules = numbered tree_of 0 spec.rules in
    let sets = c.args.explored.now.table.sets in
    let lists = c.loop-j.lists in
    let set = c.as_slice-set.result.now in
    let first = c.index-first.result.now in
    let held = sets.ok.0 in
    let long = c.requires.matched in
    let here : c.loop-j.j < length sets.items = omega (arith, c.len-j-end.ensures, c.loop-j-test.true, c.loop-j.auto.j-end) in
    let at : set_of sets.items c.loop-j.j ≡ set = set_of_read sets.items c.loop-j.j c.index.result.now here c.index.ensures ∙ sym c.as_slice-set.ensures in
    let earliest = subst (λ S. IsEarliestMatched rules S first) at
    (subst (λ o. IsEarliestMatched rules (set_of sets.items c.loop-j.j) o) (sym (get_or_read c.args.explored.now.matched.items c.loop-j.j first (omega arith) c.index-first.ensures None))
    (matched.each c.loop-j.j here)) in
    let p = err_from_is_err_and c.from_residual-in_err-number.result c.from_residual-in_err-number.ensures.1 in
    rw (p.1, p.2) (λ is.
    more_lists rules sets.items lists.sets.items set c.loop-j.numbers.items c.loop-j.j here at (c.loop-j.invariant.listed spec tree_of positions matched) 4096
    (numbered_differ lists.sets.items lists.numbers c.loop-j.invariant.table.numbering) (c.in_err-number.ensures.many spec tree_of positions earliest is))

pub loop-j-preserved : goal.loop-j-preserved
loop-j-preserved c = record {
  table = c.in_ok-number.ensures.table;
  unmarked = c.in_ok-number.ensures.unmarked;
  listed = λ spec tree_of positions matched.
      let rules = numbered tree_of 0 spec.rules in
      let sets = c.args.explored.now.table.sets in
      let set = c.as_slice-set.result.now in
      let first = c.index-first.result.now in
      let held = sets.ok.0 in
      let long = c.requires.matched in
      let here : c.loop-j.j < length sets.items = omega (arith, c.len-j-end.ensures, c.loop-j-test.true, c.loop-j.auto.j-end) in
      let at : set_of sets.items c.loop-j.j ≡ set = set_of_read sets.items c.loop-j.j c.index.result.now here c.index.ensures ∙ sym c.as_slice-set.ensures in
      let earliest = subst (λ S. IsEarliestMatched rules S first) at
      (subst (λ o. IsEarliestMatched rules (set_of sets.items c.loop-j.j) o) (sym (get_or_read c.args.explored.now.matched.items c.loop-j.j first (omega arith) c.index-first.ensures None))
      (matched.each c.loop-j.j here)) in
      let new = c.list_number.new.lists.sets.items in
      subst (λ l. AreListed rules sets.items new l (c.loop-j.j + 1)) (sym c.in_ok-push.ensures.items)
      (listed_push rules sets.items c.loop-j.lists.sets.items set c.loop-j.numbers.items c.loop-j.j here at (c.loop-j.invariant.listed spec tree_of positions matched) new c.in_ok-number.number
      (c.in_ok-number.ensures.number spec tree_of positions earliest));
}
