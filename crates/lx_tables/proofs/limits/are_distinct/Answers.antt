use Rattle.std.proofs.Common.{◌≡◌, ◌-◌, ◌+◌, ◌∙◌, ℕ, List, sym, arith, ap, drop}
use Rattle.std.specs.Option.{is_some}
use Rattle.lx_rules.specs.Invariant.{are_distinct}
use Rattle.lx_rules.specs.views.NameTables.{number_at}
use Rattle.lx_rules.specs.views.Rules.{names_view}
use Rattle.lx_tables.proofs.Distinct.{is_among, seen_next, distinct_next, distinct_again}
use Rattle.lx_tables.proofs.limits.are_distinct.Goals as goal

pub returns-then-contains_key : goal.returns-then-contains_key
returns-then-contains_key c =
    let vs = c.args.names.now in
    let at = c.loop-at.at - 1 in
    let behind : at + 1 ≡ c.loop-at.at = omega arith in
    sym (distinct_again vs at c.index-names-at.result c.as_slice-name.result.now (omega arith) c.index-names-at.is c.as_slice-name.ensures.value
    (ap (λ n. is_among (drop n (names_view vs)) c.as_slice-name.result.now) behind ∙ sym (c.loop-at.invariant.seen c.as_slice-name.result.now) ∙ sym c.contains_key.ensures ∙ c.if-contains_key.true))

pub loop-at-preserved : goal.loop-at-preserved
loop-at-preserved c =
    let vs = c.args.names.now in
    let at = c.loop-at.at - 1 in
    let name = c.as_slice-name.result.now in
    let behind : at + 1 ≡ c.loop-at.at = omega arith in
    let seen : (q : List ℕ) → is_some (number_at c.loop-at.seen q) ≡ is_among (drop (at + 1) (names_view vs)) q = λ q. c.loop-at.invariant.seen q ∙ ap (λ n. is_among (drop n (names_view vs)) q) (sym behind) in
    record {
      within = omega arith;
      seen = λ q. ap is_some (c.in_ok-add_number.ensures q)
          ∙ seen_next vs at at c.index-names-at.result name q (number_at c.loop-at.seen q) (omega arith) c.index-names-at.is c.as_slice-name.ensures.value (seen q);
      distinct = distinct_next vs at c.index-names-at.result name (omega arith) c.index-names-at.is c.as_slice-name.ensures.value
          (sym (seen name) ∙ sym c.contains_key.ensures ∙ c.if-contains_key.false)
          (ap (λ n. are_distinct (drop n (names_view vs))) behind ∙ c.loop-at.invariant.distinct);
    }
