use Rattle.std.proofs.Common.{◌≡◌, ◌≤◌, ◌+◌, ◌-◌, length, get_or, take, drop, sym, ◌∙◌, ap, arith, rules}
use Rattle.std.proofs.lemmas.List.{drop-take}
use Rattle.lx_automaton.proofs.KeptLists.{end_after, end_within, list_at}
use Rattle.lx_automaton.proofs.lists.list_at.Goals as goal

pub offset_bounds-rules-from : goal.offset_bounds-rules-from
offset_bounds-rules-from c =
    let is = c.begin-from.ensures in
    let order = end_after 0 c.args.ends.now (length c.args.rules.now) c.args.number c.requires.ends c.requires.number in
    let within = end_within 0 c.args.ends.now (length c.args.rules.now) c.args.number c.requires.ends c.requires.number in
    let low : c.begin-from.result ≤ length c.args.rules.now = omega arith in
    search rules

pub slice_bounds-result-count : goal.slice_bounds-result-count
slice_bounds-result-count c =
    let is = c.begin-from.ensures in
    let order = end_after 0 c.args.ends.now (length c.args.rules.now) c.args.number c.requires.ends c.requires.number in
    omega arith

pub slice_bounds-result-start : goal.slice_bounds-result-start
slice_bounds-result-start c =
    let is = c.begin-from.ensures in
    let order = end_after 0 c.args.ends.now (length c.args.rules.now) c.args.number c.requires.ends c.requires.number in
    let within = end_within 0 c.args.ends.now (length c.args.rules.now) c.args.number c.requires.ends c.requires.number in
    let low : c.begin-from.result ≤ length c.args.rules.now = omega arith in
    search rules

pub slice_bounds-result-end : goal.slice_bounds-result-end
slice_bounds-result-end c =
    let is = c.begin-from.ensures in
    let order = end_after 0 c.args.ends.now (length c.args.rules.now) c.args.number c.requires.ends c.requires.number in
    let within = end_within 0 c.args.ends.now (length c.args.rules.now) c.args.number c.requires.ends c.requires.number in
    let low : c.begin-from.result ≤ get_or c.args.ends.now c.args.number 0 = omega arith in
    search rules

pub returns : goal.returns
returns c =
    let from = c.begin-from.result in
    let ends = c.args.ends.now in
    let items = c.args.rules.now in
    let order = end_after 0 ends (length items) c.args.number c.requires.ends c.requires.number in
    let is = c.begin-from.ensures in
    let whole : from + (get_or ends c.args.number 0 - from) ≡ get_or ends c.args.number 0 = omega arith in
    sym (drop-take from (get_or ends c.args.number 0 - from) items) ∙ ap (λ n. drop from (take n items)) whole
    ∙ ap (λ n. drop n (take (get_or ends c.args.number 0) items)) is ∙ sym (list_at items 0 ends c.args.number c.requires.number)
