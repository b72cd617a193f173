use Rattle.std.proofs.Common.{sym}
use Rattle.std.proofs.lemmas.Result.{err_from_is_err_and}
use Rattle.lx_ere.specs.Groups.{groups_of}
use Rattle.lx_ere.specs.Regex.{regex_of}
use Rattle.lx_flex_pattern.specs.Pieces.{names_of}
use Rattle.lx_flex_pattern.specs.Progress.{place_of, stop_of}
use Rattle.lx_flex_pattern.proofs.Reaching.{reach_start, reads_tree, reads_no_tree}
use Rattle.lx_flex_pattern.proofs.reading.read_alternation.Goals as goal

pub loop-init : goal.loop-init
loop-init c = rw c.no_groups-groups.ensures (reach_start c.args.options (names_of c.args.names.now) (place_of c.args.place))

pub returns-in_err-next_groups-clause-refused : goal.returns-in_err-next_groups-clause-refused
returns-in_err-next_groups-clause-refused c =
    let p = err_from_is_err_and c.from_residual.result c.from_residual.ensures.1 in
    rw p.1 (λ h. c.in_err-next_groups.ensures.refused (let e = p.2 in cc) (place_of c.args.place) c.loop.invariant)

pub returns-in_default-clause-refused : goal.returns-in_default-clause-refused
returns-in_default-clause-refused c = λ _.
    reads_no_tree c.args.options (names_of c.args.names.now) (place_of c.args.place) (place_of c.in-Stops.last) (groups_of c.in-Stops.last_groups) (stop_of c.in-Stops.stop)
    (sym (rw c.in_default.is at c.in_ok-tree-in-Stops.ensures)) ((rw c.in-Stops.is at c.in_ok-next_groups.ensures.ok) (place_of c.args.place) c.loop.invariant)

pub returns-in-Stops-clause-ok : goal.returns-in-Stops-clause-ok
returns-in-Stops-clause-ok c =
    reads_tree c.args.options (names_of c.args.names.now) (place_of c.args.place) (place_of c.in-Stops.last) (groups_of c.in-Stops.last_groups) (stop_of c.in-Stops.stop) (regex_of c.in-Some.tree)
    (sym (rw c.in-Some.is at c.in_ok-tree-in-Stops.ensures)) ((rw c.in-Stops.is at c.in_ok-next_groups.ensures.ok) (place_of c.args.place) c.loop.invariant)

pub loop-preserved : goal.loop-preserved
loop-preserved c = (rw c.in-Inserts.is at c.in_ok-next_groups.ensures.ok) (place_of c.args.place) c.loop.invariant
