use Rattle.std.proofs.Common.{arith, sym}
use Rattle.std.specs.Prelude.{◌<◌}
use Rattle.lx_reach.proofs.Pairing.{behind}
use Rattle.lx_reach.proofs.takers.step_pair.Goals as goal

pub returns : goal.returns
returns c =
    let small : c.args.byte < 256 = (let f = c.ranges.byte.fits in omega arith) in
    behind c.args.alone.now.machine c.args.all.now.machine c.args.pair _ c.args.byte small c.requires (sym c.in_ok-next_alone.ensures.target) (sym c.in_ok-next_all.ensures.target)
    c.next_level.ensures c.in_ok-next_alone.ensures.state c.in_ok-next_all.ensures.state
