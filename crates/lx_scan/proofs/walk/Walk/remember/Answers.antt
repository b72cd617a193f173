use Rattle.std.proofs.Common.{arith, sym}
use Rattle.lx_scan.proofs.Walking.{failed_on, failed_since, grown, remembered}
use Rattle.lx_scan.proofs.walk.Walk.remember.Goals as goal

pub loop-at-init : goal.loop-at-init
loop-at-init c =
    let walk = c.args.self.now in
    record {
      state = c.requires.silent.known;
      failed = failed_since c.args.tables.now c.args.bytes.now c.args.has_ended c.args.start walk.read walk.state.0 walk.found.since walk.found.state.0 (omega (arith, c.requires.within)) c.requires.silent c.requires.stopped;
      memory = grown c.args.tables.now c.args.bytes.now c.args.has_ended c.args.memory.now c.grow.new.self c.requires.memory c.grow.ensures;
    }

pub loop-at-preserved : goal.loop-at-preserved
loop-at-preserved c =
    let loop = c.loop-at in
    let within = c.requires.within in
    let here = c.loop-at-test.true in
    record {
      state = c.in-Some.ensures.state;
      failed = failed_on c.args.tables.now c.args.bytes.now c.args.has_ended loop.at loop.state.0 c.in-Some.next.0 (omega (arith, within)) (sym c.in-Some.ensures.target) loop.invariant.failed;
      memory = remembered c.args.tables.now c.args.bytes.now c.args.has_ended loop.memory c.keep.new.self loop.at loop.state.0 loop.invariant.memory loop.invariant.failed c.keep.ensures;
    }
