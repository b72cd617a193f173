use Rattle.std.proofs.Common.{◌+◌, ◌*◌, ◌/◌, ◌-◌, arith}
use Rattle.std.specs.Prelude.{is_ok}
use Rattle.lx_scan.proofs.Walking.{more_marks}
use Rattle.lx_scan.proofs.memory.ScanMemory.grow.Goals as goal

pub returns-then-len-wanted : goal.returns-then-len-wanted
returns-then-len-wanted c table text m =
    let marks = c.args.self.now.marks in
    let less = c.if-len-wanted.true in
    more_marks table text marks.items c.resize.new.self.items c.args.self.now.others.items ((c.args.len / 32 + 1) * 4) ((c.args.len / 32 + 1) * 4 - marks.len) (is_ok c.resize.result) (let len = c.len.ensures in omega (arith, less, len, marks.ok)) c.resize.ensures.items m
