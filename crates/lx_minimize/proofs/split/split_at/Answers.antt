use Rattle.std.proofs.Common.{◌≡◌, arith}
use Rattle.lx_minimize.specs.Completion.{total}
use Rattle.lx_minimize.proofs.Containing.{all_contain_preimage}
use Rattle.lx_minimize.proofs.split.split_at.Goals as goal

pub split-requires-clause-sources : goal.split-requires-clause-sources
split-requires-clause-sources c =
    let held = c.args.m.now.labels.ok.0 in
    let count : c.len.result ≡ total c.args.m.now = omega (arith, c.len.ensures) in
    rw c.as_slice.ensures.value (all_contain_preimage c.args.m.now _ _ c.args.class c.len.result c.requires.class count c.in_ok-sources.ensures)
