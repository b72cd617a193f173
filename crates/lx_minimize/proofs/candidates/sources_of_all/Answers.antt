use Rattle.std.proofs.Common.{◌≡◌, Contains, add-one, sym, subst, arith}
use Rattle.lx_minimize.specs.Completion.{total}
use Rattle.lx_minimize.specs.Sources.{AddsBelow, sources_of}
use Rattle.lx_minimize.proofs.Containing.{sources_more}
use Rattle.lx_minimize.proofs.candidates.sources_of_all.Goals as goal

pub loop-i-preserved : goal.loop-i-preserved
loop-i-preserved c =
    let m = c.args.m.now in
    let held = m.labels.ok.0 in
    let count : c.len.result ≡ total m = omega (arith, c.len.ensures) in
    rw (add-one c.loop-i.i) (sources_more m c.args.members.now c.loop-i.states.items c.add_below.new.all.items c.sources-sources.result.now c.loop-i.i c.args.class c.loop-i.invariant
    (subst (λ n. AddsBelow c.sources-sources.result.now n c.loop-i.states.items c.add_below.new.all.items) count c.in_ok-add_below.ensures)
    (λ s l e. rw c.sources-sources.ensures (subst (λ t. Contains (sources_of c.args.predecessors.now t c.args.class) s) (sym e) (c.requires.listed.each s c.args.class l c.requires.class))))
