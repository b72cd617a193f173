use Rattle.std.proofs.Common.{sym, ◌∙◌}
use Rattle.lx_tool.proofs.SourceLemmas.{among_here, among_behind, among_none}
use Rattle.lx_tool.proofs.source.is_among.Goals as goal

pub returns-then-eq : goal.returns-then-eq
returns-then-eq c =
    sym (among_here c.args.names.now c.args.name.now c.loop-known.known-index _ c.loop-known-test.true c.eq.result c.eq.ensures c.if-eq.true) ∙ c.loop-known.invariant

pub loop-known-preserved : goal.loop-known-preserved
loop-known-preserved c =
    among_behind c.args.names.now c.args.name.now c.loop-known.known-index _ c.loop-known-test.true c.eq.result c.eq.ensures c.if-eq.false ∙ c.loop-known.invariant

pub returns : goal.returns
returns c = sym (among_none c.args.names.now c.args.name.now c.loop-known.known-index c.loop-known-test.false) ∙ c.loop-known.invariant
