use Rattle.std.proofs.Common.{◌<◌, length, get_or, refl, arith}
use Rattle.lx_spec.specs.Graph.{nowhere}
use Rattle.lx_spec.proofs.Marks.{Listing-more, Listing-whole}
use Rattle.lx_spec.proofs.graph.mentioners_of.Goals as goal

pub loop-mention-preserved : goal.loop-mention-preserved
loop-mention-preserved c =
    let ms = c.args.mentions.now in
    let lists = c.loop-mention.mentioners.items in
    let k = c.loop-mention.mention-index in
    let m = get_or ms k nowhere in
    let below = c.requires k c.loop-mention-test.true in
    let inside : m.to < length lists = omega (arith, below.1, c.loop-mention.invariant.len) in
    record {
      len = c.loop-mention.invariant.len;
      listing = Listing-more ms lists k m.from m.to c.index_mut.result.now c.push.new.self c.loop-mention.invariant.listing c.loop-mention-test.true refl refl inside c.index_mut.ensures.value c.in_ok-push.ensures.items;
    }

pub returns-clause-each : goal.returns-clause-each
returns-clause-each c = Listing-whole c.args.mentions.now c.loop-mention.mentioners.items c.loop-mention.mention-index c.loop-mention.invariant.listing c.loop-mention-test.false
