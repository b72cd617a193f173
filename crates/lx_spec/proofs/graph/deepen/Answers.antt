use Rattle.std.proofs.Common.{◌≡◌, ◌<◌, ◌≤◌, ◌+◌, min, max, length, get_or, refl, arith}
use Rattle.std.specs.Prelude.{slice_index}
use Rattle.lx_spec.specs.Graph.{nowhere}
use Rattle.lx_spec.proofs.Marks.{sound_one, grow_one, done_one, reach_more, read_at}
use Rattle.lx_spec.proofs.graph.deepen.Goals as goal

pub loop-mention-preserved : goal.loop-mention-preserved
loop-mention-preserved c =
    let ms = c.args.mentions.now in
    let ds = c.loop-mention.depths.items in
    let i = c.loop-mention.mention-index in
    let f = (get_or ms i nowhere).from in
    let t = (get_or ms i nowhere).to in
    let below = c.requires.below i c.loop-mention-test.true in
    let f_in : f < length ds = omega (arith, below.0, c.loop-mention.invariant.len) in
    let t_in : t < length ds = omega (arith, below.1, c.loop-mention.invariant.len) in
    let at_f : slice_index ds f ≡ c.index.result.now = read_at ds f c.index.result.now 0 f_in c.index.ensures in
    let at_t : slice_index ds t ≡ c.index-in-loop-mention.result.now = read_at ds t c.index-in-loop-mention.result.now 0 t_in c.index-in-loop-mention.ensures in
    let v = c.max-depth.result in
    let is : v ≡ max (slice_index ds f) (min (slice_index ds t) 31 + 1) = omega (arith, at_f, at_t, c.max-depth.ensures, c.min.ensures) in
    let more : slice_index ds f ≤ v = omega (arith, is) in
    record {
      len = c.loop-mention.invariant.len;
      sound = λ s. sound_one ms ds i f t v c.loop-mention-test.true refl refl f_in is (c.loop-mention.invariant.sound s);
      grow = grow_one c.args.depths.now.items ds f v f_in more c.loop-mention.invariant.grow;
      done = done_one ms c.args.depths.now.items ds i f t v refl refl f_in is c.loop-mention.invariant.grow c.loop-mention.invariant.done;
    }

pub returns-clause-reach : goal.returns-clause-reach
returns-clause-reach c = λ most small r. reach_more c.args.mentions.now c.args.depths.now.items c.loop-mention.depths.items most small r
    (λ k less. c.loop-mention.invariant.done k (omega arith))
