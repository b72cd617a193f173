use Rattle.std.proofs.Common.{Bool, arith, subst, ◌∙◌, refl}
use Rattle.lx_scan.specs.Streams.{IsOpenMemory, stream_at}
use Rattle.lx_scan.proofs.Streaming.{gives_none, gives_nothing, gives_to_both}
use Rattle.lx_scan.proofs.progress.Progress.run_on.Goals as goal

pub loop-self-init : goal.loop-self-init
loop-self-init c = record {
  progress = c.requires.progress;
  memory = c.requires.memory;
  ended = refl;
  gives = (let s = stream_at c.args.tables.now c.args.bytes.now c.args.self.now in gives_nothing s s c.args.items.now (gives_none s));
  few = c.requires.few;
}

pub returns-then-not-branch-clause-gives : goal.returns-then-not-branch-clause-gives
returns-then-not-branch-clause-gives c =
    gives_to_both (stream_at c.args.tables.now c.args.bytes.now c.args.self.now) (stream_at c.args.tables.now c.args.bytes.now c.loop-self.self) (stream_at c.args.tables.now c.args.bytes.now c.run.new.self)
    c.args.items.now c.loop-self.items c.run.new.items c.loop-self.invariant.gives c.in_ok-run.ensures.gives

pub loop-self-preserved : goal.loop-self-preserved
loop-self-preserved c = record {
  progress = c.in_ok-run.ensures.progress;
  memory = subst (λ (ended : Bool). IsOpenMemory c.args.tables.now c.args.bytes.now ended c.run.new.memory) c.loop-self.invariant.ended c.in_ok-run.ensures.memory;
  ended = c.in_ok-run.ensures.gives.gives.end ∙ c.loop-self.invariant.ended;
  gives = gives_to_both (stream_at c.args.tables.now c.args.bytes.now c.args.self.now) (stream_at c.args.tables.now c.args.bytes.now c.loop-self.self) (stream_at c.args.tables.now c.args.bytes.now c.run.new.self)
      c.args.items.now c.loop-self.items c.run.new.items c.loop-self.invariant.gives c.in_ok-run.ensures.gives;
  few = (let few = c.in_ok-run.ensures.few in let len = c.len-in-loop-self.ensures in let more = c.loop-self-test.true in let before = c.loop-self.invariant.few in omega (arith, few, len, before));
}
