use Rattle.std.proofs.Common.{◌∷◌, [], Bool, ap, arith, length, subst, ◌∙◌}
use Rattle.std.proofs.lemmas.List.{length-append}
use Rattle.lx_scan.specs.Streams.{IsOpenMemory, stream_at}
use Rattle.lx_scan.proofs.Streaming.{gives_nothing, gives_to, gives_to_both}
use Rattle.lx_scan.proofs.progress.Progress.next_items.Goals as goal

pub further-preserved : goal.further-preserved
further-preserved c =
    let table = c.args.tables.now in
    let bytes = c.args.bytes.now in
    let run = c.in_ok-run_on.ensures in
    record {
      progress = c.next_item.ensures.progress;
      memory = subst (λ (ended : Bool). IsOpenMemory table bytes ended c.next_item.new.memory) (run.gives.gives.end ∙ c.further.invariant.ended) c.next_item.ensures.memory;
      ended = c.next_item.ensures.gives.end ∙ run.gives.gives.end ∙ c.further.invariant.ended;
      gives = gives_to (stream_at table bytes c.args.self.now) (stream_at table bytes c.run_on.new.self) (stream_at table bytes c.next_item.new.self) c.args.items.now c.run_on.new.items c.push.new.self c.in-Some.item
          (gives_to_both (stream_at table bytes c.args.self.now) (stream_at table bytes c.further.self) (stream_at table bytes c.run_on.new.self) c.args.items.now c.further.items c.run_on.new.items c.further.invariant.gives run.gives)
          c.in-Some.ensures.gives c.in-Some.ensures.kept c.in_ok-push.ensures;
      few = (let most = run.most in let other = c.if-len-most.false in let len = c.len-in-further.ensures in omega (arith, ap length c.in_ok-push.ensures, length-append c.run_on.new.items (c.in-Some.item ∷ []), most, other, len));
    }

pub returns-then-len-most-clause-gives : goal.returns-then-len-most-clause-gives
returns-then-len-most-clause-gives c =
    gives_to_both (stream_at c.args.tables.now c.args.bytes.now c.args.self.now) (stream_at c.args.tables.now c.args.bytes.now c.further.self) (stream_at c.args.tables.now c.args.bytes.now c.run_on.new.self)
    c.args.items.now c.further.items c.run_on.new.items c.further.invariant.gives c.in_ok-run_on.ensures.gives

pub returns-in_default-clause-gives : goal.returns-in_default-clause-gives
returns-in_default-clause-gives c =
    let table = c.args.tables.now in
    let bytes = c.args.bytes.now in
    gives_to_both (stream_at table bytes c.args.self.now) (stream_at table bytes c.run_on.new.self) (stream_at table bytes c.next_item.new.self) c.args.items.now c.run_on.new.items c.run_on.new.items
    (gives_to_both (stream_at table bytes c.args.self.now) (stream_at table bytes c.further.self) (stream_at table bytes c.run_on.new.self) c.args.items.now c.further.items c.run_on.new.items c.further.invariant.gives c.in_ok-run_on.ensures.gives)
    (gives_nothing (stream_at table bytes c.run_on.new.self) (stream_at table bytes c.next_item.new.self) c.run_on.new.items c.in_default.ensures.gives)
