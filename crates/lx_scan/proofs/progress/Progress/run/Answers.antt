use Rattle.std.proofs.Common.{◌≡◌, ◌+◌, ◌-◌, [], ℕ, nat_eq, List, length, take, drop, refl, sym, ap, subst, ◌∙◌, arith}
use Rattle.std.specs.Prelude.{slice_index}
use Rattle.std.proofs.lemmas.List.{length-take-le, take_rest}
use Rattle.lx_scan.specs.declared.place.Place.{Place}
use Rattle.lx_scan.specs.Cursors.{steps_left}
use Rattle.lx_scan.specs.Ends.{end_of, ends_from, items_of_ends}
use Rattle.lx_scan.specs.Steps.{items_of_steps}
use Rattle.lx_scan.specs.Streams.{AreParts, GivesTo, IsWalked, stream_of}
use Rattle.lx_scan.proofs.BlockRuns.{are_run, end_run, further, gives_to_run, inside, items_moved, known_run, leads_held, next, next_is, parts_run}
use Rattle.lx_scan.proofs.Streaming.{none_after}
use Rattle.lx_scan.proofs.progress.Progress.run.Goals as goal

pub push_ends-requires-clause-ends : goal.push_ends-requires-clause-ends
push_ends-requires-clause-ends c = are_run c.args.tables.now c.args.bytes.now c.args.self.now.start c.args.self.now.cursor c.args.self.now.walk.read c.args.self.now.walk.state.0 c.args.self.now.walk.found.last c.args.self.now.has_ended
    c.requires.progress.parts c.requires.none_due
    (record { offset = 0; condition = c.args.self.now.cursor.place.condition; at_line_begin = c.args.self.now.cursor.place.at_line_begin; line = 1 }) refl
    (take c.find_ends-run.result.count c.find_ends-run.new.ends) c.find_ends-run.result.condition (let none = c.if-run-eq0.false in omega (arith, none, length-take-le c.find_ends-run.result.count c.find_ends-run.new.ends c.find_ends-run.ensures.within))
    (leads_held c.args.tables.now c.args.bytes.now c.args.self.now.start (record { offset = 0; condition = c.args.self.now.cursor.place.condition; at_line_begin = c.args.self.now.cursor.place.at_line_begin; line = 1 })
    (take c.find_ends-run.result.count c.find_ends-run.new.ends) c.find_ends-run.result.condition (c.find_ends-run.ensures.ends (let none = c.if-run-eq0.false in omega (arith, none))))
    (ends_from c.args.self.now.cursor.place (take c.find_ends-run.result.count c.find_ends-run.new.ends)) refl

pub begin-requires : goal.begin-requires
begin-requires c = known_run c.args.tables.now c.args.bytes.now c.args.self.now.start c.args.self.now.cursor c.args.self.now.walk.read c.args.self.now.walk.state.0 c.args.self.now.walk.found.last c.args.self.now.has_ended
    c.requires.progress.parts c.requires.none_due
    (record { offset = 0; condition = c.args.self.now.cursor.place.condition; at_line_begin = c.args.self.now.cursor.place.at_line_begin; line = 1 }) refl
    (take c.find_ends-run.result.count c.find_ends-run.new.ends) c.find_ends-run.result.condition (let none = c.if-run-eq0.false in omega (arith, none, length-take-le c.find_ends-run.result.count c.find_ends-run.new.ends c.find_ends-run.ensures.within))
    (leads_held c.args.tables.now c.args.bytes.now c.args.self.now.start (record { offset = 0; condition = c.args.self.now.cursor.place.condition; at_line_begin = c.args.self.now.cursor.place.at_line_begin; line = 1 })
    (take c.find_ends-run.result.count c.find_ends-run.new.ends) c.find_ends-run.result.condition (c.find_ends-run.ensures.ends (let none = c.if-run-eq0.false in omega (arith, none))))
    (ends_from c.args.self.now.cursor.place (take c.find_ends-run.result.count c.find_ends-run.new.ends)) refl

pub overflow_sub-place : goal.overflow_sub-place
overflow_sub-place c =
    let end = end_run c.args.tables.now c.args.bytes.now c.args.self.now.start c.args.self.now.cursor c.args.self.now.walk.read c.args.self.now.walk.state.0 c.args.self.now.walk.found.last c.args.self.now.has_ended
    c.requires.progress.parts c.requires.none_due
    (record { offset = 0; condition = c.args.self.now.cursor.place.condition; at_line_begin = c.args.self.now.cursor.place.at_line_begin; line = 1 }) refl
    (take c.find_ends-run.result.count c.find_ends-run.new.ends) c.find_ends-run.result.condition (let none = c.if-run-eq0.false in omega (arith, none, length-take-le c.find_ends-run.result.count c.find_ends-run.new.ends c.find_ends-run.ensures.within))
    (leads_held c.args.tables.now c.args.bytes.now c.args.self.now.start (record { offset = 0; condition = c.args.self.now.cursor.place.condition; at_line_begin = c.args.self.now.cursor.place.at_line_begin; line = 1 })
    (take c.find_ends-run.result.count c.find_ends-run.new.ends) c.find_ends-run.result.condition (c.find_ends-run.ensures.ends (let none = c.if-run-eq0.false in omega (arith, none))))
    (ends_from c.args.self.now.cursor.place (take c.find_ends-run.result.count c.find_ends-run.new.ends)) refl in
    let offset = c.in_ok-offset.ensures.offset in
    omega (arith, end, offset)

pub overflow_sub-place-2 : goal.overflow_sub-place-2
overflow_sub-place-2 c =
    let end = end_run c.args.tables.now c.args.bytes.now c.args.self.now.start c.args.self.now.cursor c.args.self.now.walk.read c.args.self.now.walk.state.0 c.args.self.now.walk.found.last c.args.self.now.has_ended
    c.requires.progress.parts c.requires.none_due
    (record { offset = 0; condition = c.args.self.now.cursor.place.condition; at_line_begin = c.args.self.now.cursor.place.at_line_begin; line = 1 }) refl
    (take c.find_ends-run.result.count c.find_ends-run.new.ends) c.find_ends-run.result.condition (let none = c.if-run-eq0.false in omega (arith, none, length-take-le c.find_ends-run.result.count c.find_ends-run.new.ends c.find_ends-run.ensures.within))
    (leads_held c.args.tables.now c.args.bytes.now c.args.self.now.start (record { offset = 0; condition = c.args.self.now.cursor.place.condition; at_line_begin = c.args.self.now.cursor.place.at_line_begin; line = 1 })
    (take c.find_ends-run.result.count c.find_ends-run.new.ends) c.find_ends-run.result.condition (c.find_ends-run.ensures.ends (let none = c.if-run-eq0.false in omega (arith, none))))
    (ends_from c.args.self.now.cursor.place (take c.find_ends-run.result.count c.find_ends-run.new.ends)) refl in
    let some = further c.args.tables.now c.args.bytes.now c.args.self.now.start c.args.self.now.cursor c.args.self.now.walk.read c.args.self.now.walk.state.0 c.args.self.now.walk.found.last c.args.self.now.has_ended
    c.requires.progress.parts c.requires.none_due
    (record { offset = 0; condition = c.args.self.now.cursor.place.condition; at_line_begin = c.args.self.now.cursor.place.at_line_begin; line = 1 }) refl
    (take c.find_ends-run.result.count c.find_ends-run.new.ends) c.find_ends-run.result.condition (let none = c.if-run-eq0.false in omega (arith, none, length-take-le c.find_ends-run.result.count c.find_ends-run.new.ends c.find_ends-run.ensures.within))
    (leads_held c.args.tables.now c.args.bytes.now c.args.self.now.start (record { offset = 0; condition = c.args.self.now.cursor.place.condition; at_line_begin = c.args.self.now.cursor.place.at_line_begin; line = 1 })
    (take c.find_ends-run.result.count c.find_ends-run.new.ends) c.find_ends-run.result.condition (c.find_ends-run.ensures.ends (let none = c.if-run-eq0.false in omega (arith, none)))) in
    let offset = c.in_ok-offset.ensures.offset in
    omega (arith, end, offset, some)

pub bounds-held-offset : goal.bounds-held-offset
bounds-held-offset c =
    let end = end_run c.args.tables.now c.args.bytes.now c.args.self.now.start c.args.self.now.cursor c.args.self.now.walk.read c.args.self.now.walk.state.0 c.args.self.now.walk.found.last c.args.self.now.has_ended
    c.requires.progress.parts c.requires.none_due
    (record { offset = 0; condition = c.args.self.now.cursor.place.condition; at_line_begin = c.args.self.now.cursor.place.at_line_begin; line = 1 }) refl
    (take c.find_ends-run.result.count c.find_ends-run.new.ends) c.find_ends-run.result.condition (let none = c.if-run-eq0.false in omega (arith, none, length-take-le c.find_ends-run.result.count c.find_ends-run.new.ends c.find_ends-run.ensures.within))
    (leads_held c.args.tables.now c.args.bytes.now c.args.self.now.start (record { offset = 0; condition = c.args.self.now.cursor.place.condition; at_line_begin = c.args.self.now.cursor.place.at_line_begin; line = 1 })
    (take c.find_ends-run.result.count c.find_ends-run.new.ends) c.find_ends-run.result.condition (c.find_ends-run.ensures.ends (let none = c.if-run-eq0.false in omega (arith, none))))
    (ends_from c.args.self.now.cursor.place (take c.find_ends-run.result.count c.find_ends-run.new.ends)) refl in
    let some = further c.args.tables.now c.args.bytes.now c.args.self.now.start c.args.self.now.cursor c.args.self.now.walk.read c.args.self.now.walk.state.0 c.args.self.now.walk.found.last c.args.self.now.has_ended
    c.requires.progress.parts c.requires.none_due
    (record { offset = 0; condition = c.args.self.now.cursor.place.condition; at_line_begin = c.args.self.now.cursor.place.at_line_begin; line = 1 }) refl
    (take c.find_ends-run.result.count c.find_ends-run.new.ends) c.find_ends-run.result.condition (let none = c.if-run-eq0.false in omega (arith, none, length-take-le c.find_ends-run.result.count c.find_ends-run.new.ends c.find_ends-run.ensures.within))
    (leads_held c.args.tables.now c.args.bytes.now c.args.self.now.start (record { offset = 0; condition = c.args.self.now.cursor.place.condition; at_line_begin = c.args.self.now.cursor.place.at_line_begin; line = 1 })
    (take c.find_ends-run.result.count c.find_ends-run.new.ends) c.find_ends-run.result.condition (c.find_ends-run.ensures.ends (let none = c.if-run-eq0.false in omega (arith, none)))) in
    let within = inside c.args.tables.now c.args.bytes.now c.args.self.now.start c.args.self.now.cursor c.args.self.now.walk.read c.args.self.now.walk.state.0 c.args.self.now.walk.found.last c.args.self.now.has_ended
    c.requires.progress.parts c.requires.none_due
    (record { offset = 0; condition = c.args.self.now.cursor.place.condition; at_line_begin = c.args.self.now.cursor.place.at_line_begin; line = 1 }) refl
    (take c.find_ends-run.result.count c.find_ends-run.new.ends) c.find_ends-run.result.condition (let none = c.if-run-eq0.false in omega (arith, none, length-take-le c.find_ends-run.result.count c.find_ends-run.new.ends c.find_ends-run.ensures.within))
    (leads_held c.args.tables.now c.args.bytes.now c.args.self.now.start (record { offset = 0; condition = c.args.self.now.cursor.place.condition; at_line_begin = c.args.self.now.cursor.place.at_line_begin; line = 1 })
    (take c.find_ends-run.result.count c.find_ends-run.new.ends) c.find_ends-run.result.condition (c.find_ends-run.ensures.ends (let none = c.if-run-eq0.false in omega (arith, none)))) in
    let offset = c.in_ok-offset.ensures.offset in
    let long = ap length (take_rest c.args.bytes.now c.args.self.now.start) in
    omega (arith, end, offset, some, within, long)

-- the place after the run, and the number of bytes up to it
place_there : (c : goal.After-begin) → c.at.result.place ≡ next c.args.tables.now c.args.bytes.now c.args.self.now.start c.args.self.now.cursor c.args.self.now.walk.read c.args.self.now.walk.state.0 c.args.self.now.walk.found.last c.args.self.now.has_ended
    c.requires.progress.parts c.requires.none_due
    (record { offset = 0; condition = c.args.self.now.cursor.place.condition; at_line_begin = c.args.self.now.cursor.place.at_line_begin; line = 1 }) refl
    (take c.find_ends-run.result.count c.find_ends-run.new.ends) c.find_ends-run.result.condition (let none = c.if-run-eq0.false in omega (arith, none, length-take-le c.find_ends-run.result.count c.find_ends-run.new.ends c.find_ends-run.ensures.within))
    (leads_held c.args.tables.now c.args.bytes.now c.args.self.now.start (record { offset = 0; condition = c.args.self.now.cursor.place.condition; at_line_begin = c.args.self.now.cursor.place.at_line_begin; line = 1 })
    (take c.find_ends-run.result.count c.find_ends-run.new.ends) c.find_ends-run.result.condition (c.find_ends-run.ensures.ends (let none = c.if-run-eq0.false in omega (arith, none))))
place_there c =
    c.at.ensures.after.place_is
    ∙ next_is c.args.tables.now c.args.bytes.now c.args.self.now.start c.args.self.now.cursor c.args.self.now.walk.read c.args.self.now.walk.state.0 c.args.self.now.walk.found.last c.args.self.now.has_ended
    c.requires.progress.parts c.requires.none_due
    (record { offset = 0; condition = c.args.self.now.cursor.place.condition; at_line_begin = c.args.self.now.cursor.place.at_line_begin; line = 1 }) refl
    (take c.find_ends-run.result.count c.find_ends-run.new.ends) c.find_ends-run.result.condition (let none = c.if-run-eq0.false in omega (arith, none, length-take-le c.find_ends-run.result.count c.find_ends-run.new.ends c.find_ends-run.ensures.within))
    (leads_held c.args.tables.now c.args.bytes.now c.args.self.now.start (record { offset = 0; condition = c.args.self.now.cursor.place.condition; at_line_begin = c.args.self.now.cursor.place.at_line_begin; line = 1 })
    (take c.find_ends-run.result.count c.find_ends-run.new.ends) c.find_ends-run.result.condition (c.find_ends-run.ensures.ends (let none = c.if-run-eq0.false in omega (arith, none))))
    (ends_from c.args.self.now.cursor.place (take c.find_ends-run.result.count c.find_ends-run.new.ends)) refl c.in_ok-offset.offset c.in_ok-offset.line _ c.in_ok-offset.ensures.offset c.in_ok-offset.ensures.line
    (ap (λ (w : List ℕ). nat_eq (slice_index w (c.in_ok-offset.offset - c.args.self.now.cursor.place.offset - 1)) 10) (take_rest c.args.bytes.now c.args.self.now.start))

start_there : (c : goal.After-begin) → c.args.self.now.start + (c.in_ok-offset.offset - c.args.self.now.cursor.place.offset) ≡ c.args.self.now.start + end_of 0 (take c.find_ends-run.result.count c.find_ends-run.new.ends)
start_there c =
    let end = end_run c.args.tables.now c.args.bytes.now c.args.self.now.start c.args.self.now.cursor c.args.self.now.walk.read c.args.self.now.walk.state.0 c.args.self.now.walk.found.last c.args.self.now.has_ended
    c.requires.progress.parts c.requires.none_due
    (record { offset = 0; condition = c.args.self.now.cursor.place.condition; at_line_begin = c.args.self.now.cursor.place.at_line_begin; line = 1 }) refl
    (take c.find_ends-run.result.count c.find_ends-run.new.ends) c.find_ends-run.result.condition (let none = c.if-run-eq0.false in omega (arith, none, length-take-le c.find_ends-run.result.count c.find_ends-run.new.ends c.find_ends-run.ensures.within))
    (leads_held c.args.tables.now c.args.bytes.now c.args.self.now.start (record { offset = 0; condition = c.args.self.now.cursor.place.condition; at_line_begin = c.args.self.now.cursor.place.at_line_begin; line = 1 })
    (take c.find_ends-run.result.count c.find_ends-run.new.ends) c.find_ends-run.result.condition (c.find_ends-run.ensures.ends (let none = c.if-run-eq0.false in omega (arith, none))))
    (ends_from c.args.self.now.cursor.place (take c.find_ends-run.result.count c.find_ends-run.new.ends)) refl in
    let offset = c.in_ok-offset.ensures.offset in
    omega (arith, end, offset)

none_there : (c : goal.After-begin) → items_of_steps (steps_left c.args.tables.now c.at.result) c.at.result.line c.at.result.found.start c.at.result.found.len ≡ []
none_there c = none_after c.args.tables.now c.at.result _ c.at.ensures.after

pub returns-clause-progress : goal.returns-clause-progress
returns-clause-progress c =
    let walk = c.begin.result in
    let new = c.at.result in
    let after = c.at.ensures.after in
    let there : ℕ = c.args.self.now.start + end_of 0 (take c.find_ends-run.result.count c.find_ends-run.new.ends) in
    record {
      parts = subst (λ (k : ℕ). AreParts c.args.tables.now c.args.bytes.now k new walk.read walk.state.0 walk.found.last) (sym (start_there c))
          (parts_run c.args.tables.now c.args.bytes.now c.args.self.now.start c.args.self.now.cursor c.args.self.now.walk.read c.args.self.now.walk.state.0 c.args.self.now.walk.found.last c.args.self.now.has_ended
          c.requires.progress.parts c.requires.none_due
          (record { offset = 0; condition = c.args.self.now.cursor.place.condition; at_line_begin = c.args.self.now.cursor.place.at_line_begin; line = 1 }) refl
          (take c.find_ends-run.result.count c.find_ends-run.new.ends) c.find_ends-run.result.condition (let none = c.if-run-eq0.false in omega (arith, none, length-take-le c.find_ends-run.result.count c.find_ends-run.new.ends c.find_ends-run.ensures.within))
          (leads_held c.args.tables.now c.args.bytes.now c.args.self.now.start (record { offset = 0; condition = c.args.self.now.cursor.place.condition; at_line_begin = c.args.self.now.cursor.place.at_line_begin; line = 1 })
          (take c.find_ends-run.result.count c.find_ends-run.new.ends) c.find_ends-run.result.condition (c.find_ends-run.ensures.ends (let none = c.if-run-eq0.false in omega (arith, none))))
          new (place_there c) (none_there c) walk.read walk.state.0 walk.found.last after.len (after.start ∙ sym (ap (λ (p : Place). p.offset) after.place_is)) after.rule
          (subst (λ (p : Place). IsWalked c.args.tables.now p (drop there c.args.bytes.now) walk.read walk.state.0 walk.found.last) (sym after.place_is) (c.begin.ensures.walked (drop there c.args.bytes.now))));
      silent = c.begin.ensures.silent (drop (c.args.self.now.start + (c.in_ok-offset.offset - c.args.self.now.cursor.place.offset)) c.args.bytes.now);
    }

pub returns-clause-gives : goal.returns-clause-gives
returns-clause-gives c =
    let new = c.at.result in
    let at = c.args.self.now in
    let table = c.args.tables.now in
    let bytes = c.args.bytes.now in
    subst (λ (k : ℕ). GivesTo (stream_of table bytes at.start at.cursor at.has_ended) (stream_of table bytes k new at.has_ended) c.args.items.now c.push_ends.new.self) (sym (start_there c))
    (gives_to_run c.args.tables.now c.args.bytes.now c.args.self.now.start c.args.self.now.cursor c.args.self.now.walk.read c.args.self.now.walk.state.0 c.args.self.now.walk.found.last c.args.self.now.has_ended
    c.requires.progress.parts c.requires.none_due
    (record { offset = 0; condition = c.args.self.now.cursor.place.condition; at_line_begin = c.args.self.now.cursor.place.at_line_begin; line = 1 }) refl
    (take c.find_ends-run.result.count c.find_ends-run.new.ends) c.find_ends-run.result.condition (let none = c.if-run-eq0.false in omega (arith, none, length-take-le c.find_ends-run.result.count c.find_ends-run.new.ends c.find_ends-run.ensures.within))
    (leads_held c.args.tables.now c.args.bytes.now c.args.self.now.start (record { offset = 0; condition = c.args.self.now.cursor.place.condition; at_line_begin = c.args.self.now.cursor.place.at_line_begin; line = 1 })
    (take c.find_ends-run.result.count c.find_ends-run.new.ends) c.find_ends-run.result.condition (c.find_ends-run.ensures.ends (let none = c.if-run-eq0.false in omega (arith, none))))
    new (place_there c) (none_there c) (items_of_ends table at.cursor.place.offset at.cursor.place.line (ends_from c.args.self.now.cursor.place (take c.find_ends-run.result.count c.find_ends-run.new.ends))) c.args.items.now c.push_ends.new.self
    (items_moved c.args.tables.now c.args.bytes.now c.args.self.now.start c.args.self.now.cursor c.args.self.now.walk.read c.args.self.now.walk.state.0 c.args.self.now.walk.found.last c.args.self.now.has_ended
    c.requires.progress.parts c.requires.none_due
    (record { offset = 0; condition = c.args.self.now.cursor.place.condition; at_line_begin = c.args.self.now.cursor.place.at_line_begin; line = 1 }) refl
    (take c.find_ends-run.result.count c.find_ends-run.new.ends) c.find_ends-run.result.condition (let none = c.if-run-eq0.false in omega (arith, none, length-take-le c.find_ends-run.result.count c.find_ends-run.new.ends c.find_ends-run.ensures.within))
    (leads_held c.args.tables.now c.args.bytes.now c.args.self.now.start (record { offset = 0; condition = c.args.self.now.cursor.place.condition; at_line_begin = c.args.self.now.cursor.place.at_line_begin; line = 1 })
    (take c.find_ends-run.result.count c.find_ends-run.new.ends) c.find_ends-run.result.condition (c.find_ends-run.ensures.ends (let none = c.if-run-eq0.false in omega (arith, none))))
    (ends_from c.args.self.now.cursor.place (take c.find_ends-run.result.count c.find_ends-run.new.ends)) refl) c.in_ok-offset.ensures.items)

pub push_ends-requires-clause-end : goal.push_ends-requires-clause-end
push_ends-requires-clause-end c =
    let end = end_run c.args.tables.now c.args.bytes.now c.args.self.now.start c.args.self.now.cursor c.args.self.now.walk.read c.args.self.now.walk.state.0 c.args.self.now.walk.found.last c.args.self.now.has_ended
    c.requires.progress.parts c.requires.none_due
    (record { offset = 0; condition = c.args.self.now.cursor.place.condition; at_line_begin = c.args.self.now.cursor.place.at_line_begin; line = 1 }) refl
    (take c.find_ends-run.result.count c.find_ends-run.new.ends) c.find_ends-run.result.condition (let none = c.if-run-eq0.false in omega (arith, none, length-take-le c.find_ends-run.result.count c.find_ends-run.new.ends c.find_ends-run.ensures.within))
    (leads_held c.args.tables.now c.args.bytes.now c.args.self.now.start (record { offset = 0; condition = c.args.self.now.cursor.place.condition; at_line_begin = c.args.self.now.cursor.place.at_line_begin; line = 1 })
    (take c.find_ends-run.result.count c.find_ends-run.new.ends) c.find_ends-run.result.condition (c.find_ends-run.ensures.ends (let none = c.if-run-eq0.false in omega (arith, none))))
    (ends_from c.args.self.now.cursor.place (take c.find_ends-run.result.count c.find_ends-run.new.ends)) refl in
    let within = inside c.args.tables.now c.args.bytes.now c.args.self.now.start c.args.self.now.cursor c.args.self.now.walk.read c.args.self.now.walk.state.0 c.args.self.now.walk.found.last c.args.self.now.has_ended
    c.requires.progress.parts c.requires.none_due
    (record { offset = 0; condition = c.args.self.now.cursor.place.condition; at_line_begin = c.args.self.now.cursor.place.at_line_begin; line = 1 }) refl
    (take c.find_ends-run.result.count c.find_ends-run.new.ends) c.find_ends-run.result.condition (let none = c.if-run-eq0.false in omega (arith, none, length-take-le c.find_ends-run.result.count c.find_ends-run.new.ends c.find_ends-run.ensures.within))
    (leads_held c.args.tables.now c.args.bytes.now c.args.self.now.start (record { offset = 0; condition = c.args.self.now.cursor.place.condition; at_line_begin = c.args.self.now.cursor.place.at_line_begin; line = 1 })
    (take c.find_ends-run.result.count c.find_ends-run.new.ends) c.find_ends-run.result.condition (c.find_ends-run.ensures.ends (let none = c.if-run-eq0.false in omega (arith, none)))) in
    let few = c.requires.progress.parts.few in
    omega (arith, end, within, few)

pub overflow_sub-self : goal.overflow_sub-self
overflow_sub-self c =
    let end = end_run c.args.tables.now c.args.bytes.now c.args.self.now.start c.args.self.now.cursor c.args.self.now.walk.read c.args.self.now.walk.state.0 c.args.self.now.walk.found.last c.args.self.now.has_ended
    c.requires.progress.parts c.requires.none_due
    (record { offset = 0; condition = c.args.self.now.cursor.place.condition; at_line_begin = c.args.self.now.cursor.place.at_line_begin; line = 1 }) refl
    (take c.find_ends-run.result.count c.find_ends-run.new.ends) c.find_ends-run.result.condition (let none = c.if-run-eq0.false in omega (arith, none, length-take-le c.find_ends-run.result.count c.find_ends-run.new.ends c.find_ends-run.ensures.within))
    (leads_held c.args.tables.now c.args.bytes.now c.args.self.now.start (record { offset = 0; condition = c.args.self.now.cursor.place.condition; at_line_begin = c.args.self.now.cursor.place.at_line_begin; line = 1 })
    (take c.find_ends-run.result.count c.find_ends-run.new.ends) c.find_ends-run.result.condition (c.find_ends-run.ensures.ends (let none = c.if-run-eq0.false in omega (arith, none))))
    (ends_from c.args.self.now.cursor.place (take c.find_ends-run.result.count c.find_ends-run.new.ends)) refl in
    let offset = c.in_ok-offset.ensures.offset in
    omega (arith, end, offset)

pub returns-clause-further : goal.returns-clause-further
returns-clause-further c full =
    let end = end_run c.args.tables.now c.args.bytes.now c.args.self.now.start c.args.self.now.cursor c.args.self.now.walk.read c.args.self.now.walk.state.0 c.args.self.now.walk.found.last c.args.self.now.has_ended
    c.requires.progress.parts c.requires.none_due
    (record { offset = 0; condition = c.args.self.now.cursor.place.condition; at_line_begin = c.args.self.now.cursor.place.at_line_begin; line = 1 }) refl
    (take c.find_ends-run.result.count c.find_ends-run.new.ends) c.find_ends-run.result.condition (let none = c.if-run-eq0.false in omega (arith, none, length-take-le c.find_ends-run.result.count c.find_ends-run.new.ends c.find_ends-run.ensures.within))
    (leads_held c.args.tables.now c.args.bytes.now c.args.self.now.start (record { offset = 0; condition = c.args.self.now.cursor.place.condition; at_line_begin = c.args.self.now.cursor.place.at_line_begin; line = 1 })
    (take c.find_ends-run.result.count c.find_ends-run.new.ends) c.find_ends-run.result.condition (c.find_ends-run.ensures.ends (let none = c.if-run-eq0.false in omega (arith, none))))
    (ends_from c.args.self.now.cursor.place (take c.find_ends-run.result.count c.find_ends-run.new.ends)) refl in
    let some = further c.args.tables.now c.args.bytes.now c.args.self.now.start c.args.self.now.cursor c.args.self.now.walk.read c.args.self.now.walk.state.0 c.args.self.now.walk.found.last c.args.self.now.has_ended
    c.requires.progress.parts c.requires.none_due
    (record { offset = 0; condition = c.args.self.now.cursor.place.condition; at_line_begin = c.args.self.now.cursor.place.at_line_begin; line = 1 }) refl
    (take c.find_ends-run.result.count c.find_ends-run.new.ends) c.find_ends-run.result.condition (let none = c.if-run-eq0.false in omega (arith, none, length-take-le c.find_ends-run.result.count c.find_ends-run.new.ends c.find_ends-run.ensures.within))
    (leads_held c.args.tables.now c.args.bytes.now c.args.self.now.start (record { offset = 0; condition = c.args.self.now.cursor.place.condition; at_line_begin = c.args.self.now.cursor.place.at_line_begin; line = 1 })
    (take c.find_ends-run.result.count c.find_ends-run.new.ends) c.find_ends-run.result.condition (c.find_ends-run.ensures.ends (let none = c.if-run-eq0.false in omega (arith, none)))) in
    let offset = c.in_ok-offset.ensures.offset in
    omega (arith, end, some, offset)
