use Rattle.std.proofs.Common.{◌≡◌, true, false, codes, List, ℕ, sym, subst, ap, ◌∙◌, arith}
use Rattle.lx_ere.specs.Brackets.{begins_with}
use Rattle.lx_flex.specs.ConditionLists.{IsList, name_len, starts}
use Rattle.lx_flex.specs.States.{left, names_of}
use Rattle.lx_flex.proofs.Advancing.{empty_list}
use Rattle.lx_flex.proofs.Listing.{Listing, all_declared, all_list, listing_end, listing_next, listing_turns, named_by, names_none, names_wrong, no_list, none_at_end}
use Rattle.lx_flex.proofs.rules.read_list.Goals as goal

pub returns-then-begins_with-clause-list : goal.returns-then-begins_with-clause-list
returns-then-begins_with-clause-list c = all_list _ _ _ _ (let e = c.if-begins_with.true in cc) c.in_ok-all_conditions.ensures c.advance.ensures.left

pub returns-then-not-branch-clause-list : goal.returns-then-not-branch-clause-list
returns-then-not-branch-clause-list c =
    let no : c.in_ok-read_condition.field-0 ≡ false = cc in
    let no_star : starts (codes "*>") (left c.args.cursor.now) ≡ false = cc in
    no_list _ _ _ _ _ _ c.loop.invariant.listing no_star
    (names_none (left c.loop.cursor) (ap (λ (t : List ℕ). name_len t) (sym c.skip_space.ensures) ∙ c.in_ok-read_condition.ensures.none no))

pub returns-then-ends-clause-list : goal.returns-then-ends-clause-list
returns-then-ends-clause-list c =
    let yes : c.in_ok-read_condition.field-0 ≡ true = cc in
    let no_star : starts (codes "*>") (left c.args.cursor.now) ≡ false = cc in
    let ends : begins_with 62 (left c.skip_space-in-loop.new.cursor) ≡ true = cc in
    let r = c.in_ok-read_condition.ensures in
    let n = named_by (names_of c.args.declared.now) (left c.loop.cursor) (left c.skip_space.new.cursor) (left c.read_condition.new.cursor) (left c.skip_space-in-loop.new.cursor)
    c.loop.numbers.items c.read_condition.new.numbers.items c.loop.reports.fatal c.read_condition.new.reports.fatal
    c.skip_space.ensures (r.name yes) c.skip_space-in-loop.ensures (r.number yes) (r.reported yes) in
    subst (λ (t : List ℕ). IsList (names_of c.args.declared.now) (left c.args.cursor.now) c.read_condition.new.numbers.items t) (sym c.advance-in-loop.ensures.left)
    (listing_end _ _ _ _ _ _ _ _ _ c.loop.invariant.listing n ends no_star)

pub returns-then-ends-clause-reported : goal.returns-then-ends-clause-reported
returns-then-ends-clause-reported c =
    let yes : c.in_ok-read_condition.field-0 ≡ true = cc in
    let ends : begins_with 62 (left c.skip_space-in-loop.new.cursor) ≡ true = cc in
    let r = c.in_ok-read_condition.ensures in
    let n = named_by (names_of c.args.declared.now) (left c.loop.cursor) (left c.skip_space.new.cursor) (left c.read_condition.new.cursor) (left c.skip_space-in-loop.new.cursor)
    c.loop.numbers.items c.read_condition.new.numbers.items c.loop.reports.fatal c.read_condition.new.reports.fatal
    c.skip_space.ensures (r.name yes) c.skip_space-in-loop.ensures (r.number yes) (r.reported yes) in
    all_declared _ _ _ _ _ _ _ _ _ c.loop.invariant.listing n ends

pub returns-then-not-goes_on-clause-list : goal.returns-then-not-goes_on-clause-list
returns-then-not-goes_on-clause-list c =
    let yes : c.in_ok-read_condition.field-0 ≡ true = cc in
    let no_star : starts (codes "*>") (left c.args.cursor.now) ≡ false = cc in
    let no_end : begins_with 62 (left c.skip_space-in-loop.new.cursor) ≡ false = cc in
    let no_comma : begins_with 44 (left c.skip_space-in-loop.new.cursor) ≡ false = cc in
    let r = c.in_ok-read_condition.ensures in
    let n = named_by (names_of c.args.declared.now) (left c.loop.cursor) (left c.skip_space.new.cursor) (left c.read_condition.new.cursor) (left c.skip_space-in-loop.new.cursor)
    c.loop.numbers.items c.read_condition.new.numbers.items c.loop.reports.fatal c.read_condition.new.reports.fatal
    c.skip_space.ensures (r.name yes) c.skip_space-in-loop.ensures (r.number yes) (r.reported yes) in
    no_list _ _ _ _ _ _ c.loop.invariant.listing no_star (names_wrong (left c.loop.cursor) (left c.skip_space-in-loop.new.cursor) n.next_is no_end no_comma)

pub loop-preserved : goal.loop-preserved
loop-preserved c =
    let yes : c.in_ok-read_condition.field-0 ≡ true = cc in
    let comma : begins_with 44 (left c.skip_space-in-loop.new.cursor) ≡ true = cc in
    let r = c.in_ok-read_condition.ensures in
    let n = named_by (names_of c.args.declared.now) (left c.loop.cursor) (left c.skip_space.new.cursor) (left c.read_condition.new.cursor) (left c.skip_space-in-loop.new.cursor)
    c.loop.numbers.items c.read_condition.new.numbers.items c.loop.reports.fatal c.read_condition.new.reports.fatal
    c.skip_space.ensures (r.name yes) c.skip_space-in-loop.ensures (r.number yes) (r.reported yes) in
    record {
      listing = subst (λ (t : List ℕ). Listing (names_of c.args.declared.now) (left c.args.cursor.now) t c.read_condition.new.numbers.items c.args.reports.now.fatal c.read_condition.new.reports.fatal)
          (sym c.advance-in-loop.ensures.left) (listing_next _ _ _ _ _ _ _ _ _ c.loop.invariant.listing n comma);
      turns = listing_turns (names_of c.args.declared.now) (left c.args.cursor.now) _ _ _ _ c.args.reports.now.fatal _ _ _ _ _ n c.advance-in-loop.ensures.left c.loop.invariant.turns;
    }

pub returns-clause-list : goal.returns-clause-list
returns-clause-list c =
    let no_star : starts (codes "*>") (left c.args.cursor.now) ≡ false = cc in
    no_list _ _ _ _ _ _ c.loop.invariant.listing no_star (none_at_end (left c.loop.cursor) (empty_list _ (omega arith)))
