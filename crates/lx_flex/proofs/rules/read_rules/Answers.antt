use Rattle.std.proofs.Common.{◌≡◌, ◌≤◌, [], length, true, false, arith}
use Rattle.lx_flex.specs.RulesSections.{is_end}
use Rattle.lx_flex.specs.States.{left, names_of, open_of, state_of}
use Rattle.lx_flex.proofs.Nesting.{section_reached}
use Rattle.lx_flex.proofs.Progress.{ends_in_time, reached_in_next}
use Rattle.lx_flex.proofs.rules.read_rules.Goals as goal
use Rattle.lx_flex.proofs.rules.read_rules.Goals.{else-loop-test, then-loop-test+then-is_section_end}

pub loop-preserved : goal.loop-preserved
loop-preserved c =
    let no_end : is_end (left c.loop.cursor) ≡ false = cc in
    record {
      facts = λ clean.
          let read = c.in_ok-read_line.ensures.facts clean in
          let before = c.loop.invariant.facts read.0 in (
            before.0,
            reached_in_next c.loop.counter (length c.args.cursor.now.text.now) (names_of c.args.declared.now) (left c.args.cursor.now) (left c.loop.cursor) (left c.read_line.new.cursor)
                (state_of c.loop.rules) (state_of c.read_line.new.rules) before.1 no_end read.1,
          );
    }

pub returns : goal.returns
returns c = record {
  facts = λ clean.
      let before = c.loop.invariant.facts clean in
      let ends : is_end (left c.loop.cursor) ≡ true =
      elim c.loop-test.branch [
        | else-loop-test w ↦
            let late : length c.args.cursor.now.text.now ≤ c.loop.counter = omega (arith, w.loop-test.false) in
            ends_in_time c.loop.counter (length c.args.cursor.now.text.now) (names_of c.args.declared.now) (left c.args.cursor.now) (left c.loop.cursor) (state_of c.loop.rules) before.1 late
        | then-loop-test+then-is_section_end w ↦ cc
      ] in
      let none : open_of c.loop.rules.scopes ≡ [] = c.in-None.ensures in
      (before.0, section_reached (names_of c.args.declared.now) (left c.args.cursor.now) (left c.loop.cursor) (state_of c.loop.rules) before.1.reached none ends);
}
