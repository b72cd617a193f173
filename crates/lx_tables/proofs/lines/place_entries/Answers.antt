use Rattle.std.proofs.Common.{◌≡◌, ◌+◌, ◌-◌, ◌++◌, ℕ, List, drop, ap, sym, ◌∙◌, arith}
use Rattle.std.proofs.lemmas.List.{drop_all}
use Rattle.std.proofs.lemmas.List.FromFn.{length-range_with_len}
use Rattle.std.specs.List.{flat_map, range_with_len}
use Rattle.lx_automaton.specs.Automata.{class_target}
use Rattle.lx_tables.specs.Texts.{entry_text}
use Rattle.lx_tables.proofs.Rows.{texts_before}
use Rattle.lx_tables.proofs.lines.place_entries.Goals as goal

pub classes-init : goal.classes-init
classes-init c =
    let m = c.args.tables.now.machine in
    let text : ℕ → List ℕ = λ class. entry_text class (class_target m c.args.state class) in
    let count = c.classes-class.ensures.count in
    let few = c.classes-class.ensures.few in
    let long = c.requires.long in
    record {
      room = omega arith;
      within = omega arith;
      long = long;
      few = omega arith;
      placed =
          drop_all 2560 c.args.row.now (omega arith)
          ∙ sym (ap (λ classes. flat_map text classes) (ap (λ n. drop n (range_with_len 0 m.width)) count ∙ drop_all m.width (range_with_len 0 m.width) (omega (arith, length-range_with_len 0 m.width))));
    }

pub classes-preserved : goal.classes-preserved
classes-preserved c =
    let m = c.args.tables.now.machine in
    let text : ℕ → List ℕ = λ class. entry_text class (class_target m c.args.state class) in
    let class = c.classes.class - 1 in
    let some = c.classes-test.true in
    let few = c.classes.invariant.few in
    let room = c.classes.invariant.room in
    let within = c.classes.invariant.within in
    let short = c.place_entry-begin.ensures.short in
    let before = c.place_entry-begin.ensures.within in
    let long = c.place_entry-begin.ensures.long in
    let same = c.classes.invariant.long in
    let at : c.classes.class ≡ class + 1 = omega arith in
    record {
      room = omega arith;
      within = omega arith;
      long = omega arith;
      few = omega arith;
      placed =
          c.place_entry-begin.ensures.placed
          ∙ ap (λ target. entry_text class target ++ drop c.classes.begin c.classes.row) c.encoded_option.ensures
          ∙ ap (λ behind. text class ++ behind) (c.classes.invariant.placed ∙ ap (λ n. flat_map text (drop n (range_with_len 0 m.width))) at)
          ∙ sym (texts_before text m.width class (omega arith));
    }
