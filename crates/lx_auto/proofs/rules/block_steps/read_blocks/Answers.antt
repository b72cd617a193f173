use Rattle.std.proofs.Common.{◌≡◌, ℕ, ◌+◌, ◌-◌, ◌<◌, length, take, drop, refl, sym, ◌∙◌, ap, arith, subst}
use Rattle.std.proofs.lemmas.Option.{slice_get_read}
use Rattle.lx_auto.specs.Blocks.{HasEnds}
use Rattle.lx_auto.specs.Outlines as outlines
use Rattle.lx_auto.specs.Passing.{read_list}
use Rattle.lx_auto.proofs.BlockRead.{all_read, blocks_long, block_turn}
use Rattle.lx_auto.proofs.rules.block_steps.read_blocks.Goals as goal

pub down-init : goal.down-init
down-init c =
    let all = c.args.blocks.now in
    record {
      set = λ es k are have clear.
          all_read c.args.marks.now c.args.entered.now c.args.reads.now.items es k (length all) (let long = blocks_long all es k are in omega arith);
      long = refl;
      within = omega arith;
    }

pub down-preserved : goal.down-preserved
down-preserved c =
    let all = c.args.blocks.now in
    let marks = c.args.marks.now in
    let ends = c.args.ends.now in
    let entered = c.args.entered.now in
    let r = c.down.rest in
    let n = r - 1 in
    let some = c.down-test.true in
    let block = c.index-blocks-rest.result in
    let own = c.index-ends-rest.result in
    let within = c.down.invariant.within in
    let inside : n < length all = omega arith in
    let long = c.requires in
    let at = slice_get_read all (length all) n block refl inside c.index-blocks-rest.is in
    let at_ends = slice_get_read ends (length ends) n own refl (omega arith) c.index-ends-rest.is in
    let mid = c.down.reads.items in
    record {
      set = λ es k are have clear.
          block_turn marks entered c.args.reads.now.items mid c.read.new.reads.items own.items all es k n r block (omega arith) are at
          (λ e is. have.each n block own e at at_ends is) clear (c.down.invariant.set es k are have clear)
          (λ e is has bare. c.in_ok-read.ensures.set e is (subst (λ l. HasEnds marks l block e) (sym c.deref.ensures.value) has) bare
          ∙ ap (λ f. read_list marks e f block.base mid) c.flag.ensures);
      long = c.in_ok-read.ensures.long ∙ c.down.invariant.long;
      within = omega arith;
    }

pub returns-clause-set : goal.returns-clause-set
returns-clause-set c = λ es k are have clear.
    let marks = c.args.marks.now in
    let entered = c.args.entered.now in
    let old = c.args.reads.now.items in
    let r = c.down.rest in
    let none = c.down-test.false in
    let z : r ≡ 0 = omega arith in
    let first : k + 0 ≡ k = omega arith in
    c.down.invariant.set es k are have clear
    ∙ ap (λ (i : ℕ). outlines.read_blocks marks entered (drop i es) i (k + outlines.positions_of (take i es)) old) z
    ∙ ap (λ p. outlines.read_blocks marks entered es 0 p old) first
