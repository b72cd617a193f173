use Rattle.std.proofs.Common.{sym, ap, ◌∙◌, decimal}
use Rattle.std.specs.Str.{bytes_eq}
use Rattle.lx_forms.proofs.Choices.{mapped_here, mapped_behind, mapped_none}
use Rattle.lx_forms.proofs.choosing.is_number.Goals as goal

pub returns-then-eq : goal.returns-then-eq
returns-then-eq c =
    sym (mapped_here decimal (λ t. bytes_eq t c.args.word.now) c.args.numbers.now c.loop-number.number-index 0 c.loop-number-test.true (sym (c.eq.ensures ∙ ap (λ t. bytes_eq t c.args.word.now) c.format.ensures.text) ∙ c.if-eq.true)) ∙ c.loop-number.invariant

pub loop-number-preserved : goal.loop-number-preserved
loop-number-preserved c =
    mapped_behind decimal (λ t. bytes_eq t c.args.word.now) c.args.numbers.now c.loop-number.number-index 0 c.loop-number-test.true (sym (c.eq.ensures ∙ ap (λ t. bytes_eq t c.args.word.now) c.format.ensures.text) ∙ c.if-eq.false) ∙ c.loop-number.invariant

pub returns : goal.returns
returns c = sym (mapped_none decimal (λ t. bytes_eq t c.args.word.now) c.args.numbers.now c.loop-number.number-index c.loop-number-test.false) ∙ c.loop-number.invariant
