use Rattle.std.proofs.Common.{sym, ap, ◌∙◌, List, ℕ, Bor}
use Rattle.std.specs.Str.{bytes_eq}
use Rattle.lx_forms.proofs.Choices.{mapped_here, mapped_behind, mapped_none}
use Rattle.lx_forms.proofs.choosing.is_one_of.Goals as goal

pub returns-then-eq : goal.returns-then-eq
returns-then-eq c =
    sym (mapped_here (λ (word : Bor (List ℕ)). word.now) (λ t. bytes_eq t c.args.text.now) c.args.words.now c.loop-word.word-index _ c.loop-word-test.true (sym (c.eq.ensures ∙ ap (λ t. bytes_eq t c.args.text.now) c.as_bytes.ensures.value) ∙ c.if-eq.true)) ∙ c.loop-word.invariant

pub loop-word-preserved : goal.loop-word-preserved
loop-word-preserved c =
    mapped_behind (λ (word : Bor (List ℕ)). word.now) (λ t. bytes_eq t c.args.text.now) c.args.words.now c.loop-word.word-index _ c.loop-word-test.true (sym (c.eq.ensures ∙ ap (λ t. bytes_eq t c.args.text.now) c.as_bytes.ensures.value) ∙ c.if-eq.false) ∙ c.loop-word.invariant

pub returns : goal.returns
returns c = sym (mapped_none (λ (word : Bor (List ℕ)). word.now) (λ t. bytes_eq t c.args.text.now) c.args.words.now c.loop-word.word-index c.loop-word-test.false) ∙ c.loop-word.invariant
