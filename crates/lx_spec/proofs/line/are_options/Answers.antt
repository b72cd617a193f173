use Rattle.std.proofs.Common.{◌≡◌, Bool, true, ◌∷◌, ◌&&◌, sym, ap, ◌∙◌, arith}
use Rattle.std.specs.List.{list_all}
use Rattle.lx_spec.specs.Bytes as bytes
use Rattle.lx_spec.specs.Lines as plain
use Rattle.lx_spec.proofs.Words.{next_word-some}
use Rattle.lx_spec.proofs.line.are_options.Goals as goal

pub loop-word-preserved : goal.loop-word-preserved
loop-word-preserved c =
    let e : bytes.words_of c.loop-word.rest.now ≡ c.in-Some.word.now ∷ bytes.words_of c.in-Some.behind.now = next_word-some c.loop-word.rest.now c.in-Some.word.now c.in-Some.behind.now (sym c.in-Some.ensures) in
    let good : plain.is_option c.in-Some.word.now ≡ true = grind arith in
    sym (ap (list_all plain.is_option) e ∙ ap (λ (b : Bool). b && list_all plain.is_option (bytes.words_of c.in-Some.behind.now)) good) ∙ c.loop-word.invariant
