use Rattle.std.proofs.Common.{◌≡◌, ◌∙◌, true, List, ℕ, Bor, All, map, subst, ap, arith, rules, []}
use Rattle.std.proofs.lemmas.List.{get_or-map, length-map, take_all}
use Rattle.std.proofs.lemmas.List.Elements.{All-more}
use Rattle.lx_forms.specs.Choosing.{is_kind_word}
use Rattle.lx_forms.proofs.choosing.judge_words.Goals as goal

abbrev text_of : Bor (List ℕ) → List ℕ
text_of word = word.now

pub loop-word-preserved : goal.loop-word-preserved
loop-word-preserved c =
    let words = c.args.words.now in
    let i = c.loop-word.word-index in
    let nobody : Bor (List ℕ) = record { ref_ptr = (0, 0); now = [] } in
    All-more (λ word. is_kind_word c.args.tables.now word ≡ true) (map text_of words) i [] (omega (arith, c.loop-word-test.true, length-map words text_of)) c.loop-word.invariant
    (ap (is_kind_word c.args.tables.now) (get_or-map text_of words i nobody [] c.loop-word-test.true) ∙ search rules)

pub returns-clause-ok : goal.returns-clause-ok
returns-clause-ok c =
    let words = c.args.words.now in
    subst (All (λ word. is_kind_word c.args.tables.now word ≡ true)) (take_all c.loop-word.word-index (map text_of words) (omega (arith, c.loop-word-test.false, length-map words text_of))) c.loop-word.invariant
