use Rattle.std.proofs.Common.{◌≡◌, ◌∙◌, List, ℕ, Bool, Bor, ap, codes, decimal, length, map, sym}
use Rattle.std.specs.List.{filter}
use Rattle.std.proofs.lemmas.List.{length-map, nil_from_length}
use Rattle.lx_forms.specs.Choosing.{is_one_of, numbers_of}
use Rattle.lx_forms.specs.Forms.{Selected}
use Rattle.lx_forms.proofs.choosing.choose.Goals as goal

abbrev text_of : Bor (List ℕ) → List ℕ
text_of word = word.now

abbrev selection : List Bool → List ℕ → Bool → Selected
selection names numbers echoes = record { names = names; numbers = numbers; echoes = echoes }

pub returns-clause-ok : goal.returns-clause-ok
returns-clause-ok c =
    let table = c.args.tables.now in
    let words = c.in_ok-words.words.items in
    let texts = map text_of words in
    let among = is_one_of texts in
    let names : c.in_ok-names_among.field-0.items ≡ map among table.kinds = rw c.deref-3.ensures.value at c.in_ok-names_among.ensures in
    let numbers : c.in_ok-numbers_among.field-0.items ≡ filter (λ n. among (decimal n)) (numbers_of table) =
    (rw (c.deref-4.ensures.value, c.deref-5.ensures.value) at c.in_ok-numbers_among.ensures) ∙ ap (filter (λ n. among (decimal n))) c.in_ok-numbers.ensures in
    let echoes : c.is_one_of.result ≡ among (codes "-") = rw c.deref-6.ensures.value at c.is_one_of.ensures in
    record {
      words = texts;
      some = λ e. c.in_ok-words.ensures.ok.1 (nil_from_length words (sym (length-map words text_of) ∙ ap length e));
      list = c.in_ok-words.ensures.ok.0;
      known = rw c.deref-2.ensures.value at c.in_ok-judge_words.ensures.ok;
      selected_is =
          c.new.ensures
          ∙ ap (λ ns. selection ns c.in_ok-numbers_among.field-0.items c.is_one_of.result) names
          ∙ ap (λ ns. selection (map among table.kinds) ns c.is_one_of.result) numbers
          ∙ ap (selection (map among table.kinds) (filter (λ n. among (decimal n)) (numbers_of table))) echoes;
    }
