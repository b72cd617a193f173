use Rattle.std.proofs.Common.{◌≡◌, ◌+◌, ◌-◌, ◌∷◌, ◌++◌, drop, length, ap, ◌∙◌, arith}
use Rattle.std.proofs.lemmas.List.{drop-set}
use Rattle.lx_tables.specs.Texts.{number}
use Rattle.lx_tables.proofs.lines.place_number.Goals as goal

pub returns-clause-placed : goal.returns-clause-placed
returns-clause-placed c =
    let digits = c.write_digits-digits.result in
    let row = c.write_digits-digits.new.buf in
    let room = c.requires.room in
    let start = c.write_digits-digits.ensures.start in
    let same : length (number c.from.result) ≡ length (number c.args.value) = ap (λ n. length (number n)) c.from.ensures in
    let behind : digits - 1 + 1 ≡ digits = omega arith in
    drop-set row (digits - 1) c.args.mark (omega arith)
    ∙ ap (λ d. c.args.mark ∷ drop d row) behind
    ∙ ap (λ bytes. c.args.mark ∷ bytes) (c.write_digits-digits.ensures.written ∙ ap (λ n. number n ++ drop c.args.end c.args.row.now) c.from.ensures)
