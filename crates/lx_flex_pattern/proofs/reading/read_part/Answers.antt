use Rattle.std.proofs.Common.{[], ◌∷◌, ◌++◌, map, sym, ap}
use Rattle.std.proofs.lemmas.Result.{err_from_is_err_and}
use Rattle.lx_ere.specs.Groups.{groups_of}
use Rattle.lx_ere.specs.Lexemes.{lexeme_of}
use Rattle.lx_flex_pattern.specs.Pieces.{interval_of, names_of, state_of}
use Rattle.lx_flex_pattern.specs.Reading.{place, at_end, at_dollar, at_slash, behind_part, row_of, row}
use Rattle.lx_flex_pattern.proofs.Reaching.{lexemes_of, reach_goes, reach_interval, reach_inserts, tells_stop, reads_no_part, reads_no_lexemes, reads_no_interval}
use Rattle.lx_flex_pattern.proofs.reading.read_part.Goals as goal

pub returns-in_default-clause-refused : goal.returns-in_default-clause-refused
returns-in_default-clause-refused c = λ _ from r.
    reads_no_lexemes c.args.options (names_of c.args.names.now) from (place (state_of c.args.state) c.args.inserted c.args.text.now) (groups_of c.args.groups) (map lexeme_of c.in-Goes.lexemes.items)
    (ap lexemes_of (sym (rw c.in-Goes.is at c.in_ok-piece.ensures.ok))) (sym (rw c.in_default.is at c.in_ok-groups-in-Goes.ensures)) r

pub returns-in-Some-clause-ok : goal.returns-in-Some-clause-ok
returns-in-Some-clause-ok c = λ from r.
    rw c.inserted_left-left.ensures
    (reach_goes c.args.options (names_of c.args.names.now) from (place (state_of c.args.state) c.args.inserted c.args.text.now) (groups_of c.args.groups) (groups_of c.in-Some.groups) (map lexeme_of c.in-Goes.lexemes.items) (state_of c.in-Goes.next) c.in-Goes.rest.now
    (sym (rw c.in-Goes.is at c.in_ok-piece.ensures.ok)) (sym (rw c.in-Some.is at c.in_ok-groups-in-Goes.ensures)) r)

pub returns-in_default-2-clause-refused : goal.returns-in_default-2-clause-refused
returns-in_default-2-clause-refused c = λ _ from r.
    reads_no_lexemes c.args.options (names_of c.args.names.now) from (place (state_of c.args.state) c.args.inserted c.args.text.now) (groups_of c.args.groups) (map lexeme_of c.in-Inserts.lexemes.items)
    (ap lexemes_of (sym (rw c.in-Inserts.is at c.in_ok-piece.ensures.ok))) (sym (rw c.in_default-2.is at c.in_ok-groups-in-Inserts.ensures)) r

pub returns-in_ok-next-in-Inserts-clause-ok : goal.returns-in_ok-next-in-Inserts-clause-ok
returns-in_ok-next-in-Inserts-clause-ok c = λ from r.
    rw (c.in_ok-next-in-Inserts.ensures.ok, c.as_slice.ensures.value, c.inserted_left-left-in-Inserts.ensures)
    (reach_inserts c.args.options (names_of c.args.names.now) from (place (state_of c.args.state) c.args.inserted c.args.text.now) (groups_of c.args.groups) (groups_of c.in-Some-2.groups) (map lexeme_of c.in-Inserts.lexemes.items) (state_of c.in-Inserts.next) c.in-Inserts.front.items c.in-Inserts.rest.now
    (sym (rw c.in-Inserts.is at c.in_ok-piece.ensures.ok)) (sym (rw c.in-Some-2.is at c.in_ok-groups-in-Inserts.ensures)) r)

pub returns-in-Wrong-clause-refused : goal.returns-in-Wrong-clause-refused
returns-in-Wrong-clause-refused c = λ _ from r.
    reads_no_part c.args.options (names_of c.args.names.now) from (place (state_of c.args.state) c.args.inserted c.args.text.now) (groups_of c.args.groups) (sym (rw c.in-Wrong.is at c.in_ok-piece.ensures.ok)) r

pub returns-in_err-end-in-Ends-clause-refused : goal.returns-in_err-end-in-Ends-clause-refused
returns-in_err-end-in-Ends-clause-refused c =
    let p = err_from_is_err_and c.from_residual-in_err-end-in-Ends.result c.from_residual-in_err-end-in-Ends.ensures.1 in
    rw p.1 (λ h from r.
    reads_no_lexemes c.args.options (names_of c.args.names.now) from (place (state_of c.args.state) c.args.inserted c.args.text.now) (groups_of c.args.groups) (map lexeme_of c.in-Ends.lexemes.items)
    (ap lexemes_of (sym (rw c.in-Ends.is at c.in_ok-piece.ensures.ok))) (c.in_err-end-in-Ends.ensures.refused (let e = p.2 in cc)) r)

pub returns-in_ok-end-in-Ends-clause-ok : goal.returns-in_ok-end-in-Ends-clause-ok
returns-in_ok-end-in-Ends-clause-ok c = λ from r.
    tells_stop c.args.options (names_of c.args.names.now) from (place (state_of c.args.state) c.args.inserted c.args.text.now) (behind_part (place (state_of c.args.state) c.args.inserted c.args.text.now) (state_of c.in-Ends.last) c.in-Ends.rest.now) (groups_of c.args.groups) (map lexeme_of c.in-Ends.lexemes.items) at_end _
    (ap (row_of (row 0 c.args.options (names_of c.args.names.now)) (place (state_of c.args.state) c.args.inserted c.args.text.now)) (sym (rw c.in-Ends.is at c.in_ok-piece.ensures.ok)))
    (rw c.inserted_left-left-in-Ends.ensures at c.in_ok-end-in-Ends.ensures.ok) r

pub returns-in_err-end-in-EndsLine-clause-refused : goal.returns-in_err-end-in-EndsLine-clause-refused
returns-in_err-end-in-EndsLine-clause-refused c =
    let p = err_from_is_err_and c.from_residual-in_err-end-in-EndsLine.result c.from_residual-in_err-end-in-EndsLine.ensures.1 in
    rw p.1 (λ h from r.
    reads_no_lexemes c.args.options (names_of c.args.names.now) from (place (state_of c.args.state) c.args.inserted c.args.text.now) (groups_of c.args.groups) (map lexeme_of c.in-EndsLine.lexemes.items)
    (ap lexemes_of (sym (rw c.in-EndsLine.is at c.in_ok-piece.ensures.ok))) (c.in_err-end-in-EndsLine.ensures.refused (let e = p.2 in cc)) r)

pub returns-in_ok-end-in-EndsLine-clause-ok : goal.returns-in_ok-end-in-EndsLine-clause-ok
returns-in_ok-end-in-EndsLine-clause-ok c = λ from r.
    tells_stop c.args.options (names_of c.args.names.now) from (place (state_of c.args.state) c.args.inserted c.args.text.now) (behind_part (place (state_of c.args.state) c.args.inserted c.args.text.now) (state_of c.in-EndsLine.last) c.in-EndsLine.rest.now) (groups_of c.args.groups) (map lexeme_of c.in-EndsLine.lexemes.items) at_dollar _
    (ap (row_of (row 0 c.args.options (names_of c.args.names.now)) (place (state_of c.args.state) c.args.inserted c.args.text.now)) (sym (rw c.in-EndsLine.is at c.in_ok-piece.ensures.ok)))
    (rw c.inserted_left-left-in-EndsLine.ensures at c.in_ok-end-in-EndsLine.ensures.ok) r

pub returns-in_err-end-in-Slash-clause-refused : goal.returns-in_err-end-in-Slash-clause-refused
returns-in_err-end-in-Slash-clause-refused c =
    let p = err_from_is_err_and c.from_residual-in_err-end-in-Slash.result c.from_residual-in_err-end-in-Slash.ensures.1 in
    rw p.1 (λ h from r.
    reads_no_lexemes c.args.options (names_of c.args.names.now) from (place (state_of c.args.state) c.args.inserted c.args.text.now) (groups_of c.args.groups) (map lexeme_of c.in-Slash.lexemes.items)
    (ap lexemes_of (sym (rw c.in-Slash.is at c.in_ok-piece.ensures.ok))) (c.in_err-end-in-Slash.ensures.refused (let e = p.2 in cc)) r)

pub returns-in_ok-end-in-Slash-clause-ok : goal.returns-in_ok-end-in-Slash-clause-ok
returns-in_ok-end-in-Slash-clause-ok c = λ from r.
    tells_stop c.args.options (names_of c.args.names.now) from (place (state_of c.args.state) c.args.inserted c.args.text.now) (behind_part (place (state_of c.args.state) c.args.inserted c.args.text.now) (state_of c.in-Slash.last) c.in-Slash.rest.now) (groups_of c.args.groups) (map lexeme_of c.in-Slash.lexemes.items) at_slash _
    (ap (row_of (row 0 c.args.options (names_of c.args.names.now)) (place (state_of c.args.state) c.args.inserted c.args.text.now)) (sym (rw c.in-Slash.is at c.in_ok-piece.ensures.ok)))
    (rw c.inserted_left-left-in-Slash.ensures at c.in_ok-end-in-Slash.ensures.ok) r

pub returns-in_default-3-clause-refused : goal.returns-in_default-3-clause-refused
returns-in_default-3-clause-refused c = λ _ from r.
    reads_no_interval c.args.options (names_of c.args.names.now) from (place (state_of c.args.state) c.args.inserted c.args.text.now) (groups_of c.args.groups) (map lexeme_of c.in-Repeats.lexemes.items ++ interval_of c.in-Repeats.interval ∷ [])
    (ap lexemes_of (sym (rw c.in-Repeats.is at c.in_ok-piece.ensures.ok))) (rw c.in_default-3.is at c.in_ok-groups-in-Repeats.ensures.ok) r

pub returns-in-Some-3-clause-ok : goal.returns-in-Some-3-clause-ok
returns-in-Some-3-clause-ok c = λ from r.
    rw c.inserted_left-left-in-Repeats.ensures
    (reach_interval c.args.options (names_of c.args.names.now) from (place (state_of c.args.state) c.args.inserted c.args.text.now) (groups_of c.args.groups) (groups_of c.in-Some-3.groups) (map lexeme_of c.in-Repeats.lexemes.items ++ interval_of c.in-Repeats.interval ∷ []) (state_of c.in-Repeats.next) c.in-Repeats.rest.now
    (sym (rw c.in-Repeats.is at c.in_ok-piece.ensures.ok)) (rw c.in-Some-3.is at c.in_ok-groups-in-Repeats.ensures.ok) r)
