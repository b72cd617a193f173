use Rattle.std.proofs.Common.{refl}
use Rattle.std.proofs.lemmas.Result.{err_from_is_err_and}
use Rattle.lx_ere.specs.Regex.{regex_of}
use Rattle.lx_flex_pattern.specs.Pieces.{names_of}
use Rattle.lx_flex_pattern.specs.Progress.{place_of, stop_of}
use Rattle.lx_flex_pattern.specs.Reading.{at_end}
use Rattle.lx_flex_pattern.proofs.Patterns.{nothing_read, no_end, no_dollar, no_context, no_other, is_plain, is_with_dollar, is_with_context}
use Rattle.lx_flex_pattern.proofs.reading.read_pattern.Goals as goal

pub returns-in_err-tree-clause-refused : goal.returns-in_err-tree-clause-refused
returns-in_err-tree-clause-refused c =
    let p = err_from_is_err_and c.from_residual-in_err-tree.result c.from_residual-in_err-tree.ensures.1 in
    rw p.1 (λ h. nothing_read c.args.options (names_of c.args.names.now) c.args.text.now (rw (c.new.ensures, c.in_ok-from_slice.ensures.items) at (c.in_err-tree.ensures.refused (let e = p.2 in cc))))

pub returns-in-Some-clause-reading : goal.returns-in-Some-clause-reading
returns-in-Some-clause-reading c =
    rw c.in-Some.ensures.reading (is_plain c.args.options (names_of c.args.names.now) c.args.text.now (regex_of c.in_ok-tree.field-0.tree) (place_of c.in_ok-tree.field-0.last) c.in-Some.read.length _ refl (rw (c.new.ensures, c.in_ok-from_slice.ensures.items, c.in-End.is) at c.in_ok-tree.ensures.ok) c.in-Some.ensures.ends)

pub returns-in-End-clause-refused : goal.returns-in-End-clause-refused
returns-in-End-clause-refused c = λ _. no_end c.args.options (names_of c.args.names.now) c.args.text.now (regex_of c.in_ok-tree.field-0.tree) (place_of c.in_ok-tree.field-0.last) (rw (c.new.ensures, c.in_ok-from_slice.ensures.items, c.in-End.is) at c.in_ok-tree.ensures.ok) (c.in-None.ensures.none refl)

pub returns-in-Some-finished-clause-reading : goal.returns-in-Some-finished-clause-reading
returns-in-Some-finished-clause-reading c =
    rw c.in-Some-finished.ensures.reading (is_with_dollar c.args.options (names_of c.args.names.now) c.args.text.now (regex_of c.in_ok-tree.field-0.tree) (place_of c.in_ok-tree.field-0.last) c.in-Some-finished.read.length _ refl (rw (c.new.ensures, c.in_ok-from_slice.ensures.items, c.in-Dollar.is) at c.in_ok-tree.ensures.ok) c.in-Some-finished.ensures.ends)

pub returns-in-Dollar-clause-refused : goal.returns-in-Dollar-clause-refused
returns-in-Dollar-clause-refused c = λ _. no_dollar c.args.options (names_of c.args.names.now) c.args.text.now (regex_of c.in_ok-tree.field-0.tree) (place_of c.in_ok-tree.field-0.last) (rw (c.new.ensures, c.in_ok-from_slice.ensures.items, c.in-Dollar.is) at c.in_ok-tree.ensures.ok) (c.in-None-finished.ensures.none refl)

pub returns-in_err-trailing-in-Slash-clause-refused : goal.returns-in_err-trailing-in-Slash-clause-refused
returns-in_err-trailing-in-Slash-clause-refused c =
    let p = err_from_is_err_and c.from_residual-in_err-trailing-in-Slash.result c.from_residual-in_err-trailing-in-Slash.ensures.1 in
    rw p.1 (λ h. no_context c.args.options (names_of c.args.names.now) c.args.text.now (regex_of c.in_ok-tree.field-0.tree) (place_of c.in_ok-tree.field-0.last) (rw (c.new.ensures, c.in_ok-from_slice.ensures.items, c.in-Slash.is) at c.in_ok-tree.ensures.ok)
    (λ t l n g a. c.in_err-trailing-in-Slash.ensures.refused (let e = p.2 in cc) t at_end l g))

pub returns-then-not-is_end-clause-refused : goal.returns-then-not-is_end-clause-refused
returns-then-not-is_end-clause-refused c = λ _.
    no_context c.args.options (names_of c.args.names.now) c.args.text.now (regex_of c.in_ok-tree.field-0.tree) (place_of c.in_ok-tree.field-0.last) (rw (c.new.ensures, c.in_ok-from_slice.ensures.items, c.in-Slash.is) at c.in_ok-tree.ensures.ok)
    (no_other c.args.options (names_of c.args.names.now) c.args.text.now (place_of c.in_ok-tree.field-0.last) (regex_of c.in_ok-trailing-in-Slash.field-0.tree) (stop_of c.in_ok-trailing-in-Slash.field-0.stop) (place_of c.in_ok-trailing-in-Slash.field-0.last) c.in_ok-trailing-in-Slash.ensures.ok
    (λ e. absurd (c.if-not-is_end.ensures.other refl e)))

pub returns-in-Some-finished-2-clause-reading : goal.returns-in-Some-finished-2-clause-reading
returns-in-Some-finished-2-clause-reading c =
    rw c.in-Some-finished-2.ensures.reading
    (is_with_context c.args.options (names_of c.args.names.now) c.args.text.now (regex_of c.in_ok-tree.field-0.tree) (regex_of c.in_ok-trailing-in-Slash.field-0.tree) (place_of c.in_ok-tree.field-0.last) (place_of c.in_ok-trailing-in-Slash.field-0.last) c.in-Some-finished-2.read.length _ (stop_of c.in_ok-trailing-in-Slash.field-0.stop) refl (c.if-not-is_end.ensures.end refl) (rw (c.new.ensures, c.in_ok-from_slice.ensures.items, c.in-Slash.is) at c.in_ok-tree.ensures.ok)
    c.in_ok-trailing-in-Slash.ensures.ok c.in-Some-finished-2.ensures.ends)

pub returns-clause-refused : goal.returns-clause-refused
returns-clause-refused c = λ _.
    no_context c.args.options (names_of c.args.names.now) c.args.text.now (regex_of c.in_ok-tree.field-0.tree) (place_of c.in_ok-tree.field-0.last) (rw (c.new.ensures, c.in_ok-from_slice.ensures.items, c.in-Slash.is) at c.in_ok-tree.ensures.ok)
    (no_other c.args.options (names_of c.args.names.now) c.args.text.now (place_of c.in_ok-tree.field-0.last) (regex_of c.in_ok-trailing-in-Slash.field-0.tree) (stop_of c.in_ok-trailing-in-Slash.field-0.stop) (place_of c.in_ok-trailing-in-Slash.field-0.last) c.in_ok-trailing-in-Slash.ensures.ok
    (λ _. c.in-None-finished-2.ensures.none refl))
