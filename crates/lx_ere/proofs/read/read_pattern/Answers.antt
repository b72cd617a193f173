use Rattle.std.proofs.Common.{◌≡◌, ◌≤◌, length, sym, ◌∙◌, ap, subst, arith}
use Rattle.std.specs.Prelude.{Result, Err}
use Rattle.std.proofs.lemmas.Result.{err_from_is_err_and}
use Rattle.lx_ere.specs.declared.expr.Pattern.{Pattern}
use Rattle.lx_ere.specs.declared.fault.EreFault.{EreFault}
use Rattle.lx_ere.specs.declared.fault.EreFault.TheVariants.{NoReading}
use Rattle.lx_ere.specs.Limits.{max_pattern_bytes}
use Rattle.lx_ere.specs.Regex.{regex_of}
use Rattle.lx_ere.specs.Lexing.{body_of, ending_at, Reads}
use Rattle.lx_ere.specs.ChoiceLaws.{no_none}
use Rattle.lx_ere.proofs.ReadLemmas.{parts_of, of_parts, one_alternation, ending_complete, ending_sound}
use Rattle.lx_ere.proofs.read.read_pattern.Goals as goal

pub returns-in_err-expr-clause-refused : goal.returns-in_err-expr-clause-refused
returns-in_err-expr-clause-refused c =
    let p = err_from_is_err_and c.from_residual.result c.from_residual.ensures.1 in
    λ refused r pattern.
    let is : ◌≡◌ {A = Result Pattern EreFault} (Err (p.0)) (Err NoReading) = sym p.1 ∙ refused in
    let same : p.0 ≡ NoReading = cc in
    let parts = parts_of c.args.text.now r pattern in
    c.in_err-expr.ensures.refused (ap Err (sym p.2 ∙ same)) (r.tree) (parts.ending) (subst (λ t. Reads t (r.tree) (parts.ending)) (sym c.strip_caret.ensures) parts.reads)

pub returns-in-Some-clause-reading : goal.returns-in-Some-clause-reading
returns-in-Some-clause-reading c =
    let short : length c.args.text.now ≤ max_pattern_bytes = omega arith in
    of_parts c.args.text.now _ short (record {
      caret = c.begins_with-line_begin.ensures;
      ending = c.in_ok-expr.ending.now;
      reads = subst (λ t. Reads t (regex_of c.in_ok-expr.expr) c.in_ok-expr.ending.now) c.strip_caret.ensures c.in_ok-expr.ensures.reading;
      ends = ending_sound c.in_ok-expr.ending.now c.in-Some.line_end (sym c.in-Some.ensures);
    })

pub returns-in-None-clause-refused : goal.returns-in-None-clause-refused
returns-in-None-clause-refused c = λ _ r pattern.
    let parts = parts_of c.args.text.now r pattern in
    let reads : Reads (body_of c.args.text.now) (regex_of c.in_ok-expr.expr) c.in_ok-expr.ending.now = subst (λ t. Reads t (regex_of c.in_ok-expr.expr) c.in_ok-expr.ending.now) c.strip_caret.ensures c.in_ok-expr.ensures.reading in
    let same = one_alternation (body_of c.args.text.now) (r.tree) (regex_of c.in_ok-expr.expr) (parts.ending) c.in_ok-expr.ending.now parts.reads reads in
    no_none (r.line_end) (c.in-None.ensures ∙ (ap ending_at (sym same.1) ∙ ending_complete (parts.ending) (r.line_end) parts.ends))
