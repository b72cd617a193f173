use Rattle.std.proofs.Common.{◌≡◌, ◌<◌, Bool, true, false, length, nat_eq, sym, ap, ◌∙◌, arith}
use Rattle.std.proofs.lemmas.Bool.{eqb-true, eqb-false}
use Rattle.lx_flex.specs.RulesSections.{is_code}
use Rattle.lx_flex.specs.States.{State, left}
use Rattle.lx_flex.proofs.Advancing.{empty_list, further_shorter, skips_all, skips_more, skips_to}
use Rattle.lx_flex.proofs.rules.skip_code.Goals as goal

pub returns-then-is_at_end-clause-code : goal.returns-then-is_at_end-clause-code
returns-then-is_at_end-clause-code c =
    let e : nat_eq (length (left c.loop.cursor)) 0 ≡ true = cc in
    skips_all _ _ c.loop.invariant.skips (empty_list _ (eqb-true _ _ e))

pub returns-then-not-branch-clause-code : goal.returns-then-not-branch-clause-code
returns-then-not-branch-clause-code c =
    let first : c.loop.rules.prologue ≡ false = ap (λ (s : State). s.first) c.loop.invariant.same ∙ c.requires in
    let no : c.in_ok-read_code.field-0 ≡ false = cc in
    let was : is_code false (left c.loop.cursor) ≡ false = sym (ap (λ (b : Bool). is_code b (left c.loop.cursor)) first) ∙ (sym c.in_ok-read_code.ensures.was ∙ no) in
    skips_to _ _ _ c.loop.invariant.skips was (c.in_ok-read_code.ensures.none no).0

pub loop-preserved : goal.loop-preserved
loop-preserved c =
    let first : c.loop.rules.prologue ≡ false = ap (λ (s : State). s.first) c.loop.invariant.same ∙ c.requires in
    let yes : c.in_ok-read_code.field-0 ≡ true = cc in
    let was : is_code false (left c.loop.cursor) ≡ true = sym (ap (λ (b : Bool). is_code b (left c.loop.cursor)) first) ∙ (sym c.in_ok-read_code.ensures.was ∙ yes) in
    let code = c.in_ok-read_code.ensures.code yes in
    let e : nat_eq (length (left c.loop.cursor)) 0 ≡ false = cc in
    let none = eqb-false (length (left c.loop.cursor)) 0 e in
    let some : 0 < length (left c.loop.cursor) = omega arith in
    record {
      skips = skips_more _ _ _ c.loop.invariant.skips was code.0;
      same = code.1 ∙ c.loop.invariant.same;
      turns = further_shorter _ _ _ _ code.0 c.loop.invariant.turns some;
    }

pub returns-clause-code : goal.returns-clause-code
returns-clause-code c = skips_all _ _ c.loop.invariant.skips (empty_list _ (omega arith))
