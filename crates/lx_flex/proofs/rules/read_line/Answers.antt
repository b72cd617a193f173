use Rattle.std.proofs.Common.{◌≡◌, true, false, [], refl, sym, ◌∙◌}
use Rattle.lx_ere.specs.Brackets.{begins_with}
use Rattle.lx_flex.specs.RulesSections.{begins_list}
use Rattle.lx_flex.specs.States.{left, names_of, state_of}
use Rattle.lx_flex.proofs.Lines.{closing_read, code_read, listed_read, plain_read}
use Rattle.lx_flex.proofs.rules.read_line.Goals as goal

pub returns-then-branch : goal.returns-then-branch
returns-then-branch c =
    let yes : c.in_ok-read_code.field-0 ≡ true = cc in
    let code = c.in_ok-read_code.ensures.code yes in
    record { facts = λ clean. (clean, code_read _ _ _ _ _ (sym c.in_ok-read_code.ensures.was ∙ yes) code.0 code.1) }

pub returns-then-is_at : goal.returns-then-is_at
returns-then-is_at c =
    let no : c.in_ok-read_code.field-0 ≡ false = cc in
    let none = c.in_ok-read_code.ensures.none no in
    let begins : begins_with 125 (left c.skip_blanks.new.self) ≡ true = cc in
    record {
      facts = λ clean.
          let closed = c.in_ok-close_scope.ensures.closed.facts clean in (
            closed.0,
            closing_read (names_of c.args.declared.now) (left c.args.cursor.now) (left c.read_code.new.cursor) (left c.skip_blanks.new.self) (left c.close_scope.new.cursor)
                (state_of c.args.rules.now) (state_of c.read_code.new.rules) (state_of c.close_scope.new.rules)
                (sym c.in_ok-read_code.ensures.was ∙ no) none.0 none.1 c.skip_blanks.ensures.left begins c.in_ok-close_scope.ensures.further closed.1,
          );
    }

pub returns-then-begins_list : goal.returns-then-begins_list
returns-then-begins_list c =
    let no : c.in_ok-read_code.field-0 ≡ false = cc in
    let none = c.in_ok-read_code.ensures.none no in
    let begins : begins_list (left c.skip_blanks.new.self) ≡ true = cc in
    record {
      facts = λ clean.
          let read = c.in_ok-read_listed.ensures.facts clean in (
            read.0,
            listed_read (names_of c.args.declared.now) (left c.args.cursor.now) (left c.read_code.new.cursor) (left c.skip_blanks.new.self) (left c.read_listed.new.cursor)
                (state_of c.args.rules.now) (state_of c.read_code.new.rules) (state_of c.read_listed.new.rules)
                (sym c.in_ok-read_code.ensures.was ∙ no) none.0 none.1 c.skip_blanks.ensures.left begins read.1,
          );
    }

pub returns : goal.returns
returns c =
    let no : c.in_ok-read_code.field-0 ≡ false = cc in
    let none = c.in_ok-read_code.ensures.none no in
    let no_end : begins_with 125 (left c.skip_blanks.new.self) ≡ false = cc in
    let no_list : begins_list (left c.skip_blanks.new.self) ≡ false = cc in
    record {
      facts = λ clean.
          let rule = c.in_ok-read_rule.ensures.rule.facts clean in (
            rule.0,
            plain_read (names_of c.args.declared.now) (left c.args.cursor.now) (left c.read_code.new.cursor) (left c.skip_blanks.new.self) (left c.read_rule.new.cursor)
                (state_of c.args.rules.now) (state_of c.read_code.new.rules) (state_of c.read_rule.new.rules)
                (sym c.in_ok-read_code.ensures.was ∙ no) none.0 none.1 c.skip_blanks.ensures.left [] refl no_end no_list c.in_ok-read_rule.ensures.further rule.1,
          );
    }
