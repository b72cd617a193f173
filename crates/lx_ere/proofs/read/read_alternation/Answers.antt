use Rattle.std.proofs.Common.{sym}
use Rattle.lx_ere.specs.Regex.{regex_of}
use Rattle.lx_ere.specs.Groups.{groups_of}
use Rattle.lx_ere.specs.Lexemes.{lexeme_of}
use Rattle.lx_ere.proofs.ReadLemmas.{Reached-step, Reached-end, Reached-no_end, Reached-no_step, lexeme_shorter}
use Rattle.lx_ere.proofs.read.read_alternation.Goals as goal

pub returns-in_default-2-clause-refused : goal.returns-in_default-2-clause-refused
returns-in_default-2-clause-refused c = λ _.
    Reached-no_step c.args.text.now c.loop-groups.rest.now (groups_of c.loop-groups.groups) (lexeme_of c.in-Some.lexeme) c.in-Some.behind.now
    (sym (rw c.in-Some.is at c.in_ok-lexeme.ensures)) (sym (rw c.in_default-2.is at c.in_ok-next.ensures)) c.loop-groups.invariant

pub loop-groups-smaller : goal.loop-groups-smaller
loop-groups-smaller c = lexeme_shorter c.loop-groups.rest.now (lexeme_of c.in-Some.lexeme) c.in-Some.behind.now (sym (rw c.in-Some.is at c.in_ok-lexeme.ensures))

pub loop-groups-preserved : goal.loop-groups-preserved
loop-groups-preserved c =
    Reached-step c.args.text.now c.loop-groups.rest.now (groups_of c.loop-groups.groups) (groups_of c.in-Some-2.next) (lexeme_of c.in-Some.lexeme) c.in-Some.behind.now
    (sym (rw c.in-Some.is at c.in_ok-lexeme.ensures)) (sym (rw c.in-Some-2.is at c.in_ok-next.ensures)) c.loop-groups.invariant

pub returns-in-Some-3-clause-reading : goal.returns-in-Some-3-clause-reading
returns-in-Some-3-clause-reading c =
    Reached-end c.args.text.now c.loop-groups.rest.now (groups_of c.loop-groups.groups) (regex_of c.in-Some-3.tree)
    (sym (rw c.in_default.is at c.in_ok-lexeme.ensures)) c.loop-groups.invariant (sym (rw c.in-Some-3.is at c.in_ok-tree.ensures))

pub returns-in-None-clause-refused : goal.returns-in-None-clause-refused
returns-in-None-clause-refused c = λ _.
    Reached-no_end c.args.text.now c.loop-groups.rest.now (groups_of c.loop-groups.groups)
    (sym (rw c.in_default.is at c.in_ok-lexeme.ensures)) c.loop-groups.invariant (sym (rw c.in-None.is at c.in_ok-tree.ensures))
