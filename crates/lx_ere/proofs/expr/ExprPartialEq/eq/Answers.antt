use Rattle.lx_ere.specs.Regex.{regex_of}
use Rattle.lx_ere.specs.EqualityLaws.{trees_decide}
use Rattle.lx_ere.proofs.expr.ExprPartialEq.eq.Goals as goal

pub returns-clause-same : goal.returns-clause-same
returns-clause-same c = rw c.same_tree.ensures (trees_decide (regex_of c.args.self.now) (regex_of c.args.other.now))
