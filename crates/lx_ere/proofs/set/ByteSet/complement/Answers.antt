use Rattle.std.proofs.Common.{◌≡◌, not, subst, ◌∙◌, arith}
use Rattle.std.specs.FinSet as byte_sets
use Rattle.lx_ere.specs.Bytes.{bytes_where, has_bit}
use Rattle.lx_ere.specs.ByteLaws.{own_bytes}
use Rattle.lx_ere.proofs.ByteLemmas.{complement_is}
use Rattle.lx_ere.proofs.set.ByteSet.complement.Goals as goal

pub returns-clause-others : goal.returns-clause-others
returns-clause-others c =
    rw (← c.self.view_is)
    (complement_is c.self.inside.words c.self.told (omega arith) (omega arith) (omega arith) (omega arith) (λ b. byte_sets.contains (bytes_where (has_bit c.self.inside.words)) b) (own_bytes (has_bit c.self.inside.words)))

pub returns-clause-tested : goal.returns-clause-tested
returns-clause-tested c = λ test e. complement_is c.self.inside.words c.self.told (omega arith) (omega arith) (omega arith) (omega arith) test (c.self.view_is ∙ e)
