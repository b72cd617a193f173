use Rattle.std.proofs.Math.Path.{fun_ext}
use Rattle.lx_ere.specs.PatternEnd.{pattern_end}
use Rattle.lx_spec.proofs.read.patterns_end.Goals as goal

pub returns-clause-one : goal.returns-clause-one
returns-clause-one c = λ ends is. fun_ext (λ text. c.one_pattern_end.ensures text (ends text) (pattern_end text) (is text) (c.some_pattern_end.ensures.there text))
