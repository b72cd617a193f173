use Rattle.std.proofs.Common.{rules, ℕ, ◌<◌, ◌^◌, get_or}
use Rattle.std.specs.Bool.{one_answer}
use Rattle.lx_ere.specs.Equality.{same_sets}
use Rattle.lx_ere.specs.EqualityLaws.{sets_decide}
use Rattle.lx_ere.proofs.ByteLemmas.{words_decide}
use Rattle.lx_ere.proofs.set.ByteSetPartialEq.eq.Goals as goal

pub returns-clause-same : goal.returns-clause-same
returns-clause-same c =
    let fits : (k : ℕ) → k < 4 → get_or c.self.inside.words k 0 < 2 ^ 64 = search rules in
    let fits_other : (k : ℕ) → k < 4 → get_or c.other.inside.words k 0 < 2 ^ 64 = search rules in
    rw (← c.self.view_is, ← c.other.view_is, c.eq.ensures, c.as_slice-words.ensures, c.as_slice-others.ensures) (words_decide c.self.inside.words c.other.inside.words c.self.told c.other.told fits fits_other)

pub returns-clause-value : goal.returns-clause-value
returns-clause-value c = one_answer c.eq.result (same_sets c.args.self.now c.args.other.now) (returns-clause-same c) (sets_decide c.args.self.now c.args.other.now)
