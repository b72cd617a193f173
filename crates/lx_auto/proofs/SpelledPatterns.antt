-- Paths through the positions of a rule spell the texts of its pattern.
use Rattle.std.proofs.Common.{◌≡◌, ◌≢◌, ◌↔◌, ℕ, List, [], Some, sym, subst}
use Rattle.std.specs.Prelude.{slice_get}
use Rattle.lx_ere.specs.Matching.{Matches}
use Rattle.lx_rules.specs.Choice.{SpecNames}
use Rattle.lx_rules.specs.Invariant.{IsWellFormed}
use Rattle.lx_rules.specs.Plain.{PlainSpec}
use Rattle.lx_auto.specs.PositionSets.{NumberedRule, rules_of}
use Rattle.lx_auto.specs.Positions.{HasByte}
use Rattle.lx_auto.specs.Spelling.{IsSpelled}
use Rattle.lx_auto.specs.Unfolded.{ByteWord}
use Rattle.lx_auto.specs.WrittenOut.{pattern_written_out}
use Rattle.lx_auto.proofs.PatternWords.{pattern-words}
use Rattle.lx_auto.proofs.Reached.{numbered_rules}
use Rattle.lx_auto.proofs.RuleAnswers.{sound_patterns, tree_at}
use Rattle.lx_auto.proofs.RuleReached.{has_its_bytes, reached_at_end, bytes_at_end}

pub spelled_patterns : (spec : PlainSpec) (i : ℕ) (r : NumberedRule) (text : List ℕ) → IsWellFormed spec → slice_get (rules_of spec) i ≡ Some r → text ≢ [] →
    Matches (SpecNames spec) r.rule.reading.tree text ↔ IsSpelled r text
unfolding SpecNames
spelled_patterns spec i r text well at some =
    let sound = sound_patterns spec well in
    let plain = (numbered_rules spec (pattern_written_out spec.definitions)).rule_of i r at in
    let whole = pattern-words spec.definitions r.rule.reading.tree sound.distinct sound.ordered (sound.bounds i r.rule plain) (sound.within i r.rule plain) r.base text in
    let is = tree_at (pattern_written_out spec.definitions) 0 spec.rules i r at in
    let bytes = has_its_bytes (HasByte r.tree r.base) r.tree r.base (λ p b l u. ((λ x. x), (λ x. x))) in (
      (λ h.
          let end = reached_at_end (HasByte r.tree r.base) r.tree r.base text bytes (subst (λ t. ByteWord t r.base text) (sym is) (whole.0 h)) some in
          record { last = end.0; path = end.1; ends = end.2 }),
      (λ s. whole.1 (subst (λ t. ByteWord t r.base text) is (bytes_at_end (HasByte r.tree r.base) r.tree r.base s.last text bytes s.path s.ends))),
    )
