use Rattle.std.proofs.Common.{◌≡◌, length}
use Rattle.std.specs.List.{list_all}
use Rattle.lx_rules.specs.Identifiers.{is_identifier}
use Rattle.lx_spec.specs.Bytes as bytes
use Rattle.lx_spec.proofs.line.are_identifiers.Given as goal

abbrev pub invariant-loop-word : goal.invariant-loop-word
invariant-loop-word l = list_all is_identifier (bytes.words_of l.rest) ≡ list_all is_identifier (bytes.words_of l.text)

abbrev pub decreases-loop-word : goal.decreases-loop-word
decreases-loop-word l = length l.rest
