use Rattle.std.proofs.Common.{◌≡◌, drop}
use Rattle.lx_ere.specs.Bytes.{byte_set}
use Rattle.lx_ere.specs.Regex.{regex_of, one_of}
use Rattle.lx_ere.specs.Grammar.{joined}
use Rattle.lx_ere.proofs.groups.join_bytes.Given as goal

abbrev pub invariant-loop-byte : goal.invariant-loop-byte
invariant-loop-byte l = joined (regex_of l.string) (drop l.byte-index l.more) ≡ joined (one_of (byte_set l.first)) l.more
