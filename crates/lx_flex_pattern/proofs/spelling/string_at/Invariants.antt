use Rattle.std.proofs.Common.{suc, ◌-◌, length}
use Rattle.lx_ere.specs.ScanLaws.{Fueled}
use Rattle.lx_flex_pattern.specs.Spelling.{point_at}
use Rattle.lx_flex_pattern.proofs.spelling.string_at.Given as goal

abbrev pub invariant-loop-byte : goal.invariant-loop-byte
invariant-loop-byte l = Fueled point_at 34 l.text l.bytes.items (suc (length l.text - l._byte-index)) l.rest
