use Rattle.std.proofs.Common.{◌≡◌, sym, subst, ◌∙◌}
use Rattle.std.specs.FinSet as byte_sets
use Rattle.lx_ere.specs.Bytes.{bytes_where, has_bit}
use Rattle.lx_ere.specs.ByteLaws.{own_bytes}
use Rattle.lx_ere.proofs.set.ByteSet.duplicate.Goals as goal

pub returns : goal.returns
returns c = record {
  same = c.self.view_is;
  listed = rw (← c.self.view_is) (own_bytes (has_bit c.self.inside.words));
}
