use Rattle.lx_tool.proofs.given.read_given.Goals as goal

pub returns-clause-ok : goal.returns-clause-ok
returns-clause-ok g c = record {
  given = c.in_ok-files.ensures.ok;
  bytes = c.in_ok-files.ensures.bytes;
  cut_are = rw c.deref.ensures.value at c.in_ok-cut.ensures;
}
