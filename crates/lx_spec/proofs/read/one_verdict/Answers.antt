use Rattle.lx_spec.proofs.OneVerdict.{one-fault, one-read, no-fault}
use Rattle.lx_spec.proofs.read.one_verdict.Goals as goal

pub returns : goal.returns
returns c = record {
  fault = one-fault c.one_substitute.ensures;
  spec = one-read c.one_substitute.ensures c.one_reading.ensures;
  apart = no-fault c.one_substitute.ensures;
}
