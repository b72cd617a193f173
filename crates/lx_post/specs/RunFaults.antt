-- The fault of a run whose relay ended before its arrivals did.
use Rattle.lx_piece.specs.declared.delivering.RelayFault.{RelayFault}
use Rattle.lx_piece.specs.declared.delivering.RelayFault.TheVariants as relay
use Rattle.lx_post.specs.declared.run_fault.RunFault.{RunFault}
use Rattle.lx_post.specs.declared.run_fault.RunFault.TheVariants as run

abbrev pub run_fault_of : RelayFault → RunFault
run_fault_of relay.Reader = run.Reader
run_fault_of relay.Memory = run.Memory
