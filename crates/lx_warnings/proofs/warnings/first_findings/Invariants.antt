use Rattle.std.proofs.Common.{◌≡◌, All, length, min, true}
use Rattle.lx_warnings.specs.Kinds.{has_kind}
use Rattle.lx_warnings.specs.Told.{IsTold}
use Rattle.lx_warnings.proofs.warnings.first_findings.Given as goal

abbrev pub invariant-loop-suspect : goal.invariant-loop-suspect
invariant-loop-suspect l = record {
  told : All (IsTold l.text) l.told.items;
  asked : All (λ warning. has_kind l.asked warning.kind ≡ true) l.told.items;
  most : length l.told.items ≡ min l.count l.most;
}
