use Rattle.std.proofs.Common.{◌≡◌, ◌+◌, ◌≤◌, drop, map}
use Rattle.lx_tool.specs.Naming.{inputs_among}
use Rattle.lx_tool.proofs.asked.inputs_among.Given as goal

abbrev pub invariant-loop-name : goal.invariant-loop-name
invariant-loop-name l = record {
  rest : l.count + inputs_among (drop l.name-index (map (λ name. name.now) l.names)) ≡ inputs_among (map (λ name. name.now) l.names);
  few : l.count ≤ l.name-index;
}
