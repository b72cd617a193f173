use Rattle.std.proofs.Common.{◌≡◌, ◌<◌, drop, length, map}
use Rattle.lx_flex.specs.Activity.{number_from}
use Rattle.lx_flex.proofs.conditions.place_of.Given as goal

abbrev pub invariant-loop-condition : goal.invariant-loop-condition
invariant-loop-condition l = record {
  place : length l.conditions < 65536 → l.place ≡ l.condition-index;
  rest : number_from l.condition-index (map (λ c. c.name.items) (drop l.condition-index l.conditions)) l.name ≡ number_from 0 (map (λ c. c.name.items) l.conditions) l.name;
}
