use Rattle.std.proofs.Common.{◌≤◌, length, map, vec_len}
use Rattle.lx_forms.specs.NameLists.{HasRead}
use Rattle.lx_forms.proofs.name_list.push_names.Given as goal

abbrev pub invariant-loop-rest : goal.invariant-loop-rest
invariant-loop-rest l =
    HasRead l.separator l.text (map (λ name. name.now) l.fn.names.items) (map (λ name. name.now) l.names.items) l.rest × (vec_len l.fn.names ≤ l.most → vec_len l.names ≤ l.most)

abbrev pub decreases-loop-rest : goal.decreases-loop-rest
decreases-loop-rest l = length l.rest
