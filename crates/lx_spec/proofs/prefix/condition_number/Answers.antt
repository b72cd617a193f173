use Rattle.std.proofs.Common.{◌∙◌, sym, nat_eq}
use Rattle.std.specs.Cmp.Lexicographic.{pointwise}
use Rattle.lx_spec.specs.views.Sections.{start_condition_view}
use Rattle.lx_spec.proofs.Words.{pick_second}
use Rattle.lx_spec.proofs.Rows.{position-map}
use Rattle.lx_spec.proofs.prefix.condition_number.Goals as goal

pub returns-else-is_zero-clause-number : goal.returns-else-is_zero-clause-number
returns-else-is_zero-clause-number c =
    c.place_in.ensures.place ∙ sym (position-map (λ s. pointwise nat_eq s.name c.args.name.now) start_condition_view c.args.start_conditions.now) ∙ sym (pick_second _ _ (sym c.is_zero.ensures ∙ c.if-is_zero.false))
