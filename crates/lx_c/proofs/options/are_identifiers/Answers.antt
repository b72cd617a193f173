use Rattle.std.proofs.Common.{sym, ◌∙◌}
use Rattle.std.proofs.lemmas.List.Folds.{list_all-map}
use Rattle.lx_rules.specs.Identifiers.{is_identifier}
use Rattle.lx_c.proofs.options.are_identifiers.Goals as goal

pub returns : goal.returns
returns c = c.all_are_identifiers.ensures ∙ sym (list_all-map is_identifier (λ name. name.items) c.args.names.now)
