use Rattle.std.proofs.Common.{◌∙◌, map, ap}
use Rattle.lx_automaton.specs.EncodedOptions.{decoded_option}
use Rattle.lx_tables.specs.Readers.{read_front, read_classes, read_states}
use Rattle.lx_tables.specs.Views.{front_view}
use Rattle.lx_tables.specs.declared.version.Version.TheVariants.{Second}
use Rattle.lx_tables.proofs.Onto.{second_is}
use Rattle.lx_tables.proofs.lenient.second_version.Goals as goal

pub returns : goal.returns
returns c =
    second_is c.args.text.now (front_view c.in_ok-front.front) c.count-width.result.0 c.in_ok-classes.classes.items (map decoded_option c.in_ok-accepted.accepted.items) (map decoded_option c.in_ok-accepted.targets.items)
    c.in_ok-front.rest.now c.count-width.result.1.now c.in_ok-classes.rest.now
    (c.in_ok-front.ensures ∙ ap read_front c.skip.ensures) c.count-width.ensures.value (c.in_ok-classes.ensures ∙ ap read_classes c.skip-2.ensures)
    (c.in_ok-accepted.ensures ∙ ap (read_states Second c.count-width.result.0) c.skip-3.ensures)
