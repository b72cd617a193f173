use Rattle.std.proofs.Common.{◌∙◌, ℕ, List, Option, map, ap}
use Rattle.lx_automaton.specs.EncodedOptions.{decoded_option}
use Rattle.lx_tables.specs.Readers.{onto, read_row, class_of}
use Rattle.lx_tables.specs.declared.version.Version.TheVariants.{First}
use Rattle.lx_tables.proofs.Onto.{pair}
use Rattle.lx_tables.proofs.lenient.classes.Goals as goal

pub returns : goal.returns
returns c =
    ap (λ (xs : List ℕ). pair xs c.in_ok-rest.rest.now) (c.in_ok-classes_of_encoded_options.ensures ∙ ap (λ (ws : List ℕ). map class_of (map decoded_option ws)) c.deref.ensures.value)
    ∙ ap (λ (p : List (Option ℕ) × List ℕ). pair (map class_of p.0) p.1)
    (c.in_ok-rest.ensures ∙ ap (λ (ws : List ℕ). onto (map decoded_option ws) (read_row First 256 256 0 c.args.text.now)) c.new-encoded_options.ensures.items)
