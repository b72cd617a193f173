use Rattle.lx_spec.proofs.Fields.{field-next, field-last}
use Rattle.lx_spec.proofs.prefix.next_field.Goals as goal

pub returns-in-Some : goal.returns-in-Some
returns-in-Some c = field-next c.args.text.now c.field_len-n.result c.in-Some.field-0-0.now c.in-Some.rest.now c.field_len-n.ensures.value c.in-Some.ensures.cases.0

pub returns-in-None : goal.returns-in-None
returns-in-None c = field-last c.args.text.now c.field_len-n.result c.field_len-n.ensures.value c.in-None.ensures.cases
