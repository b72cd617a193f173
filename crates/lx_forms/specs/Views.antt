-- A form of the code, as plain values.
use Rattle.std.specs.Prelude.{map}
use Rattle.std.specs.Option.{option_map}
use Rattle.lx_forms.specs.declared.form.Form.{Form}
use Rattle.lx_forms.specs.Forms.{PlainForm}

abbrev pub form_view : Form → PlainForm
form_view form = record {
  first = form.first;
  names = option_map (λ names. map (λ name. name.items) names.now) form.names;
  only = form.only;
  text = form.text;
  format = form.format;
}
