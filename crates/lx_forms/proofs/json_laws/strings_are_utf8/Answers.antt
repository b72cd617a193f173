use Rattle.std.proofs.lemmas.Str.{IsUtf8-from_is_utf8, is_utf8-from_IsUtf8}
use Rattle.lx_forms.proofs.json_laws.strings_are_utf8.Goals as goal

pub returns : goal.returns
returns c = λ bytes. (IsUtf8-from_is_utf8 bytes, is_utf8-from_IsUtf8 bytes)
