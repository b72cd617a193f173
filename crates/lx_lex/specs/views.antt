-- The meaning of the code's values.
use Rattle.std.specs.Option.{option_map}
use Rattle.lx_flex_pattern.specs.ReadingOf.{reading_of}
use Rattle.lx_flex.specs.declared.rules.FlexRule.{FlexRule}
use Rattle.lx_lex.specs.Translation.{FileRule}

abbrev pub file_rule : FlexRule → FileRule
file_rule r = record { line = r.place.line; conditions = option_map (λ v. v.items) r.conditions; reading = option_map reading_of r.reading }
