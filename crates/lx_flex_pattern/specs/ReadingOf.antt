-- The reading that a value of the code is.
use Rattle.std.specs.Option.{option_map}
use Rattle.lx_ere.specs.Regex.{regex_of}
use Rattle.lx_flex_pattern.specs.declared.reading.PatternReading.{PatternReading}
use Rattle.lx_flex_pattern.specs.Reading.{FlexReading}

abbrev pub reading_of : PatternReading → FlexReading
reading_of r = record {
  line_begin = r.pattern.line_begin;
  line_end = r.pattern.line_end;
  tree = regex_of r.pattern.expr;
  trailing = option_map regex_of r.trailing;
  length = r.length;
}
