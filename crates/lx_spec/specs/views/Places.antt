-- The place of a line, in the code, without its place in memory.
use Rattle.std.specs.Prelude.{Option}
use Rattle.std.specs.Option.{option_map}
use Rattle.lx_spec.specs.Sections as plain
use Rattle.lx_spec.specs.views.Sections.{raw_rule_view, sections_view}
use Rattle.lx_spec.specs.declared.parsed_sections.ParsedSections.{ParsedSections}
use Rattle.lx_spec.specs.declared.section.LineContext.{LineContext}
use Rattle.lx_spec.specs.declared.section.LineContext.TheVariants.{Definitions, Comment, Group, Rules, RulesGroup, Action}

abbrev pub place_view : LineContext → plain.LineContext
place_view Definitions = plain.definitions
place_view (Comment since) = plain.comment since
place_view (Group since) = plain.group since
place_view Rules = plain.rules
place_view (RulesGroup since) = plain.rules_group since
place_view (Action begun) = plain.action (raw_rule_view begun.rule) begun.count

-- the contents once a line was taken, and the place of the next line
abbrev pub taken_view : ParsedSections × Option LineContext → plain.ParsedSections × Option plain.LineContext
taken_view taken = (sections_view taken.0, option_map place_view taken.1)
