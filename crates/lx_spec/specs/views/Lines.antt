-- The lines of the code, without their places in memory.
use Rattle.lx_spec.specs.Bytes.{words_of}
use Rattle.lx_spec.specs.Lines as line
use Rattle.lx_spec.specs.declared.line.Line.{Line}
use Rattle.lx_spec.specs.declared.line.Line.TheVariants.{Skipped, OpensComment, OpensGroup, RulesBegin, Conditions, Definition, NoForm}

abbrev pub line_view : Line → line.Line
line_view Skipped = line.skipped
line_view OpensComment = line.opens_comment
line_view OpensGroup = line.opens_group
line_view RulesBegin = line.rules_begin
line_view (Conditions exclusive names) = line.declares exclusive (words_of names.now)
line_view (Definition name substitute) = line.defines name.now substitute.now
line_view NoForm = line.no_form
