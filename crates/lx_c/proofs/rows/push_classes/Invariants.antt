use Rattle.std.proofs.Common.{◌++◌}
use Rattle.lx_c.proofs.Texts.{HasTexts}
use Rattle.lx_c.specs.Rows.{entry_text}
use Rattle.std.specs.Prelude.{slice_index}
use Rattle.lx_c.specs.Templates.{filled}
use Rattle.lx_c.specs.declared.templates.TheConstants.{CLASSES}
use Rattle.lx_c.proofs.rows.push_classes.Given as goal

abbrev pub invariant-loop-byte : goal.invariant-loop-byte
invariant-loop-byte l = HasTexts (λ b. entry_text (slice_index l.tables.machine.classes b)) (l.fn.text.items ++ filled l.options.prefix CLASSES.now) l.text.items l.byte
