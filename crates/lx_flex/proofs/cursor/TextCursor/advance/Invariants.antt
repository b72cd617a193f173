use Rattle.std.proofs.Common.{◌≡◌}
use Rattle.lx_flex.proofs.cursor.TextCursor.advance.Given as goal

abbrev pub invariant-loop-byte : goal.invariant-loop-byte
invariant-loop-byte l = record { at : l.self.at ≡ l.initial.self.at; text : l.self.text.now ≡ l.initial.self.text.now }
