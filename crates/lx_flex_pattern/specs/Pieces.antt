-- The meaning of the code's states, parts and definitions.
use Rattle.std.specs.Prelude.{ℕ, if◌then◌else◌, List, [], ◌∷◌, ◌++◌, map, reverse, Option}
use Rattle.std.specs.Option.{option_map}
use Rattle.std.specs.BTreeMap.{get_by}
use Rattle.std.specs.Cmp.Lexicographic.{slice_cmp}
use Rattle.std.specs.Ordering.{nat_cmp}
use Rattle.lx_ere.specs.Grammar.{Lexeme, interval, repeat}
use Rattle.lx_ere.specs.Lexemes.{lexeme_of}
use Rattle.lx_flex_pattern.specs.declared.bounds.Interval.{Interval}
use Rattle.lx_flex_pattern.specs.declared.lexing.Pending as code_pending
use Rattle.lx_flex_pattern.specs.declared.lexing.Pending.TheVariants as waiting
use Rattle.lx_flex_pattern.specs.declared.lexing.PatternState.{PatternState}
use Rattle.lx_flex_pattern.specs.declared.lexing.Piece as code_piece
use Rattle.lx_flex_pattern.specs.declared.lexing.Piece.TheVariants as part
use Rattle.lx_flex_pattern.specs.declared.names.NamedPattern.{NamedPattern}
use Rattle.lx_flex_pattern.specs.declared.names.NamedPatterns.{NamedPatterns}
use Rattle.lx_flex_pattern.specs.Lexing.{Definition, Pending, nothing, brackets, without, with, State, Piece, goes, inserts, ends, ends_line, slash, wrong}

abbrev pub definition_of : NamedPattern → Definition
definition_of d = record { text = d.text.items; kept = option_map (λ n. n.items) d.lx_name }

-- the definition of a name
abbrev pub names_of : NamedPatterns → List ℕ → Option Definition
names_of names name = option_map definition_of (get_by (λ key. slice_cmp nat_cmp name key.items) names.entries)

abbrev pub pending_of : code_pending.Pending → Pending
pending_of waiting.Nothing = nothing
pending_of (waiting.Brackets b) = brackets b.set
pending_of (waiting.Without b) = without b.set
pending_of (waiting.With b) = with b.set

abbrev pub state_of : PatternState → State
state_of s = record { flags = s.flags; outer = reverse s.outer.items; pending = pending_of s.pending; fresh = s.fresh; line_begin = s.line_begin; in_context = s.in_context }

-- the lexeme of an interval
abbrev pub interval_of : Interval → Lexeme
interval_of i = if i.repeats_branch then interval i.bounds.low i.bounds.high else repeat i.bounds.low i.bounds.high

abbrev pub piece_of : code_piece.Piece → Piece
piece_of (part.Repeats ls i s rest) = goes (map lexeme_of ls.items ++ interval_of i ∷ []) (state_of s) rest.now
piece_of (part.Goes ls s rest) = goes (map lexeme_of ls.items) (state_of s) rest.now
piece_of (part.Inserts ls s front rest) = inserts (map lexeme_of ls.items) (state_of s) front.items rest.now
piece_of (part.Ends ls s rest) = ends (map lexeme_of ls.items) (state_of s) rest.now
piece_of (part.EndsLine ls s rest) = ends_line (map lexeme_of ls.items) (state_of s) rest.now
piece_of (part.Slash ls s rest) = slash (map lexeme_of ls.items) (state_of s) rest.now
piece_of (part.Wrong f) = wrong
