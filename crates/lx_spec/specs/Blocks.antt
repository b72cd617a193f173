-- The lines of an action: the shortest run at whose end no comment is open and no fewer braces are closed than opened.
use Rattle.std.specs.Prelude.{ℕ, ◌+◌, Bool, true, false, ◌&&◌, nat_eq, nat_le, if◌then◌else◌, List, [], ◌∷◌}
use Rattle.lx_spec.specs.declared.block.Mode.{Mode}
use Rattle.lx_spec.specs.declared.block.Mode.TheVariants.{Code, Slash, Comment, Star, LineComment, Quoted, Escaped}
use Rattle.lx_spec.specs.declared.block.Count.{Count}

abbrev pub behind_code : ℕ → Mode
behind_code c = if nat_eq c 47 then Slash else if nat_eq c 34 then Quoted 34 else if nat_eq c 39 then Quoted 39 else Code

-- the mode after the byte
abbrev pub next_mode : Mode → ℕ → Mode
next_mode Code c = behind_code c
next_mode Slash c = if nat_eq c 42 then Comment else if nat_eq c 47 then LineComment else behind_code c
next_mode Comment c = if nat_eq c 42 then Star else Comment
next_mode Star c = if nat_eq c 47 then Code else if nat_eq c 42 then Star else Comment
next_mode LineComment c = LineComment
next_mode (Quoted end) c = if nat_eq c 92 then Escaped end else if nat_eq c end then Code else Quoted end
next_mode (Escaped end) c = Quoted end

-- true if a brace counts
abbrev pub counts : Mode → Bool
counts Code = true
counts Slash = true
counts Comment = false
counts Star = false
counts LineComment = false
counts (Quoted end) = false
counts (Escaped end) = false

-- strings, constants and comments by // end at the line's end
abbrev pub behind_line : Mode → Mode
behind_line Code = Code
behind_line Slash = Code
behind_line Comment = Comment
behind_line Star = Comment
behind_line LineComment = Code
behind_line (Quoted end) = Code
behind_line (Escaped end) = Code

abbrev pub with_byte : Count → ℕ → Count
with_byte n c = record {
  opened = if counts n.mode && nat_eq c 123 then n.opened + 1 else n.opened;
  closed = if counts n.mode && nat_eq c 125 then n.closed + 1 else n.closed;
  mode = next_mode n.mode c;
}

abbrev pub with_bytes : Count → List ℕ → Count
with_bytes n [] = n
with_bytes n (c ∷ text) = with_bytes (with_byte n c) text

abbrev pub with_line : Count → List ℕ → Count
with_line n line = record (with_bytes n line) { mode = behind_line (with_bytes n line).mode }

abbrev pub with_lines : Count → List (List ℕ) → Count
with_lines n [] = n
with_lines n (line ∷ more) = with_lines (with_line n line) more

abbrev pub is_outside : Mode → Bool
is_outside Code = true
is_outside Slash = true
is_outside Comment = false
is_outside Star = false
is_outside LineComment = true
is_outside (Quoted end) = true
is_outside (Escaped end) = true

abbrev pub is_closed : Count → Bool
is_closed n = is_outside n.mode && nat_le n.opened n.closed

abbrev pub start : Count
start = record { opened = 0; closed = 0; mode = Code }
