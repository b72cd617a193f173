-- The parts of a flex pattern, one after the other, as flex's own scanner takes them (flex's manual, "Patterns").
use Rattle.std.specs.Prelude.{ℕ, ◌-◌, Bool, true, false, not, ◌&&◌, ◌||◌, nat_eq, if◌then◌else◌, List, [], ◌∷◌, ◌++◌, length, drop, map, slice_get, Option, Some, None}
use Rattle.std.specs.Option.{option_and_then}
use Rattle.std.specs.Ordering.{nat_cmp}
use Rattle.std.specs.FinSet as set
use Rattle.lx_ere.specs.Brackets.{begins_with}
use Rattle.lx_ere.specs.Bytes.{bytes_where, is_between}
use Rattle.lx_ere.specs.Grammar.{Lexeme, set_of, name, interval, repeat, empty_word, open_group, close_group, bar}
use Rattle.lx_ere.specs.Lexing.{begins_pair, starts_digit}
use Rattle.lx_flex_pattern.specs.declared.flags.Flags.{Flags}
use Rattle.lx_flex_pattern.specs.declared.options.PatternOptions.{PatternOptions}
use Rattle.lx_flex_pattern.specs.Sets.{byte_set, union, difference}
use Rattle.lx_flex_pattern.specs.Spelling.{escape_at, string_at, name_at, interval_at, brackets_at}

-- A definition: its text, and its name if it stays a name in what is read.
pub record Definition : Type 0 where
  pub text : List ℕ
  pub kept : Option (List ℕ)

-- Brackets after which `{-}` or `{+}` may follow, or that follow one of these: none, the set so far, or the set and the operation that waits for brackets.
pub data Pending : Type 0 where
  nothing : Pending
  brackets : set.FinSet nat_cmp → Pending
  without : set.FinSet nat_cmp → Pending
  with : set.FinSet nat_cmp → Pending

-- The flags of the innermost group, and those of the groups around it, the innermost first; the brackets that aren't a unit yet; true if nothing was read;
-- true if a `^` was read; true after the `/` of a trailing context.
pub record State : Type 0 where
  pub flags : Flags
  pub outer : List Flags
  pub pending : Pending
  pub fresh : Bool
  pub line_begin : Bool
  pub in_context : Bool

-- nothing was read yet
abbrev pub initial : PatternOptions → State
initial o = record { flags = record { fold = o.fold; dot_all = false; extended = false }; outer = []; pending = nothing; fresh = true; line_begin = false; in_context = false }

-- the next part
pub data Piece : Type 0 where
  -- lexemes; the state and the text after them
  goes : List Lexeme → State → List ℕ → Piece
  -- lexemes, and a definition's text that is read next, before the text after it
  inserts : List Lexeme → State → (front rest : List ℕ) → Piece
  -- lexemes, and the end of the pattern
  ends : List Lexeme → State → List ℕ → Piece
  -- the same with a `$` before it
  ends_line : List Lexeme → State → List ℕ → Piece
  -- lexemes, and the `/` of a trailing context, which follows
  slash : List Lexeme → State → List ℕ → Piece
  -- nothing that flex reads
  wrong : Piece

-- the lexemes of the brackets that wait, unless brackets have to follow
abbrev pub flushed : Pending → Option (List Lexeme)
flushed nothing = Some []
flushed (brackets s) = Some (set_of s ∷ [])
flushed (without s) = None
flushed (with s) = None

-- a part after the brackets that wait
abbrev pub behind : Option (List Lexeme) → (List Lexeme → Piece) → Piece
behind None make = wrong
behind (Some ls) make = make ls

-- nothing waits
abbrev pub settled : State → State
settled st = record { flags = st.flags; outer = st.outer; pending = nothing; fresh = st.fresh; line_begin = st.line_begin; in_context = st.in_context }

-- something was read, and this waits
abbrev pub waits : State → Pending → State
waits st pending = record { flags = st.flags; outer = st.outer; pending = pending; fresh = false; line_begin = st.line_begin; in_context = st.in_context }

-- the group with these flags is the innermost one
abbrev pub in_group : State → Flags → List Flags → State
in_group st flags outer = record { flags = flags; outer = outer; pending = nothing; fresh = false; line_begin = st.line_begin; in_context = st.in_context }

-- a `^` was read
abbrev pub at_line_begin : State → State
at_line_begin st = record { flags = st.flags; outer = st.outer; pending = st.pending; fresh = false; line_begin = true; in_context = st.in_context }

abbrev pub takes : State → List Lexeme → List ℕ → Piece
takes st ls rest = behind (flushed st.pending) (λ ms. goes (ms ++ ls) (waits st nothing) rest)

-- one byte of a set
abbrev pub takes_set : State → set.FinSet nat_cmp → List ℕ → Piece
takes_set st s rest = takes st (set_of s ∷ []) rest

-- comments and blanks are as if they weren't there
abbrev pub skips : State → Option (List ℕ) → Piece
skips st None = wrong
skips st (Some rest) = goes [] st rest

abbrev pub byte_piece : State → Option (ℕ × List ℕ) → Piece
byte_piece st None = wrong
byte_piece st (Some f) = takes_set st (byte_set st.flags.fold f.0) f.1

-- A quoted string is the empty word, or a group of its bytes.
abbrev pub string_lexemes : Bool → List ℕ → List Lexeme
string_lexemes fold [] = empty_word ∷ []
string_lexemes fold (b ∷ bytes) = open_group ∷ (map (λ c. set_of (byte_set fold c)) (b ∷ bytes) ++ close_group ∷ [])

abbrev pub string_piece : State → Option (List ℕ × List ℕ) → Piece
string_piece st None = wrong
string_piece st (Some f) = takes st (string_lexemes st.flags.fold f.0) f.1

-- brackets, which an operation before them may take
abbrev pub joined : State → Pending → set.FinSet nat_cmp → List ℕ → Piece
joined st nothing t rest = goes [] (waits st (brackets t)) rest
joined st (brackets s) t rest = goes (set_of s ∷ []) (waits st (brackets t)) rest
joined st (without s) t rest = goes [] (waits st (brackets (difference s t))) rest
joined st (with s) t rest = goes [] (waits st (brackets (union s t))) rest

abbrev pub brackets_piece : State → Option (set.FinSet nat_cmp × List ℕ) → Piece
brackets_piece st None = wrong
brackets_piece st (Some f) = joined st st.pending f.0 f.1

-- `{-}` or `{+}` after brackets
abbrev pub operates : State → Pending → (set.FinSet nat_cmp → Pending) → List ℕ → Piece
operates st nothing make rest = wrong
operates st (brackets s) make rest = goes [] (waits st (make s)) rest
operates st (without s) make rest = wrong
operates st (with s) make rest = wrong

-- the set of a period
abbrev pub period_set : Bool → set.FinSet nat_cmp
period_set dot_all = bytes_where (λ b. dot_all || not (is_between 10 10 b))

-- the text after the next `)`
abbrev pub behind_paren : List ℕ → Option (List ℕ)
behind_paren [] = None
behind_paren (c ∷ text) = if nat_eq c 41 then Some text else behind_paren text

-- the text after the next `*/`
abbrev pub behind_comment : List ℕ → Option (List ℕ)
behind_comment [] = None
behind_comment (c ∷ text) = if nat_eq c 42 && begins_with 47 text then Some (drop 1 text) else behind_comment text

-- the flags with this one switched
abbrev pub with_flag : Flags → ℕ → Bool → Option Flags
with_flag flags c on =
    if nat_eq c 105 then Some (record { fold = on; dot_all = flags.dot_all; extended = flags.extended })
    else if nat_eq c 115 then Some (record { fold = flags.fold; dot_all = on; extended = flags.extended })
    else if nat_eq c 120 then Some (record { fold = flags.fold; dot_all = flags.dot_all; extended = on })
    else None

-- the flags that are switched on, and after a `-` off, up to the colon
abbrev pub flags_at : Flags → Bool → List ℕ → Option (Flags × List ℕ)
flags_at flags on [] = None
flags_at flags on (c ∷ text) =
    if nat_eq c 58 then Some (flags, text)
    else if nat_eq c 45 && on then flags_at flags false text
    else option_and_then (λ next. flags_at next on text) (with_flag flags c on)

abbrev pub opens : State → Flags → List ℕ → Piece
opens st flags rest = behind (flushed st.pending) (λ ms. goes (ms ++ open_group ∷ []) (in_group st flags (st.flags ∷ st.outer)) rest)

abbrev pub opens_with : State → Option (Flags × List ℕ) → Piece
opens_with st None = wrong
opens_with st (Some f) = opens st f.0 f.1

-- a group, starting after its `(`; or the comment `(?# )`
abbrev pub group_piece : PatternOptions → State → List ℕ → Piece
group_piece o st text =
    if o.posix || not (begins_with 63 text) then opens st st.flags text
    else if begins_with 35 (drop 1 text) then skips st (behind_paren (drop 2 text))
    else opens_with st (flags_at st.flags true (drop 1 text))

-- the end of a group, after which the flags are those before it
abbrev pub closes : State → List Flags → List ℕ → Piece
closes st [] rest = wrong
closes st (flags ∷ outer) rest = behind (flushed st.pending) (λ ms. goes (ms ++ close_group ∷ []) (in_group st flags outer) rest)

abbrev pub same_flag : Bool → Bool → Bool
same_flag true b = b
same_flag false b = not b

-- The flags are those of the whole file, so a definition's name means the same as in its own line.
abbrev pub is_plain : PatternOptions → Flags → Bool
is_plain o flags = same_flag flags.fold o.fold && (not flags.dot_all && not flags.extended)

abbrev pub kept_name : PatternOptions → State → Definition → Option (List ℕ)
kept_name o st d = if is_plain o st.flags && not o.bare_names then d.kept else None

abbrev pub is_byte : ℕ → Option ℕ → Bool
is_byte c None = false
is_byte c (Some d) = nat_eq d c

-- `$` is the last byte
abbrev pub ends_in_dollar : List ℕ → Bool
ends_in_dollar text = is_byte 36 (slice_get text (length text - 1))

-- white space in the C locale is next
abbrev pub starts_space : List ℕ → Bool
starts_space [] = false
starts_space (c ∷ text) = is_between 9 13 c || nat_eq c 32

-- A definition's name that ends a trailing context. flex reads its text without parentheses.
abbrev pub ends_context : State → List ℕ → Bool
ends_context st rest = st.in_context && (not st.flags.extended && starts_space rest)

-- A definition's text is read as if it stood in parentheses, unless it begins with `^` or ends in `$`, names are bare, or it ends a trailing context.
abbrev pub inserted_text : PatternOptions → Bool → List ℕ → List ℕ
inserted_text o last text = if o.bare_names || (begins_with 94 text || (ends_in_dollar text || last)) then text else 40 ∷ (text ++ 41 ∷ [])

abbrev pub insertion : PatternOptions → State → List ℕ → List ℕ → Piece
insertion o st text rest =
    if begins_with 94 text && not st.fresh then wrong
    else behind (flushed st.pending) (λ ms. inserts ms (settled st) (inserted_text o (ends_context st rest) text) rest)

abbrev pub name_or_text : PatternOptions → State → Option (List ℕ) → List ℕ → List ℕ → Piece
name_or_text o st None text rest = insertion o st text rest
name_or_text o st (Some n) text rest = takes st (name n ∷ []) rest

abbrev pub definition_piece : PatternOptions → State → Option Definition → List ℕ → Piece
definition_piece o st None rest = wrong
definition_piece o st (Some d) rest = name_or_text o st (kept_name o st d) d.text rest

abbrev pub name_piece : PatternOptions → (List ℕ → Option Definition) → State → Option (List ℕ × List ℕ) → Piece
name_piece o names st None = wrong
name_piece o names st (Some f) = definition_piece o st (names f.0) f.1

-- An interval repeats the last unit; by POSIX it repeats all of the branch before it.
abbrev pub interval_piece : PatternOptions → State → Option ((ℕ × Option ℕ) × List ℕ) → Piece
interval_piece o st None = wrong
interval_piece o st (Some f) = takes st ((if o.posix then interval f.0.0 f.0.1 else repeat f.0.0 f.0.1) ∷ []) f.1

-- an interval, a name, or `{-}` or `{+}`, from its brace on
abbrev pub brace_piece : PatternOptions → (List ℕ → Option Definition) → State → List ℕ → Piece
brace_piece o names st text =
    if begins_pair 45 125 text then operates st st.pending without (drop 2 text)
    else if begins_pair 43 125 text then operates st st.pending with (drop 2 text)
    else if starts_digit text then interval_piece o st (interval_at text)
    else name_piece o names st (name_at text)

abbrev pub is_outermost : State → Bool
is_outermost st = nat_eq (length st.outer) 0

-- the `/` before a trailing context
abbrev pub after_slash : State → State
after_slash st = record { flags = st.flags; outer = st.outer; pending = nothing; fresh = false; line_begin = st.line_begin; in_context = true }

abbrev pub slash_piece : State → List ℕ → Piece
slash_piece st rest = if is_outermost st then behind (flushed st.pending) (λ ms. slash ms (after_slash st) rest) else wrong

-- the part that begins with this byte
abbrev pub special_piece : PatternOptions → (List ℕ → Option Definition) → State → ℕ → List ℕ → Piece
special_piece o names st c text =
    if nat_eq c 91 then brackets_piece st (brackets_at st.flags.fold text)
    else if nat_eq c 123 then brace_piece o names st text
    else if nat_eq c 34 then string_piece st (string_at text)
    else if nat_eq c 92 then byte_piece st (escape_at text)
    else if nat_eq c 46 then takes_set st (period_set st.flags.dot_all) text
    else if nat_eq c 40 then group_piece o st text
    else if nat_eq c 41 then closes st st.outer text
    else if nat_eq c 42 then takes st (repeat 0 None ∷ []) text
    else if nat_eq c 43 then takes st (repeat 1 None ∷ []) text
    else if nat_eq c 63 then takes st (repeat 0 (Some 1) ∷ []) text
    else if nat_eq c 124 then takes st (bar ∷ []) text
    else if nat_eq c 47 then slash_piece st text
    else if nat_eq c 125 then wrong
    else takes_set st (byte_set st.flags.fold c) text

abbrev pub is_blank : ℕ → Bool
is_blank c = nat_eq c 32 || nat_eq c 9

-- a blank or the end of a line
abbrev pub is_gap : ℕ → List ℕ → Bool
is_gap c text = is_blank c || (nat_eq c 10 || (nat_eq c 13 && begins_with 10 text))

abbrev pub starts_gap : List ℕ → Bool
starts_gap [] = true
starts_gap (c ∷ text) = is_gap c text

abbrev pub dollar_piece : State → List ℕ → Piece
dollar_piece st rest = if is_outermost st then behind (flushed st.pending) (λ ms. ends_line ms (settled st) rest) else wrong

abbrev pub end_piece : State → List ℕ → Piece
end_piece st rest = behind (flushed st.pending) (λ ms. ends ms (settled st) rest)

abbrev pub plain_piece : PatternOptions → (List ℕ → Option Definition) → State → ℕ → List ℕ → Piece
plain_piece o names st c text =
    if is_gap c text then end_piece st (c ∷ text)
    else if nat_eq c 36 && starts_gap text then dollar_piece st text
    else if nat_eq c 94 && st.fresh then goes [] (at_line_begin st) text
    else special_piece o names st c text

-- inside `(?x:` blanks, ends of lines and comments are skipped
abbrev pub extended_piece : PatternOptions → (List ℕ → Option Definition) → State → ℕ → List ℕ → Piece
extended_piece o names st c text =
    if is_gap c text then goes [] st text
    else if nat_eq c 47 && begins_with 42 text then skips st (behind_comment (drop 1 text))
    else plain_piece o names st c text

-- the part at the start of the text
abbrev pub piece_at : PatternOptions → (List ℕ → Option Definition) → State → List ℕ → Piece
piece_at o names st [] = end_piece st []
piece_at o names st (c ∷ text) = if st.flags.extended then extended_piece o names st c text else plain_piece o names st c text
