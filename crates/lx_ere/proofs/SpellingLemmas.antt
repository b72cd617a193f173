-- `lexeme_at` finds exactly the spellings at the start of the text.
use Rattle.std.proofs.Common.{◌≡◌, ◌≢◌, ℕ, ◌<◌, ◌≤◌, ◌⊎◌, inl, inr, true, false, ◌||◌, nat_eq, nat_le, cond, List, [], ◌∷◌, ◌++◌, length, take, drop, Option, Some, None, refl, sym, ap, subst, ◌∙◌, arith, append_assoc}
use Rattle.std.specs.List.{list_all}
use Rattle.std.specs.Option.{option_map, option_and_then}
use Rattle.std.proofs.lemmas.List.{append_cancel_right}
use Rattle.std.proofs.lemmas.Bool.{eqb-true, eqb-false, leb-true, le-leb, false≢true, and_parts, or_parts}
use Rattle.std.proofs.lemmas.Bool.Decides.{nat_tests}
use Rattle.lx_ere.specs.Bytes.{byte_set}
use Rattle.lx_ere.specs.Grammar.{Lexeme, set_of, quoted, name, interval}
use Rattle.lx_ere.specs.Escapes.{is_digit, number_of, NoneFirst}
use Rattle.lx_ere.specs.Sequences.{Opened}
use Rattle.lx_ere.specs.Brackets.{begins_with}
use Rattle.lx_ere.specs.Spelling.{byte_lexeme, QuotedByte, unescaped, escaped_byte, is_name_start, is_name_byte, is_identifier, IsBound, Spells, of_byte, of_escape, of_string, of_bracket, of_name, exactly, at_least, between}
use Rattle.lx_ere.specs.Lexing.{run_len, number_at, behind_byte, escape_at, opened_at, bracket_at, unescaped_at, quoted_byte_at, string_at, name_of, name_at, bound_of, bound_at, high_at, behind_comma_at, behind_low_at, interval_at, starts_digit, brace_at, as_set, brace_or_byte, bracket_or_other, string_or_other, lexeme_at}
use Rattle.lx_ere.specs.ChoiceLaws.{pick_first, pick_second, cases_of, no_none, same_some, map_is, then_is, eq_other, begins_is, behind_byte_is, IsSpelledPrefix}
use Rattle.lx_ere.proofs.RunLemmas.{run_whole, take_prefix, drop_prefix, rejoin, whole_run_is}
use Rattle.lx_ere.proofs.EscapeLemmas.{escape_complete, escape_sound, number_at_is, number_follows_mark}
use Rattle.lx_ere.proofs.SequenceLemmas.{opened_complete, opened_sound}
use Rattle.lx_ere.proofs.BracketLemmas.{bracket_complete, bracket_sound}

abbrev Byte1 : Type 0
Byte1 = ℕ × List ℕ

abbrev Lexeme1 : Type 0
Lexeme1 = Lexeme × List ℕ

-- quoted strings
pub quoted_byte_complete : (text : List ℕ) (c : ℕ) (behind : List ℕ) → QuotedByte text c behind → quoted_byte_at (text ++ behind) ≡ Some (c, behind)
quoted_byte_complete _ _ _ (unescaped c behind no_quote no_slash no_newline) =
    let neither : (nat_eq c 34 || nat_eq c 10) ≡ false = rw (eq_other c 34 no_quote) (eq_other c 10 no_newline) in
    pick_second (nat_eq c 92) _ _ (eq_other c 92 no_slash) ∙ pick_second (nat_eq c 34 || nat_eq c 10) _ _ neither
quoted_byte_complete _ _ _ (escaped_byte text c behind d) = let at = escape_complete text c behind d in ap (λ t. quoted_byte_at (t ++ behind)) at.slash ∙ at.found

pub quoted_byte_sound : (text : List ℕ) (c : ℕ) (behind : List ℕ) → quoted_byte_at text ≡ Some (c, behind) → IsSpelledPrefix QuotedByte text c behind
quoted_byte_sound [] c behind e = absurd (no_none (c, behind) e)
quoted_byte_sound (d ∷ text) c behind e = by_slash (cases_of (nat_eq d 92) (escape_at text) (unescaped_at d text) (Some (c, behind)) e)
  where
    by_other : nat_eq d 92 ≡ false → ((nat_eq d 34 || nat_eq d 10) ≡ true) × ◌≡◌ {A = Option Byte1} None (Some (c, behind)) ⊎ (((nat_eq d 34 || nat_eq d 10) ≡ false) × ◌≡◌ {A = Option Byte1} (Some (d, text)) (Some (c, behind))) → IsSpelledPrefix QuotedByte (d ∷ text) c behind
    by_other no_slash (inl (b, f)) = absurd (no_none (c, behind) f)
    by_other no_slash (inr (b, f)) =
        let parts = or_parts (nat_eq d 34) (nat_eq d 10) b in
        let pair : ◌≡◌ {A = Byte1} (d, text) (c, behind) = same_some (d, text) (c, behind) f in
        let byte : d ≡ c = ap (λ p. p.0) pair in
        let last : text ≡ behind = ap (λ p. p.1) pair in
        let q : QuotedByte (d ∷ []) d behind = unescaped d behind (eqb-false d 34 parts.0) (eqb-false d 92 no_slash) (eqb-false d 10 parts.1) in
        record { prefix = d ∷ []; spelled = subst (λ x. QuotedByte (d ∷ []) x behind) byte q; joins = ap (λ t. d ∷ t) last }

    by_slash : (nat_eq d 92 ≡ true) × (escape_at text ≡ Some (c, behind)) ⊎ ((nat_eq d 92 ≡ false) × (unescaped_at d text ≡ Some (c, behind))) → IsSpelledPrefix QuotedByte (d ∷ text) c behind
    by_slash (inl (b, f)) =
        let i = escape_sound text c behind f in
        record { prefix = 92 ∷ i.rest; spelled = escaped_byte (92 ∷ i.rest) c behind i.spelled; joins = ap (λ x. x ∷ text) (eqb-true d 92 b) ∙ ap (λ t. 92 ∷ t) i.joins }
    by_slash (inr (b, f)) = by_other b (cases_of (nat_eq d 34 || nat_eq d 10) None (Some (d, text)) (Some (c, behind)) f)

pub quoted_byte_some : (text : List ℕ) (c : ℕ) (behind : List ℕ) → QuotedByte text c behind → 0 < length text
quoted_byte_some _ _ _ (unescaped c behind a b d) = omega arith
quoted_byte_some _ _ _ (escaped_byte text c behind d) = let at = escape_complete text c behind d in omega (arith, ap length at.slash)

pub quoted_byte_closes : (text : List ℕ) → quoted_byte_at (34 ∷ text) ≡ None
quoted_byte_closes text = refl

string_complete : (text : List ℕ) (first : ℕ) (more behind : List ℕ) → Opened QuotedByte QuotedByte 34 text first more behind → string_at (text ++ behind) ≡ Some (quoted first more, behind)
string_complete text first more behind o =
    ap (option_map {U = Lexeme1} (λ f. (quoted (f.0) (f.1), f.2)))
    (opened_complete QuotedByte quoted_byte_at 34 quoted_byte_complete quoted_byte_sound quoted_byte_some quoted_byte_closes QuotedByte quoted_byte_at quoted_byte_complete text first more behind o)

string_sound : (text : List ℕ) (l : Lexeme) (behind : List ℕ) → string_at text ≡ Some (l, behind) → (prefix : List ℕ) × Spells (34 ∷ prefix) l behind × (text ≡ prefix ++ behind)
string_sound text l behind e =
    let (found, at, pair) = map_is {B = Lexeme1} (λ f. (quoted (f.0) (f.1), f.2)) (opened_at quoted_byte_at quoted_byte_at 34 text) (l, behind) e in
    let k = opened_sound QuotedByte quoted_byte_at 34 quoted_byte_complete quoted_byte_sound quoted_byte_some quoted_byte_closes QuotedByte quoted_byte_at quoted_byte_sound text (found.0) (found.1) (found.2) at in
    let same : quoted (found.0) (found.1) ≡ l = ap (λ p. p.0) pair in
    let last : found.2 ≡ behind = ap (λ p. p.1) pair in (
      k.0,
      subst (λ v. Spells (34 ∷ k.0) l v) last (subst (λ x. Spells (34 ∷ k.0) x (found.2)) same (of_string (k.0) (found.0) (found.1) (found.2) k.1)),
      k.2 ∙ ap (λ v. k.0 ++ v) last,
    )

-- names
pub identifier_bytes : (n : List ℕ) → is_identifier n ≡ true → list_all is_name_byte n ≡ true
identifier_bytes [] h = absurd (false≢true h)
identifier_bytes (c ∷ more) h =
    let both = and_parts (is_name_start c) (list_all is_name_byte more) h in
    let first : is_name_byte c ≡ true = rw both.0 refl in
    rw first both.1

identifier_no_digit : (n behind : List ℕ) → is_identifier n ≡ true → starts_digit (n ++ behind) ≡ false
identifier_no_digit [] behind h = absurd (false≢true h)
identifier_no_digit (c ∷ more) behind h = let both = and_parts (is_name_start c) (list_all is_name_byte more) h in no_digit c both.0
  where
    no_digit : (c : ℕ) → is_name_start c ≡ true → is_digit 10 c ≡ false
    no_digit c h = grind (arith, nat_tests)

name_complete : (n behind : List ℕ) → is_identifier n ≡ true → name_at (n ++ (125 ∷ behind)) ≡ Some (name n, behind)
name_complete n behind h =
    let run = run_whole is_name_byte n (125 ∷ behind) (identifier_bytes n h) refl in
    ap (λ k. name_of k (n ++ (125 ∷ behind))) run ∙ found (take (length n) (n ++ (125 ∷ behind))) (drop (length n) (n ++ (125 ∷ behind))) (take_prefix n (125 ∷ behind)) (drop_prefix n (125 ∷ behind))
  where
    found : (m t : List ℕ) → m ≡ n → t ≡ 125 ∷ behind → cond {A = Option Lexeme1} (is_identifier m) (option_map {U = Lexeme1} (λ rest. (name m, rest)) (behind_byte 125 t)) None ≡ Some (name n, behind)
    found m t em et = rw et (rw em (rw h refl))

name_sound : (k : ℕ) (text : List ℕ) (l : Lexeme) (behind : List ℕ) → name_of k text ≡ Some (l, behind) → (prefix : List ℕ) × Spells (123 ∷ prefix) l behind × (text ≡ prefix ++ behind)
name_sound k text l behind e = go (cases_of (is_identifier (take k text)) (option_map {U = Lexeme1} (λ rest. (name (take k text), rest)) (behind_byte 125 (drop k text))) None (Some (l, behind)) e)
  where
    go : (is_identifier (take k text) ≡ true) × (option_map {U = Lexeme1} (λ rest. (name (take k text), rest)) (behind_byte 125 (drop k text)) ≡ Some (l, behind)) ⊎ ((is_identifier (take k text) ≡ false) × ◌≡◌ {A = Option Lexeme1} None (Some (l, behind))) → (prefix : List ℕ) × Spells (123 ∷ prefix) l behind × (text ≡ prefix ++ behind)
    go (inl (b, f)) =
        let (rest, at, pair) = map_is {B = Lexeme1} (λ rest. (name (take k text), rest)) (behind_byte 125 (drop k text)) (l, behind) f in
        let same : name (take k text) ≡ l = ap (λ p. p.0) pair in
        let last : rest ≡ behind = ap (λ p. p.1) pair in (
          take k text ++ (125 ∷ []),
          subst (λ x. Spells (123 ∷ (take k text ++ (125 ∷ []))) x behind) same (of_name (take k text) behind b),
          rejoin k text ∙ (ap (λ t. take k text ++ t) (behind_byte_is 125 (drop k text) rest at ∙ ap (λ v. 125 ∷ v) last) ∙ sym (append_assoc (take k text) (125 ∷ []) behind)),
        )
    go (inr (b, f)) = absurd (no_none (l, behind) f)

-- intervals
bound_complete : (digits : List ℕ) (n : ℕ) (behind : List ℕ) → IsBound digits n → NoneFirst (is_digit 10) behind → bound_at (digits ++ behind) ≡ Some (n, behind)
bound_complete digits n behind i ends =
    let run = run_whole (is_digit 10) digits behind i.decimal ends in
    let some : 0 < length digits = i.some in
    let positive : nat_eq (length digits) 0 ≡ false = eq_other (length digits) 0 (λ z. omega (arith, z, some)) in
    let value = i.value in
    let at_most = i.small in
    let small : number_of 10 digits < 256 = omega (arith, value, at_most) in
    ap (λ k. bound_of k (digits ++ behind)) run ∙ (pick_second (nat_eq (length digits) 0) _ _ positive ∙ (number_follows_mark 10 digits behind small ∙ ap (λ x. Some (x, behind)) i.value))

-- the digits of a bound, and the text after them
record BoundPrefix (text : List ℕ) (n : ℕ) (behind : List ℕ) : Type 0 where
  pub digits : List ℕ
  pub bound : IsBound digits n
  pub joins : text ≡ digits ++ behind

bound_sound : (text : List ℕ) (n : ℕ) (behind : List ℕ) → bound_at text ≡ Some (n, behind) → BoundPrefix text n behind
bound_sound text n behind e = go (run_len (is_digit 10) (length text) text) refl e
  where
    found : (k : ℕ) → run_len (is_digit 10) (length text) text ≡ k → (nat_eq k 0 ≡ true) × ◌≡◌ {A = Option Byte1} None (Some (n, behind)) ⊎ ((nat_eq k 0 ≡ false) × (number_at 10 k text ≡ Some (n, behind))) → BoundPrefix text n behind
    found k ek (inl (b, f)) = absurd (no_none (n, behind) f)
    found k ek (inr (b, f)) =
        let i = whole_run_is (is_digit 10) k text ek in
        let a = number_at_is 10 k text n behind f in
        let not_zero : k ≢ 0 = eqb-false k 0 b in
        let len : length (take k text) ≡ k = i.len in
        let value : number_of 10 (take k text) ≡ n = a.byte_is in
        let small : number_of 10 (take k text) < 256 = a.small in
        record {
          digits = take k text;
          bound = record { some = omega (arith, len, not_zero); decimal = i.passes; value = value; small = omega (arith, small, value) };
          joins = i.joins ∙ ap (λ t. take k text ++ t) a.behind_is;
        }

    go : (k : ℕ) → run_len (is_digit 10) (length text) text ≡ k → bound_of k text ≡ Some (n, behind) → BoundPrefix text n behind
    go k ek e = found k ek (cases_of (nat_eq k 0) None (number_at 10 k text) (Some (n, behind)) e)

bound_starts : (digits : List ℕ) (n : ℕ) (behind : List ℕ) → IsBound digits n → starts_digit (digits ++ behind) ≡ true
bound_starts [] n behind i = let some : 0 < 0 = i.some in absurd (omega (arith, some))
bound_starts (d ∷ digits) n behind i = let both = and_parts (is_digit 10 d) (list_all (is_digit 10) digits) i.decimal in both.0

exactly_complete : (digits : List ℕ) (n : ℕ) (behind : List ℕ) → IsBound digits n → interval_at (digits ++ (125 ∷ behind)) ≡ Some (interval n (Some n), behind)
exactly_complete digits n behind i = ap (option_and_then behind_low_at) (bound_complete digits n (125 ∷ behind) i refl)

at_least_complete : (digits : List ℕ) (n : ℕ) (behind : List ℕ) → IsBound digits n → interval_at (digits ++ (44 ∷ 125 ∷ behind)) ≡ Some (interval n None, behind)
at_least_complete digits n behind i = ap (option_and_then behind_low_at) (bound_complete digits n (44 ∷ 125 ∷ behind) i refl)

bound_no_brace : (digits : List ℕ) (n : ℕ) (behind : List ℕ) → IsBound digits n → begins_with 125 (digits ++ behind) ≡ false
bound_no_brace [] n behind i = let some : 0 < 0 = i.some in absurd (omega (arith, some))
bound_no_brace (d ∷ digits) n behind i = let both = and_parts (is_digit 10 d) (list_all (is_digit 10) digits) i.decimal in no_brace d both.0
  where
    no_brace : (c : ℕ) → is_digit 10 c ≡ true → nat_eq c 125 ≡ false
    no_brace c h = grind (arith, nat_tests)

between_complete : (digits : List ℕ) (low : ℕ) (more : List ℕ) (high : ℕ) (behind : List ℕ) → IsBound digits low → IsBound more high → low ≤ high → interval_at (digits ++ (44 ∷ (more ++ (125 ∷ behind)))) ≡ Some (interval low (Some high), behind)
between_complete digits low more high behind i k le =
    let comma : behind_comma_at low (more ++ (125 ∷ behind)) ≡ Some (interval low (Some high), behind)
    = pick_second (begins_with 125 (more ++ (125 ∷ behind))) _ _ (bound_no_brace more high (125 ∷ behind) k)
    ∙ (ap (option_and_then (high_at low)) (bound_complete more high (125 ∷ behind) k refl) ∙ pick_first (nat_le low high) _ _ (le-leb low high le)) in
    ap (option_and_then behind_low_at) (bound_complete digits low (44 ∷ (more ++ (125 ∷ behind))) i refl) ∙ comma

abbrev BracePrefix : List ℕ → Lexeme → List ℕ → Type 0
BracePrefix text l behind = (prefix : List ℕ) × Spells (123 ∷ prefix) l behind × (text ≡ prefix ++ behind)

-- after the comma: the closing brace, or another bound
comma_sound : (text : List ℕ) (low : ℕ) (rest : List ℕ) (l : Lexeme) (behind : List ℕ) → BoundPrefix text low (44 ∷ rest) → behind_comma_at low rest ≡ Some (l, behind) → BracePrefix text l behind
comma_sound text low rest l behind i e = go (cases_of (begins_with 125 rest) (Some (interval low None, drop 1 rest)) (option_and_then (high_at low) (bound_at rest)) (Some (l, behind)) e)
  where
    high : (n : ℕ) (after : List ℕ) → BoundPrefix rest n after → (nat_le low n ≡ true) × (option_map {U = Lexeme1} (λ r. (interval low (Some n), r)) (behind_byte 125 after) ≡ Some (l, behind)) ⊎ ((nat_le low n ≡ false) × ◌≡◌ {A = Option Lexeme1} None (Some (l, behind))) → BracePrefix text l behind
    high n after k (inl (b, f)) =
        let (r, at, pair) = map_is {B = Lexeme1} (λ r. (interval low (Some n), r)) (behind_byte 125 after) (l, behind) f in
        let same : interval low (Some n) ≡ l = ap (λ p. p.0) pair in
        let last : r ≡ behind = ap (λ p. p.1) pair in
        let tail : rest ≡ (k.digits ++ (125 ∷ [])) ++ behind = k.joins ∙ (ap (λ t. k.digits ++ t) (behind_byte_is 125 after r at ∙ ap (λ v. 125 ∷ v) last) ∙ sym (append_assoc (k.digits) (125 ∷ []) behind)) in (
          i.digits ++ (44 ∷ (k.digits ++ (125 ∷ []))),
          subst (λ x. Spells (123 ∷ (i.digits ++ (44 ∷ (k.digits ++ (125 ∷ []))))) x behind) same (between (i.digits) low (k.digits) n behind i.bound k.bound (leb-true low n b)),
          i.joins ∙ (ap (λ t. i.digits ++ (44 ∷ t)) tail ∙ sym (append_assoc (i.digits) (44 ∷ (k.digits ++ (125 ∷ []))) behind)),
        )
    high n after k (inr (b, f)) = absurd (no_none (l, behind) f)

    go : (begins_with 125 rest ≡ true) × ◌≡◌ {A = Option Lexeme1} (Some (interval low None, drop 1 rest)) (Some (l, behind)) ⊎ ((begins_with 125 rest ≡ false) × (option_and_then (high_at low) (bound_at rest) ≡ Some (l, behind))) → BracePrefix text l behind
    go (inl (b, f)) =
        let pair : ◌≡◌ {A = Lexeme1} (interval low None, drop 1 rest) (l, behind) = same_some (interval low None, drop 1 rest) (l, behind) f in
        let same : interval low None ≡ l = ap (λ p. p.0) pair in
        let last : drop 1 rest ≡ behind = ap (λ p. p.1) pair in (
          i.digits ++ (44 ∷ 125 ∷ []),
          subst (λ x. Spells (123 ∷ (i.digits ++ (44 ∷ 125 ∷ []))) x behind) same (at_least (i.digits) low behind i.bound),
          i.joins ∙ (ap (λ t. i.digits ++ (44 ∷ t)) (begins_is 125 rest b ∙ ap (λ v. 125 ∷ v) last) ∙ sym (append_assoc (i.digits) (44 ∷ 125 ∷ []) behind)),
        )
    go (inr (b, f)) =
        let (found, at, more) = then_is (high_at low) (bound_at rest) (l, behind) f in
        high (found.0) (found.1) (bound_sound rest (found.0) (found.1) at)
        (cases_of (nat_le low (found.0)) (option_map {U = Lexeme1} (λ r. (interval low (Some (found.0)), r)) (behind_byte 125 (found.1))) None (Some (l, behind)) more)

interval_sound : (text : List ℕ) (l : Lexeme) (behind : List ℕ) → interval_at text ≡ Some (l, behind) → BracePrefix text l behind
interval_sound text l behind e =
    let (found, at, more) = then_is behind_low_at (bound_at text) (l, behind) e in
    go (found.0) (found.1) (bound_sound text (found.0) (found.1) at) (cases_of (begins_with 125 (found.1)) (Some (interval (found.0) (Some (found.0)), drop 1 (found.1))) (option_and_then (behind_comma_at (found.0)) (behind_byte 44 (found.1))) (Some (l, behind)) more)
  where
    go : (low : ℕ) (rest : List ℕ) → BoundPrefix text low rest → (begins_with 125 rest ≡ true) × ◌≡◌ {A = Option Lexeme1} (Some (interval low (Some low), drop 1 rest)) (Some (l, behind)) ⊎ ((begins_with 125 rest ≡ false) × (option_and_then (behind_comma_at low) (behind_byte 44 rest) ≡ Some (l, behind))) → BracePrefix text l behind
    go low rest i (inl (b, f)) =
        let pair : ◌≡◌ {A = Lexeme1} (interval low (Some low), drop 1 rest) (l, behind) = same_some (interval low (Some low), drop 1 rest) (l, behind) f in
        let same : interval low (Some low) ≡ l = ap (λ p. p.0) pair in
        let last : drop 1 rest ≡ behind = ap (λ p. p.1) pair in (
          i.digits ++ (125 ∷ []),
          subst (λ x. Spells (123 ∷ (i.digits ++ (125 ∷ []))) x behind) same (exactly (i.digits) low behind i.bound),
          i.joins ∙ (ap (λ t. i.digits ++ t) (begins_is 125 rest b ∙ ap (λ v. 125 ∷ v) last) ∙ sym (append_assoc (i.digits) (125 ∷ []) behind)),
        )
    go low rest i (inr (b, f)) =
        let (after, at, more) = then_is (behind_comma_at low) (behind_byte 44 rest) (l, behind) f in
        comma_sound text low after l behind (record { digits = i.digits; bound = i.bound; joins = i.joins ∙ ap (λ t. i.digits ++ t) (behind_byte_is 44 rest after at) }) more

brace_sound : (text : List ℕ) (l : Lexeme) (behind : List ℕ) → brace_at text ≡ Some (l, behind) → BracePrefix text l behind
brace_sound text l behind e = go (cases_of (starts_digit text) (interval_at text) (name_at text) (Some (l, behind)) e)
  where
    go : (starts_digit text ≡ true) × (interval_at text ≡ Some (l, behind)) ⊎ ((starts_digit text ≡ false) × (name_at text ≡ Some (l, behind))) → BracePrefix text l behind
    go (inl (b, f)) = interval_sound text l behind f
    go (inr (b, f)) = name_sound (run_len is_name_byte (length text) text) text l behind f

interval_brace : (digits : List ℕ) (n : ℕ) (tail behind : List ℕ) (l : Lexeme) → IsBound digits n → interval_at (digits ++ (tail ++ behind)) ≡ Some (l, behind) → brace_at ((digits ++ tail) ++ behind) ≡ Some (l, behind)
interval_brace digits n tail behind l i e = ap brace_at (append_assoc digits tail behind) ∙ (pick_first (starts_digit (digits ++ (tail ++ behind))) _ _ (bound_starts digits n (tail ++ behind) i) ∙ e)

-- a byte that is a lexeme by itself begins nothing else
pub byte_other : (c d : ℕ) (l : Lexeme) → byte_lexeme c ≡ Some l → byte_lexeme d ≡ None → nat_eq c d ≡ false
byte_other c d l e none = eq_other c d (λ same. no_none l (sym none ∙ (ap byte_lexeme (sym same) ∙ e)))

pub lexeme_complete : (text : List ℕ) (l : Lexeme) (behind : List ℕ) → Spells text l behind → lexeme_at (text ++ behind) ≡ Some (l, behind)
lexeme_complete _ _ _ (of_byte c l behind e) =
    pick_second (nat_eq c 92) _ _ (byte_other c 92 l e refl) ∙ (pick_second (nat_eq c 34) _ _ (byte_other c 34 l e refl) ∙ (pick_second (nat_eq c 91) _ _ (byte_other c 91 l e refl) ∙
    (pick_second (nat_eq c 123) _ _ (byte_other c 123 l e refl) ∙ ap (option_map {U = Lexeme1} (λ m. (m, behind))) e)))
lexeme_complete _ _ _ (of_escape text byte behind d) = let at = escape_complete text byte behind d in ap (λ t. lexeme_at (t ++ behind)) at.slash ∙ ap as_set at.found
lexeme_complete _ _ _ (of_string text first more behind o) = string_complete text first more behind o
lexeme_complete _ _ _ (of_bracket text s behind d) = let at = bracket_complete text s behind d in ap (λ t. lexeme_at (t ++ behind)) at.opens ∙ ap (option_map {U = Lexeme1} (λ f. (set_of (f.0), f.1))) at.found
lexeme_complete _ _ _ (of_name n behind h) =
    ap brace_at (append_assoc n (125 ∷ []) behind) ∙ (pick_second (starts_digit (n ++ (125 ∷ behind))) _ _ (identifier_no_digit n (125 ∷ behind) h) ∙ name_complete n behind h)
lexeme_complete _ _ _ (exactly digits n behind i) = interval_brace digits n (125 ∷ []) behind (interval n (Some n)) i (exactly_complete digits n behind i)
lexeme_complete _ _ _ (at_least digits n behind i) = interval_brace digits n (44 ∷ 125 ∷ []) behind (interval n None) i (at_least_complete digits n behind i)
lexeme_complete _ _ _ (between digits low more high behind i k le) =
    let e : interval_at (digits ++ ((44 ∷ (more ++ (125 ∷ []))) ++ behind)) ≡ Some (interval low (Some high), behind)
    = ap (λ t. interval_at (digits ++ (44 ∷ t))) (append_assoc more (125 ∷ []) behind) ∙ between_complete digits low more high behind i k le in
    interval_brace digits low (44 ∷ (more ++ (125 ∷ []))) behind (interval low (Some high)) i e

-- the front of a text is at most one spelling
pub one_spelling : (t u : List ℕ) (l m : Lexeme) (v w : List ℕ) → Spells t l v → Spells u m w → t ++ v ≡ u ++ w → (t ≡ u) × (l ≡ m) × (v ≡ w)
one_spelling t u l m v w d e j =
    let a = lexeme_complete t l v d in
    let b = lexeme_complete u m w e in
    let pair : ◌≡◌ {A = Lexeme1} (l, v) (m, w) = same_some (l, v) (m, w) (sym a ∙ (ap lexeme_at j ∙ b)) in
    let same : l ≡ m = ap (λ p. p.0) pair in
    let rest : v ≡ w = ap (λ p. p.1) pair in
    (append_cancel_right t u v (j ∙ ap (λ x. u ++ x) (sym rest)), same, rest)

pub lexeme_sound : (text : List ℕ) (l : Lexeme) (behind : List ℕ) → lexeme_at text ≡ Some (l, behind) → IsSpelledPrefix Spells text l behind
lexeme_sound [] l behind e = absurd (no_none (l, behind) e)
lexeme_sound (c ∷ text) l behind e = by_slash (cases_of (nat_eq c 92) (as_set (escape_at text)) (string_or_other c text) (Some (l, behind)) e)
  where
    opened : (d : ℕ) → nat_eq c d ≡ true → (prefix : List ℕ) × Spells (d ∷ prefix) l behind × (text ≡ prefix ++ behind) → IsSpelledPrefix Spells (c ∷ text) l behind
    opened d b k = record { prefix = d ∷ k.0; spelled = k.1; joins = ap (λ x. x ∷ text) (eqb-true c d b) ∙ ap (λ t. d ∷ t) k.2 }

    by_brace : (nat_eq c 123 ≡ true) × (brace_at text ≡ Some (l, behind)) ⊎ ((nat_eq c 123 ≡ false) × (option_map {U = Lexeme1} (λ m. (m, text)) (byte_lexeme c) ≡ Some (l, behind))) → IsSpelledPrefix Spells (c ∷ text) l behind
    by_brace (inl (b, f)) = opened 123 b (brace_sound text l behind f)
    by_brace (inr (b, f)) =
        let (m, known, pair) = map_is {B = Lexeme1} (λ m. (m, text)) (byte_lexeme c) (l, behind) f in
        let same : m ≡ l = ap (λ p. p.0) pair in
        let last : text ≡ behind = ap (λ p. p.1) pair in
        record { prefix = c ∷ []; spelled = of_byte c l behind (known ∙ ap (λ x. Some x) same); joins = ap (λ t. c ∷ t) last }

    by_bracket : (nat_eq c 91 ≡ true) × (option_map {U = Lexeme1} (λ f. (set_of (f.0), f.1)) (bracket_at text) ≡ Some (l, behind)) ⊎ ((nat_eq c 91 ≡ false) × (brace_or_byte c text ≡ Some (l, behind))) → IsSpelledPrefix Spells (c ∷ text) l behind
    by_bracket (inl (b, f)) =
        let (found, at, pair) = map_is {B = Lexeme1} (λ f. (set_of (f.0), f.1)) (bracket_at text) (l, behind) f in
        let same : set_of (found.0) ≡ l = ap (λ p. p.0) pair in
        let last : found.1 ≡ behind = ap (λ p. p.1) pair in
        let k = bracket_sound text (found.0) (found.1) at in
        opened 91 b (k.0, subst (λ v. Spells (91 ∷ k.0) l v) last (subst (λ x. Spells (91 ∷ k.0) x (found.1)) same (of_bracket (91 ∷ k.0) (found.0) (found.1) k.1)), k.2 ∙ ap (λ v. k.0 ++ v) last)
    by_bracket (inr (b, f)) = by_brace (cases_of (nat_eq c 123) (brace_at text) (option_map {U = Lexeme1} (λ m. (m, text)) (byte_lexeme c)) (Some (l, behind)) f)

    by_quote : (nat_eq c 34 ≡ true) × (string_at text ≡ Some (l, behind)) ⊎ ((nat_eq c 34 ≡ false) × (bracket_or_other c text ≡ Some (l, behind))) → IsSpelledPrefix Spells (c ∷ text) l behind
    by_quote (inl (b, f)) = opened 34 b (string_sound text l behind f)
    by_quote (inr (b, f)) = by_bracket (cases_of (nat_eq c 91) (option_map {U = Lexeme1} (λ f. (set_of (f.0), f.1)) (bracket_at text)) (brace_or_byte c text) (Some (l, behind)) f)

    by_slash : (nat_eq c 92 ≡ true) × (as_set (escape_at text) ≡ Some (l, behind)) ⊎ ((nat_eq c 92 ≡ false) × (string_or_other c text ≡ Some (l, behind))) → IsSpelledPrefix Spells (c ∷ text) l behind
    by_slash (inl (b, f)) =
        let (found, at, pair) = map_is {B = Lexeme1} (λ f. (set_of (byte_set (f.0)), f.1)) (escape_at text) (l, behind) f in
        let same : set_of (byte_set (found.0)) ≡ l = ap (λ p. p.0) pair in
        let last : found.1 ≡ behind = ap (λ p. p.1) pair in
        let i = escape_sound text (found.0) (found.1) at in
        opened 92 b (i.rest, subst (λ v. Spells (92 ∷ i.rest) l v) last (subst (λ x. Spells (92 ∷ i.rest) x (found.1)) same (of_escape (92 ∷ i.rest) (found.0) (found.1) i.spelled)), i.joins ∙ ap (λ v. i.rest ++ v) last)
    by_slash (inr (b, f)) = by_quote (cases_of (nat_eq c 34) (string_at text) (bracket_or_other c text) (Some (l, behind)) f)

-- a spelling has at least one byte
pub spelling_some : (prefix : List ℕ) (l : Lexeme) (behind : List ℕ) → Spells prefix l behind → 0 < length prefix
spelling_some _ _ _ (of_byte c l behind e) = omega arith
spelling_some _ _ _ (of_escape text byte behind d) = let at = escape_complete text byte behind d in omega (arith, ap length at.slash)
spelling_some _ _ _ (of_string text first more behind o) = omega arith
spelling_some _ _ _ (of_bracket text s behind d) = let at = bracket_complete text s behind d in omega (arith, ap length at.opens)
spelling_some _ _ _ (of_name n behind h) = omega arith
spelling_some _ _ _ (exactly digits n behind i) = omega arith
spelling_some _ _ _ (at_least digits n behind i) = omega arith
spelling_some _ _ _ (between digits low more high behind i k le) = omega arith
