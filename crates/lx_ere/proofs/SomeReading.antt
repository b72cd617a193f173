-- Reading from left to right decides if a text has a reading, as a pattern and as a substitute.
use Rattle.std.proofs.Common.{◌≡◌, ◌∙◌, ℕ, zero, suc, ◌<◌, ◌≤◌, ◌⊎◌, inl, inr, Bool, List, [], ◌∷◌, Option, Some, None, length, refl, ap, sym, arith}
use Rattle.lx_ere.specs.Limits.{max_pattern_bytes}
use Rattle.lx_ere.specs.Regex.{Regex, Reading}
use Rattle.lx_ere.specs.Grammar.{Lexeme}
use Rattle.lx_ere.specs.Brackets.{begins_with}
use Rattle.lx_ere.specs.Pattern.{IsPattern, IsSubstitute}
use Rattle.lx_ere.specs.Lexing.{lexeme_at, body_of, ending_at, Reads}
use Rattle.lx_ere.specs.Stacks.{empty_frame, Stack, stack, step, finish}
use Rattle.lx_ere.specs.ChoiceLaws.{no_none}
use Rattle.lx_ere.proofs.Deciding.{below_or_not, some_or_none}
use Rattle.lx_ere.proofs.ReadLemmas.{Reached, Reached-start, Reached-step, Reached-end, Reached-no_end, Reached-no_step, lexeme_shorter, one_alternation, ending_complete, ending_sound, parts_of, of_parts, reads_of}

-- ---- an alternation

-- an alternation is at the start of the text
abbrev BeginsAlternation : List ℕ → Type 0
BeginsAlternation text = (tree : Regex) × (ending : List ℕ) × Reads text tree ending

-- the case of a lexeme at the start of the rest
by_step : (text rest : List ℕ) (st : Stack) → Reached text rest st → (l : Lexeme) (behind : List ℕ) → lexeme_at rest ≡ Some (l, behind) → (o : Option Stack) → step l st ≡ o →
    ((next : Stack) → step l st ≡ Some next → Dec (BeginsAlternation text)) → Dec (BeginsAlternation text)
by_step text rest st r l behind e None s further = no (λ h. Reached-no_step text rest st l behind e s r h.0 h.1 h.2)
by_step text rest st r l behind e (Some next) s further = further next s

-- the case without a lexeme there
by_end : (text rest : List ℕ) (st : Stack) → Reached text rest st → lexeme_at rest ≡ None → (o : Option Regex) → finish st.top st.below ≡ o → Dec (BeginsAlternation text)
by_end text rest st r stops None e = no (λ h. Reached-no_end text rest st stops r e h.0 h.1 h.2)
by_end text rest st r stops (Some tree) e = yes (tree, rest, Reached-end text rest st tree stops r e)

by_lexeme : (text rest : List ℕ) (st : Stack) → Reached text rest st → (o : Option (Lexeme × List ℕ)) → lexeme_at rest ≡ o →
    ((l : Lexeme) (behind : List ℕ) (next : Stack) → lexeme_at rest ≡ Some (l, behind) → step l st ≡ Some next → Dec (BeginsAlternation text)) → Dec (BeginsAlternation text)
by_lexeme text rest st r None e further = by_end text rest st r e (finish st.top st.below) refl
by_lexeme text rest st r (Some (l, behind)) e further = by_step text rest st r l behind e (step l st) refl (λ next s. further l behind next e s)

read_on : (fuel : ℕ) (text rest : List ℕ) (st : Stack) → length rest < fuel → Reached text rest st → Dec (BeginsAlternation text)
read_on zero text rest st less r = absurd (omega (arith, less))
read_on (suc fuel) text rest st less r =
    by_lexeme text rest st r (lexeme_at rest) refl
    (λ l behind next e s. read_on fuel text behind next (omega (arith, less, lexeme_shorter rest l behind e)) (Reached-step text rest st next l behind e s r))

decide_alternation : (text : List ℕ) → Dec (BeginsAlternation text)
decide_alternation text = read_on (suc (length text)) text text (stack empty_frame []) (omega arith) (Reached-start text)

-- ---- a pattern

by_ending : (text : List ℕ) → length text ≤ max_pattern_bytes → (tree : Regex) (ending : List ℕ) → Reads (body_of text) tree ending → (o : Option Bool) → ending_at ending ≡ o → Dec ((r : Reading) × IsPattern text r)
by_ending text short tree ending reads None e = no (λ h.
    let parts = parts_of text h.0 h.1 in
    let same = one_alternation (body_of text) h.0.tree tree parts.ending ending parts.reads reads in
    no_none h.0.line_end (sym e ∙ (ap ending_at (sym same.1) ∙ ending_complete parts.ending h.0.line_end parts.ends)))
by_ending text short tree ending reads (Some b) e =
    let r : Reading = record { line_begin = begins_with 94 text; line_end = b; tree = tree } in
    yes (r, of_parts text r short (record { caret = refl; ending = ending; reads = reads; ends = ending_sound ending b e }))

by_body : (text : List ℕ) → length text ≤ max_pattern_bytes → Dec (BeginsAlternation (body_of text)) → Dec ((r : Reading) × IsPattern text r)
by_body text short (no never) = no (λ h. let parts = parts_of text h.0 h.1 in never (h.0.tree, parts.ending, parts.reads))
by_body text short (yes t) = by_ending text short t.0 t.1 t.2 (ending_at t.1) refl

decide_pattern : (text : List ℕ) → Dec ((r : Reading) × IsPattern text r)
decide_pattern text = by (below_or_not (length text) max_pattern_bytes) where
  by : (length text ≤ max_pattern_bytes) ⊎ (max_pattern_bytes < length text) → Dec ((r : Reading) × IsPattern text r)
  by (inl short) = by_body text short (decide_alternation (body_of text))
  by (inr long) = no (λ h. let short = h.1.short in absurd (omega (arith, long, short)))

-- ---- a substitute

by_rest : (text : List ℕ) → length text ≤ max_pattern_bytes → (tree : Regex) (ending : List ℕ) → Reads text tree ending → Dec ((u : Regex) × IsSubstitute text u)
by_rest text short tree [] reads = yes (tree, record { short = short; lexemes = reads.lexemes; spelled = reads.spelled; alternation = reads.alternation })
by_rest text short tree (c ∷ ending) reads = no (λ h.
    let same = one_alternation text h.0 tree [] (c ∷ ending) (reads_of text h.0 h.1) reads in
    let count : 0 ≡ suc (length ending) = ap (λ (t : List ℕ). length t) same.1 in
    absurd (omega (arith, count)))

by_whole : (text : List ℕ) → length text ≤ max_pattern_bytes → Dec (BeginsAlternation text) → Dec ((u : Regex) × IsSubstitute text u)
by_whole text short (no never) = no (λ h. never (h.0, [], reads_of text h.0 h.1))
by_whole text short (yes t) = by_rest text short t.0 t.1 t.2

decide_substitute : (text : List ℕ) → Dec ((u : Regex) × IsSubstitute text u)
decide_substitute text = by (below_or_not (length text) max_pattern_bytes) where
  by : (length text ≤ max_pattern_bytes) ⊎ (max_pattern_bytes < length text) → Dec ((u : Regex) × IsSubstitute text u)
  by (inl short) = by_whole text short (decide_alternation text)
  by (inr long) = no (λ h. let short = h.1.short in absurd (omega (arith, long, short)))

-- ---- either way

pub some_pattern : (text : List ℕ) → ((r : Reading) × IsPattern text r) ⊎ ((r : Reading) → IsPattern text r → ⊥)
some_pattern text = some_or_none (IsPattern text) (decide_pattern text)

pub some_substitute : (text : List ℕ) → ((tree : Regex) × IsSubstitute text tree) ⊎ ((tree : Regex) → IsSubstitute text tree → ⊥)
some_substitute text = some_or_none (IsSubstitute text) (decide_substitute text)
