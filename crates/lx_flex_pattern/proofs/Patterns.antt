-- Texts without a pattern at their start.
use Rattle.std.proofs.Common.{◌≡◌, ℕ, Bool, true, false, List, Option, Some, None, refl, sym, subst}
use Rattle.lx_ere.specs.Regex.{Regex}
use Rattle.lx_flex_pattern.specs.declared.options.PatternOptions.{PatternOptions}
use Rattle.lx_flex_pattern.specs.Lexing.{Definition, initial}
use Rattle.lx_flex_pattern.specs.Intervals.{KeepsPattern, keeps_none, keeps_some}
use Rattle.lx_flex_pattern.specs.Progress.{ReadsKept, ReadsNothing}
use Rattle.lx_flex_pattern.specs.Reading.{Place, place, Stop, at_end, at_dollar, at_slash, Reads, FlexReading, EndsAt, IsFlexPattern, plain, with_dollar, with_context}
use Rattle.lx_flex_pattern.proofs.Rows.{one_alternation}

abbrev Names : Type 0
Names = List ℕ → Option Definition

-- the place at the start of a text
abbrev pub start : PatternOptions → List ℕ → Place
start o text = place (initial o) 0 text

-- if no alternation is read
pub nothing_read : (o : PatternOptions) (names : Names) (text : List ℕ) → ReadsNothing o names (start o text) → (r : FlexReading) → IsFlexPattern o names text r → ⊥
nothing_read o names text none _ (plain _ _ _ t l n g a) = none t at_end l g
nothing_read o names text none _ (with_dollar _ _ _ t l n g a) = none t at_dollar l g
nothing_read o names text none _ (with_context _ _ _ t w m l n g h a) = none t at_slash m g

-- if an alternation is read up to the end of the pattern, which isn't in the text itself
pub no_end : (o : PatternOptions) (names : Names) (text : List ℕ) (tree : Regex) (last : Place) → ReadsKept o names (start o text) tree at_end last → ((n : ℕ) → EndsAt text n last → ⊥) →
    (r : FlexReading) → IsFlexPattern o names text r → ⊥
no_end o names text tree last reads none _ (plain _ _ _ t l n g a) =
    let same = one_alternation o names (start o text) t reads.written at_end at_end l last g reads.reads in
    none n (subst (EndsAt text n) same.2 a)
no_end o names text tree last reads none _ (with_dollar _ _ _ t l n g a) =
    let same = one_alternation o names (start o text) t reads.written at_dollar at_end l last g reads.reads in
    let stop : at_dollar ≡ at_end = same.1 in absurd (cc)
no_end o names text tree last reads none _ (with_context _ _ _ t w m l n g h a) =
    let same = one_alternation o names (start o text) t reads.written at_slash at_end m last g reads.reads in
    let stop : at_slash ≡ at_end = same.1 in absurd (cc)

-- the same with a `$` before the end
pub no_dollar : (o : PatternOptions) (names : Names) (text : List ℕ) (tree : Regex) (last : Place) → ReadsKept o names (start o text) tree at_dollar last → ((n : ℕ) → EndsAt text n last → ⊥) →
    (r : FlexReading) → IsFlexPattern o names text r → ⊥
no_dollar o names text tree last reads none _ (plain _ _ _ t l n g a) =
    let same = one_alternation o names (start o text) t reads.written at_end at_dollar l last g reads.reads in
    let stop : at_end ≡ at_dollar = same.1 in absurd (cc)
no_dollar o names text tree last reads none _ (with_dollar _ _ _ t l n g a) =
    let same = one_alternation o names (start o text) t reads.written at_dollar at_dollar l last g reads.reads in
    none n (subst (EndsAt text n) same.2 a)
no_dollar o names text tree last reads none _ (with_context _ _ _ t w m l n g h a) =
    let same = one_alternation o names (start o text) t reads.written at_slash at_dollar m last g reads.reads in
    let stop : at_slash ≡ at_dollar = same.1 in absurd (cc)

-- if a `/` is read, and after it no alternation up to the end
pub no_context : (o : PatternOptions) (names : Names) (text : List ℕ) (tree : Regex) (middle : Place) → ReadsKept o names (start o text) tree at_slash middle →
    ((t : Regex) (last : Place) (n : ℕ) → Reads o names middle t at_end last → EndsAt text n last → ⊥) → (r : FlexReading) → IsFlexPattern o names text r → ⊥
no_context o names text tree middle reads none _ (plain _ _ _ t l n g a) =
    let same = one_alternation o names (start o text) t reads.written at_end at_slash l middle g reads.reads in
    let stop : at_end ≡ at_slash = same.1 in absurd (cc)
no_context o names text tree middle reads none _ (with_dollar _ _ _ t l n g a) =
    let same = one_alternation o names (start o text) t reads.written at_dollar at_slash l middle g reads.reads in
    let stop : at_dollar ≡ at_slash = same.1 in absurd (cc)
no_context o names text tree middle reads none _ (with_context _ _ _ t w m l n g h a) =
    let same = one_alternation o names (start o text) t reads.written at_slash at_slash m middle g reads.reads in
    none w l n (subst (λ p. Reads o names p w at_end l) same.2 h) a

-- after the `/` another alternation is read: it has another stop, or its end isn't in the text itself
pub no_other : (o : PatternOptions) (names : Names) (text : List ℕ) (middle : Place) (tree : Regex) (stop : Stop) (last : Place) → ReadsKept o names middle tree stop last →
    (stop ≡ at_end → (n : ℕ) → EndsAt text n last → ⊥) → (t : Regex) (l : Place) (n : ℕ) → Reads o names middle t at_end l → EndsAt text n l → ⊥
no_other o names text middle tree stop last reads none t l n g a =
    let same = one_alternation o names middle t reads.written at_end stop l last g reads.reads in
    none (sym same.1) n (subst (EndsAt text n) same.2 a)

-- a pattern that was read, where it is known if a `^` was
pub is_plain : (o : PatternOptions) (names : Names) (text : List ℕ) (tree : Regex) (last : Place) (n : ℕ) (begin : Bool) → last.state.line_begin ≡ begin → ReadsKept o names (start o text) tree at_end last → EndsAt text n last →
    KeepsPattern o names text (record { line_begin = begin; line_end = false; tree = tree; trailing = None; length = n })
is_plain o names text tree last n begin e reads ends = record {
  written = record { line_begin = last.state.line_begin; line_end = false; tree = reads.written; trailing = None; length = n };
  is_pattern = plain o names text reads.written last n reads.reads ends;
  keeps = record { begins = sym e; ends = refl; tree = reads.is_kept; trailing = keeps_none; bytes = refl };
}

pub is_with_dollar : (o : PatternOptions) (names : Names) (text : List ℕ) (tree : Regex) (last : Place) (n : ℕ) (begin : Bool) → last.state.line_begin ≡ begin → ReadsKept o names (start o text) tree at_dollar last →
    EndsAt text n last → KeepsPattern o names text (record { line_begin = begin; line_end = true; tree = tree; trailing = None; length = n })
is_with_dollar o names text tree last n begin e reads ends = record {
  written = record { line_begin = last.state.line_begin; line_end = true; tree = reads.written; trailing = None; length = n };
  is_pattern = with_dollar o names text reads.written last n reads.reads ends;
  keeps = record { begins = sym e; ends = refl; tree = reads.is_kept; trailing = keeps_none; bytes = refl };
}

pub is_with_context : (o : PatternOptions) (names : Names) (text : List ℕ) (tree trailing : Regex) (middle last : Place) (n : ℕ) (begin : Bool) (stop : Stop) → middle.state.line_begin ≡ begin → stop ≡ at_end →
    ReadsKept o names (start o text) tree at_slash middle → ReadsKept o names middle trailing stop last → EndsAt text n last →
    KeepsPattern o names text (record { line_begin = begin; line_end = false; tree = tree; trailing = Some trailing; length = n })
is_with_context o names text tree trailing middle last n begin stop e f reads more ends = record {
  written = record { line_begin = middle.state.line_begin; line_end = false; tree = reads.written; trailing = Some more.written; length = n };
  is_pattern = with_context o names text reads.written more.written middle last n reads.reads (subst (λ s. Reads o names middle more.written s last) f more.reads) ends;
  keeps = record { begins = sym e; ends = refl; tree = reads.is_kept; trailing = keeps_some more.written trailing more.is_kept; bytes = refl };
}
