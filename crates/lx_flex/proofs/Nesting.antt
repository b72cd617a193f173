-- Lines that are read one after the other, with the open scopes on a stack, read a section.
use Rattle.std.proofs.Common.{ℕ, ◌≡◌, Bool, true, false, ◌||◌, List, [], ◌∷◌, ◌++◌, Option, refl, sym, subst, ◌∙◌, ap, ap₂, append_assoc, append-nil, length, codes}
use Rattle.lx_flex.specs.Activity.{joined}
use Rattle.lx_flex.specs.ConditionLists.{starts}
use Rattle.lx_flex.specs.RulesSections.{Section, end, rule, scope, Line, code, plain, opening, closing, IsLine, closing_line, Reads, nothing, code_first, rule_first, scope_first, IsRulesSection, is_blank_line, unblanked, begins_blank, if_any, active, is_code, is_first_code, is_later_code, is_end}
use Rattle.lx_flex.specs.States.{State, Does, HasRead, innermost}
use Rattle.lx_flex.proofs.JoinedLists.{active_joined}

-- the conditions of rules
abbrev pub Given : Type 0
Given = List (Option (List ℕ))

-- The rest of the innermost section, up to the `}` of its scope, and then of those around it, gives these conditions.
abbrev pub WillRead : List (List ℕ) → Bool → List (List ℕ) → List ℕ → Given → List ℕ → Type 0
WillRead declared first [] text to_come rest = (section : Section) × Reads declared first text section rest × (to_come ≡ active (length declared) [] section)
WillRead declared first (around ∷ outer) text to_come rest =
    (inside : Section) × (last next : List ℕ) × (later : Given) × Reads declared first text inside last × IsLine declared false last closing next
    × WillRead declared false outer next later rest × (to_come ≡ active (length declared) around inside ++ later)

unblanked_same : (text : List ℕ) → begins_blank text ≡ false → unblanked text ≡ text
unblanked_same [] h = refl
unblanked_same (b ∷ text) h = rw h refl

or_false : (a b : Bool) → (a || b) ≡ false → (a ≡ false) × (b ≡ false)
or_false false b h = (refl, h)
or_false true b h = absurd (cc)

later_than_first : (text : List ℕ) → is_first_code text ≡ false → is_later_code text ≡ false
later_than_first text h =
    let parts = or_false (starts (codes "%{") text) (begins_blank text) h in
    rw (unblanked_same text parts.1, parts.0, parts.1) refl

not_code_later : (first : Bool) (text : List ℕ) → is_code first text ≡ false → is_code false text ≡ false
not_code_later false text h = h
not_code_later true text h =
    let parts = or_false (is_blank_line text) (is_first_code text) h in
    ap₂ (λ (a b : Bool). a || b) parts.0 (later_than_first text parts.1)

closing_later : (declared : List (List ℕ)) (first : Bool) (text next : List ℕ) → IsLine declared first text closing next → IsLine declared false text closing next
closing_later declared first text next (closing_line no_code begins further) = closing_line (not_code_later first text no_code) begins further

module _ (declared : List (List ℕ)) where
  code_step : (first : Bool) (stack : List (List ℕ)) (text next rest : List ℕ) (to_come : Given) → IsLine declared first text code next →
      WillRead declared first stack next to_come rest → WillRead declared first stack text to_come rest
  code_step first [] text next rest to_come is (section, reads, same) = (section, code_first is reads, same)
  code_step first (around ∷ outer) text next rest to_come is (inside, last, after, later, reads, closes, goes_on, same) =
      (inside, last, after, later, code_first is reads, closes, goes_on, same)

  rule_step : (first : Bool) (stack : List (List ℕ)) (text next rest own : List ℕ) (to_come : Given) → IsLine declared first text (plain own) next →
      WillRead declared false stack next to_come rest → WillRead declared first stack text (if_any (joined (length declared) (innermost stack) own) ∷ to_come) rest
  rule_step first [] text next rest own to_come is (section, reads, same) =
      (rule own section, rule_first is reads, ap (λ (more : Given). if_any (joined (length declared) [] own) ∷ more) same)
  rule_step first (around ∷ outer) text next rest own to_come is (inside, last, after, later, reads, closes, goes_on, same) =
      (rule own inside, last, after, later, rule_first is reads, closes, goes_on, ap (λ (more : Given). if_any (joined (length declared) around own) ∷ more) same)

  scope_step : (first : Bool) (stack : List (List ℕ)) (text next rest own : List ℕ) (to_come : Given) → IsLine declared first text (opening own) next →
      WillRead declared false (joined (length declared) (innermost stack) own ∷ stack) next to_come rest → WillRead declared first stack text to_come rest
  scope_step first [] text next rest own to_come is (inside, last, after, later, reads, closes, (section, more, same), whole) = (
    scope own inside section,
    scope_first is reads closes more,
    whole ∙ ap₂ (λ (a b : Given). a ++ b) (active_joined (length declared) [] own inside) same,
  )
  scope_step first (around ∷ outer) text next rest own to_come is
      (inside, last, after, later, reads, closes, (section, end_of, behind, further, more, closes_it, goes_on, same), whole) = (
        scope own inside section,
        end_of,
        behind,
        further,
        scope_first is reads closes more,
        closes_it,
        goes_on,
        whole ∙ (ap₂ (λ (a b : Given). a ++ b) (active_joined (length declared) around own inside) same
            ∙ sym (append_assoc (active (length declared) (around ++ own) inside) (active (length declared) around section) further)),
      )

  close_step : (first : Bool) (top : List ℕ) (outer : List (List ℕ)) (text next rest : List ℕ) (to_come : Given) → IsLine declared first text closing next →
      WillRead declared false outer next to_come rest → WillRead declared first (top ∷ outer) text to_come rest
  close_step first top outer text next rest to_come is goes_on = (end, text, next, to_come, nothing, closing_later declared first text next is, goes_on, refl)

-- From the start of a section this place was reached: whatever is read from here on, the section from the start has these conditions after those that were given.
pub record IsReached (declared : List (List ℕ)) (start text : List ℕ) (state : State) : Type 0 where
  pub goes_on : (to_come : Given) (rest : List ℕ) → WillRead declared state.first state.scopes text to_come rest →
      WillRead declared true [] start (state.given ++ to_come) rest

pub reached_start : (declared : List (List ℕ)) (start : List ℕ) (state : State) → state ≡ record { first = true; scopes = []; given = [] } → IsReached declared start start state
reached_start declared start state h = subst (IsReached declared start start) (sym h) (record { goes_on = λ to_come rest w. w })

pub reached_next : (declared : List (List ℕ)) (start text next : List ℕ) (old new : State) → IsReached declared start text old → HasRead declared text next old new →
    IsReached declared start next new
reached_next declared start text next old new reached read = go read.line read.is_line read.does
  where
    go : (line : Line) → IsLine declared old.first text line next → Does (length declared) line old new → IsReached declared start next new
    go code is does = subst (IsReached declared start next) (sym does)
        (record { goes_on = λ to_come rest w. reached.goes_on to_come rest (code_step declared old.first old.scopes text next rest to_come is w) })
    go (plain own) is does = subst (IsReached declared start next) (sym does)
        (record {
          goes_on = λ to_come rest w.
              let given : Option (List ℕ) = if_any (joined (length declared) (innermost old.scopes) own) in
              let before = reached.goes_on (given ∷ to_come) rest (rule_step declared old.first old.scopes text next rest own to_come is w) in
              subst (λ (all : Given). WillRead declared true [] start all rest) (sym (append_assoc old.given (given ∷ []) to_come)) before;
        })
    go (opening own) is does = subst (IsReached declared start next) (sym does)
        (record { goes_on = λ to_come rest w. reached.goes_on to_come rest (scope_step declared old.first old.scopes text next rest own to_come is w) })
    go closing is does =
        let w = λ (to_come : Given) (rest : List ℕ) (w : WillRead declared false new.scopes next to_come rest).
        subst (λ (scopes : List (List ℕ)). WillRead declared old.first scopes text to_come rest) (sym does.scopes)
        (close_step declared old.first does.top new.scopes text next rest to_come is w) in
        record {
          goes_on = λ to_come rest on.
              subst (λ (given : Given). WillRead declared true [] start (given ++ to_come) rest) (sym does.given)
              (reached.goes_on to_come rest (w to_come rest (subst (λ (first : Bool). WillRead declared first new.scopes next to_come rest) does.first on)));
        }

pub section_reached : (declared : List (List ℕ)) (start rest : List ℕ) (state : State) → IsReached declared start rest state → state.scopes ≡ [] → is_end rest ≡ true →
    IsRulesSection declared start rest state.given
section_reached declared start rest state reached none ends =
    let whole : WillRead declared true [] start (state.given ++ []) rest =
    reached.goes_on [] rest (subst (λ (scopes : List (List ℕ)). WillRead declared state.first scopes rest [] rest) (sym none) (end, nothing, refl)) in
    record { section = whole.0; reads = whole.1; ends = ends; conditions_are = sym (append-nil state.given) ∙ whole.2 }
