-- No fault of a text is E90: that code is answered only if an allocation failed, and at line 0.
use Rattle.std.proofs.Common.{◌≡◌, ◌≢◌, ◌∙◌, ℕ, zero, suc, Bool, true, false, cond, List, [], ◌∷◌, Ok, Err, Result, refl, sym, ap, subst, arith, length, nat_eq, nat_lt}
use Rattle.std.specs.List.{list_any}
use Rattle.std.specs.Cmp.Lexicographic.{pointwise}
use Rattle.lx_rules.specs.Limits.{max_definitions, max_rules, max_start_conditions}
use Rattle.lx_spec.specs.Bytes.{lines}
use Rattle.lx_spec.specs.Faults.{fault, out_of_memory}
use Rattle.lx_spec.specs.Sections.{RawRule, ParsedSections, Entry, conditions, definition, rule, formless, unclosed, endless, definitions, entries, ◌>>=◌, with_start_condition, with_start_conditions, with_rule, with_entry, with_entries, only_initial}
use Rattle.lx_spec.specs.Verdict.{Cause, prefix_form, prefix_name, reading, undefined, depth, action_form, begin_name, no_next, code_of}
use Rattle.lx_spec.specs.Whole.{IsFault, too_long, in_sections, in_rules}
use Rattle.lx_spec.specs.declared.fault.Code.TheVariants as code
use Rattle.lx_spec.specs.declared.fault.SpecFault.{SpecFault}

abbrev IsNoMemory : Result ParsedSections SpecFault → Type 0
IsNoMemory (Ok d) = Unit {0}
IsNoMemory (Err f) = f.code ≡ code.Memory → ⊥

bind-none : (r : Result ParsedSections SpecFault) (k : ParsedSections → Result ParsedSections SpecFault) → IsNoMemory r → ((d : ParsedSections) → IsNoMemory (k d)) → IsNoMemory (r >>= k)
bind-none (Ok d) k none more = more d
bind-none (Err f) k none more = none

pick-none : (b : Bool) (r s : Result ParsedSections SpecFault) → IsNoMemory r → IsNoMemory s → IsNoMemory (cond b r s)
pick-none true r s none other = none
pick-none false r s none other = other

-- a name is known, or there is no room
declared-none : (known room : Bool) (more : ParsedSections) (n : ℕ) → IsNoMemory (cond known (Err (fault code.Twice n)) (cond room (Ok more) (Err (fault code.TooMany n))))
declared-none known room more n = pick-none known (Err (fault code.Twice n)) (cond room (Ok more) (Err (fault code.TooMany n))) (λ e. cc) (pick-none room (Ok more) (Err (fault code.TooMany n)) tt (λ e. cc))

start_conditions-none : (names : List (List ℕ)) (before : ParsedSections) (n : ℕ) (exclusive : Bool) → IsNoMemory (with_start_conditions before n exclusive names)
start_conditions-none [] before n exclusive = tt
start_conditions-none (name ∷ names) before n exclusive =
    bind-none (with_start_condition before n exclusive name) (λ d. with_start_conditions d n exclusive names)
    (declared-none (list_any (λ s. pointwise nat_eq s.name name) before.start_conditions) (nat_lt (length before.start_conditions) max_start_conditions) _ n) (λ d. start_conditions-none names d n exclusive)

rule-none : (before : ParsedSections) (raw : RawRule) (closed : Bool) → IsNoMemory (with_rule before raw closed)
rule-none before raw closed = by (nat_lt (length before.rules) max_rules) closed _ where
  by : (room closed : Bool) (more : ParsedSections) → IsNoMemory (cond room (cond closed (Ok more) (Err (fault code.NotClosed raw.line))) (Err (fault code.TooMany raw.line)))
  by true true more = tt
  by true false more = λ e. cc
  by false closed more = λ e. cc

entry-none : (entry : Entry) (before : ParsedSections) → IsNoMemory (with_entry before entry)
entry-none (conditions n exclusive names) before = start_conditions-none names before n exclusive
entry-none (definition n name substitute) before = declared-none (list_any (λ d. pointwise nat_eq d.name name) before.definitions) (nat_lt (length before.definitions) max_definitions) _ n
entry-none (rule raw closed) before = rule-none before raw closed
entry-none (formless n) before = λ e. cc
entry-none (unclosed n) before = λ e. cc
entry-none endless before = λ e. cc

entries-none : (entries : List Entry) (before : ParsedSections) → IsNoMemory (with_entries before entries)
entries-none [] before = tt
entries-none (entry ∷ more) before = bind-none (with_entry before entry) (λ d. with_entries d more) (entry-none entry before) (λ d. entries-none more d)

cause-none : (cause : Cause) → code_of cause ≡ code.Memory → ⊥
cause-none prefix_form e = cc
cause-none prefix_name e = cc
cause-none reading e = cc
cause-none undefined e = cc
cause-none depth e = cc
cause-none action_form e = cc
cause-none begin_name e = cc
cause-none no_next e = cc

pub fault-none : (text : List ℕ) (f : SpecFault) → IsFault text f → f.code ≡ code.Memory → ⊥
fault-none text _ (too_long long) e = cc
fault-none text _ (in_sections f short is) e = subst IsNoMemory is (entries-none (entries definitions 1 (lines text)) only_initial) e
fault-none text _ (in_rules sections trees f short is read first) e = cause-none first.case.cause (sym (ap (λ (g : SpecFault). g.code) first.is) ∙ e)

-- If a fault is one of the text unless it is the one of memory, and its code is E90, it is at line 0.
pub memory-line : (text : List ℕ) (f : SpecFault) → (f ≢ out_of_memory → IsFault text f) → f.code ≡ code.Memory → f.line ≡ 0
memory-line text f is e = by f.line (λ other. is (λ same. other (ap (λ (g : SpecFault). g.line) same))) where
  by : (n : ℕ) → ((n ≢ 0) → IsFault text f) → n ≡ 0
  by zero never = refl
  by (suc n) never = absurd (fault-none text f (never (λ zero-line. absurd (omega (arith, zero-line)))) e)
