-- A text has one verdict.
use Rattle.std.proofs.Common.{◌≡◌, ◌∙◌, ℕ, List, Option, Ok, Err, Result, refl, ap, sym, subst, arith}
use Rattle.lx_ere.specs.Regex.{Regex, Reading}
use Rattle.lx_ere.specs.Pattern.{IsPattern, IsSubstitute}
use Rattle.lx_rules.specs.Plain.{PlainSpec}
use Rattle.lx_spec.specs.First.{IsFirst, here, later, HoldsOfNone}
use Rattle.lx_spec.specs.Sections.{ParsedSections}
use Rattle.lx_spec.specs.Dictionary.{AreTrees}
use Rattle.lx_spec.specs.Outcome.{ResolvedRule, AreResolved, AreSpec}
use Rattle.lx_spec.specs.Verdict.{SymbolTable, symbols_of, Case, Holds, IsFirstFault, cases, fault_of}
use Rattle.lx_spec.specs.Whole.{IsFault, too_long, in_sections, in_rules, IsRead}
use Rattle.lx_spec.specs.declared.fault.SpecFault.{SpecFault}
use Rattle.lx_spec.proofs.OneSpec.{one_trees, one_spec}

one-first : {A : Type 0} (P : A → Type 0) (list : List A) (a b : A) → IsFirst P list a → IsFirst P list b → a ≡ b
one-first P _ _ _ (here a more p) (here _ _ q) = refl
one-first P _ _ _ (here a more p) (later _ _ b never f) = absurd (never p)
one-first P _ _ _ (later b more a never f) (here _ _ q) = absurd (never q)
one-first P _ _ _ (later b more a never f) (later _ _ c unheld g) = one-first P more a c f g

none-first : {A : Type 0} (P : A → Type 0) (list : List A) (a : A) → HoldsOfNone P list → IsFirst P list a → ⊥
none-first P _ _ none (here a more p) = none.0 p
none-first P _ _ none (later b more a never f) = none-first P more a none.1 f

one-fault-of : (table : SymbolTable) (list : List Case) (e f : SpecFault) → IsFirstFault table list e → IsFirstFault table list f → e ≡ f
one-fault-of table list e f a b = a.is ∙ ap fault_of (one-first (Holds table) list a.case b.case a.first b.first) ∙ sym b.is

module _ (one_substitute : (text : List ℕ) (r s : Regex) → IsSubstitute text r → IsSubstitute text s → r ≡ s) where
  -- a fact about the trees of the sections is one about any others
  moved : (R : ParsedSections → List (Option Regex) → Type 0) (sections other : ParsedSections) (trees others : List (Option Regex)) → other ≡ sections → AreTrees sections.definitions trees → AreTrees other.definitions others → R other others → R sections trees
  moved R sections other trees others same read read_too r =
      let there = subst (λ (s : ParsedSections). AreTrees s.definitions others) same read_too in
      subst (R sections) (one_trees one_substitute sections.definitions others trees there read) (subst (λ (s : ParsedSections). R s others) same r)

  one-rules : (sections other : ParsedSections) (trees others : List (Option Regex)) (e f : SpecFault) → other ≡ sections → AreTrees sections.definitions trees → AreTrees other.definitions others →
      IsFirstFault (symbols_of sections trees) (cases sections.rules) e → IsFirstFault (symbols_of other others) (cases other.rules) f → e ≡ f
  one-rules sections other trees others e f same read read_too a b =
      one-fault-of (symbols_of sections trees) (cases sections.rules) e f a (moved (λ s ts. IsFirstFault (symbols_of s ts) (cases s.rules) f) sections other trees others same read read_too b)

  pub one-fault : (text : List ℕ) (e f : SpecFault) → IsFault text e → IsFault text f → e ≡ f
  one-fault text _ _ (too_long a) (too_long b) = refl
  one-fault text _ _ (too_long a) (in_sections f short is) = absurd (omega arith)
  one-fault text _ _ (too_long a) (in_rules sections trees f short is read first) = absurd (omega arith)
  one-fault text _ _ (in_sections e short is) (too_long b) = absurd (omega arith)
  one-fault text _ _ (in_sections e short is) (in_sections f short_too is_too) = let same : ◌≡◌ {A = Result ParsedSections SpecFault} (Err e) (Err f) = sym is ∙ is_too in cc
  one-fault text _ _ (in_sections e short is) (in_rules sections trees f short_too is_too read first) = let no : ◌≡◌ {A = Result ParsedSections SpecFault} (Err e) (Ok sections) = sym is ∙ is_too in cc
  one-fault text _ _ (in_rules sections trees e short is read first) (too_long b) = absurd (omega arith)
  one-fault text _ _ (in_rules sections trees e short is read first) (in_sections f short_too is_too) = let no : ◌≡◌ {A = Result ParsedSections SpecFault} (Ok sections) (Err f) = sym is ∙ is_too in cc
  one-fault text _ _ (in_rules sections trees e short is read first) (in_rules other others f short_too is_too read_too first_too) =
      let oks : ◌≡◌ {A = Result ParsedSections SpecFault} (Ok other) (Ok sections) = sym is_too ∙ is in
      let same : other ≡ sections = cc in
      one-rules sections other trees others e f same read read_too first first_too

  pub no-fault : (text : List ℕ) (spec : PlainSpec) (f : SpecFault) → IsRead text spec → IsFault text f → ⊥
  no-fault text spec _ r (too_long b) = let short = r.short in omega (arith, short)
  no-fault text spec _ r (in_sections f short is) = let no : ◌≡◌ {A = Result ParsedSections SpecFault} (Ok r.sections) (Err f) = sym r.parsed ∙ is in cc
  no-fault text spec _ r (in_rules sections trees f short is read first) =
      let oks : ◌≡◌ {A = Result ParsedSections SpecFault} (Ok sections) (Ok r.sections) = sym is ∙ r.parsed in
      let same : sections ≡ r.sections = cc in
      let there = moved (λ s ts. IsFirstFault (symbols_of s ts) (cases s.rules) f) r.sections sections r.trees trees same r.read read first in
      none-first (Holds (symbols_of r.sections r.trees)) (cases r.sections.rules) there.case r.clean there.first

-- the meaning of the sections' rules for a specification
record IsSpecOf (spec : PlainSpec) (sections : ParsedSections) (trees : List (Option Regex)) : Type 0 where
  resolved : List ResolvedRule
  resolves : AreResolved sections.start_conditions sections.rules resolved
  is : AreSpec (symbols_of sections trees) sections.rules resolved spec

pub one-read : (one_substitute : (text : List ℕ) (r s : Regex) → IsSubstitute text r → IsSubstitute text s → r ≡ s) (one_reading : (text : List ℕ) (r s : Reading) → IsPattern text r → IsPattern text s → r ≡ s)
    (text : List ℕ) (s t : PlainSpec) → IsRead text s → IsRead text t → s ≡ t
one-read one_substitute one_reading text s t a b =
    let oks : ◌≡◌ {A = Result ParsedSections SpecFault} (Ok b.sections) (Ok a.sections) = sym b.parsed ∙ a.parsed in
    let same : b.sections ≡ a.sections = cc in
    let there = moved one_substitute (IsSpecOf t) a.sections b.sections a.trees b.trees same a.read b.read (record { resolved = b.resolved; resolves = b.resolves; is = b.is }) in
    one_spec one_substitute one_reading a.sections.start_conditions a.sections.definitions a.sections.rules a.trees a.trees a.resolved there.resolved s t a.read a.read a.resolves there.resolves a.is there.is
