-- The reports, and the texts after them.
use Rattle.std.proofs.Common.{ℕ, ◌≡◌, ◌<◌, Bool, true, false, List, [], ◌∷◌, ◌++◌, codes, sym, ap, subst, ◌∙◌, append_assoc, append-nil}
use Rattle.std.proofs.lemmas.List.Elements.{All-head, All-same}
use Rattle.lx_report.specs.Lines.{code_text, finding_line, head_text, shown, tag_text}
use Rattle.lx_report.specs.declared.finding.ReportPlace.{ReportPlace}
use Rattle.lx_report.specs.declared.finding.Severity.TheVariants.{Error, Warning}
use Rattle.lx_warnings.specs.Kinds.{has_kind}
use Rattle.lx_warnings.specs.Names.{name_text}
use Rattle.lx_warnings.specs.declared.kinds.KindSet.{KindSet}
use Rattle.lx_warnings.specs.declared.kinds.WarningKind.{WarningKind}
use Rattle.lx_warnings.specs.declared.warnings.Warning.{Warning as WarningTold}
use Rattle.lx_report.specs.Said.{AreAsked, BeginsWithWarning, Extends, TellsFault, TellsNoWarning, TellsSummary, TellsWarning, TellsWarnings}

pub extends_itself : (old : List ℕ) → Extends old old
extends_itself old = record { more = []; is = sym (append-nil old) }

pub extends_more : (old mid new : List ℕ) → Extends old mid → Extends mid new → Extends old new
extends_more old mid new h k = record { more = h.more ++ k.more; is = k.is ∙ (ap (λ bs. bs ++ k.more) h.is ∙ append_assoc old h.more k.more) }

-- the line of an error
pub told_line : (file code words name : List ℕ) (place : ReportPlace) (line : ℕ) (old new : List ℕ) → place.line ≡ line
    → new ≡ old ++ finding_line file Error place code words name → TellsFault file code line old new
told_line file code words name place line old new at h =
    record { place = place; at_line = at; rest = shown words ++ (tag_text Error name ++ codes "\n"); said = h }

pub told_more : (file code : List ℕ) (line : ℕ) (old mid new : List ℕ) → TellsFault file code line old mid → Extends mid new → TellsFault file code line old new
told_more file code line old mid new h k =
    let head = head_text file h.place Error in
    let said = code_text code in
    record {
      place = h.place;
      at_line = h.at_line;
      rest = h.rest ++ k.more;
      said = k.is ∙ (ap (λ bs. bs ++ k.more) h.said ∙ (append_assoc old (head ++ (said ++ h.rest)) k.more
          ∙ ap (λ bs. old ++ bs) (append_assoc head (said ++ h.rest) k.more ∙ ap (λ bs. head ++ bs) (append_assoc said h.rest k.more))));
    }

pub told_extends : (file code : List ℕ) (line : ℕ) (old new : List ℕ) → TellsFault file code line old new → Extends old new
told_extends file code line old new h = record { more = head_text file h.place Error ++ (code_text code ++ h.rest); is = h.said }

-- ---- warnings

pub warning_more : (file : List ℕ) (kind : WarningKind) (old mid new : List ℕ) → TellsWarning file kind old mid → Extends mid new → TellsWarning file kind old new
warning_more file kind old mid new h k =
    let line = finding_line file Warning h.place [] h.words (name_text kind) in
    record {
      place = h.place;
      words = h.words;
      rest = h.rest ++ k.more;
      said = k.is ∙ (ap (λ bs. bs ++ k.more) h.said ∙ (append_assoc old (line ++ h.rest) k.more ∙ ap (λ bs. old ++ bs) (append_assoc line h.rest k.more)));
    }

-- the first of some warnings is of an enabled kind
pub first_is_asked : (asked : KindSet) (told slice more : List WarningTold) (first : WarningTold) → slice ≡ told → slice ≡ first ∷ more → AreAsked asked told → has_kind asked first.kind ≡ true
first_is_asked asked told slice more first same parts h =
    All-head (λ w. has_kind asked w.kind ≡ true) first more (All-same (λ w. has_kind asked w.kind ≡ true) (first ∷ more) told (sym parts ∙ same) h)

pub begins : (file : List ℕ) (asked : KindSet) (kind : WarningKind) (old mid new : List ℕ) → has_kind asked kind ≡ true → TellsWarning file kind old mid → Extends mid new
    → old ≡ [] → BeginsWithWarning file (has_kind asked) new
begins file asked kind old mid new is h k none =
    record { kind = kind; asked = is; told = subst (λ bs. TellsWarning file kind bs new) none (warning_more file kind old mid new h k) }

pub tells_summary : (file old mid new : List ℕ) → mid ≡ old ++ (shown file ++ codes ": accepted: ") → Extends mid new → TellsSummary file old new
tells_summary file old mid new h k =
    record {
      rest = k.more;
      said = k.is ∙ (ap (λ bs. bs ++ k.more) h ∙ (append_assoc old (shown file ++ codes ": accepted: ") k.more ∙ ap (λ bs. old ++ bs) (append_assoc (shown file) (codes ": accepted: ") k.more)));
    }

summary_extends : (file old new : List ℕ) → TellsSummary file old new → Extends old new
summary_extends file old new h = record { more = shown file ++ (codes ": accepted: " ++ h.rest); is = h.said }

no_warning : (file : List ℕ) (quiet : Bool) (old new : List ℕ) → quiet ≡ false → old ≡ [] → TellsSummary file old new → TellsNoWarning file quiet new
no_warning file true old new is none h = (cc)
no_warning file false old new is none h = subst (λ bs. TellsSummary file bs new) none h

begins_more : (file : List ℕ) (asked : KindSet) (mid new : List ℕ) → Extends mid new → BeginsWithWarning file (has_kind asked) mid → BeginsWithWarning file (has_kind asked) new
begins_more file asked mid new k h = record { kind = h.kind; asked = h.asked; told = warning_more file h.kind [] mid new h.told k }

-- the report with the counts after the warnings
pub tells_counted : (file : List ℕ) (quiet : Bool) (asked : KindSet) (count : ℕ) (old mid new : List ℕ) → quiet ≡ false → (count ≡ 0 → mid ≡ old)
    → (0 < count → old ≡ [] → BeginsWithWarning file (has_kind asked) mid) → TellsSummary file mid new → old ≡ [] → TellsWarnings file quiet (has_kind asked) count new
tells_counted file quiet asked count old mid new loud none first h empty =
    record {
      none = λ n. no_warning file quiet mid new loud (none n ∙ empty) h;
      some = λ n. begins_more file asked mid new (summary_extends file mid new h) (first n empty);
    }
