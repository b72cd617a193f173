-- A turn of the loop over the rules.
use Rattle.std.proofs.Common.{◌≡◌, ℕ, zero, suc, ◌+◌, ◌≤◌, ◌<◌, ◌⊎◌, ◌↔◌, inl, inr, Bool, true, false, List, [], ◌∷◌, Option, Some, length, refl, sym, ◌∙◌, ap, subst, arith, cond}
use Rattle.std.specs.Prelude.{slice_get}
use Rattle.lx_rules.specs.Plain.{PlainSpec}
use Rattle.lx_auto.specs.Blocks.{IsClear}
use Rattle.lx_auto.specs.Counts.{newline_count}
use Rattle.lx_auto.specs.Marking.{flag}
use Rattle.lx_auto.specs.PositionSets.{NumberedRule, size_of}
use Rattle.lx_auto.specs.RuleParts.{IsPartOf, ArePartsOf, AreReadsOf}
use Rattle.lx_rules.specs.Starts.{AreActive}
use Rattle.lx_auto.specs.Following.{InRange, AreNumbered, FollowsMarked, EndsMarked, BeginsWith, AreReadBelow, ReadsOrStays, IsFirstMatchedBelow, first_or}
use Rattle.lx_auto.specs.declared.rules.rule_part.RulePart.{RulePart}
use Rattle.lx_auto.proofs.Followed.{begin_rule, read_more, read_none, step_more, matched_more, unmatched_more}
use Rattle.lx_auto.proofs.Ranges.{follow_in, first_in}

pub some_at : {A : Type 0} → (xs : List A) (i : ℕ) → i < length xs → (x : A) × (slice_get xs i ≡ Some x)
some_at [] i h = absurd (omega arith)
some_at (x ∷ xs) zero h = (x, refl)
some_at (x ∷ xs) (suc i) h = some_at xs i (omega arith)

pub follows_in : (marks : List Bool) (r : NumberedRule) (q : ℕ) → FollowsMarked marks r q → InRange r q
follows_in marks r q h = (follow_in r h.0 q h.2).1

bool_cases : (b : Bool) → (b ≡ true) ⊎ (b ≡ false)
bool_cases true = inl refl
bool_cases false = inr refl

-- the size of a part's range
pub part_size : (part : RulePart) (r : NumberedRule) → IsPartOf part r → part.base + (part.count + newline_count part.line_end) ≡ r.base + size_of r
part_size part r is =
    let n : newline_count part.line_end ≡ newline_count r.rule.reading.line_end = ap newline_count is.line_end in
    let b = is.base in
    let k = is.count in
    omega arith

-- no position of the next rule can be read by those before
unread_yet : (Reads : NumberedRule → ℕ → Type 0) (spec : PlainSpec) (rules : List NumberedRule) (n : ℕ) (r : NumberedRule) (old : List Bool) →
    ((s : NumberedRule) (q : ℕ) → Reads s q → InRange s q) → AreNumbered spec rules → slice_get rules n ≡ Some r → AreReadBelow Reads rules n old →
    (q : ℕ) → r.base ≤ q → q < r.base + size_of r → flag old q ≡ false
unread_yet Reads spec rules n r old ranges numbered at so_far q low high = elim (bool_cases (flag old q)) [
  | inl t ↦
      let h = (so_far.each q).0 t in
      let range = ranges h.rule q h.reads in
      let apart = numbered.apart h.place n h.rule r h.below h.at at in
      absurd (omega arith)
  | inr f ↦ f
]

pub clear_part : (part : RulePart) (r : NumberedRule) (old : List Bool) → IsPartOf part r → ((q : ℕ) → r.base ≤ q → q < r.base + size_of r → flag old q ≡ false) →
    IsClear old part.base (part.base + part.count)
clear_part part r old is bare =
    let b = is.base in
    let k = is.count in
    record { each = λ q low high. bare q (omega arith) (omega arith) }

pub step_all : (marks : List Bool) (spec : PlainSpec) (rules : List NumberedRule) (parts : List RulePart) (total n : ℕ) (part : RulePart) (old new : List Bool) →
    AreNumbered spec rules → ArePartsOf parts rules total → n < length parts → slice_get parts n ≡ Some part → length old ≡ total →
    ((r : NumberedRule) → IsPartOf part r → part.base + (part.count + newline_count part.line_end) ≤ length old → IsClear old part.base (part.base + part.count) →
    ReadsOrStays (FollowsMarked marks) r old new) →
    AreReadBelow (FollowsMarked marks) rules n old → AreReadBelow (FollowsMarked marks) rules (n + 1) new
step_all marks spec rules parts total n part old new numbered are within here long step so_far =
    let len = are.long in
    let r = some_at rules n (omega arith) in
    let is = are.each n part r.0 here r.1 in
    let size = part_size part r.0 is in
    let room = are.within n r.0 r.1 in
    let bare = unread_yet (FollowsMarked marks) spec rules n r.0 old (λ s q. follows_in marks s q) numbered r.1 so_far in
    step_more (FollowsMarked marks) spec rules n r.0 old new (λ s q. follows_in marks s q) numbered r.1 so_far
    (step r.0 is (omega arith) (clear_part part r.0 old is bare))

pub matched_all : (marks : List Bool) (rules : List NumberedRule) (parts : List RulePart) (total n : ℕ) (part : RulePart) (found : Option ℕ) (m : Bool) →
    ArePartsOf parts rules total → n < length parts → slice_get parts n ≡ Some part →
    ((r : NumberedRule) → IsPartOf part r → (m ≡ true) ↔ EndsMarked marks r) →
    IsFirstMatchedBelow rules marks n found → IsFirstMatchedBelow rules marks (n + 1) (cond m (first_or found n) found)
matched_all marks rules parts total n part found true are within here ends so_far =
    let len = are.long in
    let r = some_at rules n (omega arith) in
    matched_more rules marks n r.0 found r.1 ((ends r.0 (are.each n part r.0 here r.1)).0 refl) so_far
matched_all marks rules parts total n part found false are within here ends so_far =
    let len = are.long in
    let r = some_at rules n (omega arith) in
    unmatched_more rules marks n r.0 found r.1 (λ e. let t = (ends r.0 (are.each n part r.0 here r.1)).1 e in absurd (cc)) so_far

pub begins_in : (spec : PlainSpec) (condition : ℕ) (begin : Bool) (r : NumberedRule) (q : ℕ) → BeginsWith spec condition begin r q → InRange r q
begins_in spec condition begin r q h = first_in r q h.1

pub begin_all : (spec : PlainSpec) (condition : ℕ) (begin : Bool) (rules : List NumberedRule) (parts : List RulePart) (total n : ℕ) (part : RulePart)
    (active marks old new : List Bool) → AreNumbered spec rules → ArePartsOf parts rules total → n < length parts → slice_get parts n ≡ Some part → length old ≡ total →
    AreActive spec condition begin active → ((q : ℕ) → flag marks q ≡ false) → (flag active n ≡ false → new ≡ old) →
    (flag active n ≡ true → (r : NumberedRule) → IsPartOf part r → part.base + part.count ≤ length old → IsClear old part.base (part.base + part.count) → AreReadsOf r marks true old new) →
    AreReadBelow (BeginsWith spec condition begin) rules n old → AreReadBelow (BeginsWith spec condition begin) rules (n + 1) new
begin_all spec condition begin rules parts total n part active marks old new numbered are within here long is_active clear stays goes so_far =
    let len = are.long in
    let r = some_at rules n (omega arith) in
    let is = are.each n part r.0 here r.1 in
    let tells = is_active.each n r.0.rule (numbered.rule_of n r.0 r.1) in
    elim (bool_cases (flag active n)) [
      | inl set ↦
          let size = part_size part r.0 is in
          let room = are.within n r.0 r.1 in
          let unread = unread_yet (BeginsWith spec condition begin) spec rules n r.0 old (λ s q. begins_in spec condition begin s q) numbered r.1 so_far in
          read_more (BeginsWith spec condition begin) spec rules n r.0 old new (λ s q. begins_in spec condition begin s q) numbered r.1 so_far
          (begin_rule spec condition begin r.0 marks old new clear unread (goes set r.0 is (omega arith) (clear_part part r.0 old is unread)) (tells.0 set))
      | inr not_active ↦
          subst (λ l. AreReadBelow (BeginsWith spec condition begin) rules (n + 1) l) (sym (stays not_active))
          (read_none (BeginsWith spec condition begin) rules n r.0 old r.1
          (λ q h. let t = tells.1 h.0 in let no : false ≡ true = sym not_active ∙ t in absurd (cc)) so_far)
    ]
