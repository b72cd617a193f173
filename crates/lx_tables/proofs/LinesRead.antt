-- Lines that were written are read again.
use Rattle.std.proofs.Common.{ℕ, zero, suc, ◌≡◌, ◌<◌, ◌≤◌, ◌+◌, ◌-◌, ◌&&◌, Bool, true, false, List, [], ◌∷◌, ◌++◌, length, drop, map, get_or, refl, sym, ◌∙◌, ap, arith, append_assoc, append-nil, inl, inr}
use Rattle.std.specs.Prelude.{IsTrue, slice_index, decimal, nat_lt, codes, replicate, Option, Some, None, if◌then◌else◌, ◌==◌}
use Rattle.std.specs.List.{flat_map, list_all, range_with_len}
use Rattle.std.proofs.lemmas.Bool.{ltb-true, lt-ltb}
use Rattle.std.proofs.lemmas.Bool.Decides.{eqb_tells}
use Rattle.std.proofs.lemmas.List.{length-append}
use Rattle.std.proofs.lemmas.Grind.{replicate_next}
use Rattle.lx_rules.specs.Identifiers.{is_identifier, begins_identifier, is_word_byte}
use Rattle.lx_rules.specs.Invariant.{are_steps}
use Rattle.lx_rules.specs.declared.rule.Kind.TheVariants.{Name, Number}
use Rattle.lx_rules.specs.declared.rule.Step.{Step}
use Rattle.lx_rules.specs.declared.rule.Step.TheVariants.{Echo, Begin, Return}
use Rattle.lx_tables.specs.Model.{TableRule}
use Rattle.lx_tables.specs.Texts.{kind_line, step_text, line_end_text, rule_line, entry_text, accepts_text}
use Rattle.lx_tables.proofs.NumbersRead.{NoDigit, number_read, run_is, one_value}
use Rattle.lx_tables.proofs.Onto.{run_then}
use Rattle.lx_tables.specs.Readers.{read_digits, read_many, read_line, read_kind, step_of, read_steps, read_rule, read_accepts, read_entry, read_row, below}
use Rattle.lx_tables.specs.declared.version.Version.TheVariants.{Second}

abbrev pub with_rest : {A : Type 0} → A → List ℕ → A × List ℕ
with_rest a rest = (a, rest)

-- values that are read one by one are read together
pub many_read : {A B : Type 0} (read : List ℕ → B × List ℕ) (text_of : A → List ℕ) (value : A → B) (d : A) (Good : A → Type 0) →
    ((a : A) (behind : List ℕ) → Good a → read (text_of a ++ behind) ≡ with_rest (value a) behind) → (xs : List A) (behind : List ℕ) →
    ((k : ℕ) → k < length xs → Good (get_or xs k d)) → read_many read (length xs) (flat_map text_of xs ++ behind) ≡ with_rest (map value xs) behind
many_read read text_of value d Good one [] behind h = refl
many_read {A} {B} read text_of value d Good one (x ∷ xs) behind h =
    let first : read (text_of x ++ (flat_map text_of xs ++ behind)) ≡ with_rest (value x) (flat_map text_of xs ++ behind) = one x (flat_map text_of xs ++ behind) (h 0 (omega arith)) in
    let more : read_many read (length xs) (flat_map text_of xs ++ behind) ≡ with_rest (map value xs) behind = many_read read text_of value d Good one xs behind (λ k l. h (suc k) (omega arith)) in
    let next : B × List ℕ → List B × List ℕ = λ p. (p.0 ∷ (read_many read (length xs) p.1).0, (read_many read (length xs) p.1).1) in
    ap (λ text. next (read text)) (append_assoc (text_of x) (flat_map text_of xs) behind) ∙ ap next first ∙ ap (λ (p : List B × List ℕ). with_rest (value x ∷ p.0) p.1) more

pub count_read : (n : ℕ) (behind : List ℕ) → n < 2147483648 → read_digits 0 ((decimal n ++ codes "\n") ++ behind) ≡ with_rest n (10 ∷ behind)
count_read n behind l = ap (λ text. read_digits 0 text) (append_assoc (decimal n) (codes "\n") behind) ∙ number_read n (10 ∷ behind) l refl

no_line_end : (b : ℕ) → IsTrue (is_word_byte b) → b == 10 ≡ false
no_line_end b h = elim (eqb_tells b 10) [
  | inl t ↦ let e : is_word_byte b ≡ false = ap (λ c. is_word_byte c) t.1 in let f : true ≡ false = sym h ∙ e in cc
  | inr t ↦ t.0
]

no_line_end_first : (b : ℕ) → IsTrue (begins_identifier b) → b == 10 ≡ false
no_line_end_first b h = elim (eqb_tells b 10) [
  | inl t ↦ let e : begins_identifier b ≡ false = ap (λ c. begins_identifier c) t.1 in let f : true ≡ false = sym h ∙ e in cc
  | inr t ↦ t.0
]

left-of : (a b : Bool) → IsTrue (a && b) → IsTrue a
left-of true b h = refl
left-of false b h = h

right-of : (a b : Bool) → IsTrue (a && b) → IsTrue b
right-of true b h = h
right-of false b h = cc

line_next : (b : ℕ) (bs name behind : List ℕ) → b == 10 ≡ false → read_line bs ≡ with_rest name behind → read_line (b ∷ bs) ≡ with_rest (b ∷ name) behind
line_next b bs name behind e h =
    ap (λ (c : Bool). if c then with_rest [] bs else with_rest (b ∷ (read_line bs).0) (read_line bs).1) e ∙ ap (λ (p : List ℕ × List ℕ). with_rest (b ∷ p.0) p.1) h

word_line : (name behind : List ℕ) → IsTrue (list_all is_word_byte name) → read_line (name ++ (10 ∷ behind)) ≡ with_rest name behind
word_line [] behind h = refl
word_line (b ∷ name) behind h =
    line_next b (name ++ (10 ∷ behind)) name behind (no_line_end b (left-of (is_word_byte b) (list_all is_word_byte name) h))
    (word_line name behind (right-of (is_word_byte b) (list_all is_word_byte name) h))

identifier_line : (name behind : List ℕ) → IsTrue (is_identifier name) → read_line (name ++ (10 ∷ behind)) ≡ with_rest name behind
identifier_line [] behind h = refl
identifier_line (b ∷ name) behind h =
    line_next b (name ++ (10 ∷ behind)) name behind (no_line_end_first b (left-of (begins_identifier b) (list_all is_word_byte name) h))
    (word_line name behind (right-of (begins_identifier b) (list_all is_word_byte name) h))

pub kind_read : (name behind : List ℕ) → IsTrue (is_identifier name) → read_kind (kind_line name ++ behind) ≡ with_rest name behind
kind_read name behind h = ap (λ text. read_line text) (append_assoc name (codes "\n") behind) ∙ identifier_line name behind h

-- steps whose numbers are small
abbrev pub AreSmall : List Step → Type 0
AreSmall [] = Unit {0}
AreSmall (Echo ∷ steps) = AreSmall steps
AreSmall (Begin c ∷ steps) = (c < 64) × AreSmall steps
AreSmall (Return (Name n) ∷ steps) = (n < 2147483648) × AreSmall steps
AreSmall (Return (Number n) ∷ steps) = (n < 2147483648) × AreSmall steps

pub are_small : (c k : ℕ) (steps : List Step) → c ≤ 64 → k ≤ 4096 → IsTrue (are_steps c k steps) → AreSmall steps
are_small c k [] lc lk h = tt
are_small c k (Echo ∷ steps) lc lk h = are_small c k steps lc lk h
are_small c k (Begin d ∷ steps) lc lk h =
    (let l = ltb-true d c (left-of (nat_lt d c) (are_steps c k steps) h) in omega arith, are_small c k steps lc lk (right-of (nat_lt d c) (are_steps c k steps) h))
are_small c k (Return (Name n) ∷ []) lc lk h = (let l = ltb-true n k h in omega arith, tt)
are_small c k (Return (Number n) ∷ []) lc lk h = (ltb-true n 2147483648 h, tt)
are_small c k (Return (Name n) ∷ step ∷ steps) lc lk h = cc
are_small c k (Return (Number n) ∷ step ∷ steps) lc lk h = cc

steps_stop : (steps : List Step) (behind : List ℕ) → NoDigit (flat_map step_text steps ++ (10 ∷ behind))
steps_stop [] behind = refl
steps_stop (Echo ∷ steps) behind = refl
steps_stop (Begin c ∷ steps) behind = refl
steps_stop (Return (Name n) ∷ steps) behind = refl
steps_stop (Return (Number n) ∷ steps) behind = refl

abbrev step_then : ℕ → Step × List ℕ → List Step × List ℕ
step_then most step = (step.0 ∷ (read_steps most step.1).0, (read_steps most step.1).1)

steps_next : (most n : ℕ) (make : ℕ → Step) (rest : List ℕ) (steps : List Step) (behind : List ℕ) → n < 2147483648 → NoDigit rest → read_steps most rest ≡ with_rest steps behind →
    step_then most (make (read_digits 0 (decimal n ++ rest)).0, (read_digits 0 (decimal n ++ rest)).1) ≡ with_rest (make n ∷ steps) behind
steps_next most n make rest steps behind l stop h =
    ap (λ (p : ℕ × List ℕ). step_then most (make p.0, p.1)) (number_read n rest l stop) ∙ ap (λ (p : List Step × List ℕ). with_rest (make n ∷ p.0) p.1) h

begin_is : (c : ℕ) → c < 64 → step_of 98 c ≡ Begin c
begin_is c l = ap (λ (b : Bool). if b then Begin c else Echo) (lt-ltb c 64 l)

pub steps_read : (steps : List Step) (most : ℕ) (behind : List ℕ) → length steps ≤ most → AreSmall steps → read_steps most (flat_map step_text steps ++ (10 ∷ behind)) ≡ with_rest steps behind
steps_read [] zero behind l h = refl
steps_read [] (suc most) behind l h = refl
steps_read (step ∷ steps) zero behind l h = absurd (omega arith)
steps_read (Echo ∷ steps) (suc most) behind l h = ap (λ (p : List Step × List ℕ). with_rest (Echo ∷ p.0) p.1) (steps_read steps most behind (omega arith) h)
steps_read (Begin c ∷ steps) (suc most) behind l h =
    ap (λ text. read_steps (suc most) (32 ∷ 98 ∷ text)) (append_assoc (decimal c) (flat_map step_text steps) (10 ∷ behind))
    ∙ steps_next most c (step_of 98) (flat_map step_text steps ++ (10 ∷ behind)) steps behind (let l = h.0 in omega arith) (steps_stop steps behind) (steps_read steps most behind (omega arith) h.1)
    ∙ ap (λ (step : Step). with_rest (step ∷ steps) behind) (begin_is c h.0)
steps_read (Return (Name k) ∷ steps) (suc most) behind l h =
    ap (λ text. read_steps (suc most) (32 ∷ 107 ∷ text)) (append_assoc (decimal k) (flat_map step_text steps) (10 ∷ behind))
    ∙ steps_next most k (λ n. Return (Name n)) (flat_map step_text steps ++ (10 ∷ behind)) steps behind h.0 (steps_stop steps behind) (steps_read steps most behind (omega arith) h.1)
steps_read (Return (Number k) ∷ steps) (suc most) behind l h =
    ap (λ text. read_steps (suc most) (32 ∷ 110 ∷ text)) (append_assoc (decimal k) (flat_map step_text steps) (10 ∷ behind))
    ∙ steps_next most k (λ n. Return (Number n)) (flat_map step_text steps ++ (10 ∷ behind)) steps behind h.0 (steps_stop steps behind) (steps_read steps most behind (omega arith) h.1)

step_length : (step : Step) → 1 ≤ length (step_text step)
step_length Echo = omega arith
step_length (Begin c) = omega arith
step_length (Return (Name n)) = omega arith
step_length (Return (Number n)) = omega arith

steps_length : (steps : List Step) → length steps ≤ length (flat_map step_text steps)
steps_length [] = omega arith
steps_length (step ∷ steps) = let a = step_length step in let b = steps_length steps in omega (arith, length-append (step_text step) (flat_map step_text steps))

abbrev rule_with : Bool → List Step → TableRule
rule_with line_end steps = record { line_end = line_end; steps = steps }

abbrev rule_then : Bool → List Step × List ℕ → TableRule × List ℕ
rule_then line_end steps = (rule_with line_end steps.0, steps.1)

rule_parts : (line_end : Bool) (steps : List Step) (behind : List ℕ) → AreSmall steps →
    read_rule (codes "rule " ++ line_end_text line_end ++ flat_map step_text steps ++ codes "\n" ++ behind) ≡ with_rest (rule_with line_end steps) behind
rule_parts true steps behind h =
    let text = flat_map step_text steps ++ (10 ∷ behind) in
    ap (λ bs. read_rule (114 ∷ 117 ∷ 108 ∷ 101 ∷ 32 ∷ 49 ∷ bs)) (append_assoc (flat_map step_text steps) (codes "\n") behind)
    ∙ ap (rule_then true) (steps_read steps (length (114 ∷ 117 ∷ 108 ∷ 101 ∷ 32 ∷ 49 ∷ text)) behind (let l = steps_length steps in omega (arith, length-append (flat_map step_text steps) (10 ∷ behind))) h)
rule_parts false steps behind h =
    let text = flat_map step_text steps ++ (10 ∷ behind) in
    ap (λ bs. read_rule (114 ∷ 117 ∷ 108 ∷ 101 ∷ 32 ∷ 48 ∷ bs)) (append_assoc (flat_map step_text steps) (codes "\n") behind)
    ∙ ap (rule_then false) (steps_read steps (length (114 ∷ 117 ∷ 108 ∷ 101 ∷ 32 ∷ 48 ∷ text)) behind (let l = steps_length steps in omega (arith, length-append (flat_map step_text steps) (10 ∷ behind))) h)

pub rule_read : (rule : TableRule) (behind : List ℕ) → AreSmall rule.steps → read_rule (rule_line rule ++ behind) ≡ with_rest rule behind
rule_read rule behind h = rule_parts rule.line_end rule.steps behind h

-- the text after a number or `-`
pub record Stops (text : List ℕ) : Type 0 where
  pub digit : NoDigit text
  pub dash : slice_index text 0 == 45 ≡ false

pub accepts_read : (o : Option ℕ) (rest : List ℕ) → ((n : ℕ) → o ≡ Some n → n < 4096) → Stops rest → read_accepts (accepts_text o ++ rest) ≡ with_rest o rest
accepts_read None rest l stops = refl
accepts_read (Some n) rest l stops =
    let next : ℕ × List ℕ → Option ℕ × List ℕ = λ p. if slice_index p.1 0 == 45 then (None, drop 1 p.1) else (below 4096 p.0, p.1) in
    let small = l n refl in
    ap next (number_read n rest (omega arith) stops.digit) ∙ ap (λ (c : Bool). if c then with_rest None (drop 1 rest) else with_rest (below 4096 n) rest) stops.dash
    ∙ ap (λ (c : Bool). with_rest (if c then Some n else None) rest) (lt-ltb n 4096 small)

module _ (f : ℕ → Option ℕ) (width : ℕ) (narrow : width ≤ 256) (small : (c t : ℕ) → c < width → f c ≡ Some t → t < 16512) where
  abbrev pub entries : ℕ → ℕ → List ℕ
  entries c n = flat_map (λ class. entry_text class (f class)) (range_with_len c n)

  stop_at : (c : ℕ) (o : Option ℕ) (xs ys : List ℕ) → Stops (xs ++ ys) → Stops ((entry_text c o ++ xs) ++ ys)
  stop_at c None xs ys h = h
  stop_at c (Some t) xs ys h = record { digit = refl; dash = refl }

  pub entries_stop : (c n : ℕ) (rest : List ℕ) → Stops (entries c n ++ (10 ∷ rest))
  entries_stop c zero rest = record { digit = refl; dash = refl }
  entries_stop c (suc n) rest = stop_at c (f c) (entries (c + 1) n) (10 ∷ rest) (entries_stop (c + 1) n rest)

  abbrev entry_then : ℕ → ℕ × List ℕ → (ℕ × ℕ × ℕ) × List ℕ
  entry_then class target = ((class, class + 1, target.0), target.1)

  abbrev class_then : ℕ × List ℕ → (ℕ × ℕ × ℕ) × List ℕ
  class_then class = entry_then class.0 (read_digits 0 (drop 1 class.1))

  entry_read : (c t : ℕ) (rest : List ℕ) → c < 2147483648 → t < 2147483648 → NoDigit rest → read_entry (32 ∷ (decimal c ++ (58 ∷ (decimal t ++ rest)))) ≡ with_rest (c, c + 1, t) rest
  entry_read c t rest lc lt stop = ap class_then (number_read c (58 ∷ (decimal t ++ rest)) lc refl) ∙ ap (entry_then c) (number_read t rest lt stop)

  one_entry : (most from c t : ℕ) (rest behind : List ℕ) (more : List (Option ℕ)) → from ≤ c → c < width → t < 16512 → NoDigit rest → read_row Second width most (c + 1) rest ≡ with_rest more behind →
      read_row Second width (suc most) from (32 ∷ (decimal c ++ (58 ∷ (decimal t ++ rest)))) ≡ with_rest (replicate (c - from) None ++ Some t ∷ more) behind
  one_entry most from c t rest behind more lf lc lt stop h =
      let gap : List (Option ℕ) = replicate (c - from) None in
      ap (run_then Second width most from) (entry_read c t rest (omega arith) (omega arith) stop)
      ∙ run_is Second width most from c (c + 1) t rest lf (omega arith) (omega arith) lt
      ∙ ap (λ (p : List (Option ℕ) × List ℕ). with_rest (gap ++ replicate (c + 1 - c) (Some t) ++ p.0) p.1) h
      ∙ ap (λ (xs : List (Option ℕ)). with_rest (gap ++ xs ++ more) behind) (one_value c (Some t))
      ∙ ap (λ (xs : List (Option ℕ)). with_rest xs behind) (append_assoc gap (Some t ∷ []) more)

  at_line_end : (most from : ℕ) (rest : List ℕ) → read_row Second width most from (10 ∷ rest) ≡ with_rest (replicate (width - from) None) (10 ∷ rest)
  at_line_end zero from rest = refl
  at_line_end (suc most) from rest = refl

  abbrev IsEntriesRead : ℕ → ℕ → ℕ → ℕ → List ℕ → Type 0
  IsEntriesRead c n most from rest = read_row Second width most from (entries c n ++ (10 ∷ rest)) ≡ with_rest (replicate (c - from) None ++ map f (range_with_len c n)) (10 ∷ rest)

  entries_next : (c n most from : ℕ) (rest : List ℕ) (o : Option ℕ) → f c ≡ o → from ≤ c → c + suc n ≡ width → width ≤ most + from →
      ((k from : ℕ) → from ≤ c + 1 → width ≤ k + from → IsEntriesRead (c + 1) n k from rest) →
      read_row Second width most from ((entry_text c o ++ entries (c + 1) n) ++ (10 ∷ rest)) ≡ with_rest (replicate (c - from) None ++ o ∷ map f (range_with_len (c + 1) n)) (10 ∷ rest)
  entries_next c n most from rest None e lf lw lm ih =
      let longer : c + 1 - from ≡ c - from + 1 = omega arith in
      let more = map f (range_with_len (c + 1) n) in
      ih most from (omega arith) lm
      ∙ ap (λ (xs : List (Option ℕ)). with_rest xs (10 ∷ rest))
      (ap (λ (k : ℕ). replicate k None ++ more) longer ∙ ap (λ (xs : List (Option ℕ)). xs ++ more) (replicate_next (c - from) None) ∙ append_assoc (replicate (c - from) None) (None ∷ []) more)
  entries_next c n zero from rest (Some t) e lf lw lm ih = absurd (omega arith)
  entries_next c n (suc most) from rest (Some t) e lf lw lm ih =
      let tail = entries (c + 1) n ++ (10 ∷ rest) in
      let more = map f (range_with_len (c + 1) n) in
      let none : c + 1 - (c + 1) ≡ 0 = omega arith in
      let text : (entry_text c (Some t) ++ entries (c + 1) n) ++ (10 ∷ rest) ≡ 32 ∷ (decimal c ++ (58 ∷ (decimal t ++ tail))) = simp append_assoc in
      ap (λ bs. read_row Second width (suc most) from bs) text
      ∙ one_entry most from c t tail (10 ∷ rest) more lf (omega arith) (small c t (omega arith) e) (entries_stop (c + 1) n rest).digit
      (ih most (c + 1) (omega arith) (omega arith) ∙ ap (λ (k : ℕ). with_rest (replicate k None ++ more) (10 ∷ rest)) none)

  pub entries_read : (n c most from : ℕ) (rest : List ℕ) → from ≤ c → c + n ≡ width → width ≤ most + from → IsEntriesRead c n most from rest
  entries_read zero c most from rest lf lw lm =
      at_line_end most from rest ∙ ap (λ (xs : List (Option ℕ)). with_rest xs (10 ∷ rest)) (let k : width - from ≡ c - from = omega arith in ap (λ (k : ℕ). replicate k None) k ∙ sym (append-nil (replicate (c - from) None)))
  entries_read (suc n) c most from rest lf lw lm =
      entries_next c n most from rest (f c) refl lf lw lm (λ k from' l m. entries_read n (c + 1) k from' rest l (omega arith) m)
