-- An automaton that simulates a complete one steps and answers as that does; words of classes are spelled by bytes.
use Rattle.std.proofs.Common.{◌≡◌, ℕ, suc, ◌+◌, ◌-◌, ◌<◌, ◌≤◌, ◌==◌, ◌&&◌, nat_lt, Bool, true, false, IsTrue, Option, Some, None, List, [], ◌∷◌, length, map, slice_index, All, refl, sym, ◌∙◌, ap, ap₂, arith, inl, inr}
use Rattle.std.proofs.lemmas.Bool.{cases_eq}
use Rattle.std.proofs.lemmas.Bool.Decides.{eqb_tells, nat_tests}
use Rattle.std.proofs.lemmas.List.Elements.{All-head, All-tail, All-cons}
use Rattle.lx_automaton.specs.Automata.{Machine, IsMachine, HasByteClasses, state_after, are_numbered}
use Rattle.lx_automaton.specs.EncodedOptions.{decoded_option}
use Rattle.lx_minimize.specs.Completion.{total, label_of, step_of, after, IsCompletion}
use Rattle.lx_minimize.specs.Simulations.{Simulates}
use Rattle.lx_minimize.specs.declared.complete.Complete.{Complete}
use Rattle.lx_automaton.proofs.EncodedLists.{decoded_option-some}
use Rattle.lx_automaton.proofs.SameAnswers.{answer_at}

pub answer_nowhere : (q : Machine) (v : List ℕ) → answer_at q None v ≡ None
answer_nowhere q v = refl

-- the classes of the bytes
abbrev pub classes_of : Machine → List ℕ → List ℕ
classes_of q v = map (λ b. slice_index q.classes b) v

module _ (q : Machine) (m : Complete) (encode : ℕ → ℕ) (like : Simulates q m encode) where
  no_label_after : (v : List ℕ) (x : ℕ) → x < total m → encode x ≡ 0 → All (λ b. b < 256) v → label_of m (after m x (classes_of q v)) ≡ 0
  no_label_after [] x hx e all = like.no_label x hx e
  no_label_after (b ∷ v) x hx e all =
      let hc = like.classes b (All-head (λ b. b < 256) b v all) in
      no_label_after v (step_of m x (slice_index q.classes b)) (like.closed x (slice_index q.classes b) hx hc)
      (like.no_step x (slice_index q.classes b) hx hc e) (All-tail (λ b. b < 256) b v all)

  -- from a state without an answer nothing is answered
  unanswered : (v : List ℕ) (x : ℕ) → x < total m → encode x ≡ 0 → All (λ b. b < 256) v →
      answer_at q (decoded_option (encode x)) v ≡ decoded_option (label_of m (after m x (classes_of q v)))
  unanswered v x hx e all = rw (no_label_after v x hx e all, e) refl

  pub answered : (v : List ℕ) (x : ℕ) → x < total m → All (λ b. b < 256) v →
      answer_at q (decoded_option (encode x)) v ≡ decoded_option (label_of m (after m x (classes_of q v)))
  answered [] x hx all = elim (cases_eq (encode x) 0) [
    | inl e ↦ unanswered [] x hx e all
    | inr ne ↦ rw (decoded_option-some (encode x) ne) (like.labels x hx ne)
  ]
  answered (b ∷ v) x hx all = elim (cases_eq (encode x) 0) [
    | inl e ↦ unanswered (b ∷ v) x hx e all
    | inr ne ↦
        let hc = like.classes b (All-head (λ b. b < 256) b v all) in
        ap (λ o. answer_at q o (b ∷ v)) (decoded_option-some (encode x) ne) ∙ ap (λ o. answer_at q o v) (like.steps x (slice_index q.classes b) hx hc ne)
        ∙ answered v (step_of m x (slice_index q.classes b)) (like.closed x (slice_index q.classes b) hx hc) (All-tail (λ b. b < 256) b v all)
  ]

  no_step_after : (v : List ℕ) (x : ℕ) → x < total m → encode x ≡ 0 → All (λ b. b < 256) v → encode (after m x (classes_of q v)) ≡ 0
  no_step_after [] x hx e all = e
  no_step_after (b ∷ v) x hx e all =
      let hc = like.classes b (All-head (λ b. b < 256) b v all) in
      no_step_after v (step_of m x (slice_index q.classes b)) (like.closed x (slice_index q.classes b) hx hc)
      (like.no_step x (slice_index q.classes b) hx hc e) (All-tail (λ b. b < 256) b v all)

  nothing_read : (o : Option ℕ) → state_after q o [] ≡ o
  nothing_read None = refl
  nothing_read (Some s) = refl

  -- the state to which a text leads
  pub stepped : (v : List ℕ) (x : ℕ) → x < total m → All (λ b. b < 256) v → state_after q (decoded_option (encode x)) v ≡ decoded_option (encode (after m x (classes_of q v)))
  stepped [] x hx all = nothing_read (decoded_option (encode x))
  stepped (b ∷ v) x hx all = elim (cases_eq (encode x) 0) [
    | inl e ↦ rw (no_step_after (b ∷ v) x hx e all, e) refl
    | inr ne ↦
        let hc = like.classes b (All-head (λ b. b < 256) b v all) in
        ap (λ o. state_after q o (b ∷ v)) (decoded_option-some (encode x) ne) ∙ ap (λ o. state_after q o v) (like.steps x (slice_index q.classes b) hx hc ne)
        ∙ stepped v (step_of m x (slice_index q.classes b)) (like.closed x (slice_index q.classes b) hx hc) (All-tail (λ b. b < 256) b v all)
  ]

pub decoded_option-same : (a b : ℕ) → decoded_option a ≡ decoded_option b → a ≡ b
decoded_option-same a b e = elim (cases_eq a 0) [
  | inl f ↦ elim (cases_eq b 0) [
    | inl g ↦ f ∙ sym g
    | inr g ↦ let h : None ≡ Some (b - 1) = sym (ap decoded_option f) ∙ e ∙ decoded_option-some b g in cc
  ]
  | inr f ↦ elim (cases_eq b 0) [
    | inl g ↦ let h : Some (a - 1) ≡ None = sym (decoded_option-some a f) ∙ e ∙ ap decoded_option g in cc
    | inr g ↦ let h : Some (a - 1) ≡ Some (b - 1) = sym (decoded_option-some a f) ∙ e ∙ decoded_option-some b g in
        let k : a - 1 ≡ b - 1 = cc in omega arith
  ]
]

-- a machine simulates its completion
pub simulates_itself : (a : Machine) (m : Complete) → IsMachine a → IsCompletion a m → Simulates a m (λ x. x)
simulates_itself a m is c =
    let e = c.states in
    let w = c.width in
    record {
      classes = λ b h. let l = is.below b h in omega arith;
      closed = c.complete.closed;
      no_label = λ x hx z. rw z c.complete.unlabelled;
      no_step = λ x class hx hc z. rw z (c.complete.stays class hc);
      labels = λ x hx ne.
          let i : x ≡ x - 1 + 1 = omega arith in
          sym (c.labels (x - 1) (omega arith)) ∙ ap (λ y. decoded_option (label_of m y)) (sym i);
      steps = λ x class hx hc ne.
          let i : x ≡ x - 1 + 1 = omega arith in
          sym (c.steps (x - 1) class (omega arith) (omega arith)) ∙ ap (λ y. decoded_option (step_of m y class)) (sym i);
    }

-- each class is some byte's
byte_of : (seen width c : ℕ) (classes : List ℕ) → IsTrue (are_numbered seen width classes) → seen ≤ c → c < width →
    (b : ℕ) × (b < length classes) × (slice_index classes b ≡ c)
byte_of seen width c [] h hs hc = absurd (nothing_between seen width c h hs hc)
  where
    nothing_between : (seen width c : ℕ) → IsTrue (seen == width) → seen ≤ c → c < width → ⊥
    nothing_between seen width c h hs hc = grind (arith, nat_tests)
byte_of seen width c (class ∷ more) h hs hc = elim (eqb_tells class seen) [
  | inl t ↦ elim (cases_eq c seen) [
    | inl e ↦ (0, omega arith, t.1 ∙ sym e)
    | inr ne ↦ let w = byte_of (seen + 1) width c more (rw t.0 at h) (omega arith) hc in (suc w.0, let l = w.1 in omega arith, w.2)
  ]
  | inr t ↦ let w = byte_of seen width c more (second (nat_lt class seen) (are_numbered seen width more) (rw t.0 at h)) hs hc in (suc w.0, let l = w.1 in omega arith, w.2)
]
  where
    second : (a b : Bool) → IsTrue (a && b) → IsTrue b
    second true b h = h
    second false b h = cc

-- so each word of classes is spelled by bytes
pub spelled : (q : Machine) (width : ℕ) → IsMachine q → HasByteClasses q → width ≡ q.width → (w : List ℕ) → All (λ c. c < width) w →
    (v : List ℕ) × (All (λ b. b < 256) v) × (classes_of q v ≡ w)
spelled q width is has e [] all = ([], (λ k d h. absurd (omega arith)), refl)
spelled q width is has e (c ∷ w) all =
    let hc : c < width = All-head (λ c. c < width) c w all in
    let x = byte_of 0 q.width c q.classes has.numbered (omega arith) (omega arith) in
    let rest = spelled q width is has e w (All-tail (λ c. c < width) c w all) in
    (x.0 ∷ rest.0, All-cons (λ b. b < 256) x.0 rest.0 (let l = x.1 in let n = is.bytes in omega arith) rest.1, ap₂ (λ (a : ℕ) (r : List ℕ). a ∷ r) x.2 rest.2)
