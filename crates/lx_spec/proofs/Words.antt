-- Words and trimmed texts, step by step.
use Rattle.std.proofs.Common.{◌≡◌, ℕ, suc, ◌+◌, ◌<◌, Bool, true, false, not, cond, List, [], ◌∷◌, ◌++◌, length, take, drop, refl, sym, ap, ◌∙◌, map, ◌||◌, Some, None, arith, length-drop}
use Rattle.std.specs.List.{prefix_len, list_any}
use Rattle.lx_spec.specs.Bytes.{is_blank, is_no_blank, keep, trimmed, run, behind_run, onto_first, with_byte, words_of, word_at, next_word, begins}

pub pick_first : {A : Type 0} {b : Bool} (x y : A) → b ≡ true → cond b x y ≡ x
pick_first x y e = ap (λ v. cond v x y) e

pub pick_second : {A : Type 0} {b : Bool} (x y : A) → b ≡ false → cond b x y ≡ y
pick_second x y e = ap (λ v. cond v x y) e

-- a blank at the end is removed
pub trimmed-blank : (xs : List ℕ) (c : ℕ) → is_blank c ≡ true → trimmed (xs ++ c ∷ []) ≡ trimmed xs
trimmed-blank [] c b = pick_first _ _ b
trimmed-blank (x ∷ xs) c b = ap (keep x) (trimmed-blank xs c b)

-- another byte at the end remains, and all before it
pub trimmed-other : (xs : List ℕ) (c : ℕ) → is_blank c ≡ false → trimmed (xs ++ c ∷ []) ≡ xs ++ c ∷ []
trimmed-other [] c b = pick_second _ _ b
trimmed-other (x ∷ []) c b = ap (keep x) (trimmed-other [] c b)
trimmed-other (x ∷ y ∷ xs) c b = ap (keep x) (trimmed-other (y ∷ xs) c b)

pub behind-more : (p : ℕ → Bool) (c : ℕ) (text : List ℕ) → p c ≡ true → behind_run p (c ∷ text) ≡ behind_run p text
behind-more p c text e =
    let n : 1 + prefix_len p text ≡ suc (prefix_len p text) = omega arith in
    ap (λ (v : Bool). drop (cond v (1 + prefix_len p text) 0) (c ∷ text)) e ∙ ap (λ (k : ℕ). drop k (c ∷ text)) n

pub behind-none : (p : ℕ → Bool) (c : ℕ) (text : List ℕ) → p c ≡ false → behind_run p (c ∷ text) ≡ c ∷ text
behind-none p c text e = ap (λ (v : Bool). drop (cond v (1 + prefix_len p text) 0) (c ∷ text)) e

pub run-more : (p : ℕ → Bool) (c : ℕ) (text : List ℕ) → p c ≡ true → run p (c ∷ text) ≡ c ∷ run p text
run-more p c text e =
    let n : 1 + prefix_len p text ≡ suc (prefix_len p text) = omega arith in
    ap (λ (v : Bool). take (cond v (1 + prefix_len p text) 0) (c ∷ text)) e ∙ ap (λ (k : ℕ). take k (c ∷ text)) n

pub run-none : (p : ℕ → Bool) (c : ℕ) (text : List ℕ) → p c ≡ false → run p (c ∷ text) ≡ []
run-none p c text e = ap (λ (v : Bool). take (cond v (1 + prefix_len p text) 0) (c ∷ text)) e

words-behind_blanks : (text : List ℕ) → words_of text ≡ words_of (behind_run is_blank text)
words-behind_blanks [] = refl
words-behind_blanks (c ∷ text) = by (is_blank c) refl (words-behind_blanks text) where
  by : (b : Bool) → is_blank c ≡ b → words_of text ≡ words_of (behind_run is_blank text) → words_of (c ∷ text) ≡ words_of (behind_run is_blank (c ∷ text))
  by true e more = pick_first _ _ e ∙ more ∙ sym (ap words_of (behind-more is_blank c text e))
  by false e more = sym (ap words_of (behind-none is_blank c text e))

words-step : (c : ℕ) (text : List ℕ) → is_blank c ≡ false → words_of (c ∷ text) ≡ run is_no_blank (c ∷ text) ∷ words_of (behind_run is_no_blank (c ∷ text))
words-step c [] e =
    pick_second _ _ e ∙ sym (ap (λ (w : List ℕ). w ∷ words_of (behind_run is_no_blank (c ∷ []))) (run-more is_no_blank c [] (ap not e)) ∙ ap (λ (t : List ℕ). (c ∷ []) ∷ words_of t) (behind-more is_no_blank c [] (ap not e)))
words-step c (d ∷ text) e = by (is_blank d) refl (λ q. words-step d text q) where
  left : words_of (c ∷ d ∷ text) ≡ with_byte c (d ∷ text) (words_of (d ∷ text))
  left = pick_second _ _ e

  right : run is_no_blank (c ∷ d ∷ text) ∷ words_of (behind_run is_no_blank (c ∷ d ∷ text)) ≡ (c ∷ run is_no_blank (d ∷ text)) ∷ words_of (behind_run is_no_blank (d ∷ text))
  right = ap (λ (w : List ℕ). w ∷ words_of (behind_run is_no_blank (c ∷ d ∷ text))) (run-more is_no_blank c (d ∷ text) (ap not e))
      ∙ ap (λ (t : List ℕ). (c ∷ run is_no_blank (d ∷ text)) ∷ words_of t) (behind-more is_no_blank c (d ∷ text) (ap not e))

  by : (b : Bool) → is_blank d ≡ b → (is_blank d ≡ false → words_of (d ∷ text) ≡ run is_no_blank (d ∷ text) ∷ words_of (behind_run is_no_blank (d ∷ text)))
      → words_of (c ∷ d ∷ text) ≡ run is_no_blank (c ∷ d ∷ text) ∷ words_of (behind_run is_no_blank (c ∷ d ∷ text))
  by true q more =
      left ∙ pick_first _ _ q ∙ sym (right ∙ ap (λ (w : List ℕ). (c ∷ w) ∷ words_of (behind_run is_no_blank (d ∷ text))) (run-none is_no_blank d text (ap not q))
      ∙ ap (λ (t : List ℕ). (c ∷ []) ∷ words_of t) (behind-none is_no_blank d text (ap not q)))
  by false q more = left ∙ pick_second _ _ q ∙ ap (onto_first c) (more q) ∙ sym right

-- the word at the front of a text without blanks before it is the first word
at-front : (text : List ℕ) → begins is_blank text ≡ false → (word rest : List ℕ) → word_at text ≡ Some (word, rest) → words_of text ≡ word ∷ words_of rest
at-front [] b word rest e = cc
at-front (c ∷ text) b word rest e =
    let pair : ◌≡◌ {A = List ℕ × List ℕ} (run is_no_blank (c ∷ text), behind_run is_no_blank (c ∷ text)) (word, rest) = cc in
    words-step c text b ∙ ap (λ (w : List ℕ). w ∷ words_of (behind_run is_no_blank (c ∷ text))) (ap (λ (p : List ℕ × List ℕ). p.0) pair) ∙ ap (λ (t : List ℕ). word ∷ words_of t) (ap (λ (p : List ℕ × List ℕ). p.1) pair)

no_blank-behind : (text : List ℕ) → begins is_blank (behind_run is_blank text) ≡ false
no_blank-behind [] = refl
no_blank-behind (c ∷ text) = by (is_blank c) refl (no_blank-behind text) where
  by : (b : Bool) → is_blank c ≡ b → begins is_blank (behind_run is_blank text) ≡ false → begins is_blank (behind_run is_blank (c ∷ text)) ≡ false
  by true e more = ap (begins is_blank) (behind-more is_blank c text e) ∙ more
  by false e more = ap (begins is_blank) (behind-none is_blank c text e) ∙ e

pub next_word-some : (text word rest : List ℕ) → next_word text ≡ Some (word, rest) → words_of text ≡ word ∷ words_of rest
next_word-some text word rest e = words-behind_blanks text ∙ at-front (behind_run is_blank text) (no_blank-behind text) word rest e

none-at : (text : List ℕ) → word_at text ≡ None → words_of text ≡ []
none-at [] e = refl
none-at (c ∷ text) e = cc

pub next_word-none : (text : List ℕ) → next_word text ≡ None → words_of text ≡ []
next_word-none text e = words-behind_blanks text ∙ none-at (behind_run is_blank text) e

shorter : (text : List ℕ) (word rest : List ℕ) → word_at text ≡ Some (word, rest) → begins is_blank text ≡ false → length rest < length text
shorter [] word rest e b = cc
shorter (c ∷ text) word rest e b =
    let pair : ◌≡◌ {A = List ℕ × List ℕ} (run is_no_blank (c ∷ text), behind_run is_no_blank (c ∷ text)) (word, rest) = cc in
    let is : rest ≡ behind_run is_no_blank text = sym (ap (λ (p : List ℕ × List ℕ). p.1) pair) ∙ behind-more is_no_blank c text (ap not b) in
    omega (arith, ap length is, length-drop (prefix_len is_no_blank text) text)

pub next_word-shorter : (text word rest : List ℕ) → next_word text ≡ Some (word, rest) → length rest < length text
next_word-shorter text word rest e =
    let less = shorter (behind_run is_blank text) word rest e (no_blank-behind text) in
    omega (arith, less, length-drop (prefix_len is_blank text) text)

pub ruleset word_steps = (next_word-some, next_word-none, next_word-shorter)

pub ruleset trim_steps = (trimmed-blank, trimmed-other)

pub list_any-map : {X Y : Type 0} (p : Y → Bool) (v : X → Y) (xs : List X) → list_any p (map v xs) ≡ list_any (λ x. p (v x)) xs
list_any-map p v [] = refl
list_any-map p v (x ∷ xs) = ap (λ (b : Bool). p (v x) || b) (list_any-map p v xs)

pub ruleset any_steps = (list_any-map)
