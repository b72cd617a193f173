-- By the grammar, the pattern at the start of a text ends at one position, and only one. All here are proofs, of which only the statements need be
-- read.
use Rattle.std.proofs.Common.{◌≡◌, ◌≢◌, ℕ, zero, suc, ◌+◌, ◌-◌, ◌<◌, ◌≤◌, ◌⊎◌, inl, inr, Bool, true, false, ◌&&◌, ◌||◌, nat_eq, cond, List, [], ◌∷◌, length, drop, refl, sym, ap, subst, ◌∙◌, arith, length-drop, eqb-true, eq-eqb}
use Rattle.std.proofs.lemmas.Bool.{and_parts, true≢false}
use Rattle.std.proofs.lemmas.Bool.Decides.{nat_tests}
use Rattle.std.proofs.Math.ListN.{drop_of_length-le}
use Rattle.lx_ere.specs.Brackets.{begins_with, opens_inner}
use Rattle.lx_ere.specs.PatternGrammar.{BehindQuotes, quote_closes, quote_open, quote_escape, quote_slash, quote_byte, BehindMark, mark_closes, mark_open, mark_byte, BehindBrackets, bracket_closes, bracket_open, bracket_escape, bracket_slash, bracket_inner, bracket_byte, is_blank, skip_first, BehindPattern, at_end, at_blank, past_escape, past_slash, past_quotes, past_brackets, past_byte, IsPatternEnd}

pick_first : {A : Type 0} (b : Bool) (x y : A) → b ≡ true → cond b x y ≡ x
pick_first b x y e = rw e refl

pick_second : {A : Type 0} (b : Bool) (x y : A) → b ≡ false → cond b x y ≡ y
pick_second b x y e = rw e refl

eq_other : (a b : ℕ) → (a ≡ b → ⊥) → nat_eq a b ≡ false
eq_other a b h = grind (arith, nat_tests)

eq_same : (a : ℕ) → nat_eq a a ≡ true
eq_same a = grind (arith, nat_tests)

-- ---- the text after a pattern is an end of the text

pub record IsTail (text behind : List ℕ) : Type 0 where
  pub within : length behind ≤ length text
  pub is : behind ≡ drop (length text - length behind) text

tail_whole : (text : List ℕ) → IsTail text text
tail_whole text = record { within = omega arith; is = let none : length text - length text ≡ 0 = omega arith in rw none refl }

tail_none : (text : List ℕ) → IsTail text []
tail_none text = record { within = omega arith; is = let e : length text ≤ length text - 0 = omega arith in sym (drop_of_length-le text e) }

tail_more : (c : ℕ) (text behind : List ℕ) → IsTail text behind → IsTail (c ∷ text) behind
tail_more c text behind t = record {
  within = omega (arith, t.within);
  is = let e : length (c ∷ text) - length behind ≡ suc (length text - length behind) = omega (arith, t.within) in rw e t.is;
}

drop_nothing : (n : ℕ) → drop {A = ℕ} n [] ≡ []
drop_nothing zero = refl
drop_nothing (suc n) = refl

tail_tail : (text rest behind : List ℕ) → IsTail text rest → IsTail rest behind → IsTail text behind
tail_tail text rest behind s t = record {
  within = omega (arith, s.within, t.within);
  is = let e : (length rest - length behind) + (length text - length rest) ≡ length text - length behind = omega (arith, s.within, t.within) in
      t.is ∙ (ap (drop (length rest - length behind)) s.is ∙ (drops (length text - length rest) (length rest - length behind) text ∙ ap (λ n. drop n text) (swap (length text - length rest) (length rest - length behind) ∙ e)));
}
  where
    swap : (a b : ℕ) → a + b ≡ b + a
    swap a b = omega arith

    drops : (a b : ℕ) (xs : List ℕ) → drop b (drop a xs) ≡ drop (a + b) xs
    drops zero b xs = let e : 0 + b ≡ b = omega arith in rw e refl
    drops (suc a) b [] = drop_nothing b ∙ sym (drop_nothing (suc a + b))
    drops (suc a) b (x ∷ xs) = let e : suc a + b ≡ suc (a + b) = omega arith in rw e (drops a b xs)

quotes_tail : (text behind : List ℕ) → BehindQuotes text behind → IsTail text behind
quotes_tail _ _ (quote_closes text) = tail_more 34 text text (tail_whole text)
quotes_tail _ _ quote_open = tail_whole []
quotes_tail _ _ (quote_escape c text behind h) = tail_more 92 (c ∷ text) behind (tail_more c text behind (quotes_tail text behind h))
quotes_tail _ _ quote_slash = tail_none (92 ∷ [])
quotes_tail _ _ (quote_byte c text behind a b h) = tail_more c text behind (quotes_tail text behind h)

mark_tail : (mark : ℕ) (text behind : List ℕ) → BehindMark mark text behind → IsTail text behind
mark_tail _ _ _ (mark_closes mark text) = tail_more mark (93 ∷ text) text (tail_more 93 text text (tail_whole text))
mark_tail _ _ _ (mark_open mark) = tail_whole []
mark_tail _ _ _ (mark_byte mark c text behind a h) = tail_more c text behind (mark_tail mark text behind h)

tail_drop : (text behind : List ℕ) → IsTail (drop 1 text) behind → IsTail text behind
tail_drop [] behind t = t
tail_drop (c ∷ text) behind t = tail_more c text behind t

brackets_tail : (text behind : List ℕ) → BehindBrackets text behind → IsTail text behind
brackets_tail _ _ (bracket_closes text) = tail_more 93 text text (tail_whole text)
brackets_tail _ _ bracket_open = tail_whole []
brackets_tail _ _ (bracket_escape c text behind h) = tail_more 92 (c ∷ text) behind (tail_more c text behind (brackets_tail text behind h))
brackets_tail _ _ bracket_slash = tail_none (92 ∷ [])
brackets_tail _ _ (bracket_inner mark text rest behind m i h) =
    tail_more 91 (mark ∷ text) behind (tail_more mark text behind (tail_drop text behind (tail_tail (drop 1 text) rest behind (mark_tail mark (drop 1 text) rest i) (brackets_tail rest behind h))))
brackets_tail _ _ (bracket_byte c text behind a b d h) = tail_more c text behind (brackets_tail text behind h)

tail_skip : (c : ℕ) (text behind : List ℕ) → IsTail (skip_first c text) behind → IsTail text behind
tail_skip c text behind t = go (begins_with c text) t
  where
    go : (b : Bool) → IsTail (cond b (drop 1 text) text) behind → IsTail text behind
    go true t = tail_drop text behind t
    go false t = t

pub pattern_tail : (text behind : List ℕ) → BehindPattern text behind → IsTail text behind
pattern_tail _ _ at_end = tail_whole []
pattern_tail _ _ (at_blank c text b) = tail_whole (c ∷ text)
pattern_tail _ _ (past_escape c text behind h) = tail_more 92 (c ∷ text) behind (tail_more c text behind (pattern_tail text behind h))
pattern_tail _ _ past_slash = tail_none (92 ∷ [])
pattern_tail _ _ (past_quotes text rest behind q h) = tail_more 34 text behind (tail_tail text rest behind (quotes_tail text rest q) (pattern_tail rest behind h))
pattern_tail _ _ (past_brackets text rest behind q h) =
    tail_more 91 text behind (tail_tail text rest behind (tail_skip 94 text rest (tail_skip 93 (skip_first 94 text) rest (brackets_tail (skip_first 93 (skip_first 94 text)) rest q))) (pattern_tail rest behind h))
pattern_tail _ _ (past_byte c text behind a b d e h) = tail_more c text behind (pattern_tail text behind h)

-- the position where the pattern ends, by the text after it
pub end_of : (text behind : List ℕ) → BehindPattern text behind → IsPatternEnd text (length text - length behind)
end_of text behind h = let t = pattern_tail text behind h in record { within = omega arith; behind = subst (BehindPattern text) t.is h }

-- ---- the same by computation, within a number of steps, to show that it is the only one
abbrev quotes_at : ℕ → List ℕ → List ℕ
quotes_at zero text = []
quotes_at (suc n) [] = []
quotes_at (suc n) (c ∷ text) = cond (nat_eq c 34) text (cond (nat_eq c 92) (quotes_at n (drop 1 text)) (quotes_at n text))

quotes_one : (text behind : List ℕ) → BehindQuotes text behind → (n : ℕ) → length text < n → quotes_at n text ≡ behind
quotes_one text behind h zero lt = absurd (omega (arith, lt))
quotes_one _ _ (quote_closes text) (suc n) lt = refl
quotes_one _ _ quote_open (suc n) lt = refl
quotes_one _ _ (quote_escape c text behind h) (suc n) lt = quotes_one text behind h n (omega (arith, lt))
quotes_one _ _ quote_slash (suc n) lt = nothing n
  where
    nothing : (n : ℕ) → quotes_at n [] ≡ []
    nothing zero = refl
    nothing (suc n) = refl
quotes_one _ _ (quote_byte c text behind a b h) (suc n) lt = pick_second (nat_eq c 34) _ _ (eq_other c 34 a) ∙ (pick_second (nat_eq c 92) _ _ (eq_other c 92 b) ∙ quotes_one text behind h n (omega (arith, lt)))

abbrev mark_at : ℕ → List ℕ → List ℕ
mark_at mark [] = []
mark_at mark (c ∷ text) = cond (nat_eq c mark && begins_with 93 text) (drop 1 text) (mark_at mark text)

mark_one : (mark : ℕ) (text behind : List ℕ) → BehindMark mark text behind → mark_at mark text ≡ behind
mark_one _ _ _ (mark_closes mark text) = let both : (nat_eq mark mark && true) ≡ true = rw (eq_same mark) refl in pick_first (nat_eq mark mark && true) _ _ both
mark_one _ _ _ (mark_open mark) = refl
mark_one _ _ _ (mark_byte mark c text behind a h) = pick_second (nat_eq c mark && begins_with 93 text) _ _ a ∙ mark_one mark text behind h

-- the byte at the front
abbrev first_of : List ℕ → ℕ
first_of [] = 0
first_of (c ∷ text) = c

abbrev brackets_at : ℕ → List ℕ → List ℕ
brackets_at zero text = []
brackets_at (suc n) [] = []
brackets_at (suc n) (c ∷ text) =
    cond (nat_eq c 93) text (cond (nat_eq c 92) (brackets_at n (drop 1 text)) (cond (opens_inner c text) (brackets_at n (mark_at (first_of text) (drop 2 text))) (brackets_at n text)))

opens_mark : (mark : ℕ) (text : List ℕ) → (nat_eq mark 58 || (nat_eq mark 46 || nat_eq mark 61)) ≡ true → opens_inner 91 (mark ∷ text) ≡ true
opens_mark mark text h = h

brackets_one : (text behind : List ℕ) → BehindBrackets text behind → (n : ℕ) → length text < n → brackets_at n text ≡ behind
brackets_one text behind h zero lt = absurd (omega (arith, lt))
brackets_one _ _ (bracket_closes text) (suc n) lt = refl
brackets_one _ _ bracket_open (suc n) lt = refl
brackets_one _ _ (bracket_escape c text behind h) (suc n) lt = brackets_one text behind h n (omega (arith, lt))
brackets_one _ _ bracket_slash (suc n) lt = nothing n
  where
    nothing : (n : ℕ) → brackets_at n [] ≡ []
    nothing zero = refl
    nothing (suc n) = refl
brackets_one _ _ (bracket_inner mark text rest behind m i h) (suc n) lt =
    let t = mark_tail mark (drop 1 text) rest i in
    let shorter : length (drop 1 text) ≤ length text = omega (arith, length-drop 1 text) in
    pick_first (opens_inner 91 (mark ∷ text)) _ _ (opens_mark mark text m) ∙ (ap (brackets_at n) (mark_one mark (drop 1 text) rest i) ∙ brackets_one rest behind h n (omega (arith, lt, t.within, shorter)))
brackets_one _ _ (bracket_byte c text behind a b d h) (suc n) lt =
    pick_second (nat_eq c 93) _ _ (eq_other c 93 a) ∙ (pick_second (nat_eq c 92) _ _ (eq_other c 92 b) ∙ (pick_second (opens_inner c text) _ _ d ∙ brackets_one text behind h n (omega (arith, lt))))

abbrev pattern_at : ℕ → List ℕ → List ℕ
pattern_at zero text = []
pattern_at (suc n) [] = []
pattern_at (suc n) (c ∷ text) =
    cond (is_blank c) (c ∷ text) (cond (nat_eq c 92) (pattern_at n (drop 1 text)) (cond (nat_eq c 34) (pattern_at n (quotes_at (suc (length text)) text))
    (cond (nat_eq c 91) (pattern_at n (brackets_at (suc (length (skip_first 93 (skip_first 94 text)))) (skip_first 93 (skip_first 94 text)))) (pattern_at n text))))

skip_shorter : (c : ℕ) (text : List ℕ) → length (skip_first c text) ≤ length text
skip_shorter c text = go (begins_with c text)
  where
    go : (b : Bool) → length (cond b (drop 1 text) text) ≤ length text
    go true = omega (arith, length-drop 1 text)
    go false = omega arith

pattern_one : (text behind : List ℕ) → BehindPattern text behind → (n : ℕ) → length text < n → pattern_at n text ≡ behind
pattern_one text behind h zero lt = absurd (omega (arith, lt))
pattern_one _ _ at_end (suc n) lt = refl
pattern_one _ _ (at_blank c text b) (suc n) lt = pick_first (is_blank c) _ _ b
pattern_one _ _ (past_escape c text behind h) (suc n) lt = pattern_one text behind h n (omega (arith, lt))
pattern_one _ _ past_slash (suc n) lt = nothing n
  where
    nothing : (n : ℕ) → pattern_at n [] ≡ []
    nothing zero = refl
    nothing (suc n) = refl
pattern_one _ _ (past_quotes text rest behind q h) (suc n) lt =
    let t = quotes_tail text rest q in
    ap (pattern_at n) (quotes_one text rest q (suc (length text)) (omega arith)) ∙ pattern_one rest behind h n (omega (arith, lt, t.within))
pattern_one _ _ (past_brackets text rest behind q h) (suc n) lt =
    let t = brackets_tail (skip_first 93 (skip_first 94 text)) rest q in
    ap (pattern_at n) (brackets_one (skip_first 93 (skip_first 94 text)) rest q (suc (length (skip_first 93 (skip_first 94 text)))) (omega arith))
    ∙ pattern_one rest behind h n (omega (arith, lt, t.within, skip_shorter 94 text, skip_shorter 93 (skip_first 94 text)))
pattern_one _ _ (past_byte c text behind a b d e h) (suc n) lt =
    pick_second (is_blank c) _ _ a ∙ (pick_second (nat_eq c 92) _ _ (eq_other c 92 b) ∙ (pick_second (nat_eq c 34) _ _ (eq_other c 34 d) ∙ (pick_second (nat_eq c 91) _ _ (eq_other c 91 e) ∙ pattern_one text behind h n (omega (arith, lt)))))

-- a text has one position where its pattern ends
pub one_end : (text : List ℕ) (n m : ℕ) → IsPatternEnd text n → IsPatternEnd text m → n ≡ m
one_end text n m p q =
    let same : drop n text ≡ drop m text = sym (pattern_one text (drop n text) p.behind (suc (length text)) (omega arith)) ∙ pattern_one text (drop m text) q.behind (suc (length text)) (omega arith) in
    let a : n ≤ length text = p.within in
    let b : m ≤ length text = q.within in
    omega (arith, a, b, ap length same, length-drop n text, length-drop m text)

-- ---- each text has a rest, at its end at the latest

-- a rest of at most the text's length follows it
abbrev Ends : (List ℕ → List ℕ → Type 0) → List ℕ → Type 0
Ends R text = (behind : List ℕ) × R text behind × (length behind ≤ length text)

not_equal : (c d : ℕ) → nat_eq c d ≡ false → c ≢ d
not_equal c d h e = true≢false (sym (eq-eqb c d e) ∙ h)

-- ---- one byte more
quotes_step : (c : ℕ) (text : List ℕ) → Ends BehindQuotes text → Ends BehindQuotes (drop 1 text) → Ends BehindQuotes (c ∷ text)
quotes_step c text more behind_one = by_quote (nat_eq c 34) refl
  where
    escaped : (t : List ℕ) → Ends BehindQuotes (drop 1 t) → Ends BehindQuotes (92 ∷ t)
    escaped [] m = ([], quote_slash, omega arith)
    escaped (d ∷ rest) m = (m.0, quote_escape d rest (m.0) (m.1), (let k : length (m.0) ≤ length rest = m.2 in omega arith))

    by_slash : (b : Bool) → nat_eq c 34 ≡ false → nat_eq c 92 ≡ b → Ends BehindQuotes (c ∷ text)
    by_slash true q e = rw (eqb-true c 92 e) (escaped text behind_one)
    by_slash false q e = (more.0, quote_byte c text (more.0) (not_equal c 34 q) (not_equal c 92 e) (more.1), (let k : length (more.0) ≤ length text = more.2 in omega arith))

    by_quote : (b : Bool) → nat_eq c 34 ≡ b → Ends BehindQuotes (c ∷ text)
    by_quote true e = rw (eqb-true c 34 e) (text, quote_closes text, omega arith)
    by_quote false e = by_slash (nat_eq c 92) e refl

mark_step : (mark c : ℕ) (text : List ℕ) → Ends (BehindMark mark) text → Ends (BehindMark mark) (c ∷ text)
mark_step mark c text more = by_mark (nat_eq c mark && begins_with 93 text) refl
  where
    found : (t : List ℕ) → c ≡ mark → begins_with 93 t ≡ true → Ends (BehindMark mark) (c ∷ t)
    found [] e b = absurd (true≢false (sym b))
    found (d ∷ rest) e b = rw (e, eqb-true d 93 b) (rest, mark_closes mark rest, omega arith)

    by_mark : (b : Bool) → (nat_eq c mark && begins_with 93 text) ≡ b → Ends (BehindMark mark) (c ∷ text)
    by_mark true e = let both = and_parts (nat_eq c mark) (begins_with 93 text) e in found text (eqb-true c mark (both.0)) (both.1)
    by_mark false e = (more.0, mark_byte mark c text (more.0) e (more.1), (let k : length (more.0) ≤ length text = more.2 in omega arith))

-- ---- any text
quotes_end : (n : ℕ) (text : List ℕ) → length text ≤ n → Ends BehindQuotes text
quotes_end n [] h = ([], quote_open, omega arith)
quotes_end zero (c ∷ text) h = absurd (omega (arith, h))
quotes_end (suc n) (c ∷ text) h = quotes_step c text (quotes_end n text (omega arith)) (quotes_end n (drop 1 text) (let k : length (drop 1 text) ≡ length text - 1 = length-drop 1 text in omega arith))

mark_end : (mark : ℕ) (text : List ℕ) → Ends (BehindMark mark) text
mark_end mark [] = ([], mark_open mark, omega arith)
mark_end mark (c ∷ text) = mark_step mark c text (mark_end mark text)

brackets_step : (c : ℕ) (text : List ℕ) → ((t : List ℕ) → length t ≤ length text → Ends BehindBrackets t) → Ends BehindBrackets (c ∷ text)
brackets_step c text further = by_close (nat_eq c 93) refl
  where
    escaped : (t : List ℕ) → ((s : List ℕ) → length s ≤ length t → Ends BehindBrackets s) → Ends BehindBrackets (92 ∷ t)
    escaped [] f = ([], bracket_slash, omega arith)
    escaped (d ∷ rest) f = let m = f rest (omega arith) in (m.0, bracket_escape d rest (m.0) (m.1), (let k : length (m.0) ≤ length rest = m.2 in omega arith))

    inner : (d : ℕ) (t : List ℕ) → ((s : List ℕ) → length s ≤ length t → Ends BehindBrackets s) → d ≡ 91 → opens_inner d t ≡ true → Ends BehindBrackets (d ∷ t)
    inner d [] f e o = absurd (true≢false (sym ((and_parts (nat_eq d 91) false o).1)))
    inner d (mark ∷ rest) f e o =
        let is_mark : (nat_eq mark 58 || (nat_eq mark 46 || nat_eq mark 61)) ≡ true = (and_parts (nat_eq d 91) (nat_eq mark 58 || (nat_eq mark 46 || nat_eq mark 61)) o).1 in
        let m = mark_end mark (drop 1 rest) in
        let short : length (m.0) ≤ length rest = (let a : length (m.0) ≤ length (drop 1 rest) = m.2 in let b : length (drop 1 rest) ≡ length rest - 1 = length-drop 1 rest in omega arith) in
        let b = f (m.0) (omega arith) in
        rw e (b.0, bracket_inner mark rest (m.0) (b.0) is_mark (m.1) (b.1), (let k : length (b.0) ≤ length (m.0) = b.2 in omega arith))

    by_inner : (b : Bool) → nat_eq c 93 ≡ false → nat_eq c 92 ≡ false → opens_inner c text ≡ b → Ends BehindBrackets (c ∷ text)
    by_inner true q s e = inner c text further (eqb-true c 91 ((and_parts (nat_eq c 91) _ e).0)) e
    by_inner false q s e = let m = further text (omega arith) in (m.0, bracket_byte c text (m.0) (not_equal c 93 q) (not_equal c 92 s) e (m.1), (let k : length (m.0) ≤ length text = m.2 in omega arith))

    by_slash : (b : Bool) → nat_eq c 93 ≡ false → nat_eq c 92 ≡ b → Ends BehindBrackets (c ∷ text)
    by_slash true q e = rw (eqb-true c 92 e) (escaped text further)
    by_slash false q e = by_inner (opens_inner c text) q e refl

    by_close : (b : Bool) → nat_eq c 93 ≡ b → Ends BehindBrackets (c ∷ text)
    by_close true e = rw (eqb-true c 93 e) (text, bracket_closes text, omega arith)
    by_close false e = by_slash (nat_eq c 92) e refl

brackets_end : (n : ℕ) (text : List ℕ) → length text ≤ n → Ends BehindBrackets text
brackets_end n [] h = ([], bracket_open, omega arith)
brackets_end zero (c ∷ text) h = absurd (omega (arith, h))
brackets_end (suc n) (c ∷ text) h = brackets_step c text (λ t k. brackets_end n t (omega arith))

pattern_step : (c : ℕ) (text : List ℕ) → ((t : List ℕ) → length t ≤ length text → Ends BehindPattern t) → Ends BehindPattern (c ∷ text)
pattern_step c text further = by_blank (is_blank c) refl
  where
    escaped : (t : List ℕ) → ((s : List ℕ) → length s ≤ length t → Ends BehindPattern s) → Ends BehindPattern (92 ∷ t)
    escaped [] f = ([], past_slash, omega arith)
    escaped (d ∷ rest) f = let m = f rest (omega arith) in (m.0, past_escape d rest (m.0) (m.1), (let k : length (m.0) ≤ length rest = m.2 in omega arith))

    quoted : Ends BehindPattern (34 ∷ text)
    quoted =
        let q = quotes_end (length text) text (omega arith) in
        let m = further (q.0) (q.2) in
        (m.0, past_quotes text (q.0) (m.0) (q.1) (m.1), (let k : length (m.0) ≤ length (q.0) = m.2 in let l : length (q.0) ≤ length text = q.2 in omega arith))

    bracketed : Ends BehindPattern (91 ∷ text)
    bracketed =
        let inside : List ℕ = skip_first 93 (skip_first 94 text) in
        let short : length inside ≤ length text = (let a : length inside ≤ length (skip_first 94 text) = skip_shorter 93 (skip_first 94 text) in let b : length (skip_first 94 text) ≤ length text = skip_shorter 94 text in omega arith) in
        let q = brackets_end (length inside) inside (omega arith) in
        let l : length (q.0) ≤ length text = (let k : length (q.0) ≤ length inside = q.2 in omega arith) in
        let m = further (q.0) l in
        (m.0, past_brackets text (q.0) (m.0) (q.1) (m.1), (let k : length (m.0) ≤ length (q.0) = m.2 in omega arith))

    by_bracket : (b : Bool) → is_blank c ≡ false → nat_eq c 92 ≡ false → nat_eq c 34 ≡ false → nat_eq c 91 ≡ b → Ends BehindPattern (c ∷ text)
    by_bracket true n s q e = rw (eqb-true c 91 e) bracketed
    by_bracket false n s q e = let m = further text (omega arith) in (m.0, past_byte c text (m.0) n (not_equal c 92 s) (not_equal c 34 q) (not_equal c 91 e) (m.1), (let k : length (m.0) ≤ length text = m.2 in omega arith))

    by_quote : (b : Bool) → is_blank c ≡ false → nat_eq c 92 ≡ false → nat_eq c 34 ≡ b → Ends BehindPattern (c ∷ text)
    by_quote true n s e = rw (eqb-true c 34 e) quoted
    by_quote false n s e = by_bracket (nat_eq c 91) n s e refl

    by_slash : (b : Bool) → is_blank c ≡ false → nat_eq c 92 ≡ b → Ends BehindPattern (c ∷ text)
    by_slash true n e = rw (eqb-true c 92 e) (escaped text further)
    by_slash false n e = by_quote (nat_eq c 34) n e refl

    by_blank : (b : Bool) → is_blank c ≡ b → Ends BehindPattern (c ∷ text)
    by_blank true e = (c ∷ text, at_blank c text e, omega arith)
    by_blank false e = by_slash (nat_eq c 92) e refl

pattern_ends : (n : ℕ) (text : List ℕ) → length text ≤ n → Ends BehindPattern text
pattern_ends n [] h = ([], at_end, omega arith)
pattern_ends zero (c ∷ text) h = absurd (omega (arith, h))
pattern_ends (suc n) (c ∷ text) h = pattern_step c text (λ t k. pattern_ends n t (omega arith))

-- a pattern at the front of any text ends somewhere
pub some_end : (text : List ℕ) → (n : ℕ) × IsPatternEnd text n
some_end text = let m = pattern_ends (length text) text (omega arith) in (length text - length (m.0), end_of text (m.0) (m.1))

-- at each place the pattern at the front of a text ends, or it doesn't
pub ends_or_not : (text : List ℕ) (n : ℕ) → IsPatternEnd text n ⊎ ¬ (IsPatternEnd text n)
ends_or_not text n = let there = some_end text in by (nat_eq (there.0) n) refl
  where
    by : (b : Bool) → nat_eq ((some_end text).0) n ≡ b → IsPatternEnd text n ⊎ ¬ (IsPatternEnd text n)
    by true e = inl (subst (IsPatternEnd text) (eqb-true ((some_end text).0) n e) ((some_end text).1))
    by false e = inr (λ here. not_equal ((some_end text).0) n e (one_end text ((some_end text).0) n ((some_end text).1) here))
