-- The statements of an action, turn by turn.
use Rattle.std.proofs.Common.{◌≡◌, ◌∙◌, ℕ, zero, suc, ◌+◌, ◌-◌, ◌<◌, List, [], ◌∷◌, ◌++◌, true, false, ap, sym, subst, refl, append_assoc, arith, add-one, take, drop, length}
use Rattle.std.proofs.lemmas.List.{append-nil, drop-drop, take_rest}
use Rattle.lx_spec.specs.ActionWords.{Word, letters, byte, bar, semicolon, open_brace, close_brace, open_group, close_group, AreWords}
use Rattle.lx_spec.specs.Actions.{Statement, Turn, finished, opens, closes, states, no_statement, turn_at, AreStatements, none, opened, closed, stated, Action, own, IsAction, a_bar, some_statements, is_bar}
use Rattle.lx_spec.specs.declared.word.Word.{Word as CodeWord}
use Rattle.lx_spec.specs.views.Words.{words_view}
use Rattle.lx_spec.proofs.WordSteps.{one_words}

pub in_finished : (d : ℕ) (ws : List Word) (ss : List Statement) → AreStatements d ws ss → turn_at ws ≡ finished → (d ≡ 0) × (ss ≡ [])
in_finished _ _ _ (none ws e) h = (refl, refl)
in_finished _ _ _ (opened d ws rest ss e a) h = let both : opens rest ≡ finished = sym e ∙ h in cc
in_finished _ _ _ (closed d ws rest ss e a) h = let both : closes rest ≡ finished = sym e ∙ h in cc
in_finished _ _ _ (stated d ws rest s ss e a) h = let both : states s rest ≡ finished = sym e ∙ h in cc

pub in_opened : (d : ℕ) (ws behind : List Word) (ss : List Statement) → AreStatements d ws ss → turn_at ws ≡ opens behind → AreStatements (suc d) behind ss
in_opened _ _ behind _ (none ws e) h = let both : finished ≡ opens behind = sym e ∙ h in cc
in_opened _ _ behind _ (opened d ws rest ss e a) h = let both : opens rest ≡ opens behind = sym e ∙ h in let same : rest ≡ behind = cc in subst (λ (t : List Word). AreStatements (suc d) t ss) same a
in_opened _ _ behind _ (closed d ws rest ss e a) h = let both : closes rest ≡ opens behind = sym e ∙ h in cc
in_opened _ _ behind _ (stated d ws rest s ss e a) h = let both : states s rest ≡ opens behind = sym e ∙ h in cc

pub in_closed : (d : ℕ) (ws behind : List Word) (ss : List Statement) → AreStatements d ws ss → turn_at ws ≡ closes behind → (k : ℕ) × (d ≡ suc k) × AreStatements k behind ss
in_closed _ _ behind _ (none ws e) h = let both : finished ≡ closes behind = sym e ∙ h in cc
in_closed _ _ behind _ (opened d ws rest ss e a) h = let both : opens rest ≡ closes behind = sym e ∙ h in cc
in_closed _ _ behind _ (closed d ws rest ss e a) h = let both : closes rest ≡ closes behind = sym e ∙ h in let same : rest ≡ behind = cc in (d, refl, subst (λ (t : List Word). AreStatements d t ss) same a)
in_closed _ _ behind _ (stated d ws rest s ss e a) h = let both : states s rest ≡ closes behind = sym e ∙ h in cc

pub in_stated : (d : ℕ) (ws behind : List Word) (s : Statement) (ss : List Statement) → AreStatements d ws ss → turn_at ws ≡ states s behind → (ts : List Statement) × AreStatements d behind ts × (ss ≡ s ∷ ts)
in_stated _ _ behind s _ (none ws e) h = let both : finished ≡ states s behind = sym e ∙ h in cc
in_stated _ _ behind s _ (opened d ws rest ss e a) h = let both : opens rest ≡ states s behind = sym e ∙ h in cc
in_stated _ _ behind s _ (closed d ws rest ss e a) h = let both : closes rest ≡ states s behind = sym e ∙ h in cc
in_stated _ _ behind s _ (stated d ws rest t ss e a) h =
    let both : states t rest ≡ states s behind = sym e ∙ h in
    let same : rest ≡ behind = cc in
    let first : t ≡ s = cc in
    (ss, subst (λ (u : List Word). AreStatements d u ss) same a, ap (λ (u : Statement). u ∷ ss) first)

pub in_none : (d : ℕ) (ws : List Word) (ss : List Statement) → AreStatements d ws ss → turn_at ws ≡ no_statement → ⊥
in_none _ _ _ (none ws e) h = let both : finished ≡ no_statement = sym e ∙ h in cc
in_none _ _ _ (opened d ws rest ss e a) h = let both : opens rest ≡ no_statement = sym e ∙ h in cc
in_none _ _ _ (closed d ws rest ss e a) h = let both : closes rest ≡ no_statement = sym e ∙ h in cc
in_none _ _ _ (stated d ws rest s ss e a) h = let both : states s rest ≡ no_statement = sym e ∙ h in cc

-- The statements read, with the words that are left and the number of open braces.
pub record StatementsRead (whole : List Word) (depth : ℕ) (rest : List Word) (read : List Statement) : Type 0 where
  pub sound : (ss : List Statement) → AreStatements depth rest ss → AreStatements 0 whole (read ++ ss)
  pub complete : (ks : List Statement) → AreStatements 0 whole ks → (ss : List Statement) × AreStatements depth rest ss × (ks ≡ read ++ ss)

pub StatementsRead-start : (whole : List Word) → StatementsRead whole 0 whole []
StatementsRead-start whole = record { sound = λ ss a. a; complete = λ ks a. (ks, a, refl) }

pub StatementsRead-opens : (whole : List Word) (d : ℕ) (rest behind : List Word) (read : List Statement) → StatementsRead whole d rest read → opens behind ≡ turn_at rest → StatementsRead whole (d + 1) behind read
StatementsRead-opens whole d rest behind read r e = subst (λ (n : ℕ). StatementsRead whole n behind read) (sym (add-one d)) (record {
  sound = λ ss a. r.sound ss (opened d rest behind ss (sym e) a);
  complete = λ ks a. let w = r.complete ks a in (w.0, in_opened d rest behind w.0 w.1 (sym e), w.2);
})

closes-suc : (whole : List Word) (k : ℕ) (rest behind : List Word) (read : List Statement) → StatementsRead whole (suc k) rest read → closes behind ≡ turn_at rest → StatementsRead whole k behind read
closes-suc whole k rest behind read r e = record {
  sound = λ ss a. r.sound ss (closed k rest behind ss (sym e) a);
  complete = λ ks a.
      let w = r.complete ks a in
      let v = in_closed (suc k) rest behind w.0 w.1 (sym e) in
      let same : v.0 ≡ k = omega arith in
      (w.0, subst (λ (n : ℕ). AreStatements n behind w.0) same v.2, w.2);
}

pub StatementsRead-closes : (whole : List Word) (d : ℕ) (rest behind : List Word) (read : List Statement) → StatementsRead whole d rest read → closes behind ≡ turn_at rest → 0 < d → StatementsRead whole (d - 1) behind read
StatementsRead-closes whole zero rest behind read r e positive = absurd (omega arith)
StatementsRead-closes whole (suc k) rest behind read r e positive =
    let same : suc k - 1 ≡ k = omega arith in
    subst (λ (n : ℕ). StatementsRead whole n behind read) (sym same) (closes-suc whole k rest behind read r e)

pub StatementsRead-unopened : (whole rest behind : List Word) (read : List Statement) → StatementsRead whole 0 rest read → closes behind ≡ turn_at rest → (ks : List Statement) → AreStatements 0 whole ks → ⊥
StatementsRead-unopened whole rest behind read r e ks a =
    let w = r.complete ks a in
    let v = in_closed 0 rest behind w.0 w.1 (sym e) in
    absurd (omega (arith, v.1))

pub StatementsRead-states : (whole : List Word) (d : ℕ) (rest behind : List Word) (read : List Statement) (s : Statement) → StatementsRead whole d rest read → states s behind ≡ turn_at rest → StatementsRead whole d behind (read ++ s ∷ [])
StatementsRead-states whole d rest behind read s r e = record {
  sound = λ ss a. subst (AreStatements 0 whole) (sym (append_assoc read (s ∷ []) ss)) (r.sound (s ∷ ss) (stated d rest behind s ss (sym e) a));
  complete = λ ks a.
      let v = r.complete ks a in
      let u = in_stated d rest behind s v.0 v.1 (sym e) in
      (u.0, u.1, v.2 ∙ ap (λ (l : List Statement). read ++ l) u.2 ∙ sym (append_assoc read (s ∷ []) u.0));
}

pub StatementsRead-end : (whole rest : List Word) (read : List Statement) → StatementsRead whole 0 rest read → finished ≡ turn_at rest → AreStatements 0 whole read
StatementsRead-end whole rest read r e = subst (AreStatements 0 whole) (append-nil read) (r.sound [] (none rest (sym e)))

pub StatementsRead-unclosed : (whole : List Word) (d : ℕ) (rest : List Word) (read : List Statement) → StatementsRead whole d rest read → finished ≡ turn_at rest → 0 < d → (ks : List Statement) → AreStatements 0 whole ks → ⊥
StatementsRead-unclosed whole d rest read r e positive ks a =
    let w = r.complete ks a in
    let v = in_finished d rest w.0 w.1 (sym e) in
    absurd (omega (arith, v.0))

pub StatementsRead-none : (whole : List Word) (d : ℕ) (rest : List Word) (read : List Statement) → StatementsRead whole d rest read → no_statement ≡ turn_at rest → (ks : List Statement) → AreStatements 0 whole ks → ⊥
StatementsRead-none whole d rest read r e ks a = let w = r.complete ks a in in_none d rest w.0 w.1 (sym e)

-- Words are statements in at most one way.
pub one_statements : (d : ℕ) (ws : List Word) (ss ts : List Statement) → AreStatements d ws ss → AreStatements d ws ts → ss ≡ ts
one_statements _ _ _ ts (none ws e) b = let f = in_finished 0 ws ts b e in sym f.1
one_statements _ _ _ ts (opened d ws rest ss e a) b = one_statements (suc d) rest ss ts a (in_opened d ws rest ts b e)
one_statements _ _ _ ts (closed d ws rest ss e a) b =
    let v = in_closed (suc d) ws rest ts b e in
    let same : v.0 ≡ d = omega arith in
    one_statements d rest ss ts a (subst (λ (n : ℕ). AreStatements n rest ts) same v.2)
one_statements _ _ _ ts (stated d ws rest s ss e a) b =
    let u = in_stated d ws rest s ts b e in
    ap (λ (l : List Statement). s ∷ l) (one_statements d rest ss u.0 a u.1) ∙ sym u.2

pub bar-is : (ws : List Word) → is_bar ws ≡ true → ws ≡ bar ∷ []
bar-is [] e = cc
bar-is (bar ∷ []) e = refl
bar-is (bar ∷ w ∷ ws) e = cc
bar-is (letters text ∷ ws) e = cc
bar-is (byte b ∷ ws) e = cc
bar-is (semicolon ∷ ws) e = cc
bar-is (open_brace ∷ ws) e = cc
bar-is (close_brace ∷ ws) e = cc
bar-is (open_group ∷ ws) e = cc
bar-is (close_group ∷ ws) e = cc

-- words that aren't a bar, and no statements, are no action
pub no_action : (text : List ℕ) (ws : List Word) → AreWords text ws → is_bar ws ≡ false → ((ss : List Statement) → AreStatements 0 ws ss → ⊥) → (a : Action) → IsAction text a → ⊥
no_action text ws are other never _ (a_bar is) =
    let same : ws ≡ bar ∷ [] = one_words text ws (bar ∷ []) are is in
    let both : true ≡ false = sym (ap is_bar same) ∙ other in
    cc
no_action text ws are other never _ (some_statements vs ss is a) =
    let same : vs ≡ ws = one_words text vs ws is are in
    never ss (subst (λ (l : List Word). AreStatements 0 l ss) same a)

pub no_words : (text : List ℕ) → ((ws : List Word) → AreWords text ws → ⊥) → (a : Action) → IsAction text a → ⊥
no_words text never _ (a_bar is) = never (bar ∷ []) is
no_words text never _ (some_statements vs ss is a) = never vs is

-- A text is at most one action.
pub one_action : (text : List ℕ) (a b : Action) → IsAction text a → IsAction text b → a ≡ b
one_action text _ _ (a_bar is) (a_bar is') = refl
one_action text _ _ (a_bar is) (some_statements ws ss is' s) =
    let same : ws ≡ bar ∷ [] = one_words text ws (bar ∷ []) is' is in
    absurd (in_none 0 (bar ∷ []) ss (subst (λ (l : List Word). AreStatements 0 l ss) same s) refl)
one_action text _ _ (some_statements ws ss is s) (a_bar is') =
    let same : ws ≡ bar ∷ [] = one_words text ws (bar ∷ []) is is' in
    absurd (in_none 0 (bar ∷ []) ss (subst (λ (l : List Word). AreStatements 0 l ss) same s) refl)
one_action text _ _ (some_statements ws ss is s) (some_statements vs ts is' t) =
    let same : vs ≡ ws = one_words text vs ws is' is in
    ap own (one_statements 0 ws ss ts s (subst (λ (l : List Word). AreStatements 0 l ts) same t))

-- the words from one place on, and those n further on
pub words-further : (words : List CodeWord) (at n : ℕ) → words_view (drop n (take (length words - at) (drop at words))) ≡ words_view (drop (at + n) words)
words-further words at n = ap (λ (l : List CodeWord). words_view (drop n l)) (take_rest words at) ∙ ap words_view (drop-drop n at words)

pub words-rest : (words : List CodeWord) (at : ℕ) → words_view (take (length words - at) (drop at words)) ≡ words_view (drop at words)
words-rest words at = ap words_view (take_rest words at)

-- the meaning of a turn for the words from a place on
pub turn-opens : (words : List CodeWord) (at : ℕ) → opens (words_view (drop 1 (take (length words - at) (drop at words)))) ≡ turn_at (words_view (take (length words - at) (drop at words)))
    → opens (words_view (drop (at + 1) words)) ≡ turn_at (words_view (drop at words))
turn-opens words at e = ap opens (sym (words-further words at 1)) ∙ e ∙ ap turn_at (words-rest words at)

pub turn-closes : (words : List CodeWord) (at : ℕ) → closes (words_view (drop 1 (take (length words - at) (drop at words)))) ≡ turn_at (words_view (take (length words - at) (drop at words)))
    → closes (words_view (drop (at + 1) words)) ≡ turn_at (words_view (drop at words))
turn-closes words at e = ap closes (sym (words-further words at 1)) ∙ e ∙ ap turn_at (words-rest words at)

pub turn-states : (words : List CodeWord) (at n : ℕ) (s : Statement) → states s (words_view (drop n (take (length words - at) (drop at words)))) ≡ turn_at (words_view (take (length words - at) (drop at words)))
    → states s (words_view (drop (at + n) words)) ≡ turn_at (words_view (drop at words))
turn-states words at n s e = ap (states s) (sym (words-further words at n)) ∙ e ∙ ap turn_at (words-rest words at)

pub turn-other : (words : List CodeWord) (at : ℕ) (t : Turn) → t ≡ turn_at (words_view (take (length words - at) (drop at words))) → t ≡ turn_at (words_view (drop at words))
turn-other words at t e = e ∙ ap turn_at (words-rest words at)
