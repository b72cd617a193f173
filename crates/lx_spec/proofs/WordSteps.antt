-- The words of an action, piece by piece.
use Rattle.std.proofs.Common.{◌≡◌, ◌∙◌, ℕ, List, [], ◌∷◌, ◌++◌, ap, sym, subst, refl, append_assoc}
use Rattle.std.proofs.lemmas.List.{append-nil}
use Rattle.lx_spec.specs.ActionWords.{Word, ended, passed, word, no_word, piece_at, AreWords, none, behind_passed, behind_word}

pub in_passed : (text behind : List ℕ) (ws : List Word) → AreWords text ws → piece_at text ≡ passed behind → AreWords behind ws
in_passed _ behind _ (none text e) h = let both : ended ≡ passed behind = sym e ∙ h in cc
in_passed _ behind _ (behind_passed text rest ws e a) h = let both : passed rest ≡ passed behind = sym e ∙ h in let same : rest ≡ behind = cc in subst (λ (t : List ℕ). AreWords t ws) same a
in_passed _ behind _ (behind_word text rest w ws e a) h = let both : word w rest ≡ passed behind = sym e ∙ h in cc

pub in_word : (text behind : List ℕ) (w : Word) (ws : List Word) → AreWords text ws → piece_at text ≡ word w behind → (vs : List Word) × AreWords behind vs × (ws ≡ w ∷ vs)
in_word _ behind w _ (none text e) h = let both : ended ≡ word w behind = sym e ∙ h in cc
in_word _ behind w _ (behind_passed text rest ws e a) h = let both : passed rest ≡ word w behind = sym e ∙ h in cc
in_word _ behind w _ (behind_word text rest v ws e a) h =
    let both : word v rest ≡ word w behind = sym e ∙ h in
    let same : rest ≡ behind = cc in
    let first : v ≡ w = cc in
    (ws, subst (λ (t : List ℕ). AreWords t ws) same a, ap (λ (u : Word). u ∷ ws) first)

pub in_none : (text : List ℕ) (ws : List Word) → AreWords text ws → piece_at text ≡ no_word → ⊥
in_none _ _ (none text e) h = let both : ended ≡ no_word = sym e ∙ h in cc
in_none _ _ (behind_passed text rest ws e a) h = let both : passed rest ≡ no_word = sym e ∙ h in cc
in_none _ _ (behind_word text rest v ws e a) h = let both : word v rest ≡ no_word = sym e ∙ h in cc

in_ended : (text : List ℕ) (ws : List Word) → AreWords text ws → piece_at text ≡ ended → ws ≡ []
in_ended _ _ (none text e) h = refl
in_ended _ _ (behind_passed text rest ws e a) h = let both : passed rest ≡ ended = sym e ∙ h in cc
in_ended _ _ (behind_word text rest v ws e a) h = let both : word v rest ≡ ended = sym e ∙ h in cc

-- The words read, with the text that is left.
pub record Reached (text rest : List ℕ) (read : List Word) : Type 0 where
  pub sound : (ws : List Word) → AreWords rest ws → AreWords text (read ++ ws)
  pub complete : (ks : List Word) → AreWords text ks → (ws : List Word) × AreWords rest ws × (ks ≡ read ++ ws)

pub Reached-start : (text : List ℕ) → Reached text text []
Reached-start text = record { sound = λ ws a. a; complete = λ ks a. (ks, a, refl) }

pub Reached-passed : (text rest behind : List ℕ) (read : List Word) → Reached text rest read → passed behind ≡ piece_at rest → Reached text behind read
Reached-passed text rest behind read r e = record {
  sound = λ ws a. r.sound ws (behind_passed rest behind ws (sym e) a);
  complete = λ ks a. let w = r.complete ks a in (w.0, in_passed rest behind w.0 w.1 (sym e), w.2);
}

pub Reached-word : (text rest behind : List ℕ) (read : List Word) (w : Word) → Reached text rest read → word w behind ≡ piece_at rest → Reached text behind (read ++ w ∷ [])
Reached-word text rest behind read w r e = record {
  sound = λ ws a. subst (AreWords text) (sym (append_assoc read (w ∷ []) ws)) (r.sound (w ∷ ws) (behind_word rest behind w ws (sym e) a));
  complete = λ ks a.
      let v = r.complete ks a in
      let u = in_word rest behind w v.0 v.1 (sym e) in
      (u.0, u.1, v.2 ∙ ap (λ (l : List Word). read ++ l) u.2 ∙ sym (append_assoc read (w ∷ []) u.0));
}

pub Reached-end : (text rest : List ℕ) (read : List Word) → Reached text rest read → ended ≡ piece_at rest → AreWords text read
Reached-end text rest read r e = subst (AreWords text) (append-nil read) (r.sound [] (none rest (sym e)))

pub Reached-none : (text rest : List ℕ) (read : List Word) → Reached text rest read → no_word ≡ piece_at rest → (ks : List Word) → AreWords text ks → ⊥
Reached-none text rest read r e ks a = let w = r.complete ks a in in_none rest w.0 w.1 (sym e)

-- A text is words in at most one way.
pub one_words : (text : List ℕ) (ws vs : List Word) → AreWords text ws → AreWords text vs → ws ≡ vs
one_words _ _ vs (none text e) b = sym (in_ended text vs b e)
one_words _ _ vs (behind_passed text rest ws e a) b = one_words rest ws vs a (in_passed text rest vs b e)
one_words _ _ vs (behind_word text rest w ws e a) b =
    let u = in_word text rest w vs b e in
    ap (λ (l : List Word). w ∷ l) (one_words rest ws u.0 a u.1) ∙ sym u.2
