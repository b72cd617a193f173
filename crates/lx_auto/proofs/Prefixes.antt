-- The last positions of the prefixes that spell a word are those that the follow relation reaches.
use Rattle.std.proofs.Common.{◌≡◌, ℕ, ◌+◌, ◌≤◌, ◌<◌, List, [], ◌∷◌, ◌++◌, refl, sym, ap}
use Rattle.lx_auto.specs.Unfolded.{Unfolded, position_count, PositionWord}
use Rattle.lx_auto.specs.Positions.{Follow, Completes, Spells, EndsPrefix, LeadsTo, IsReached}
use Rattle.lx_auto.proofs.Words.{in_first, in_follow, some_completion, word_cons, cons_word, completes_cons, cons_completes}

module _ (Has : ℕ → ℕ → Type 0) (e : Unfolded) (k : ℕ) where
  -- the last of a list of one
  last_of_one : (p q : ℕ) (us : List ℕ) → p ∷ [] ≡ us ++ q ∷ [] → q ≡ p
  last_of_one p q [] h = cc
  last_of_one p q (x ∷ []) h = absurd (cc)
  last_of_one p q (x ∷ y ∷ us) h = absurd (cc)

  -- the last of a list of two or more is the last of its tail
  last_of_more : (p r q : ℕ) (ps us : List ℕ) → p ∷ r ∷ ps ≡ us ++ q ∷ [] → (vs : List ℕ) × (r ∷ ps ≡ vs ++ q ∷ [])
  last_of_more p r q ps [] h = absurd (cc)
  last_of_more p r q ps (x ∷ us) h = (us, (cc))

  pub leads_from_prefix : (ps rest w : List ℕ) (p q : ℕ) (us : List ℕ) → p ∷ ps ≡ us ++ q ∷ [] → Completes e k p (ps ++ rest) → Spells Has ps w → LeadsTo Has e k p w q
  leads_from_prefix [] rest [] p q us h c s = last_of_one p q us h
  leads_from_prefix [] rest (b ∷ w) p q us h c s = absurd s
  leads_from_prefix (r ∷ ps) rest [] p q us h c s = absurd s
  leads_from_prefix (r ∷ ps) rest (b ∷ w) p q us h c s =
      let t = completes_cons e k p r (ps ++ rest) (r ∷ (ps ++ rest)) refl c in
      let v = last_of_more p r q ps us h in
      (r, t.0, s.0, leads_from_prefix ps rest w r q v.0 v.1 t.1 s.1)

  pub prefix_from_leads : (w : List ℕ) (p q : ℕ) → k ≤ p → p < k + position_count e → LeadsTo Has e k p w q →
      (ps : List ℕ) × (us : List ℕ) × (rest : List ℕ) × (p ∷ ps ≡ us ++ q ∷ []) × Completes e k p (ps ++ rest) × Spells Has ps w
  prefix_from_leads [] p q l h s = let c = some_completion e k p l h in ([], [], c.0, ap (λ x. x ∷ []) (sym s), c.1, tt)
  prefix_from_leads (b ∷ w) p q l h s =
      let f = in_follow e k p s.0 s.1 in
      let r = prefix_from_leads w s.0 q f.2 f.3 s.3 in
      (s.0 ∷ r.0, p ∷ r.1, r.2, ap (λ x. p ∷ x) r.3, cons_completes e k p s.0 (r.0 ++ r.2) s.1 r.4, (s.2, r.5))

  pub reached_from_prefix : (w : List ℕ) (q : ℕ) → EndsPrefix Has e k w q → IsReached Has e k w q
  reached_from_prefix w q h = go h.before h.word h.spelled w refl
    where
      start : (us : List ℕ) → (p : ℕ) × (ps : List ℕ) × (us ++ q ∷ [] ≡ p ∷ ps)
      start [] = (q, [], refl)
      start (x ∷ us) = (x, us ++ q ∷ [], refl)

      reached : (us : List ℕ) (p : ℕ) (ps : List ℕ) (v : List ℕ) → us ++ q ∷ [] ≡ p ∷ ps → PositionWord e k (p ∷ (ps ++ h.behind)) → Spells Has (p ∷ ps) v → IsReached Has e k v q
      reached us p ps [] same word spelled = absurd spelled
      reached us p ps (b ∷ v) same word spelled =
          let t = word_cons e k p (ps ++ h.behind) (p ∷ (ps ++ h.behind)) refl word in
          (p, t.0, spelled.0, leads_from_prefix ps h.behind v p q us (sym same) t.1 spelled.1)

      go : (us : List ℕ) → PositionWord e k ((us ++ q ∷ []) ++ h.behind) → Spells Has (us ++ q ∷ []) w → (v : List ℕ) → v ≡ w → IsReached Has e k v q
      go us word spelled v same =
          let t = start us in
          reached us t.0 t.1 v t.2 (rw t.2 at word) (rw (t.2, ← same) at spelled)

  pub prefix_from_reached : (w : List ℕ) (q : ℕ) → IsReached Has e k w q → EndsPrefix Has e k w q
  prefix_from_reached [] q h = absurd h
  prefix_from_reached (b ∷ w) q h =
      let f = in_first e k h.0 h.1 in
      let r = prefix_from_leads w h.0 q f.0 f.1 h.3 in
      record {
        before = r.1;
        behind = r.2;
        word = rw (← r.3) (cons_word e k h.0 (r.0 ++ r.2) h.1 r.4);
        spelled = rw (← r.3) (h.2, r.5);
      }

  -- one more byte: the follow relation is taken once more
  pub leads_push : (w : List ℕ) (b p q : ℕ) → LeadsTo Has e k p (w ++ b ∷ []) q → (r : ℕ) × LeadsTo Has e k p w r × Follow e k r q × Has q b
  leads_push [] b p q h = (p, refl, (let same : q ≡ h.0 = h.3 in rw same h.1), (let same : q ≡ h.0 = h.3 in rw same h.2))
  leads_push (c ∷ w) b p q h = let t = leads_push w b h.0 q h.3 in (t.0, (h.0, h.1, h.2, t.1), t.2, t.3)

  pub push_leads : (w : List ℕ) (b p q r : ℕ) → LeadsTo Has e k p w r → Follow e k r q → Has q b → LeadsTo Has e k p (w ++ b ∷ []) q
  push_leads [] b p q r h f has = (q, rw h at f, has, refl)
  push_leads (c ∷ w) b p q r h f has = (h.0, h.1, h.2, push_leads w b h.0 q r h.3 f has)
