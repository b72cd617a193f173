-- The positions of a rule that a word reaches are those that end prefixes of its words. One more byte is one more position. If a final position is
-- reached, the rule matches the word.
use Rattle.std.proofs.Common.{◌≡◌, ◌≢◌, ℕ, ◌+◌, ◌≤◌, ◌<◌, ◌⊎◌, ◌↔◌, inl, inr, Bool, true, false, List, [], ◌∷◌, ◌++◌, refl, sym, ◌∙◌, ap, subst, arith, append_assoc, append-nil}
use Rattle.lx_auto.specs.Unfolded.{Unfolded, empty, leaf, cat, alt, opt, plus, position_count, PositionWord, ByteWord}
use Rattle.lx_auto.specs.Positions.{First, Last, Follow, Completes, HasByte, HasItsBytes, Spells, LeadsTo, IsReached}
use Rattle.lx_auto.specs.PositionSets.{NumberedRule, newline_of, WordWithEnd, HasRuleByte, EndsRulePrefix}
use Rattle.lx_auto.specs.RuleReach.{RuleFollow, FinalWithEnd, IsFinal, IsReachedInRule, WholeWithEnd, MatchesWhole}
use Rattle.lx_auto.proofs.Words.{in_first, in_last, in_follow, word_cons, cons_word, completes_cons, cons_completes, last_completes, completes_last}
use Rattle.lx_auto.proofs.Prefixes.{reached_from_prefix, prefix_from_reached, leads_push, push_leads}
use Rattle.lx_auto.proofs.SpelledWords.{spelled, matched, spells_append, spells_split, spells_nil}

-- positions with bytes lie in the range of the expression
pub in_bytes : (e : Unfolded) (k p b : ℕ) → HasByte e k p b → (k ≤ p) × (p < k + position_count e)
in_bytes empty k p b h = absurd h
in_bytes (leaf bytes) k p b h = let e = h.0 in (omega arith, omega arith)
in_bytes (cat a c) k p b h = elim h [
  | inl x ↦ let r = in_bytes a k p b x in (omega arith, omega arith)
  | inr x ↦ let r = in_bytes c (k + position_count a) p b x in (omega arith, omega arith)
]
in_bytes (alt a c) k p b h = elim h [
  | inl x ↦ let r = in_bytes a k p b x in (omega arith, omega arith)
  | inr x ↦ let r = in_bytes c (k + position_count a) p b x in (omega arith, omega arith)
]
in_bytes (opt a) k p b h = in_bytes a k p b h
in_bytes (plus a) k p b h = in_bytes a k p b h

-- a relation that agrees with the expression on its range has its bytes
pub has_its_bytes : (Has : ℕ → ℕ → Type 0) (e : Unfolded) (k : ℕ) →
    ((p b : ℕ) → k ≤ p → p < k + position_count e → Has p b ↔ HasByte e k p b) → HasItsBytes Has e k
has_its_bytes Has empty k h = tt
has_its_bytes Has (leaf bytes) k h =
    λ b. let r = h k b (omega arith) (omega arith) in ((λ x. (r.0 x).1), (λ x. r.1 (refl, x)))
has_its_bytes Has (cat a c) k h = (
  has_its_bytes Has a k (λ p b l u. let r = h p b l (omega arith) in (
    (λ x. elim (r.0 x) [ inl y ↦ y | inr y ↦ let s = in_bytes c (k + position_count a) p b y in absurd (omega arith) ]),
    (λ x. r.1 (inl x)),
  )),
  has_its_bytes Has c (k + position_count a) (λ p b l u. let r = h p b (omega arith) (omega arith) in (
    (λ x. elim (r.0 x) [ inl y ↦ let s = in_bytes a k p b y in absurd (omega arith) | inr y ↦ y ]),
    (λ x. r.1 (inr x)),
  )),
)
has_its_bytes Has (alt a c) k h = (
  has_its_bytes Has a k (λ p b l u. let r = h p b l (omega arith) in (
    (λ x. elim (r.0 x) [ inl y ↦ y | inr y ↦ let s = in_bytes c (k + position_count a) p b y in absurd (omega arith) ]),
    (λ x. r.1 (inl x)),
  )),
  has_its_bytes Has c (k + position_count a) (λ p b l u. let r = h p b (omega arith) (omega arith) in (
    (λ x. elim (r.0 x) [ inl y ↦ let s = in_bytes a k p b y in absurd (omega arith) | inr y ↦ y ]),
    (λ x. r.1 (inr x)),
  )),
)
has_its_bytes Has (opt a) k h = has_its_bytes Has a k h
has_its_bytes Has (plus a) k h = has_its_bytes Has a k h

pub rule_bytes : (r : NumberedRule) → HasItsBytes (HasRuleByte r) r.tree r.base
rule_bytes r = has_its_bytes (HasRuleByte r) r.tree r.base (λ p b l u.
    ((λ x. elim x [ inl y ↦ y | inr y ↦ let e = y.1 in absurd (omega arith) ]), (λ x. inl x)))

-- a list has a last element, or is empty
pub snoc_cases : (xs : List ℕ) → (xs ≡ []) ⊎ ((ys : List ℕ) × (y : ℕ) × (xs ≡ ys ++ y ∷ []))
snoc_cases [] = inl refl
snoc_cases (x ∷ xs) = elim (snoc_cases xs) [
  | inl e ↦ inr ([], x, ap (λ l. x ∷ l) e)
  | inr t ↦ inr (x ∷ t.0, t.1, ap (λ l. x ∷ l) t.2)
]

pub snoc_equal : (xs ys : List ℕ) (x y : ℕ) → xs ++ x ∷ [] ≡ ys ++ y ∷ [] → (xs ≡ ys) × (x ≡ y)
snoc_equal [] [] x y e = (refl, (cc))
snoc_equal [] (z ∷ []) x y e = absurd (cc)
snoc_equal [] (z ∷ w ∷ zs) x y e = absurd (cc)
snoc_equal (z ∷ []) [] x y e = absurd (cc)
snoc_equal (z ∷ w ∷ zs) [] x y e = absurd (cc)
snoc_equal (z ∷ zs) (w ∷ ws) x y e =
    let inner : zs ++ x ∷ [] ≡ ws ++ y ∷ [] = cc in
    let t = snoc_equal zs ws x y inner in
    let head : z ≡ w = cc in
    (let f = t.0 in (cc), t.1)

pub snoc_not_nil : (xs : List ℕ) (x : ℕ) → [] ≡ xs ++ x ∷ [] → ⊥
snoc_not_nil [] x e = absurd (cc)
snoc_not_nil (y ∷ xs) x e = absurd (cc)

-- the last position of a chain is last in a word
last_of_chain : (e : Unfolded) (k p q : ℕ) (ps us : List ℕ) → p ∷ ps ≡ us ++ q ∷ [] → Completes e k p ps → Last e k q
last_of_chain e k p q [] [] h c = let same : p ≡ q = cc in subst (λ x. Last e k x) same (completes_last e k p [] refl c)
last_of_chain e k p q [] (x ∷ us) h c = let rest : [] ≡ us ++ q ∷ [] = cc in absurd (snoc_not_nil us q rest)
last_of_chain e k p q (r ∷ ps) [] h c = absurd (cc)
last_of_chain e k p q (r ∷ ps) (x ∷ us) h c =
    let t = completes_cons e k p r ps (r ∷ ps) refl c in
    let rest : r ∷ ps ≡ us ++ q ∷ [] = cc in
    last_of_chain e k r q ps us rest t.1

first_of_snoc : (us : List ℕ) (q : ℕ) → (p : ℕ) × (ps : List ℕ) × (us ++ q ∷ [] ≡ p ∷ ps)
first_of_snoc [] q = (q, [], refl)
first_of_snoc (x ∷ us) q = (x, us ++ q ∷ [], refl)

pub last_of_word : (e : Unfolded) (k q : ℕ) (us ps : List ℕ) → ps ≡ us ++ q ∷ [] → PositionWord e k ps → Last e k q
last_of_word e k q us ps h word =
    let t = first_of_snoc us q in
    let c = word_cons e k t.0 t.1 ps (h ∙ t.2) word in
    last_of_chain e k t.0 q t.1 us (sym t.2) c.1

-- a chain that ends in a last position is a whole word
chain_to_last : (Has : ℕ → ℕ → Type 0) (e : Unfolded) (k p q : ℕ) (w : List ℕ) → LeadsTo Has e k p w q → Last e k q →
    (ps : List ℕ) × Completes e k p ps × Spells Has ps w
chain_to_last Has e k p q [] l last = let same : q ≡ p = l in ([], last_completes e k p (subst (λ x. Last e k x) same last), tt)
chain_to_last Has e k p q (b ∷ w) l last =
    let t = chain_to_last Has e k l.0 q w l.3 last in
    (l.0 ∷ t.0, cons_completes e k p l.0 t.0 l.1 t.1, (l.2, t.2))

pub word_to_last : (Has : ℕ → ℕ → Type 0) (e : Unfolded) (k q : ℕ) (w : List ℕ) → IsReached Has e k w q → Last e k q →
    (ps : List ℕ) × PositionWord e k ps × Spells Has ps w
word_to_last Has e k q [] h last = absurd h
word_to_last Has e k q (b ∷ w) h last =
    let t = chain_to_last Has e k h.0 q w h.3 last in
    (h.0 ∷ t.0, cons_word e k h.0 t.0 h.1 t.1, (h.2, t.2))

pub reached_not_nil : (Has : ℕ → ℕ → Type 0) (e : Unfolded) (k q : ℕ) (w : List ℕ) → IsReached Has e k w q → w ≢ []
reached_not_nil Has e k q [] h = absurd h
reached_not_nil Has e k q (b ∷ w) h = λ e. absurd (cc)

-- a non-empty word of bytes is spelled by positions: its last position is reached, and can be last
pub reached_at_end : (Has : ℕ → ℕ → Type 0) (e : Unfolded) (k : ℕ) (w : List ℕ) → HasItsBytes Has e k → ByteWord e k w → w ≢ [] →
    (q : ℕ) × IsReached Has e k w q × Last e k q
reached_at_end Has e k w bytes word ne =
    let s = spelled Has e k w bytes word in
    elim (snoc_cases s.0) [
      | inl none ↦ absurd (ne (spells_nil Has w (subst (λ l. Spells Has l w) none s.2)))
      | inr t ↦ (
        t.1,
        reached_from_prefix Has e k w t.1 (record {
          before = t.0;
          behind = [];
          word = subst (λ l. PositionWord e k l) (t.2 ∙ sym (append-nil (t.0 ++ t.1 ∷ []))) s.1;
          spelled = subst (λ l. Spells Has l w) t.2 s.2;
        }),
        last_of_word e k t.1 t.0 s.0 t.2 s.1,
      )
    ]

pub bytes_at_end : (Has : ℕ → ℕ → Type 0) (e : Unfolded) (k q : ℕ) (w : List ℕ) → HasItsBytes Has e k → IsReached Has e k w q → Last e k q → ByteWord e k w
bytes_at_end Has e k q w bytes h last = let t = word_to_last Has e k q w h last in matched Has e k t.0 w bytes t.1 t.2

-- one byte more
pub reached_push : (Has : ℕ → ℕ → Type 0) (e : Unfolded) (k q b : ℕ) (w : List ℕ) → w ≢ [] → IsReached Has e k (w ++ b ∷ []) q →
    (p : ℕ) × IsReached Has e k w p × Follow e k p q × Has q b
reached_push Has e k q b [] ne h = absurd (ne refl)
reached_push Has e k q b (c ∷ w) ne h =
    let t = leads_push Has e k w b h.0 q h.3 in
    (t.0, (h.0, h.1, h.2, t.1), t.2, t.3)

pub push_reached : (Has : ℕ → ℕ → Type 0) (e : Unfolded) (k p q b : ℕ) (w : List ℕ) → IsReached Has e k w p → Follow e k p q → Has q b → IsReached Has e k (w ++ b ∷ []) q
push_reached Has e k p q b [] h f has = absurd h
push_reached Has e k p q b (c ∷ w) h f has = (h.0, h.1, h.2, push_leads Has e k w b h.0 q p h.3 f has)

in_leads : (Has : ℕ → ℕ → Type 0) (e : Unfolded) (k p q : ℕ) (w : List ℕ) → k ≤ p → p < k + position_count e → LeadsTo Has e k p w q → (k ≤ q) × (q < k + position_count e)
in_leads Has e k p q [] l u h = let same : q ≡ p = h in (omega arith, omega arith)
in_leads Has e k p q (b ∷ w) l u h = let f = in_follow e k p h.0 h.1 in in_leads Has e k h.0 q w f.2 f.3 h.3

pub in_reached : (Has : ℕ → ℕ → Type 0) (e : Unfolded) (k q : ℕ) (w : List ℕ) → IsReached Has e k w q → (k ≤ q) × (q < k + position_count e)
in_reached Has e k q [] h = absurd h
in_reached Has e k q (b ∷ w) h = let f = in_first e k h.0 h.1 in in_leads Has e k h.0 q w f.0 f.1 h.3

module _ (r : NumberedRule) where
  -- the rule's reached positions, byte by byte
  pub first_reached : (b q : ℕ) → IsReachedInRule r (b ∷ []) q ↔ (First r.tree r.base q × HasRuleByte r q b)
  first_reached b q = (
    (λ h. elim h [
      | inl x ↦ let same : q ≡ x.0 = x.3 in (subst (λ p. First r.tree r.base p) (sym same) x.1, subst (λ p. HasRuleByte r p b) (sym same) x.2)
      | inr x ↦ let v = x.2.0 in absurd (single v x.2.1 x.2.2 x.2.3)
    ]),
    (λ h. inl (q, h.0, h.1, refl)),
  )
    where
      single : (v : List ℕ) (p : ℕ) → b ∷ [] ≡ v ++ 10 ∷ [] → IsReached (HasRuleByte r) r.tree r.base v p → ⊥
      single [] p e h = h
      single (c ∷ []) p e h = absurd (cc)
      single (c ∷ d ∷ v) p e h = absurd (cc)

  pub none_reached : (q : ℕ) → IsReachedInRule r [] q → ⊥
  none_reached q h = elim h [ inl x ↦ x | inr x ↦ snoc_not_nil x.2.0 10 x.2.2 ]

  pub next_reached : (w : List ℕ) (b q : ℕ) → w ≢ [] →
      IsReachedInRule r (w ++ b ∷ []) q ↔ ((p : ℕ) × IsReachedInRule r w p × RuleFollow r p q × HasRuleByte r q b)
  next_reached w b q ne = (
    (λ h. elim h [
      | inl x ↦ let t = reached_push (HasRuleByte r) r.tree r.base q b w ne x in (t.0, inl t.1, inl t.2, t.3)
      | inr x ↦ let t = snoc_equal w x.2.0 b 10 x.2.2 in
          (x.2.1, inl (subst (λ v. IsReached (HasRuleByte r) r.tree r.base v x.2.1) (sym t.0) x.2.3), inr (x.0, x.2.4, x.1), inr (x.0, x.1, t.1))
    ]),
    (λ h. elim h.1 [
      | inl x ↦ elim h.2 [
        | inl f ↦ inl (push_reached (HasRuleByte r) r.tree r.base h.0 q b w x f h.3)
        | inr f ↦ elim h.3 [
          | inl has ↦ let s = in_bytes r.tree r.base q b has in let e = f.2 in absurd (omega arith)
          | inr has ↦ inr (f.0, f.2, (w, h.0, ap (λ c. w ++ c ∷ []) has.2, x, f.1))
        ]
      ]
      | inr x ↦ elim h.2 [
        | inl f ↦ let s = in_follow r.tree r.base h.0 q f in let e = x.1 in absurd (omega arith)
        | inr f ↦ let s = in_last r.tree r.base h.0 f.1 in let e = x.1 in absurd (omega arith)
      ]
    ]),
  )

  -- if a reached position is final, the rule matches the word
  matches_final_with : (line_end : Bool) → r.rule.reading.line_end ≡ line_end → (w : List ℕ) →
      WholeWithEnd line_end r w ↔ ((q : ℕ) × IsReachedInRule r w q × FinalWithEnd line_end r q)
  matches_final_with false is w = (
    (λ h. let t = reached_at_end (HasRuleByte r) r.tree r.base w (rule_bytes r) h.0 h.1 in (t.0, inl t.1, t.2)),
    (λ h. elim h.1 [
      | inl x ↦ (bytes_at_end (HasRuleByte r) r.tree r.base h.0 w (rule_bytes r) x h.2, reached_not_nil (HasRuleByte r) r.tree r.base h.0 w x)
      | inr x ↦ let no : false ≡ true = sym is ∙ x.0 in absurd (cc)
    ]),
  )
  matches_final_with true is w = (
    (λ h. let t = reached_at_end (HasRuleByte r) r.tree r.base h.0 (rule_bytes r) h.1 h.2 in
        (newline_of r, inr (is, refl, (h.0, t.0, h.3, t.1, t.2)), refl)),
    (λ h. elim h.1 [
      | inl x ↦ let s = in_reached (HasRuleByte r) r.tree r.base h.0 w x in let e : h.0 ≡ newline_of r = h.2 in absurd (omega arith)
      | inr x ↦ (
        x.2.0,
        bytes_at_end (HasRuleByte r) r.tree r.base x.2.1 x.2.0 (rule_bytes r) x.2.3 x.2.4,
        reached_not_nil (HasRuleByte r) r.tree r.base x.2.1 x.2.0 x.2.3,
        x.2.2,
      )
    ]),
  )

  pub matches_final : (w : List ℕ) → MatchesWhole r w ↔ ((q : ℕ) × IsReachedInRule r w q × IsFinal r q)
  matches_final w = matches_final_with r.rule.reading.line_end refl w

  -- a position that ends a prefix of a word of positions is reached
  prefix_reached_with : (line_end : Bool) → r.rule.reading.line_end ≡ line_end → (w : List ℕ) (q : ℕ) (before behind : List ℕ) →
      WordWithEnd line_end r ((before ++ q ∷ []) ++ behind) → Spells (HasRuleByte r) (before ++ q ∷ []) w → IsReachedInRule r w q
  prefix_reached_with false is w q before behind word spelled =
      inl (reached_from_prefix (HasRuleByte r) r.tree r.base w q (record { before = before; behind = behind; word = word; spelled = spelled }))
  prefix_reached_with true is w q before behind word spelled = elim (snoc_cases behind) [
    | inl none ↦
        let all : before ++ q ∷ [] ≡ word.0 ++ newline_of r ∷ [] = sym (append-nil (before ++ q ∷ [])) ∙ ap (λ l. (before ++ q ∷ []) ++ l) (sym none) ∙ word.3 in
        let t = snoc_equal before word.0 q (newline_of r) all in
        let us : PositionWord r.tree r.base before = subst (λ l. PositionWord r.tree r.base l) (sym t.0) word.1 in
        let ne : before ≢ [] = λ e. word.2 (sym t.0 ∙ e) in
        at_newline before us ne spelled t.1
    | inr t ↦
        let all : ((before ++ q ∷ []) ++ t.0) ++ t.1 ∷ [] ≡ word.0 ++ newline_of r ∷ [] =
        append_assoc (before ++ q ∷ []) t.0 (t.1 ∷ []) ∙ ap (λ l. (before ++ q ∷ []) ++ l) (sym t.2) ∙ word.3 in
        let s = snoc_equal ((before ++ q ∷ []) ++ t.0) word.0 t.1 (newline_of r) all in
        inl (reached_from_prefix (HasRuleByte r) r.tree r.base w q (record {
          before = before;
          behind = t.0;
          word = subst (λ l. PositionWord r.tree r.base l) (sym s.0) word.1;
          spelled = spelled;
        }))
  ]
    where
      newline_has : (b : ℕ) → q ≡ newline_of r → HasRuleByte r q b → b ≡ 10
      newline_has b e h = elim h [
        | inl x ↦ let s = in_bytes r.tree r.base q b x in absurd (omega arith)
        | inr x ↦ x.2
      ]

      newline_word : (v : List ℕ) → q ≡ newline_of r → Spells (HasRuleByte r) (q ∷ []) v → v ≡ 10 ∷ []
      newline_word [] e s = absurd s
      newline_word (b ∷ []) e s = let f = newline_has b e s.0 in cc
      newline_word (b ∷ c ∷ v) e s = absurd s.1

      at_newline : (us : List ℕ) → PositionWord r.tree r.base us → us ≢ [] → Spells (HasRuleByte r) (us ++ q ∷ []) w → q ≡ newline_of r → IsReachedInRule r w q
      at_newline us word ne spelled e =
          let parts = spells_split (HasRuleByte r) us (q ∷ []) w spelled in
          let last = newline_word parts.1 e parts.4 in
          elim (snoc_cases us) [
            | inl none ↦ absurd (ne none)
            | inr t ↦
                let reached = reached_from_prefix (HasRuleByte r) r.tree r.base parts.0 t.1 (record {
                  before = t.0;
                  behind = [];
                  word = subst (λ l. PositionWord r.tree r.base l) (t.2 ∙ sym (append-nil (t.0 ++ t.1 ∷ []))) word;
                  spelled = subst (λ l. Spells (HasRuleByte r) l parts.0) t.2 parts.3;
                }) in
                inr (is, e, (parts.0, t.1, parts.2 ∙ ap (λ l. parts.0 ++ l) last, reached, last_of_word r.tree r.base t.1 t.0 us t.2 word))
          ]

  -- a reached position ends a prefix of a word of positions
  reached_prefix_with : (line_end : Bool) → r.rule.reading.line_end ≡ line_end → (w : List ℕ) (q : ℕ) → IsReachedInRule r w q →
      (before : List ℕ) × (behind : List ℕ) × WordWithEnd line_end r ((before ++ q ∷ []) ++ behind) × Spells (HasRuleByte r) (before ++ q ∷ []) w
  reached_prefix_with false is w q h = elim h [
    | inl x ↦ let t = prefix_from_reached (HasRuleByte r) r.tree r.base w q x in (t.before, t.behind, t.word, t.spelled)
    | inr x ↦ let no : false ≡ true = sym is ∙ x.0 in absurd (cc)
  ]
  reached_prefix_with true is w q h = elim h [
    | inl x ↦ let t = prefix_from_reached (HasRuleByte r) r.tree r.base w q x in (
      t.before,
      t.behind ++ newline_of r ∷ [],
      (
        (t.before ++ q ∷ []) ++ t.behind,
        t.word,
        not_nil t.before q t.behind,
        sym (append_assoc (t.before ++ q ∷ []) t.behind (newline_of r ∷ [])),
      ),
      t.spelled,
    )
    | inr x ↦
        let t = word_to_last (HasRuleByte r) r.tree r.base x.2.1 x.2.0 x.2.3 x.2.4 in (
          t.0,
          [],
          (
            t.0,
            t.1,
            spelled_not_nil t.0 x.2.0 (reached_not_nil (HasRuleByte r) r.tree r.base x.2.1 x.2.0 x.2.3) t.2,
            append-nil (t.0 ++ q ∷ []) ∙ ap (λ p. t.0 ++ p ∷ []) x.1,
          ),
          subst (λ v. Spells (HasRuleByte r) (t.0 ++ q ∷ []) v) (sym x.2.2)
              (spells_append (HasRuleByte r) t.0 x.2.0 (q ∷ []) (10 ∷ []) t.2 (inr (x.0, x.1, refl), tt)),
        )
  ]
    where
      not_nil : (xs : List ℕ) (y : ℕ) (zs : List ℕ) → (xs ++ y ∷ []) ++ zs ≢ []
      not_nil [] y zs = λ e. absurd (cc)
      not_nil (x ∷ xs) y zs = λ e. absurd (cc)

      spelled_not_nil : (ps v : List ℕ) → v ≢ [] → Spells (HasRuleByte r) ps v → ps ≢ []
      spelled_not_nil [] v ne s = absurd (ne (spells_nil (HasRuleByte r) v s))
      spelled_not_nil (p ∷ ps) v ne s = λ e. absurd (cc)

  pub prefix_reached : (w : List ℕ) (q : ℕ) → EndsRulePrefix r w q → IsReachedInRule r w q
  prefix_reached w q h = prefix_reached_with r.rule.reading.line_end refl w q h.before h.behind h.word h.spelled

  pub reached_prefix : (w : List ℕ) (q : ℕ) → IsReachedInRule r w q → EndsRulePrefix r w q
  reached_prefix w q h =
      let t = reached_prefix_with r.rule.reading.line_end refl w q h in
      record { before = t.0; behind = t.1; word = t.2; spelled = t.3 }
