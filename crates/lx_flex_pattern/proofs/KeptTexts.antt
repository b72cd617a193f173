-- A tree has the texts of the one that it keeps.
use Rattle.std.proofs.Common.{ℕ, zero, suc, ◌≡◌, ◌+◌, ◌-◌, ◌*◌, ◌/◌, ◌<◌, ◌≤◌, inl, inr, ◌⊎◌, arith, Bool, List, [], ◌∷◌, ◌++◌, Option, Some, None, IfSome, refl, sym, ap, subst, ◌∙◌, append_assoc}
use Rattle.lx_ere.specs.Regex.{Regex}
use Rattle.lx_ere.specs.Matching.{Splits, Repeats, RepeatsBetween, Matches}
use Rattle.lx_flex_pattern.specs.Intervals.{IsKeptAs, keeps_nil, keeps_set, keeps_name, keeps_then, keeps_or, keeps_times, as_blocks, as_blocks_before, as_some_blocks_before, as_blocks_at_least, block}
use Rattle.lx_flex_pattern.specs.Translation.{passes, HaveSameTexts}
use Rattle.lx_flex_pattern.proofs.SameTexts.{splits_as, between_as}

abbrev Texts : Type 1
Texts = List ℕ → Type 0

nil_right : (w : List ℕ) → w ++ [] ≡ w
nil_right [] = refl
nil_right (b ∷ w) = ap (λ x. b ∷ x) (nil_right w)

-- the first i repetitions, and the j after them
parted : (L : Texts) (i j : ℕ) (w : List ℕ) → Repeats L (i + j) w → Splits (Repeats L i) (Repeats L j) w
parted L zero j w h = ([], w, refl, subst (λ (n : ℕ). Repeats L n w) (let e : 0 + j ≡ j = omega arith in e) h, refl)
parted L (suc i) j w h =
    let (u, v, hu, hv, is) = subst (λ (n : ℕ). Repeats L n w) (let e : suc i + j ≡ suc (i + j) = omega arith in e) h in
    let (x, y, hx, hy, also) = parted L i j v hv in
    (u ++ x, y, (u, x, hu, hx, refl), hy, is ∙ (ap (λ z. u ++ z) also ∙ sym (append_assoc u x y)))

joined : (L : Texts) (i j : ℕ) (u v : List ℕ) → Repeats L i u → Repeats L j v → Repeats L (i + j) (u ++ v)
joined L zero j u v hu hv = subst (λ (n : ℕ). Repeats L n (u ++ v)) (let e : j ≡ 0 + j = omega arith in e) (rw hu hv)
joined L (suc i) j u v hu hv =
    let (x, y, hx, hy, is) = hu in
    subst (λ (n : ℕ). Repeats L n (u ++ v)) (let e : suc (i + j) ≡ suc i + j = omega arith in e) (x, y ++ v, hx, joined L i j y v hy hv, ap (λ z. z ++ v) is ∙ append_assoc x y v)

module _ (L M : Texts) (into : (w : List ℕ) → Repeats L 64 w → M w) (back : (w : List ℕ) → M w → Repeats L 64 w) where
  -- t blocks of 64 repetitions, and the j after them
  in_blocks : (t j : ℕ) (w : List ℕ) → Repeats L (t * 64 + j) w → Splits (Repeats M t) (Repeats L j) w
  in_blocks zero j w h = ([], w, refl, subst (λ (n : ℕ). Repeats L n w) (let e : 0 * 64 + j ≡ j = omega arith in e) h, refl)
  in_blocks (suc t) j w h =
      let (u, v, hu, hv, is) = parted L 64 (t * 64 + j) w (subst (λ (n : ℕ). Repeats L n w) (let e : suc t * 64 + j ≡ 64 + (t * 64 + j) = omega arith in e) h) in
      let (x, y, hx, hy, also) = in_blocks t j v hv in
      (u ++ x, y, (u, x, into u hu, hx, refl), hy, is ∙ (ap (λ z. u ++ z) also ∙ sym (append_assoc u x y)))

  of_blocks : (t j : ℕ) (u v : List ℕ) → Repeats M t u → Repeats L j v → Repeats L (t * 64 + j) (u ++ v)
  of_blocks zero j u v hu hv = subst (λ (n : ℕ). Repeats L n (u ++ v)) (let e : j ≡ 0 * 64 + j = omega arith in e) (rw hu hv)
  of_blocks (suc t) j u v hu hv =
      let (x, y, hx, hy, is) = hu in
      let whole : Repeats L (64 + (t * 64 + j)) (x ++ (y ++ v)) = joined L 64 (t * 64 + j) x (y ++ v) (back x hx) (of_blocks t j y v hy hv) in
      subst (λ z. Repeats L (suc t * 64 + j) z) (sym (ap (λ z. z ++ v) is ∙ append_assoc x y v))
      (subst (λ (n : ℕ). Repeats L n (x ++ (y ++ v))) (let e : 64 + (t * 64 + j) ≡ suc t * 64 + j = omega arith in e) whole)

  blocks_alone : (p : ℕ) (w : List ℕ) → Repeats L (p * 64) w → Repeats M p w
  blocks_alone p w h =
      let (u, v, hu, hv, is) = in_blocks p 0 w (subst (λ (n : ℕ). Repeats L n w) (let e : p * 64 ≡ p * 64 + 0 = omega arith in e) h) in
      subst (Repeats M p) (sym (is ∙ (ap (λ z. u ++ z) hv ∙ nil_right u))) hu

  alone_blocks : (p : ℕ) (w : List ℕ) → Repeats M p w → Repeats L (p * 64) w
  alone_blocks p w h = subst (Repeats L (p * 64)) (nil_right w) (subst (λ (n : ℕ). Repeats L n (w ++ [])) (let e : p * 64 + 0 ≡ p * 64 = omega arith in e) (of_blocks p 0 w [] h refl))

  -- k repetitions as t blocks and j repetitions, each within bounds
  split : (k t j p c : ℕ) (most rest : Option ℕ) (w : List ℕ) → k ≡ t * 64 + j → p ≤ t → IfSome most (λ x. t ≤ x) → c ≤ j → IfSome rest (λ x. j ≤ x) → Repeats L k w →
      Splits (RepeatsBetween M p most) (RepeatsBetween L c rest) w
  split k t j p c most rest w e low high rest_low rest_high h =
      let (u, v, hu, hv, is) = in_blocks t j w (subst (λ (n : ℕ). Repeats L n w) e h) in
      (u, v, (t, low, high, hu), (j, rest_low, rest_high, hv), is)

  into_before : (n m p c e : ℕ) (w : List ℕ) → n ≡ p * 64 + c → m ≡ p * 64 + e → RepeatsBetween L n (Some m) w → Splits (RepeatsBetween M p (Some p)) (RepeatsBetween L c (Some e)) w
  into_before n m p c e w f g (k, low, high, h) =
      split k p (k - p * 64) p c (Some p) (Some e) w (omega (arith, f, low)) (omega arith) (omega arith) (omega (arith, f, low)) (omega (arith, g, high)) h

  into_some : (n m p q c e : ℕ) (w : List ℕ) → n ≡ p * 64 + c → m ≡ q * 64 + e → p ≤ q → c + 63 ≤ e → RepeatsBetween L n (Some m) w →
      Splits (RepeatsBetween M p (Some q)) (RepeatsBetween L c (Some e)) w
  into_some n m p q c e w f g o s (k, low, high, h) = elim (above k (q * 64 + c)) as (λ _. Splits (RepeatsBetween M p (Some q)) (RepeatsBetween L c (Some e)) w) [
    | inl all ↦ split k q (k - q * 64) p c (Some q) (Some e) w (omega (arith, all)) o (omega arith) (omega (arith, all)) (omega (arith, g, high)) h
    | inr few ↦
        split k ((k - c) / 64) (k - (k - c) / 64 * 64) p c (Some q) (Some e) w (omega (arith, f, low, few)) (omega (arith, f, low, few)) (omega (arith, f, low, few)) (omega (arith, f, low, few)) (omega (arith, f, low, few, s)) h
  ]
    where
      above : (a b : ℕ) → (b ≤ a) ⊎ (a < b)
      above zero zero = inl (omega arith)
      above zero (suc b) = inr (omega arith)
      above (suc a) zero = inl (omega arith)
      above (suc a) (suc b) = elim (above a b) as (λ _. (suc b ≤ suc a) ⊎ (suc a < suc b)) [
        | inl h ↦ inl (omega (arith, h))
        | inr h ↦ inr (omega (arith, h))
      ]

  into_at_least : (n p c : ℕ) (w : List ℕ) → n ≡ p * 64 + c → RepeatsBetween L n None w → Splits (RepeatsBetween M p (Some p)) (RepeatsBetween L c None) w
  into_at_least n p c w f (k, low, high, h) = split k p (k - p * 64) p c (Some p) None w (omega (arith, f, low)) (omega arith) (omega arith) (omega (arith, f, low)) high h

  back_some : (n m p q c e : ℕ) (w : List ℕ) → n ≡ p * 64 + c → m ≡ q * 64 + e → Splits (RepeatsBetween M p (Some q)) (RepeatsBetween L c (Some e)) w → RepeatsBetween L n (Some m) w
  back_some n m p q c e w f g (u, v, (t, low, high, hu), (j, rest_low, rest_high, hv), is) =
      (t * 64 + j, omega (arith, f, low, rest_low), omega (arith, g, high, rest_high), subst (Repeats L (t * 64 + j)) (sym is) (of_blocks t j u v hu hv))

  back_at_least : (n p c : ℕ) (w : List ℕ) → n ≡ p * 64 + c → Splits (RepeatsBetween M p (Some p)) (RepeatsBetween L c None) w → RepeatsBetween L n None w
  back_at_least n p c w f (u, v, (t, low, high, hu), (j, rest_low, rest_high, hv), is) =
      (t * 64 + j, omega (arith, f, low, rest_low), rest_high, subst (Repeats L (t * 64 + j)) (sym is) (of_blocks t j u v hu hv))

  into_blocks : (n p : ℕ) (w : List ℕ) → n ≡ p * 64 → RepeatsBetween L n (Some n) w → RepeatsBetween M p (Some p) w
  into_blocks n p w f (k, low, high, h) =
      (p, omega arith, omega arith, blocks_alone p w (subst (λ (x : ℕ). Repeats L x w) (let e : k ≡ p * 64 = omega (arith, f, low, high) in e) h))

  back_blocks : (n p : ℕ) (w : List ℕ) → n ≡ p * 64 → RepeatsBetween M p (Some p) w → RepeatsBetween L n (Some n) w
  back_blocks n p w f (t, low, high, h) =
      (n, omega arith, omega arith, subst (λ (x : ℕ). Repeats L x w) (let e : t * 64 ≡ n = omega (arith, f, low, high) in e) (alone_blocks t w h))

sixty_four : (L : Texts) (w : List ℕ) → Repeats L 64 w → RepeatsBetween L 64 (Some 64) w
sixty_four L w h = (64, omega arith, omega arith, h)

just_64 : (L : Texts) (w : List ℕ) → RepeatsBetween L 64 (Some 64) w → Repeats L 64 w
just_64 L w (k, low, high, h) = subst (λ (x : ℕ). Repeats L x w) (let e : k ≡ 64 = omega (arith, low, high) in e) h

lost : (t r : Regex) → IsKeptAs t r → (ns : List ℕ → List ℕ → Bool) (w : List ℕ) → Matches (passes ns) t w → Matches (passes ns) r w
lost _ _ keeps_nil ns w h = h
lost _ _ (keeps_set s) ns w h = h
lost _ _ (keeps_name name) ns w h = h
lost _ _ (keeps_then a b r s m n) ns w h = splits_as (Matches (passes ns) a) (Matches (passes ns) r) (Matches (passes ns) b) (Matches (passes ns) s) (λ u. lost a r m ns u) (λ u. lost b s n ns u) w h
lost _ _ (keeps_or a b r s m n) ns w (inl h) = inl (lost a r m ns w h)
lost _ _ (keeps_or a b r s m n) ns w (inr h) = inr (lost b s n ns w h)
lost _ _ (keeps_times a r low high m) ns w h = between_as (Matches (passes ns) a) (Matches (passes ns) r) (λ u. lost a r m ns u) low high w h
lost _ _ (as_blocks a r n p m large f) ns w h =
    into_blocks (Matches (passes ns) r) (Matches (passes ns) (block r)) (sixty_four (Matches (passes ns) r)) (just_64 (Matches (passes ns) r)) n p w f
    (between_as (Matches (passes ns) a) (Matches (passes ns) r) (λ u. lost a r m ns u) n (Some n) w h)
lost _ _ (as_blocks_before a r n x p c e m large f g) ns w h =
    into_before (Matches (passes ns) r) (Matches (passes ns) (block r)) (sixty_four (Matches (passes ns) r)) (just_64 (Matches (passes ns) r)) n x p c e w f g
    (between_as (Matches (passes ns) a) (Matches (passes ns) r) (λ u. lost a r m ns u) n (Some x) w h)
lost _ _ (as_some_blocks_before a r n x p q c e m large f g o s) ns w h =
    into_some (Matches (passes ns) r) (Matches (passes ns) (block r)) (sixty_four (Matches (passes ns) r)) (just_64 (Matches (passes ns) r)) n x p q c e w f g o s
    (between_as (Matches (passes ns) a) (Matches (passes ns) r) (λ u. lost a r m ns u) n (Some x) w h)
lost _ _ (as_blocks_at_least a r n p c m large f) ns w h =
    into_at_least (Matches (passes ns) r) (Matches (passes ns) (block r)) (sixty_four (Matches (passes ns) r)) (just_64 (Matches (passes ns) r)) n p c w f
    (between_as (Matches (passes ns) a) (Matches (passes ns) r) (λ u. lost a r m ns u) n None w h)

added : (t r : Regex) → IsKeptAs t r → (ns : List ℕ → List ℕ → Bool) (w : List ℕ) → Matches (passes ns) r w → Matches (passes ns) t w
added _ _ keeps_nil ns w h = h
added _ _ (keeps_set s) ns w h = h
added _ _ (keeps_name name) ns w h = h
added _ _ (keeps_then a b r s m n) ns w h = splits_as (Matches (passes ns) r) (Matches (passes ns) a) (Matches (passes ns) s) (Matches (passes ns) b) (λ u. added a r m ns u) (λ u. added b s n ns u) w h
added _ _ (keeps_or a b r s m n) ns w (inl h) = inl (added a r m ns w h)
added _ _ (keeps_or a b r s m n) ns w (inr h) = inr (added b s n ns w h)
added _ _ (keeps_times a r low high m) ns w h = between_as (Matches (passes ns) r) (Matches (passes ns) a) (λ u. added a r m ns u) low high w h
added _ _ (as_blocks a r n p m large f) ns w h =
    between_as (Matches (passes ns) r) (Matches (passes ns) a) (λ u. added a r m ns u) n (Some n) w
    (back_blocks (Matches (passes ns) r) (Matches (passes ns) (block r)) (sixty_four (Matches (passes ns) r)) (just_64 (Matches (passes ns) r)) n p w f h)
added _ _ (as_blocks_before a r n x p c e m large f g) ns w h =
    between_as (Matches (passes ns) r) (Matches (passes ns) a) (λ u. added a r m ns u) n (Some x) w
    (back_some (Matches (passes ns) r) (Matches (passes ns) (block r)) (sixty_four (Matches (passes ns) r)) (just_64 (Matches (passes ns) r)) n x p p c e w f g h)
added _ _ (as_some_blocks_before a r n x p q c e m large f g o s) ns w h =
    between_as (Matches (passes ns) r) (Matches (passes ns) a) (λ u. added a r m ns u) n (Some x) w
    (back_some (Matches (passes ns) r) (Matches (passes ns) (block r)) (sixty_four (Matches (passes ns) r)) (just_64 (Matches (passes ns) r)) n x p q c e w f g h)
added _ _ (as_blocks_at_least a r n p c m large f) ns w h =
    between_as (Matches (passes ns) r) (Matches (passes ns) a) (λ u. added a r m ns u) n None w
    (back_at_least (Matches (passes ns) r) (Matches (passes ns) (block r)) (sixty_four (Matches (passes ns) r)) (just_64 (Matches (passes ns) r)) n p c w f h)

pub kept_texts : (t r : Regex) → IsKeptAs t r → HaveSameTexts t r
kept_texts t r m = record { none_lost = lost t r m; none_added = added t r m }
