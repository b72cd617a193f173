-- Places that words of a language lead to: one language after another, repeats, and the closure of a set.
use Rattle.std.proofs.Common.{◌≡◌, ℕ, zero, suc, ◌+◌, ◌-◌, ◌<◌, ◌≤◌, ◌⊎◌, inl, inr, Bool, true, false, List, [], ◌∷◌, ◌++◌, Some, None, length, drop, take, refl, sym, ap, subst, ◌∙◌, arith, append_assoc, append-nil, length-append, drop-drop, add-zero, true≢false, not, ◌||◌, ◌&&◌, length-drop}
use Rattle.std.proofs.Math.Seq.{drop-append_seam}
use Rattle.std.proofs.lemmas.Bool.{cases_lt, or_cases, or_left, or_right, and_parts}
use Rattle.std.specs.Ordering.{nat_cmp}
use Rattle.std.specs.BTreeSet.{BTreeSet, contains}
use Rattle.std.specs.FinSet as set
use Rattle.std.specs.BTreeMap.{is_at}
use Rattle.std.specs.BTreeSet.{btree_set_len, IsOrdered}
use Rattle.std.proofs.Common.{slice_index, nat_lt, nat_eq, ltb-true, lt-ltb, ap₂, if◌then◌else◌, ◌*◌}
use Rattle.std.proofs.lemmas.Map.Keys.{any_passes_from_place}
use Rattle.std.proofs.lemmas.Map.Views.{length-le_from_below}
use Rattle.std.proofs.lemmas.Option.{slice_get-get_or}
use Rattle.std.proofs.Common.{get_or, eq-eqb, ne_eqb, eqb-true, take-append-drop, length-take-le}
use Rattle.lx_ere.specs.Regex.{one_of}
use Rattle.lx_ere.specs.Matching.{Splits, Repeats, RepeatsBetween, Matches}
use Rattle.lx_plain.specs.Places.{Between, IsReached, AreEnds, AreWithin, AnyNumber, AtMost, AreBehind, AreLengths, is_byte_at}
use Rattle.lx_plain.proofs.SetLemmas.{is_empty, at_number}

-- ---- words
--  a word of m + n repeats is one of m, followed by one of n
pub repeats_join : (L : List ℕ → Type 0) (m n : ℕ) (u v : List ℕ) → Repeats L m u → Repeats L n v → Repeats L (m + n) (u ++ v)
repeats_join L zero n u v e r = let h : 0 + n ≡ n = omega arith in let g : u ≡ [] = e in rw (h, g) r
repeats_join L (suc m) n u v s r =
    let h : suc m + n ≡ suc (m + n) = omega arith in
    rw h (s.0, s.1 ++ v, s.2, repeats_join L m n (s.1) v (s.3) r, rw (s.4) (append_assoc (s.0) (s.1) v))

pub repeats_split : (L : List ℕ → Type 0) (m n : ℕ) (w : List ℕ) → Repeats L (m + n) w → Splits (Repeats L m) (Repeats L n) w
repeats_split L zero n w r = let h : 0 + n ≡ n = omega arith in ([], w, refl, rw h at r, refl)
repeats_split L (suc m) n w r =
    let h : suc m + n ≡ suc (m + n) = omega arith in
    let s : Splits L (Repeats L (m + n)) w = rw h at r in
    let t : Splits (Repeats L m) (Repeats L n) (s.1) = repeats_split L m n (s.1) (s.3) in
    (s.0 ++ t.0, t.1, (s.0, t.0, s.2, t.2, refl), t.3, s.4 ∙ ap (λ (v : List ℕ). s.0 ++ v) (t.4) ∙ sym (append_assoc (s.0) (t.0) (t.1)))

pub repeats_one : (L : List ℕ → Type 0) (w : List ℕ) → L w → Repeats L 1 w
repeats_one L w m = (w, [], m, refl, sym (append-nil w))

pub repeats_one_from : (L : List ℕ → Type 0) (w : List ℕ) → Repeats L 1 w → L w
repeats_one_from L w s = let e : s.1 ≡ [] = s.3 in subst L (sym (s.4 ∙ ap (λ (v : List ℕ). s.0 ++ v) e ∙ append-nil (s.0))) (s.2)

-- one word more after k of them
pub repeats_more : (L : List ℕ → Type 0) (k : ℕ) (w : List ℕ) → Splits (Repeats L k) L w → Repeats L (k + 1) w
repeats_more L k w s = subst (Repeats L (k + 1)) (sym (s.4)) (repeats_join L k 1 (s.0) (s.1) (s.2) (repeats_one L (s.1) (s.3)))

pub repeats_fewer : (L : List ℕ → Type 0) (k : ℕ) (w : List ℕ) → Repeats L (k + 1) w → Splits (Repeats L k) L w
repeats_fewer L k w r = let s : Splits (Repeats L k) (Repeats L 1) w = repeats_split L k 1 w r in (s.0, s.1, s.2, repeats_one_from L (s.1) (s.3), s.4)

-- at most n + 1 words are at most n, or n + 1
pub at_most_more : (L : List ℕ → Type 0) (n : ℕ) (w : List ℕ) → AtMost L n w ⊎ Repeats L (n + 1) w → AtMost L (n + 1) w
at_most_more L n w h = elim h [ inl a ↦ (a.0, (let p : a.0 ≤ n = a.1 in omega arith), a.2) | inr r ↦ (n + 1, omega arith, r) ]

pub at_most_fewer : (L : List ℕ → Type 0) (n : ℕ) (w : List ℕ) → AtMost L (n + 1) w → AtMost L n w ⊎ Repeats L (n + 1) w
at_most_fewer L n w a = elim (cases_lt (a.0) (n + 1)) [
  | inl less ↦ inl (a.0, omega arith, a.2)
  | inr more ↦ let e : a.0 ≡ n + 1 = (let p : a.0 ≤ n + 1 = a.1 in omega arith) in inr (subst (λ (k : ℕ). Repeats L k w) e (a.2))
]

-- at least low words: low of them, and then any number of them
pub between_any : (L : List ℕ → Type 0) (low : ℕ) (w : List ℕ) → Splits (Repeats L low) (AnyNumber L) w → RepeatsBetween L low None w
between_any L low w s =
    let more : AnyNumber L (s.1) = s.3 in
    (low + more.0, omega arith, tt, subst (Repeats L (low + more.0)) (sym (s.4)) (repeats_join L low (more.0) (s.0) (s.1) (s.2) (more.1)))

pub any_between : (L : List ℕ → Type 0) (low : ℕ) (w : List ℕ) → RepeatsBetween L low None w → Splits (Repeats L low) (AnyNumber L) w
any_between L low w r =
    let le : low ≤ r.0 = r.1 in
    let e : r.0 ≡ low + (r.0 - low) = omega arith in
    let s : Splits (Repeats L low) (Repeats L (r.0 - low)) w = repeats_split L low (r.0 - low) w (subst (λ (k : ℕ). Repeats L k w) e (r.3)) in
    (s.0, s.1, s.2, (r.0 - low, s.3), s.4)

pub between_at_most : (L : List ℕ → Type 0) (low high : ℕ) (w : List ℕ) → low ≤ high → Splits (Repeats L low) (AtMost L (high - low)) w → RepeatsBetween L low (Some high) w
between_at_most L low high w le s =
    let more : AtMost L (high - low) (s.1) = s.3 in
    let fits : more.0 ≤ high - low = more.1 in
    (low + more.0, omega arith, omega arith, subst (Repeats L (low + more.0)) (sym (s.4)) (repeats_join L low (more.0) (s.0) (s.1) (s.2) (more.2)))

pub at_most_between : (L : List ℕ → Type 0) (low high : ℕ) (w : List ℕ) → RepeatsBetween L low (Some high) w → Splits (Repeats L low) (AtMost L (high - low)) w
at_most_between L low high w r =
    let le : low ≤ r.0 = r.1 in
    let ge : r.0 ≤ high = r.2 in
    let e : r.0 ≡ low + (r.0 - low) = omega arith in
    let s : Splits (Repeats L low) (Repeats L (r.0 - low)) w = repeats_split L low (r.0 - low) w (subst (λ (k : ℕ). Repeats L k w) e (r.3)) in
    (s.0, s.1, s.2, (r.0 - low, omega arith, s.3), s.4)

-- ---- between two places
pub between_join : (L M : List ℕ → Type 0) (text : List ℕ) (i k j : ℕ) → Between L text i k → Between M text k j → Between (Splits L M) text i j
between_join L M text i k j a b =
    let behind : drop k text ≡ a.rest = rw (a.end, ← drop-drop (length (a.word)) i text, a.there) (drop-append_seam (a.word) (a.rest)) in
    record {
      word = a.word ++ b.word;
      rest = b.rest;
      matches = (a.word, b.word, a.matches, b.matches, refl);
      there = a.there ∙ ap (λ (v : List ℕ). a.word ++ v) (sym behind ∙ b.there) ∙ sym (append_assoc (a.word) (b.word) (b.rest));
      end = let e = a.end in let f = b.end in rw (length-append (a.word) (b.word)) (omega arith);
    }

pub between_cut : (L M : List ℕ → Type 0) (text : List ℕ) (i j : ℕ) → Between (Splits L M) text i j → (k : ℕ) × Between L text i k × Between M text k j
between_cut L M text i j b =
    let s : Splits L M (b.word) = b.matches in
    let whole : drop i text ≡ s.0 ++ (s.1 ++ b.rest) = b.there ∙ ap (λ (w : List ℕ). w ++ b.rest) (s.4) ∙ append_assoc (s.0) (s.1) (b.rest) in
    let long : length (b.word) ≡ length (s.0) + length (s.1) = ap (λ (w : List ℕ). length w) (s.4) ∙ length-append (s.0) (s.1) in (
      i + length (s.0),
      record { word = s.0; rest = s.1 ++ b.rest; matches = s.2; there = whole; end = refl },
      record {
        word = s.1;
        rest = b.rest;
        matches = s.3;
        there = rw (← drop-drop (length (s.0)) i text, whole) (drop-append_seam (s.0) (s.1 ++ b.rest));
        end = let e = b.end in omega arith;
      },
    )

pub between_map : (L M : List ℕ → Type 0) (text : List ℕ) (i j : ℕ) → ((w : List ℕ) → L w → M w) → Between L text i j → Between M text i j
between_map L M text i j f b = record { word = b.word; rest = b.rest; matches = f (b.word) (b.matches); there = b.there; end = b.end }

-- a word doesn't lead out of the text
pub between_within : (L : List ℕ → Type 0) (text : List ℕ) (i j : ℕ) → i ≤ length text → Between L text i j → j ≤ length text
between_within L text i j h b =
    let e : length text - i ≡ length (b.word) + length (b.rest) = sym (length-drop i text) ∙ ap (λ (w : List ℕ). length w) (b.there) ∙ length-append (b.word) (b.rest) in
    let f = b.end in omega arith

-- ---- sets of places
pub ends_within : (L : List ℕ → Type 0) (text : List ℕ) (starts ends : BTreeSet ℕ) → AreWithin text starts → AreEnds L text starts ends → AreWithin text ends
ends_within L text starts ends within e j h = let r = e.sound j h in between_within L text (r.from) j (within (r.from) (r.start)) (r.between)

-- a union of two sets lies within if both do
pub all_within : (text : List ℕ) (left right both : BTreeSet ℕ) → AreWithin text left → AreWithin text right → ((j : ℕ) → contains nat_cmp both j ≡ (contains nat_cmp left j || contains nat_cmp right j)) → AreWithin text both
all_within text left right both a b is j h = elim (or_cases (contains nat_cmp left j) (contains nat_cmp right j) (sym (is j) ∙ h)) as (λ _. j ≤ length text) [ inl l ↦ a j l | inr r ↦ b j r ]

pub ends_map : (L M : List ℕ → Type 0) (text : List ℕ) (starts ends : BTreeSet ℕ) → ((w : List ℕ) → L w → M w) → ((w : List ℕ) → M w → L w) → AreEnds L text starts ends → AreEnds M text starts ends
ends_map L M text starts ends into from e = record {
  sound = λ j h. let r = e.sound j h in record { from = r.from; start = r.start; between = between_map L M text (r.from) j into (r.between) };
  whole = λ j r. e.whole j (record { from = r.from; start = r.start; between = between_map M L text (r.from) j from (r.between) });
}

-- one language after another
pub ends_then : (L M : List ℕ → Type 0) (text : List ℕ) (starts middles ends : BTreeSet ℕ) → AreEnds L text starts middles → AreEnds M text middles ends → AreEnds (Splits L M) text starts ends
ends_then L M text starts middles ends a b = record {
  sound = λ j h. let second = b.sound j h in let first = a.sound (second.from) (second.start) in
      record { from = first.from; start = first.start; between = between_join L M text (first.from) (second.from) j (first.between) (second.between) };
  whole = λ j r. let c = between_cut L M text (r.from) j (r.between) in
      b.whole j (record { from = c.0; start = a.whole (c.0) (record { from = r.from; start = r.start; between = c.1 }); between = c.2 });
}

-- either of two languages
pub ends_or : (L M : List ℕ → Type 0) (text : List ℕ) (starts left right both : BTreeSet ℕ) → AreEnds L text starts left → AreEnds M text starts right →
    ((j : ℕ) → contains nat_cmp both j ≡ (contains nat_cmp left j || contains nat_cmp right j)) → AreEnds (λ w. L w ⊎ M w) text starts both
ends_or L M text starts left right both a b is = record {
  sound = λ j h. elim (or_cases (contains nat_cmp left j) (contains nat_cmp right j) (sym (is j) ∙ h)) [
    | inl l ↦ let r = a.sound j l in record { from = r.from; start = r.start; between = between_map L (λ w. L w ⊎ M w) text (r.from) j (λ w m. inl m) (r.between) }
    | inr l ↦ let r = b.sound j l in record { from = r.from; start = r.start; between = between_map M (λ w. L w ⊎ M w) text (r.from) j (λ w m. inr m) (r.between) }
  ];
  whole = λ j r. is j ∙ either j (r.from) (r.start) (r.between);
}
  where
    either : (j i : ℕ) → contains nat_cmp starts i ≡ true → Between (λ w. L w ⊎ M w) text i j → (contains nat_cmp left j || contains nat_cmp right j) ≡ true
    either j i s b' = elim (b'.matches) [
      | inl m ↦ or_left (contains nat_cmp left j) (contains nat_cmp right j) (a.whole j (record { from = i; start = s; between = record { word = b'.word; rest = b'.rest; matches = m; there = b'.there; end = b'.end } }))
      | inr m ↦ or_right (contains nat_cmp left j) (contains nat_cmp right j) (b.whole j (record { from = i; start = s; between = record { word = b'.word; rest = b'.rest; matches = m; there = b'.there; end = b'.end } }))
    ]

-- the empty word leads nowhere else
pub ends_same : (text : List ℕ) (starts ends : BTreeSet ℕ) → ((j : ℕ) → contains nat_cmp ends j ≡ contains nat_cmp starts j) → AreEnds (λ w. w ≡ []) text starts ends
ends_same text starts ends is = record {
  sound = λ j h. record { from = j; start = sym (is j) ∙ h; between = record { word = []; rest = drop j text; matches = refl; there = refl; end = sym (add-zero j) } };
  whole = λ j r. let b = r.between in
      let short : length (b.word) ≡ 0 = ap (λ (w : List ℕ). length w) (b.matches) in
      let e : r.from ≡ j = (let f = b.end in omega arith) in
      is j ∙ subst (λ k. contains nat_cmp starts k ≡ true) e (r.start);
}

-- nothing is reached by no word
pub ends_none : (L : List ℕ → Type 0) (text : List ℕ) (starts ends : BTreeSet ℕ) → ((w : List ℕ) → L w → ⊥) → ((j : ℕ) → contains nat_cmp ends j ≡ false) → AreEnds L text starts ends
ends_none L text starts ends never is = record {
  sound = λ j h. absurd (true≢false (sym h ∙ is j));
  whole = λ j r. let b = r.between in absurd (never (b.word) (b.matches));
}

-- ---- the closure of a set: the places reached, and the new ones among them
pub record IsClosing (L : List ℕ → Type 0) (text : List ℕ) (starts reached fresh : BTreeSet ℕ) : Type 0 where
  pub sound : (j : ℕ) → contains nat_cmp reached j ≡ true → IsReached (AnyNumber L) text starts j
  pub begun : (j : ℕ) → contains nat_cmp starts j ≡ true → contains nat_cmp reached j ≡ true
  pub closed : (i j : ℕ) → contains nat_cmp reached i ≡ true → contains nat_cmp fresh i ≡ false → Between L text i j → contains nat_cmp reached j ≡ true
  pub inside : (j : ℕ) → contains nat_cmp fresh j ≡ true → contains nat_cmp reached j ≡ true

any_none : (L : List ℕ → Type 0) (text : List ℕ) (starts : BTreeSet ℕ) (j : ℕ) → contains nat_cmp starts j ≡ true → IsReached (AnyNumber L) text starts j
any_none L text starts j h = record { from = j; start = h; between = record { word = []; rest = drop j text; matches = (0, refl); there = refl; end = sym (add-zero j) } }

any_more : (L : List ℕ → Type 0) (text : List ℕ) (starts : BTreeSet ℕ) (k j : ℕ) → IsReached (AnyNumber L) text starts k → Between L text k j → IsReached (AnyNumber L) text starts j
any_more L text starts k j r b = record {
  from = r.from;
  start = r.start;
  between = between_map (Splits (AnyNumber L) L) (AnyNumber L) text (r.from) j (λ w s. let first : AnyNumber L (s.0) = s.2 in (first.0 + 1, repeats_more L (first.0) w (s.0, s.1, first.1, s.3, s.4))) (between_join (AnyNumber L) L text (r.from) k j (r.between) b);
}

pub closing_begins : (L : List ℕ → Type 0) (text : List ℕ) (starts reached fresh : BTreeSet ℕ) → ((j : ℕ) → contains nat_cmp reached j ≡ contains nat_cmp starts j) → ((j : ℕ) → contains nat_cmp fresh j ≡ contains nat_cmp starts j) → IsClosing L text starts reached fresh
closing_begins L text starts reached fresh same new = record {
  sound = λ j h. any_none L text starts j (sym (same j) ∙ h);
  begun = λ j h. same j ∙ h;
  closed = λ i j h n b. absurd (true≢false (sym h ∙ same i ∙ sym (new i) ∙ n));
  inside = λ j h. same j ∙ sym (new j) ∙ h;
}

pub closing_goes_on : (L : List ℕ → Type 0) (text : List ℕ) (starts reached fresh next reached' fresh' : BTreeSet ℕ) → IsClosing L text starts reached fresh → AreEnds L text fresh next →
    ((j : ℕ) → contains nat_cmp reached' j ≡ (contains nat_cmp reached j || contains nat_cmp next j)) →
    ((j : ℕ) → contains nat_cmp fresh' j ≡ (contains nat_cmp next j && not (contains nat_cmp reached j))) →
    IsClosing L text starts reached' fresh'
closing_goes_on L text starts reached fresh next reached' fresh' c e more new = record {
  sound = λ j h. elim (or_cases (contains nat_cmp reached j) (contains nat_cmp next j) (sym (more j) ∙ h)) [
    | inl old ↦ c.sound j old
    | inr reach ↦ let r = e.sound j reach in any_more L text starts (r.from) j (c.sound (r.from) (c.inside (r.from) (r.start))) (r.between)
  ];
  begun = λ j h. more j ∙ or_left (contains nat_cmp reached j) (contains nat_cmp next j) (c.begun j h);
  closed = λ i j h n b. more j ∙ stays i j (contains nat_cmp reached i) refl (contains nat_cmp fresh i) refl (sym (more i) ∙ h) (sym (new i) ∙ n) b;
  inside = λ j h. more j ∙ or_right (contains nat_cmp reached j) (contains nat_cmp next j) ((and_parts (contains nat_cmp next j) (not (contains nat_cmp reached j)) (sym (new j) ∙ h)).0);
}
  where
    stays : (i j : ℕ) (r : Bool) → contains nat_cmp reached i ≡ r → (f : Bool) → contains nat_cmp fresh i ≡ f → (contains nat_cmp reached i || contains nat_cmp next i) ≡ true →
        (contains nat_cmp next i && not (contains nat_cmp reached i)) ≡ false → Between L text i j → (contains nat_cmp reached j || contains nat_cmp next j) ≡ true
    stays i j true r true f either neither b = or_right (contains nat_cmp reached j) (contains nat_cmp next j) (e.whole j (record { from = i; start = f; between = b }))
    stays i j true r false f either neither b = or_left (contains nat_cmp reached j) (contains nat_cmp next j) (c.closed i j r f b)
    stays i j false r f' f either neither b = absurd (true≢false (sym (rw r at either) ∙ sym (and_true (contains nat_cmp next i)) ∙ rw r at neither))
      where
        and_true : (x : Bool) → (x && true) ≡ x
        and_true true = refl
        and_true false = refl

-- with nothing new the set is closed
pub closing_ends : (L : List ℕ → Type 0) (text : List ℕ) (starts reached fresh : BTreeSet ℕ) → IsClosing L text starts reached fresh → ((j : ℕ) → contains nat_cmp fresh j ≡ false) → AreEnds (AnyNumber L) text starts reached
closing_ends L text starts reached fresh c none = record {
  sound = c.sound;
  whole = λ j r. let b = r.between in let any : AnyNumber L (b.word) = b.matches in
      follow (any.0) (r.from) j (c.begun (r.from) (r.start)) (record { word = b.word; rest = b.rest; matches = any.1; there = b.there; end = b.end });
}
  where
    follow : (k i j : ℕ) → contains nat_cmp reached i ≡ true → Between (Repeats L k) text i j → contains nat_cmp reached j ≡ true
    follow zero i j h b =
        let short : length (b.word) ≡ 0 = ap (λ (w : List ℕ). length w) (b.matches) in
        let e : i ≡ j = (let f = b.end in omega arith) in
        subst (λ k. contains nat_cmp reached k ≡ true) e h
    follow (suc k) i j h b = let cut = between_cut L (Repeats L k) text i j b in follow k (cut.0) j (c.closed i (cut.0) h (none i) (cut.1)) (cut.2)

-- ---- one byte
head_at : (text : List ℕ) (i : ℕ) → i < length text → drop i text ≡ slice_index text i ∷ drop (suc i) text
head_at [] i h = absurd (omega arith)
head_at (c ∷ text) zero h = refl
head_at (c ∷ text) (suc i) h = head_at text i (omega arith)

pub ends_byte : (names : List ℕ → List ℕ → Type 0) (s : set.FinSet nat_cmp) (text : List ℕ) (starts ends : BTreeSet ℕ) → AreBehind s text starts ends → AreEnds (Matches names (one_of s)) text starts ends
ends_byte names s text starts ends b = record { sound = sound; whole = whole }
  where
    sound : (j : ℕ) → contains nat_cmp ends j ≡ true → IsReached (Matches names (one_of s)) text starts j
    sound zero h = absurd (true≢false (sym h ∙ b.first))
    sound (suc i) h =
        let e : suc i ≡ i + 1 = omega arith in
        let both = and_parts (contains nat_cmp starts i) (is_byte_at s text i) (sym (b.next i) ∙ ap (λ k. contains nat_cmp ends k) (sym e) ∙ h) in
        let there = and_parts (nat_lt i (length text)) (set.contains s (slice_index text i)) (both.1) in
        record {
          from = i;
          start = both.0;
          between = record {
            word = slice_index text i ∷ [];
            rest = drop (suc i) text;
            matches = (slice_index text i, there.1, refl);
            there = head_at text i (ltb-true i (length text) (there.0));
            end = omega arith;
          };
        }

    at_word : (j i c : ℕ) (rest : List ℕ) → contains nat_cmp starts i ≡ true → set.contains s c ≡ true → drop i text ≡ c ∷ rest → j ≡ i + 1 → contains nat_cmp ends j ≡ true
    at_word j i c rest start has there end =
        let long : length text - i ≡ suc (length rest) = sym (length-drop i text) ∙ ap (λ (w : List ℕ). length w) there in
        let within : i < length text = omega arith in
        let same : c ≡ slice_index text i = ap (λ (w : List ℕ). slice_index w 0) (sym there ∙ head_at text i within) in
        rw (end, b.next i, start, lt-ltb i (length text) within, ← same) has

    whole : (j : ℕ) → IsReached (Matches names (one_of s)) text starts j → contains nat_cmp ends j ≡ true
    whole j r =
        let b' = r.between in
        let m : Matches names (one_of s) (b'.word) = b'.matches in
        at_word j (r.from) (m.0) (b'.rest) (r.start) (m.1) (b'.there ∙ ap (λ (w : List ℕ). w ++ b'.rest) (m.2)) (b'.end ∙ ap (λ (w : List ℕ). r.from + length w) (m.2))

-- ---- a bound on the growth of a closure
set_len_le : (text : List ℕ) (s : BTreeSet ℕ) → IsOrdered nat_cmp s → AreWithin text s → btree_set_len s ≤ length text + 1
set_len_le text s ordered within = length-le_from_below (length text + 1) (s.keys) ordered (λ k d h.
    let q : ℕ = get_or (s.keys) k d in
    let there : contains nat_cmp s q ≡ true = any_passes_from_place (is_at (nat_cmp q)) (s.keys) k q (slice_get-get_or (s.keys) k d h) (at_number q q ∙ eq-eqb q q refl) in
    let inside : q ≤ length text = within q there in
    omega (arith, inside))

pub closing_falls : (text : List ℕ) (old new fresh fresh' : BTreeSet ℕ) → is_empty fresh ≡ false → btree_set_len new ≡ btree_set_len old + btree_set_len fresh' → IsOrdered nat_cmp new → AreWithin text new →
    2 * (length text + 1 - btree_set_len new) + (if is_empty fresh' then 0 else 1) < 2 * (length text + 1 - btree_set_len old) + (if is_empty fresh then 0 else 1)
closing_falls text old new fresh fresh' more count ordered within =
    let bound : btree_set_len new ≤ length text + 1 = set_len_le text new ordered within in
    rw more (falls_by (length text + 1) (btree_set_len old) (btree_set_len new) (btree_set_len fresh') bound count)
  where
    falls_by : (most m n k : ℕ) → n ≤ most → n ≡ m + k → 2 * (most - n) + (if nat_eq k 0 then 0 else 1) < 2 * (most - m) + 1
    falls_by most m n zero h e = omega arith
    falls_by most m n (suc k) h e = let test : nat_eq (suc k) 0 ≡ false = ne_eqb (suc k) 0 (λ z. absurd (omega (arith, z))) in rw test (omega arith)

-- ---- from the front of a text
pub lengths_from_ends : (L : List ℕ → Type 0) (text : List ℕ) (front ends : BTreeSet ℕ) → ((j : ℕ) → contains nat_cmp front j ≡ nat_eq j 0) → AreEnds L text front ends → AreLengths L text ends
lengths_from_ends L text front ends only e = record {
  within = λ n h. ends_within L text front ends (λ j g. let z : j ≡ 0 = eqb-true j 0 (sym (only j) ∙ g) in omega arith) e n h;
  sound = λ n h. let r = e.sound n h in let b = r.between in
      let z : r.from ≡ 0 = eqb-true (r.from) 0 (sym (only (r.from)) ∙ r.start) in
      let long : n ≡ length (b.word) = (let f = b.end in omega arith) in
      let there : text ≡ b.word ++ b.rest = subst (λ (i : ℕ). drop i text ≡ b.word ++ b.rest) z (b.there) in
      subst L (sym (ap₂ (λ (k : ℕ) (t : List ℕ). take k t) long there ∙ take_front (b.word) (b.rest))) (b.matches);
  whole = λ n le m. e.whole n (record {
    from = 0;
    start = only 0;
    between = record { word = take n text; rest = drop n text; matches = m; there = sym (take-append-drop n text); end = let h : length (take n text) ≡ n = length-take-le n text le in omega arith };
  });
}
  where
    take_front : (u v : List ℕ) → take (length u) (u ++ v) ≡ u
    take_front [] v = refl
    take_front (x ∷ u) v = ap (λ (w : List ℕ). x ∷ w) (take_front u v)
