-- A tree that mirrors another one has its texts.
use Rattle.std.proofs.Common.{ℕ, zero, suc, ◌≡◌, ◌≤◌, inl, inr, arith, Bool, List, [], Option}
use Rattle.lx_ere.specs.Regex.{Regex}
use Rattle.lx_ere.specs.Matching.{Splits, Repeats, RepeatsBetween, Matches}
use Rattle.lx_flex_pattern.specs.Mirror.{Mirrors, empties, sets, thens, ors, repeats, names}
use Rattle.lx_flex_pattern.specs.Translation.{passes, HaveSameTexts}

pub splits_as : (L L' M M' : List ℕ → Type 0) → ((w : List ℕ) → L w → L' w) → ((w : List ℕ) → M w → M' w) → (w : List ℕ) → Splits L M w → Splits L' M' w
splits_as L L' M M' f g w s = (s.0, s.1, f (s.0) (s.2), g (s.1) (s.3), s.4)

repeats_as : (L M : List ℕ → Type 0) → ((w : List ℕ) → L w → M w) → (k : ℕ) (w : List ℕ) → Repeats L k w → Repeats M k w
repeats_as L M f zero w h = h
repeats_as L M f (suc k) w s = splits_as L M (Repeats L k) (Repeats M k) f (λ v. repeats_as L M f k v) w s

pub between_as : (L M : List ℕ → Type 0) → ((w : List ℕ) → L w → M w) → (low : ℕ) (high : Option ℕ) (w : List ℕ) → RepeatsBetween L low high w → RepeatsBetween M low high w
between_as L M f low high w s = (s.0, s.1, s.2, repeats_as L M f (s.0) w (s.3))

none_times : (L : List ℕ → Type 0) (k : ℕ) (w : List ℕ) → k ≤ 0 → Repeats L k w → w ≡ []
none_times L zero w l h = h
none_times L (suc k) w l h = absurd (omega (arith, l))

lost : (t r : Regex) → Mirrors t r → (ns : List ℕ → List ℕ → Bool) (w : List ℕ) → Matches (passes ns) t w → Matches (passes ns) r w
lost _ _ (empties r) ns w h = (0, omega arith, omega arith, h)
lost _ _ (sets s) ns w h = h
lost _ _ (thens a c r s m n) ns w h =
    splits_as (Matches (passes ns) a) (Matches (passes ns) r) (Matches (passes ns) c) (Matches (passes ns) s) (λ u. lost a r m ns u) (λ u. lost c s n ns u) w h
lost _ _ (ors a c r s m n) ns w (inl h) = inl (lost a r m ns w h)
lost _ _ (ors a c r s m n) ns w (inr h) = inr (lost c s n ns w h)
lost _ _ (repeats a r low high m) ns w h = between_as (Matches (passes ns) a) (Matches (passes ns) r) (λ u. lost a r m ns u) low high w h
lost _ _ (names name) ns w h = h

added : (t r : Regex) → Mirrors t r → (ns : List ℕ → List ℕ → Bool) (w : List ℕ) → Matches (passes ns) r w → Matches (passes ns) t w
added _ _ (empties r) ns w h = none_times (Matches (passes ns) r) (h.0) w (h.2) (h.3)
added _ _ (sets s) ns w h = h
added _ _ (thens a c r s m n) ns w h =
    splits_as (Matches (passes ns) r) (Matches (passes ns) a) (Matches (passes ns) s) (Matches (passes ns) c) (λ u. added a r m ns u) (λ u. added c s n ns u) w h
added _ _ (ors a c r s m n) ns w (inl h) = inl (added a r m ns w h)
added _ _ (ors a c r s m n) ns w (inr h) = inr (added c s n ns w h)
added _ _ (repeats a r low high m) ns w h = between_as (Matches (passes ns) r) (Matches (passes ns) a) (λ u. added a r m ns u) low high w h
added _ _ (names name) ns w h = h

pub mirrors_texts : (t r : Regex) → Mirrors t r → HaveSameTexts t r
mirrors_texts t r m = record { none_lost = lost t r m; none_added = added t r m }
