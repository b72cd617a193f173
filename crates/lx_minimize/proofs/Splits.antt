-- A block is only split into states that some word distinguishes.
use Rattle.std.proofs.Common.{◌≡◌, ◌≢◌, ℕ, ◌+◌, ◌<◌, ◌≤◌, Bool, true, false, List, [], ◌∷◌, ◌++◌, length, slice_index, slice_set, get_or, refl, sym, ◌∙◌, ap, subst, arith, inl, inr, ◌⊎◌}
use Rattle.std.proofs.lemmas.Bool.{cases_lt, cases_eq}
use Rattle.std.proofs.lemmas.List.{get_or_append_left, get_or_push, length_push, length-set, get_or-set_same, get_or-set_other, get_or_default}
use Rattle.std.proofs.lemmas.List.Elements.{All-cons}
use Rattle.std.proofs.lemmas.Map.Steps.{length-le_from_distinct_below}
use Rattle.std.proofs.lemmas.Map.Keys.{IsDistinct-from_apart}
use Rattle.std.proofs.Common.{eqb}
use Rattle.lx_automaton.proofs.EncodedLists.{different}
use Rattle.lx_automaton.proofs.Members.{below_from_any}
use Rattle.lx_minimize.specs.Completion.{total, step_of, IsComplete, AreDistinguishableByClasses}
use Rattle.lx_minimize.specs.Partitions.{block, block_count, member_of, flag, IsSound, IsSplitter, IsMoved, IsRemaining, AreMovedStates, AreRenumbered, AreFlags, IsStableBlock}
use Rattle.lx_minimize.specs.declared.complete.Complete.{Complete}
use Rattle.lx_minimize.specs.declared.partition.Partition.{Partition}

-- a word that distinguishes the targets, after the class
pub distinguishable_before : (m : Complete) (s t c : ℕ) → c < m.width → AreDistinguishableByClasses m (step_of m s c) (step_of m t c) → AreDistinguishableByClasses m s t
distinguishable_before m s t c h d = record { word = c ∷ d.word; classes = All-cons (λ x. x < m.width) c d.word h d.classes; differ = d.differ }

pub distinguishable_turned : (m : Complete) (s t : ℕ) → AreDistinguishableByClasses m s t → AreDistinguishableByClasses m t s
distinguishable_turned m s t d = record { word = d.word; classes = d.classes; differ = λ e. d.differ (sym e) }

same_or_not : (a b : Bool) → (a ≡ b) ⊎ (a ≢ b)
same_or_not true true = inl refl
same_or_not false false = inl refl
same_or_not true false = inr (λ e. cc)
same_or_not false true = inr (λ e. cc)

pub moved_or_not : (m : Complete) (bs : List ℕ) (inside : List Bool) (from class : ℕ) (wanted : Bool) (s : ℕ) →
    IsMoved m bs inside from class wanted s ⊎ (IsMoved m bs inside from class wanted s → ⊥)
moved_or_not m bs inside from class wanted s = elim (cases_eq (slice_index bs s) from) [
  | inr ne ↦ inr (λ h. ne h.within)
  | inl e ↦ elim (same_or_not (flag inside (step_of m s class)) wanted) [
    | inl f ↦ inl (record { within = e; target = f })
    | inr f ↦ inr (λ h. f h.target)
  ]
]

module _ (m : Complete) (p q : Partition) (inside : List Bool) (from class : ℕ) (wanted : Bool) (remaining_state : ℕ) (ms : List ℕ)
    (complete : IsComplete m) (sound : IsSound m p) (splitter : IsSplitter m inside) (in_blocks : from < block_count p) (in_width : class < m.width)
    (side : from ≡ 0 → wanted ≢ flag inside (step_of m 0 class)) (moved_states : AreMovedStates m p.block_of.items inside from class wanted (total m) ms)
    (some : 0 < length ms) (in_states : remaining_state < total m) (stays : IsRemaining m p.block_of.items inside from class wanted remaining_state)
    (reps : q.representatives.items ≡ slice_set p.representatives.items from remaining_state ++ slice_index ms 0 ∷ [])
    (blocks : AreRenumbered p.block_of.items q.block_of.items ms (block_count p) (length ms)) where
  abbrev Moves : ℕ → Type 0
  Moves s = IsMoved m p.block_of.items inside from class wanted s

  has_moved : (s : ℕ) → s < total m → Moves s → block q s ≡ block_count p
  has_moved s h is = let w = moved_states.all s h is in ap (λ x. block q x) (sym w.2) ∙ blocks.moved w.0 w.1

  has_stayed : (s : ℕ) → (Moves s → ⊥) → block q s ≡ block p s
  has_stayed s isnt = blocks.other s (λ j h e. isnt (subst Moves e (moved_states.each j h)))

  long : length (slice_set p.representatives.items from remaining_state) ≡ block_count p
  long = length-set p.representatives.items from remaining_state

  count : block_count q ≡ block_count p + 1
  count = rw reps (length_push (slice_set p.representatives.items from remaining_state) (slice_index ms 0) ∙ ap (λ x. x + 1) long)

  fresh_member : member_of q (block_count p) ≡ slice_index ms 0
  fresh_member = rw reps (get_or_push (slice_set p.representatives.items from remaining_state) (slice_index ms 0) 0 (block_count p) long)

  old_member : (b : ℕ) → b < block_count p → member_of q b ≡ slice_index (slice_set p.representatives.items from remaining_state) b
  old_member b h = rw reps (get_or_append_left (slice_set p.representatives.items from remaining_state) (slice_index ms 0 ∷ []) 0 b (omega (arith, long)))

  from_member : member_of q from ≡ remaining_state
  from_member = old_member from in_blocks ∙ get_or-set_same p.representatives.items from remaining_state 0 in_blocks

  other_member : (b : ℕ) → b < block_count p → b ≢ from → member_of q b ≡ member_of p b
  other_member b h ne = old_member b h ∙ get_or-set_other p.representatives.items from b remaining_state 0 ne

  remaining_isnt : Moves remaining_state → ⊥
  remaining_isnt is = stays.target is.target

  distinguishable_if_mixed : (s t : ℕ) → s < total m → t < total m → block p s ≡ block p t → Moves s → (Moves t → ⊥) → AreDistinguishableByClasses m s t
  distinguishable_if_mixed s t hs ht e is isnt =
      let f : block p t ≡ from = sym e ∙ is.within in
      distinguishable_before m s t class in_width (splitter.distinguishable (step_of m s class) (step_of m t class) (complete.closed s class hs in_width) (complete.closed t class ht in_width)
      (λ g. isnt (record { within = f; target = sym g ∙ is.target })))

  distinguishable_after : (s t : ℕ) → s < total m → t < total m → block q s ≢ block q t → AreDistinguishableByClasses m s t
  distinguishable_after s t hs ht ne = elim (cases_eq (block p s) (block p t)) [
    | inr d ↦ sound.distinguishable s t hs ht d
    | inl e ↦ elim (moved_or_not m p.block_of.items inside from class wanted s) [
      | inl is ↦ elim (moved_or_not m p.block_of.items inside from class wanted t) [
        | inl it ↦ absurd (ne (has_moved s hs is ∙ sym (has_moved t ht it)))
        | inr it ↦ distinguishable_if_mixed s t hs ht e is it
      ]
      | inr is ↦ elim (moved_or_not m p.block_of.items inside from class wanted t) [
        | inl it ↦ distinguishable_turned m t s (distinguishable_if_mixed t s ht hs (sym e) it is)
        | inr it ↦ absurd (ne (has_stayed s is ∙ e ∙ sym (has_stayed t it)))
      ]
    ]
  ]

  same_before : (s t : ℕ) → s < total m → t < total m → block q s ≡ block q t → block p s ≡ block p t
  same_before s t hs ht e =
      let bs = sound.below s hs in
      let bt = sound.below t ht in
      elim (moved_or_not m p.block_of.items inside from class wanted s) [
        | inl is ↦ elim (moved_or_not m p.block_of.items inside from class wanted t) [
          | inl it ↦ is.within ∙ sym it.within
          | inr it ↦ let f = has_moved s hs is in let g = has_stayed t it in absurd (omega arith)
        ]
        | inr is ↦ elim (moved_or_not m p.block_of.items inside from class wanted t) [
          | inl it ↦ let f = has_moved t ht it in let g = has_stayed s is in absurd (omega arith)
          | inr it ↦ sym (has_stayed s is) ∙ e ∙ has_stayed t it
        ]
      ]

  pub sound_after : IsSound m q
  sound_after = record {
    long = blocks.long ∙ sound.long;
    below = λ s h. elim (moved_or_not m p.block_of.items inside from class wanted s) [
      | inl is ↦ let f = has_moved s h is in omega (arith, count)
      | inr is ↦ let f = has_stayed s is in let g = sound.below s h in omega (arith, count)
    ];
    member = λ b h. elim (cases_lt b (block_count p)) [
      | inl l ↦ elim (cases_eq b from) [
        | inl e ↦ rw (e, from_member) in_states
        | inr ne ↦ rw (other_member b l ne) (sound.member b l)
      ]
      | inr l ↦ let e : b ≡ block_count p = omega (arith, count) in rw (e, fresh_member) (moved_states.below 0 some)
    ];
    within = λ b h. elim (cases_lt b (block_count p)) [
      | inl l ↦ elim (cases_eq b from) [
        | inl e ↦ rw (e, from_member) (has_stayed remaining_state remaining_isnt ∙ stays.within)
        | inr ne ↦ let w = sound.within b l in
            rw (other_member b l ne) (has_stayed (member_of p b) (λ is. ne (sym w ∙ is.within)) ∙ w)
      ]
      | inr l ↦ let e : b ≡ block_count p = omega (arith, count) in rw (e, fresh_member) (blocks.moved 0 some)
    ];
    first = has_stayed 0 (λ is. side (sym is.within ∙ sound.first) (sym is.target)) ∙ sound.first;
    distinguishable = distinguishable_after;
    labels = λ s t hs ht e. sound.labels s t hs ht (same_before s t hs ht e);
  }

-- a block distinguishes its states from the others
pub splitter_from_flags : (m : Complete) (p : Partition) (number : ℕ) (inside : List Bool) → IsSound m p →
    AreFlags p.block_of.items number (length p.block_of.items) inside → IsSplitter m inside
splitter_from_flags m p number inside sound flags = record {
  long = flags.long ∙ sound.long;
  distinguishable = λ s t hs ht ne. sound.distinguishable s t hs ht (λ e.
      let ls : s < length p.block_of.items = (let l = sound.long in omega arith) in
      let lt : t < length p.block_of.items = (let l = sound.long in omega arith) in
      elim (cases_eq (block p s) number) [
        | inl f ↦ ne (flags.inside s ls f ∙ sym (flags.inside t lt (sym e ∙ f)))
        | inr f ↦ ne (flags.outside s ls f ∙ sym (flags.outside t lt (λ g. f (e ∙ g))))
      ]);
}

-- if no state is moved, or none remains, all states of the block step into the set, or all out of it
pub stable_without_moved_states : (m : Complete) (bs : List ℕ) (inside : List Bool) (from class : ℕ) (wanted : Bool) (ms : List ℕ) →
    AreMovedStates m bs inside from class wanted (total m) ms → length ms ≡ 0 → IsStableBlock m bs inside from class
stable_without_moved_states m bs inside from class wanted ms moved_states none = record {
  stable = λ s t hs ht fs ft. both_not (flag inside (step_of m s class)) (flag inside (step_of m t class)) wanted (isnt s hs fs) (isnt t ht ft);
}
  where
    isnt : (s : ℕ) → s < total m → slice_index bs s ≡ from → flag inside (step_of m s class) ≢ wanted
    isnt s h f e = let w = moved_states.all s h (record { within = f; target = e }) in let l = w.1 in omega arith

    both_not : (a b c : Bool) → a ≢ c → b ≢ c → a ≡ b
    both_not true true c f g = refl
    both_not false false c f g = refl
    both_not true false true f g = absurd (f refl)
    both_not true false false f g = absurd (g refl)
    both_not false true true f g = absurd (g refl)
    both_not false true false f g = absurd (f refl)

pub stable_without_remaining_states : (m : Complete) (bs : List ℕ) (inside : List Bool) (from class : ℕ) (wanted : Bool) →
    ((s : ℕ) → s < total m → IsRemaining m bs inside from class wanted s → ⊥) → IsStableBlock m bs inside from class
stable_without_remaining_states m bs inside from class wanted none = record {
  stable = λ s t hs ht fs ft. is s hs fs ∙ sym (is t ht ft);
}
  where
    is : (s : ℕ) → s < total m → slice_index bs s ≡ from → flag inside (step_of m s class) ≡ wanted
    is s h f = elim (same_or_not (flag inside (step_of m s class)) wanted) [
      | inl e ↦ e
      | inr e ↦ absurd (none s h (record { within = f; target = e }))
    ]

-- different blocks have different representatives, so there are at most as many blocks as states
pub blocks_at_most : (m : Complete) (p : Partition) → IsSound m p → block_count p ≤ total m
blocks_at_most m p sound =
    let reps = p.representatives.items in
    length-le_from_distinct_below reps (total m)
    (IsDistinct-from_apart eqb reps (λ i j d l h.
    let hi : i < length reps = omega arith in
    different (get_or reps i d) (get_or reps j d) (λ e.
    let a : get_or reps i 0 ≡ get_or reps j 0 = sym (get_or_default reps i d 0 hi) ∙ e ∙ get_or_default reps j d 0 h in
    let b : i ≡ j = sym (sound.within i hi) ∙ ap (λ x. block p x) a ∙ sound.within j h in
    omega arith)))
    (λ q h. below_from_any reps (total m) q h (λ i l. sound.member i l))
