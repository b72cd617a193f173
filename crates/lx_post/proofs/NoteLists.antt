-- The notes of one worker in a longer list, the notes after an end, and the flags of the workers that ended.
use Rattle.std.proofs.Common.{◌≡◌, ◌≢◌, ℕ, ◌<◌, List, [], ◌∷◌, ◌++◌, length, set, sym, refl, ap, ◌∙◌, subst, arith, Option, cond, eqb, eq-eqb, ne_eqb, Bool, true, false, ◌||◌, true≢false, get_or, get_or-set_same, get_or-set_other}
use mathlib.Core.Logic.{dite}
use native.Mathlib.Decide.{ℕ_discrete}
use Rattle.std.proofs.lemmas.List.Elements.{filter-append}
use Rattle.std.proofs.lemmas.List.{append-nil}
use Rattle.lx_post.specs.declared.note.Note.{Note}
use Rattle.lx_post.specs.declared.note.WorkerFault.{WorkerFault}
use Rattle.lx_post.specs.declared.note.Note.TheVariants.{Piece as note_piece, End as note_end}
use Rattle.lx_post.specs.declared.post_rule.PassView.{PassView}
use Rattle.lx_post.specs.Posting.{taker}
use Rattle.lx_piece.specs.Pieces.{Making}
use Rattle.lx_piece.specs.Plans.{Planned, max_workers}
use Rattle.lx_post.specs.Notes.{worker_of, is_end, IsHonestNote, AreHonestNotes, notes_of, has_end, NothingFollowsEnd}

pub notes_of-append : {C : Type 0} (w : ℕ) (xs ys : List (Note C)) → notes_of w (xs ++ ys) ≡ notes_of w xs ++ notes_of w ys
notes_of-append w xs ys = filter-append (λ n. eqb (worker_of n) w) xs ys

of_one : {C : Type 0} (w : ℕ) (n : Note C) → worker_of n ≡ w → notes_of w (n ∷ []) ≡ n ∷ []
of_one w n is = ap (λ (b : Bool). cond b (n ∷ []) []) (eq-eqb (worker_of n) w is)

of_none : {C : Type 0} (w : ℕ) (n : Note C) → worker_of n ≢ w → notes_of w (n ∷ []) ≡ []
of_none w n not = ap (λ (b : Bool). cond b (n ∷ []) []) (ne_eqb (worker_of n) w not)

pub of_push_same : {C : Type 0} (w : ℕ) (xs : List (Note C)) (n : Note C) → worker_of n ≡ w → notes_of w (xs ++ n ∷ []) ≡ notes_of w xs ++ n ∷ []
of_push_same w xs n is = notes_of-append w xs (n ∷ []) ∙ ap (λ l. notes_of w xs ++ l) (of_one w n is)

pub of_push_other : {C : Type 0} (w : ℕ) (xs : List (Note C)) (n : Note C) → worker_of n ≢ w → notes_of w (xs ++ n ∷ []) ≡ notes_of w xs
of_push_other w xs n not = notes_of-append w xs (n ∷ []) ∙ ap (λ l. notes_of w xs ++ l) (of_none w n not) ∙ append-nil (notes_of w xs)

pub of_here : {C : Type 0} (w : ℕ) (xs : List (Note C)) (n : Note C) (ys : List (Note C)) → worker_of n ≡ w → notes_of w (xs ++ n ∷ ys) ≡ notes_of w xs ++ n ∷ notes_of w ys
of_here w xs n ys is = notes_of-append w xs (n ∷ ys) ∙ ap (λ (b : Bool). notes_of w xs ++ cond b (n ∷ notes_of w ys) (notes_of w ys)) (eq-eqb (worker_of n) w is)

pub honest_push : {C : Type 0} (made : Making C) (plan : Planned) (xs : List (Note C)) (n : Note C) → AreHonestNotes made plan xs → IsHonestNote made plan n → AreHonestNotes made plan (xs ++ n ∷ [])
honest_push made plan [] n h this = (this, tt)
honest_push made plan (x ∷ xs) n h this = (h.0, honest_push made plan xs n h.1 this)

pub honest_at : {C : Type 0} (made : Making C) (plan : Planned) (xs : List (Note C)) (n : Note C) (ys : List (Note C)) → AreHonestNotes made plan (xs ++ n ∷ ys) → IsHonestNote made plan n
honest_at made plan [] n ys h = h.0
honest_at made plan (x ∷ xs) n ys h = honest_at made plan xs n ys h.1

no_left : (a b : Bool) → (a || b) ≡ false → a ≡ false
no_left true b e = absurd (true≢false e)
no_left false b e = refl

no_right : (a b : Bool) → (a || b) ≡ false → b ≡ false
no_right true b e = absurd (true≢false e)
no_right false b e = e

pub ends_push : {C : Type 0} (xs : List (Note C)) (n : Note C) → NothingFollowsEnd xs → has_end xs ≡ false → NothingFollowsEnd (xs ++ n ∷ [])
ends_push [] n h none = ((λ _. refl), tt)
ends_push (x ∷ xs) n h none = ((λ is. absurd (true≢false (sym is ∙ no_left (is_end x) (has_end xs) none))), ends_push xs n h.1 (no_right (is_end x) (has_end xs) none))

nothing_left : {C : Type 0} (xs ys : List (Note C)) → xs ++ ys ≡ [] → ys ≡ []
nothing_left [] ys e = e
nothing_left (x ∷ xs) ys e = cc

end_or_not : {P : Type 0} (a b : Bool) → (a || b) ≡ true → (a ≡ true → P) → (b ≡ true → P) → P
end_or_not true b e f g = f refl
end_or_not false b e f g = g e

-- nothing follows an end
pub ends_here : {C : Type 0} (xs ys : List (Note C)) → NothingFollowsEnd (xs ++ ys) → has_end xs ≡ true → ys ≡ []
ends_here [] ys h some = absurd (true≢false (sym some))
ends_here (x ∷ xs) ys h some =
    end_or_not (is_end x) (has_end xs) some (λ is. nothing_left xs ys (h.0 is)) (λ more. ends_here xs ys h.1 more)

or_assoc : (a b c : Bool) → (a || (b || c)) ≡ ((a || b) || c)
or_assoc true b c = refl
or_assoc false b c = refl

pub end_append : {C : Type 0} (xs ys : List (Note C)) → has_end (xs ++ ys) ≡ (has_end xs || has_end ys)
end_append [] ys = refl
end_append (x ∷ xs) ys = ap (λ (b : Bool). is_end x || b) (end_append xs ys) ∙ or_assoc (is_end x) (has_end xs) (has_end ys)

or_false : (a : Bool) → (a || false) ≡ a
or_false true = refl
or_false false = refl

or_true : (a : Bool) → (a || true) ≡ true
or_true true = refl
or_true false = refl

-- a note that is no end ends nobody
pub end_kept : {C : Type 0} (w : ℕ) (xs : List (Note C)) (n : Note C) → is_end n ≡ false → has_end (notes_of w (xs ++ n ∷ [])) ≡ has_end (notes_of w xs)
end_kept w xs n plain = dite (ℕ_discrete (worker_of n) w)
    (λ is. ap has_end (of_push_same w xs n is) ∙ end_append (notes_of w xs) (n ∷ []) ∙ ap (λ (b : Bool). has_end (notes_of w xs) || (b || false)) plain ∙ or_false (has_end (notes_of w xs)))
    (λ not. ap has_end (of_push_other w xs n not))

pub end_made : {C : Type 0} (w : ℕ) (xs : List (Note C)) (n : Note C) → is_end n ≡ true → worker_of n ≡ w → has_end (notes_of w (xs ++ n ∷ [])) ≡ true
end_made w xs n ends is = ap has_end (of_push_same w xs n is) ∙ end_append (notes_of w xs) (n ∷ []) ∙ ap (λ (b : Bool). has_end (notes_of w xs) || (b || false)) ends ∙ or_true (has_end (notes_of w xs))

-- the flags of the workers that ended, after one more note
pub flags_kept : {C : Type 0} (flags : List Bool) (xs : List (Note C)) (n : Note C) → ((w : ℕ) → w < max_workers → get_or flags w false ≡ has_end (notes_of w xs)) → is_end n ≡ false
    → (w : ℕ) → w < max_workers → get_or flags w false ≡ has_end (notes_of w (xs ++ n ∷ []))
flags_kept flags xs n h plain w lt = h w lt ∙ sym (end_kept w xs n plain)

pub flags_set : {C : Type 0} (flags : List Bool) (xs : List (Note C)) (n : Note C) (k : ℕ) → length flags ≡ max_workers → ((w : ℕ) → w < max_workers → get_or flags w false ≡ has_end (notes_of w xs)) → is_end n ≡ true → k ≡ worker_of n
    → (w : ℕ) → w < max_workers → get_or (set flags k true) w false ≡ has_end (notes_of w (xs ++ n ∷ []))
flags_set flags xs n k len h ends is w lt = dite (ℕ_discrete w k)
    (λ same. ap (λ (j : ℕ). get_or (set flags k true) j false) same ∙ get_or-set_same flags k true false (omega arith) ∙ sym (end_made w xs n ends (sym (same ∙ is))))
    (λ not. get_or-set_other flags k w true false not ∙ h w lt ∙ sym (ap has_end (of_push_other w xs n (λ e. not (sym (is ∙ e))))))

pub not_end : {C : Type 0} (n : Note C) → ((w f : ℕ) (x : Option WorkerFault) → n ≡ note_end w f x → ⊥) → is_end n ≡ false
not_end (note_piece w p) h = refl
not_end (note_end w f x) h = absurd (h w f x refl)

-- the facts about the pass that takes remain, once it has taken a note
pub took : {C : Type 0} (v w : PassView C) (workers : ℕ) (flags : List Bool) (n : Note C) → v ≡ taker v.plan workers v.received v.worker v.sent → w ≡ taker v.plan v.given (v.received ++ n ∷ []) v.worker v.sent
    → ((k : ℕ) → k < max_workers → get_or flags k false ≡ has_end (notes_of k (v.received ++ n ∷ [])))
    → (w ≡ taker w.plan workers w.received w.worker w.sent) × ((k : ℕ) → k < max_workers → get_or flags k false ≡ has_end (notes_of k w.received))
took v w workers flags n was is h =
    let P : PassView _ → Type 0 = λ u. (u ≡ taker u.plan workers u.received u.worker u.sent) × ((k : ℕ) → k < max_workers → get_or flags k false ≡ has_end (notes_of k u.received)) in
    subst P (sym is) (ap (λ (m : ℕ). taker v.plan m (v.received ++ n ∷ []) v.worker v.sent) (ap (λ (u : PassView _). u.given) was), h)
