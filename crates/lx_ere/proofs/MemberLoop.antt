-- The state of the loop over the members of brackets.
use Rattle.std.proofs.Common.{◌≡◌, ℕ, ◌<◌, Bool, true, false, ◌||◌, not, List, [], ◌∷◌, ◌++◌, length, drop, Option, Some, None, refl, sym, ap, ◌∙◌}
use Rattle.std.specs.Option.{option_map, option_and_then}
use Rattle.std.specs.Ordering.{nat_cmp}
use Rattle.std.specs.FinSet as set
use Rattle.lx_ere.specs.Bytes.{bytes_where, in_ranges}
use Rattle.lx_ere.specs.Brackets.{BracketPosition, inside, behind_caret, begins_with, Member, in_members}
use Rattle.lx_ere.specs.Lexing.{all_items_at, member_at, members_at, members_set, with_members, bracket_at}
use Rattle.lx_ere.specs.ChoiceLaws.{pick_first, no_none, same_some}
use Rattle.lx_ere.specs.ByteLaws.{same_where}
use Rattle.lx_ere.proofs.BracketLemmas.{member_complete, member_sound, member_some, member_closes}
use Rattle.lx_ere.specs.ScanLaws.{Scanned, scan_start, scan_step, scan_end, scan_none}
use Rattle.lx_ere.proofs.SequenceLemmas.{item_shorter}

or_none : (a : Bool) → (a || false) ≡ a
or_none true = refl
or_none false = refl

-- one more before the bytes is one more after the members
or_move : (m t d : Bool) → (m || (t || d)) ≡ (t || (d || (m || false)))
or_move true true d = refl
or_move true false true = refl
or_move true false false = refl
or_move false t d = ap (λ x. t || x) (sym (or_none d))

in_members_more : (done : List (List (ℕ × ℕ))) (m : List (ℕ × ℕ)) (b : ℕ) → in_members (done ++ m ∷ []) b ≡ (in_members done b || (in_ranges m b || false))
in_members_more [] m b = refl
in_members_more (d ∷ done) m b = ap (λ x. in_ranges d b || x) (in_members_more done m b) ∙ assoc (in_ranges d b) (in_members done b) (in_ranges m b || false)
  where
    assoc : (x y z : Bool) → (x || (y || z)) ≡ ((x || y) || z)
    assoc true y z = refl
    assoc false y z = refl

-- the set has the bytes that pass the test and those of the members that were read
pub record MembersRead (test : ℕ → Bool) (text rest : List ℕ) (s : set.FinSet nat_cmp) : Type 0 where
  pub done : List (List (ℕ × ℕ))
  pub scanned : Scanned (member_at inside) 93 text done rest
  pub holds : s ≡ bytes_where (λ b. test b || in_members done b)

pub member_shorter : (text : List ℕ) (m : List (ℕ × ℕ)) (behind : List ℕ) → member_at inside text ≡ Some (m, behind) → length behind < length text
member_shorter text m behind e = item_shorter (Member inside) (member_at inside) 93 (member_complete inside) (member_sound inside) (member_some inside) member_closes text m behind e

pub members_start : (test : ℕ → Bool) (text : List ℕ) (s : set.FinSet nat_cmp) → s ≡ bytes_where test → MembersRead test text text s
members_start test text s e = record { done = []; scanned = scan_start (member_at inside) 93 text; holds = e ∙ same_where test (λ b. test b || false) (λ b _. sym (or_none (test b))) }

pub members_step : (test : ℕ → Bool) (text rest : List ℕ) (s next : set.FinSet nat_cmp) (m : List (ℕ × ℕ)) (behind : List ℕ) → begins_with 93 rest ≡ false → member_at inside rest ≡ Some (m, behind) →
    ((t : ℕ → Bool) → s ≡ bytes_where t → next ≡ bytes_where (λ b. in_ranges m b || t b)) → MembersRead test text rest s → MembersRead test text behind next
members_step test text rest s next m behind opens at adds r = record {
  done = r.done ++ m ∷ [];
  scanned = scan_step (member_at inside) 93 text (r.done) rest m behind opens at (member_shorter rest m behind at) r.scanned;
  holds = adds (λ b. test b || in_members (r.done) b) r.holds
      ∙ same_where (λ b. in_ranges m b || (test b || in_members (r.done) b)) (λ b. test b || in_members (r.done ++ m ∷ []) b)
      (λ b _. or_move (in_ranges m b) (test b) (in_members (r.done) b) ∙ ap (λ x. test b || x) (sym (in_members_more (r.done) m b)));
}

pub members_end : (test : ℕ → Bool) (text rest : List ℕ) (s : set.FinSet nat_cmp) → begins_with 93 rest ≡ true → MembersRead test text rest s →
    ◌≡◌ {A = Option (set.FinSet nat_cmp × List ℕ)} (Some (s, drop 1 rest)) (option_map (with_members test) (all_items_at (member_at inside) 93 text))
members_end test text rest s closed r = sym (ap (option_map (with_members test)) (scan_end (member_at inside) 93 text (r.done) rest closed r.scanned) ∙ ap (λ x. Some (x, drop 1 rest)) (sym r.holds))

pub members_none : (test : ℕ → Bool) (text rest : List ℕ) (s : set.FinSet nat_cmp) → begins_with 93 rest ≡ false → member_at inside rest ≡ None → MembersRead test text rest s →
    ◌≡◌ {A = Option (set.FinSet nat_cmp × List ℕ)} None (option_map (with_members test) (all_items_at (member_at inside) 93 text))
members_none test text rest s opens none r = sym (ap (option_map (with_members test)) (scan_none (member_at inside) 93 text (r.done) rest opens none r.scanned))

abbrev Set1 : Type 0
Set1 = set.FinSet nat_cmp × List ℕ

abbrev Members1 : Type 0
Members1 = List (ℕ × ℕ) × List (List (ℕ × ℕ)) × List ℕ

members_joined : (m : List (ℕ × ℕ)) (o : Option (List (List (ℕ × ℕ)) × List ℕ)) → option_map (with_members (λ b. in_ranges m b || false)) o ≡ option_map members_set (option_map {U = Members1} (λ g. (m, g.0, g.1)) o)
members_joined m None = refl
members_joined m (Some g) = ap (λ s. Some (s, g.1)) (same_where (λ b. (in_ranges m b || false) || in_members (g.0) b) (in_members (m ∷ g.0)) (λ b _. ap (λ x. x || in_members (g.0) b) (or_none (in_ranges m b))))

-- the first member, and those after it
pub members_at_is : (position : BracketPosition) (text : List ℕ) (m : List (ℕ × ℕ)) (rest : List ℕ) → member_at position text ≡ Some (m, rest) →
    option_map (with_members (λ b. in_ranges m b || false)) (all_items_at (member_at inside) 93 rest) ≡ option_map members_set (members_at position text)
members_at_is position text m rest e =
    members_joined m (all_items_at (member_at inside) 93 rest)
    ∙ sym (ap (λ o. option_map members_set (option_and_then (λ f. option_map {U = Members1} (λ g. (f.0, g.0, g.1)) (all_items_at (member_at inside) 93 (f.1))) o)) e)

pub members_at_none : (position : BracketPosition) (text : List ℕ) → member_at position text ≡ None → ◌≡◌ {A = Option Set1} None (option_map members_set (members_at position text))
members_at_none position text e = sym (ap (λ o. option_map members_set (option_and_then (λ f. option_map {U = Members1} (λ g. (f.0, g.0, g.1)) (all_items_at (member_at inside) 93 (f.1))) o)) e)

excluded : (o : Option Members1) (s t : set.FinSet nat_cmp) (behind : List ℕ) → ◌≡◌ {A = Option Set1} (Some (s, behind)) (option_map members_set o) →
    ((test : ℕ → Bool) → s ≡ bytes_where test → t ≡ bytes_where (λ b. not (test b))) →
    ◌≡◌ {A = Option Set1} (Some (t, behind)) (option_map {U = Set1} (λ f. (bytes_where (λ b. not (in_members (f.0 ∷ f.1) b)), f.2)) o)
excluded None s t behind e h = absurd (no_none (s, behind) (sym e))
excluded (Some f) s t behind e h =
    let pair : ◌≡◌ {A = Set1} (s, behind) (bytes_where (in_members (f.0 ∷ f.1)), f.2) = same_some (s, behind) (bytes_where (in_members (f.0 ∷ f.1)), f.2) e in
    let same : t ≡ bytes_where (λ b. not (in_members (f.0 ∷ f.1) b)) = h (in_members (f.0 ∷ f.1)) (ap (λ p. p.0) pair) in
    let last : behind ≡ f.2 = ap (λ p. p.1) pair in
    ap (λ x. Some (x, behind)) same ∙ ap (λ v. Some (bytes_where (λ b. not (in_members (f.0 ∷ f.1) b)), v)) last

excluded_none : (o : Option Members1) → ◌≡◌ {A = Option Set1} None (option_map members_set o) → ◌≡◌ {A = Option Set1} None (option_map {U = Set1} (λ f. (bytes_where (λ b. not (in_members (f.0 ∷ f.1) b)), f.2)) o)
excluded_none None e = refl
excluded_none (Some f) e = absurd (no_none (members_set f) e)

pub bracket_excluding : (text : List ℕ) (s t : set.FinSet nat_cmp) (behind : List ℕ) → begins_with 94 text ≡ true → ◌≡◌ {A = Option Set1} (Some (s, behind)) (option_map members_set (members_at behind_caret (drop 1 text))) →
    ((test : ℕ → Bool) → s ≡ bytes_where test → t ≡ bytes_where (λ b. not (test b))) → ◌≡◌ {A = Option Set1} (Some (t, behind)) (bracket_at text)
bracket_excluding text s t behind caret e h = excluded (members_at behind_caret (drop 1 text)) s t behind e h ∙ sym (pick_first (begins_with 94 text) _ _ caret)

pub bracket_excluding_none : (text : List ℕ) → begins_with 94 text ≡ true → ◌≡◌ {A = Option Set1} None (option_map members_set (members_at behind_caret (drop 1 text))) → ◌≡◌ {A = Option Set1} None (bracket_at text)
bracket_excluding_none text caret e = excluded_none (members_at behind_caret (drop 1 text)) e ∙ sym (pick_first (begins_with 94 text) _ _ caret)
