-- The set of brackets by that of their members.
use Rattle.std.proofs.Common.{◌≡◌, ℕ, Bool, true, false, not, List, [], ◌∷◌, ◌++◌, Option, Some, None, refl, sym, ap, ◌∙◌}
use Rattle.std.specs.FinSet as set
use Rattle.std.specs.Option.{option_map, option_and_then}
use Rattle.std.specs.Ordering.{nat_cmp}
use Rattle.lx_ere.specs.Bytes.{bytes_where}
use Rattle.lx_ere.specs.ChoiceLaws.{no_none, same_some}
use Rattle.lx_ere.specs.Lexing.{all_items_at}
use Rattle.lx_flex_pattern.specs.Sets.{Member, some_has, members_set, others_set}
use Rattle.lx_flex_pattern.specs.Spelling.{member_at, members_at}

abbrev SetAndText : Type 0
SetAndText = set.FinSet nat_cmp × List ℕ

abbrev MembersAndText : Type 0
MembersAndText = Member × List Member × List ℕ

-- the set of the members that were read
pub listed : (fold : Bool) (o : Option MembersAndText) (members : List Member) (rest : List ℕ) → ◌≡◌ {A = Option (List Member × List ℕ)} (Some (members, rest)) (option_map {U = List Member × List ℕ} (λ g. (g.0 ∷ g.1, g.2)) o) →
    ◌≡◌ {A = Option SetAndText} (Some (members_set fold members, rest)) (option_map {U = SetAndText} (λ f. (members_set fold (f.0 ∷ f.1), f.2)) o)
listed fold None members rest e = absurd (no_none (members, rest) (sym e))
listed fold (Some g) members rest e =
    let pair : ◌≡◌ {A = List Member × List ℕ} (members, rest) (g.0 ∷ g.1, g.2) = same_some (members, rest) (g.0 ∷ g.1, g.2) e in
    ap (λ p. Some (members_set fold (p.0), p.1)) pair

pub listed_none : (fold : Bool) (o : Option MembersAndText) → ◌≡◌ {A = Option (List Member × List ℕ)} None (option_map {U = List Member × List ℕ} (λ g. (g.0 ∷ g.1, g.2)) o) →
    ◌≡◌ {A = Option SetAndText} None (option_map {U = SetAndText} (λ f. (members_set fold (f.0 ∷ f.1), f.2)) o)
listed_none fold None e = refl
listed_none fold (Some g) e = absurd (no_none (g.0 ∷ g.1, g.2) e)

-- the bytes that the members haven't
pub others : (fold : Bool) (o : Option MembersAndText) (s t : set.FinSet nat_cmp) (rest : List ℕ) → ◌≡◌ {A = Option SetAndText} (Some (s, rest)) (option_map {U = SetAndText} (λ f. (members_set fold (f.0 ∷ f.1), f.2)) o) →
    ((test : ℕ → Bool) → s ≡ bytes_where test → t ≡ bytes_where (λ b. not (test b))) →
    ◌≡◌ {A = Option SetAndText} (Some (t, rest)) (option_map {U = SetAndText} (λ f. (others_set fold (f.0 ∷ f.1), f.2)) o)
others fold None s t rest e h = absurd (no_none (s, rest) (sym e))
others fold (Some f) s t rest e h =
    let pair : ◌≡◌ {A = SetAndText} (s, rest) (members_set fold (f.0 ∷ f.1), f.2) = same_some (s, rest) (members_set fold (f.0 ∷ f.1), f.2) e in
    let same : t ≡ others_set fold (f.0 ∷ f.1) = h (some_has fold (f.0 ∷ f.1)) (ap (λ p. p.0) pair) in
    ap (λ x. Some (x, rest)) same ∙ ap (λ p. Some (others_set fold (f.0 ∷ f.1), p.1)) pair

pub others_none : (fold : Bool) (o : Option MembersAndText) → ◌≡◌ {A = Option SetAndText} None (option_map {U = SetAndText} (λ f. (members_set fold (f.0 ∷ f.1), f.2)) o) →
    ◌≡◌ {A = Option SetAndText} None (option_map {U = SetAndText} (λ f. (others_set fold (f.0 ∷ f.1), f.2)) o)
others_none fold None e = refl
others_none fold (Some f) e = absurd (no_none (members_set fold (f.0 ∷ f.1), f.2) e)

abbrev ListAndText : Type 0
ListAndText = List Member × List ℕ

-- a first member, and those after it
pub first_and_more : (fold : Bool) (text rest : List ℕ) (m : Member) (members : List Member) (o : Option ListAndText) → member_at true fold text ≡ Some (m, rest) → members ≡ m ∷ [] →
    o ≡ option_map {U = ListAndText} (λ g. (members ++ g.0, g.1)) (all_items_at (member_at false fold) 93 rest) → o ≡ option_map {U = ListAndText} (λ g. (g.0 ∷ g.1, g.2)) (members_at fold text)
first_and_more fold text rest m members o at one e =
    e ∙ (ap (λ ms. option_map {U = ListAndText} (λ g. (ms ++ g.0, g.1)) (all_items_at (member_at false fold) 93 rest)) one
    ∙ (joined (all_items_at (member_at false fold) 93 rest)
    ∙ sym (ap (λ x. option_map {U = ListAndText} (λ g. (g.0 ∷ g.1, g.2)) (option_and_then {U = MembersAndText} (λ f. option_map {U = MembersAndText} (λ g. (f.0, g.0, g.1)) (all_items_at (member_at false fold) 93 (f.1))) x)) at)))
  where
    joined : (x : Option ListAndText) → option_map {U = ListAndText} (λ g. (m ∷ [] ++ g.0, g.1)) x ≡ option_map {U = ListAndText} (λ g. (g.0 ∷ g.1, g.2)) (option_map {U = MembersAndText} (λ g. (m, g.0, g.1)) x)
    joined None = refl
    joined (Some g) = refl
