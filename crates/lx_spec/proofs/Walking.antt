-- Three facts are decidable, one mention after the other: if mentions lead from a definition to a mark, the number of names that follow, and the
-- reached definitions.
use Rattle.std.proofs.Common.{◌≡◌, ℕ, zero, suc, ◌<◌, ◌⊎◌, inl, inr, Bool, List, [], ◌∷◌, Option, length, get_or, Contains, refl, sym, subst, arith}
use Rattle.std.specs.Prelude.{IsTrue}
use native.Mathlib.Decide.{ℕ_discrete}
use Rattle.lx_ere.specs.Regex.{Regex}
use Rattle.lx_ere.proofs.Deciding.{along as alike, both, either, decide_true, decide_below, decide_in}
use Rattle.lx_spec.specs.Sections.{RawDefinition}
use Rattle.lx_spec.specs.Dictionary.{row_of, mentions_of}
use Rattle.lx_spec.specs.Graph.{nowhere, IsMention, Leads, itself, along, is_marked, Follow}
use Rattle.lx_spec.specs.Outcome.{IsReached, named_in, mentioned}
use Rattle.lx_spec.specs.declared.graph.Mention.{Mention}

-- ---- one mention more

mention_first : (e : Mention) (ms : List Mention) → IsMention (e ∷ ms) e.from e.to
mention_first e ms = record { place = 0; within = omega arith; from = refl; to = refl }

mention_later : (e : Mention) (ms : List Mention) (i j : ℕ) → IsMention ms i j → IsMention (e ∷ ms) i j
mention_later e ms i j m = let l = m.within in record { place = suc m.place; within = omega arith; from = m.from; to = m.to }

mention_cases : (e : Mention) (ms : List Mention) (i j : ℕ) → IsMention (e ∷ ms) i j → ((e.from ≡ i) × (e.to ≡ j)) ⊎ IsMention ms i j
mention_cases e ms i j m = by m.place m.within m.from m.to where
  by : (place : ℕ) → place < length (e ∷ ms) → (get_or (e ∷ ms) place nowhere).from ≡ i → (get_or (e ∷ ms) place nowhere).to ≡ j → ((e.from ≡ i) × (e.to ≡ j)) ⊎ IsMention ms i j
  by zero less f t = inl (f, t)
  by (suc place) less f t = inr (record { place = place; within = omega (arith, less); from = f; to = t })

-- From this definition mentions lead to one of the kind, which may be itself.
data Walks (ms : List Mention) (P : ℕ → Type 0) : ℕ → Type 0 where
  ends : (i : ℕ) → P i → Walks ms P i
  steps : (i j : ℕ) → IsMention ms i j → Walks ms P j → Walks ms P i

module _ (e : Mention) (ms : List Mention) (P : ℕ → Type 0) where
  widened : (i : ℕ) → Walks ms P i → Walks (e ∷ ms) P i
  widened _ (ends i p) = ends i p
  widened _ (steps i j m w) = steps i j (mention_later e ms i j m) (widened j w)

  -- up to the first mention, along it, and on from there
  joined : (i : ℕ) → Walks ms (λ k. k ≡ e.from) i → Walks ms P e.to → Walks (e ∷ ms) P i
  joined _ (ends i is) v = steps i e.to (subst (λ (k : ℕ). IsMention (e ∷ ms) k e.to) (sym is) (mention_first e ms)) (widened e.to v)
  joined _ (steps i j m w) v = steps i j (mention_later e ms i j m) (joined j w v)

  -- without the first mention, or along it once
  Parts : ℕ → Type 0
  Parts i = Walks ms P i ⊎ (Walks ms (λ k. k ≡ e.from) i × Walks ms P e.to)

  part_more : (i j : ℕ) → ((e.from ≡ i) × (e.to ≡ j)) ⊎ IsMention ms i j → Parts j → Parts i
  unfolding Parts
  part_more i j (inl (f, t)) (inl w) = inr (ends i (sym f), subst (Walks ms P) (sym t) w)
  part_more i j (inl (f, t)) (inr (w, v)) = inr (ends i (sym f), v)
  part_more i j (inr m) (inl w) = inl (steps i j m w)
  part_more i j (inr m) (inr (w, v)) = inr (steps i j m w, v)

  parts_of : (i : ℕ) → Walks (e ∷ ms) P i → Parts i
  unfolding Parts
  parts_of _ (ends i p) = inl (ends i p)
  parts_of _ (steps i j m w) = part_more i j (mention_cases e ms i j m) (parts_of j w)

  of_parts : (i : ℕ) → Parts i → Walks (e ∷ ms) P i
  unfolding Parts
  of_parts i (inl w) = widened i w
  of_parts i (inr (w, v)) = joined i w v

  decide_parts : (i : ℕ) → Dec (Walks ms P i) → Dec (Walks ms (λ k. k ≡ e.from) i) → Dec (Walks ms P e.to) → Dec (Walks (e ∷ ms) P i)
  unfolding Parts
  decide_parts i d f t = alike (of_parts i) (parts_of i) (either d (both f t))

stays : (P : ℕ → Type 0) (i : ℕ) → Walks [] P i → P i
stays P _ (ends i p) = p
stays P _ (steps i j m w) = let l = m.within in absurd (omega arith)

decide_walks : (ms : List Mention) (P : ℕ → Type 0) → ((i : ℕ) → Dec (P i)) → (i : ℕ) → Dec (Walks ms P i)
decide_walks [] P d i = alike (ends i) (stays P i) (d i)
decide_walks (e ∷ ms) P d i = decide_parts e ms P i (decide_walks ms P d i) (decide_walks ms (λ k. k ≡ e.from) (λ k. ℕ_discrete k e.from) i) (decide_walks ms P d e.to)

-- ---- the definitions that lead to a mark

abbrev Marked : List Bool → ℕ → Type 0
Marked marks k = IsTrue (is_marked marks k)

walks_lead : (ms : List Mention) (marks : List Bool) (i : ℕ) → Walks ms (Marked marks) i → Leads ms marks i
walks_lead ms marks _ (ends i h) = itself i h
walks_lead ms marks _ (steps i j m w) = along i j m (walks_lead ms marks j w)

leads_walk : (ms : List Mention) (marks : List Bool) (i : ℕ) → Leads ms marks i → Walks ms (Marked marks) i
leads_walk ms marks _ (itself i h) = ends i h
leads_walk ms marks _ (along i j m l) = steps i j m (leads_walk ms marks j l)

pub decide_leads : (ms : List Mention) (marks : List Bool) (i : ℕ) → Dec (Leads ms marks i)
decide_leads ms marks i = alike (walks_lead ms marks i) (leads_walk ms marks i) (decide_walks ms (Marked marks) (λ k. decide_true (is_marked marks k)) i)

-- ---- the number of names that follow

-- mention k is one by definition i, and n more names follow the mentioned one
abbrev FollowsAt : List Mention → ℕ → ℕ → ℕ → Type 0
FollowsAt ms n i k = ((get_or ms k nowhere).from ≡ i) × Follow (IsMention ms) n (get_or ms k nowhere).to

follows : (ms : List Mention) (n i k : ℕ) → k < length ms → FollowsAt ms n i k → Follow (IsMention ms) (suc n) i
follows ms n i k less h = ((get_or ms k nowhere).to, record { place = k; within = less; from = h.0; to = refl }, h.1)

follows_at : (ms : List Mention) (n i j : ℕ) → IsMention ms i j → Follow (IsMention ms) n j → (k : ℕ) × (k < length ms) × FollowsAt ms n i k
follows_at ms n i j m f = (m.place, m.within, (m.from, subst (Follow (IsMention ms) n) (sym m.to) f))

pub decide_follow : (ms : List Mention) (n i : ℕ) → Dec (Follow (IsMention ms) n i)
decide_follow ms zero i = yes tt
decide_follow ms (suc n) i =
    alike (λ h. follows ms n i h.0 h.1 h.2) (λ h. follows_at ms n i h.0 h.1 h.2)
    (decide_below (FollowsAt ms n i) (λ k. both (ℕ_discrete (get_or ms k nowhere).from i) (decide_follow ms n (get_or ms k nowhere).to)) (length ms))

-- ---- the reached definitions

one_further : (ms : List Mention) (i j : ℕ) → IsMention ms i j → (s : ℕ) → Walks ms (λ k. k ≡ i) s → Walks ms (λ k. k ≡ j) s
one_further ms i j m _ (ends s is) = steps s j (subst (λ (k : ℕ). IsMention ms k j) (sym is) m) (ends j refl)
one_further ms i j m _ (steps s k n w) = steps s k n (one_further ms i j m k w)

module _ (raw_definitions : List RawDefinition) (trees : List (Option Regex)) (from : List Regex) where
  -- the expression names a definition from which mentions lead to definition j
  LeadsFrom : ℕ → Regex → Type 0
  LeadsFrom j tree = (s : ℕ) × Contains (row_of raw_definitions tree) s × Walks (mentions_of raw_definitions trees) (λ k. k ≡ j) s

  reached_on : (j s : ℕ) → Walks (mentions_of raw_definitions trees) (λ k. k ≡ j) s → IsReached raw_definitions trees from s → IsReached raw_definitions trees from j
  reached_on j _ (ends s is) r = subst (IsReached raw_definitions trees from) is r
  reached_on j _ (steps s k m w) r = reached_on j k w (mentioned s k r m)

  reached_by : (j : ℕ) (tree : Regex) → Contains from tree → LeadsFrom j tree → IsReached raw_definitions trees from j
  unfolding LeadsFrom
  reached_by j tree at h = reached_on j h.0 h.2 (named_in tree h.0 at h.1)

  reached_from : (j : ℕ) → IsReached raw_definitions trees from j → (tree : Regex) × Contains from tree × LeadsFrom j tree
  unfolding LeadsFrom
  reached_from _ (named_in tree j at in_row) = (tree, at, (j, in_row, ends j refl))
  reached_from _ (mentioned i j r m) =
      let h = reached_from i r in
      (h.0, h.1, (h.2.0, h.2.1, one_further (mentions_of raw_definitions trees) i j m h.2.0 h.2.2))

  decide_from : (j : ℕ) (tree : Regex) → Dec (LeadsFrom j tree)
  unfolding LeadsFrom
  decide_from j tree =
      decide_in (Walks (mentions_of raw_definitions trees) (λ k. k ≡ j)) (decide_walks (mentions_of raw_definitions trees) (λ k. k ≡ j) (λ k. ℕ_discrete k j)) (row_of raw_definitions tree)

  pub decide_reached : (j : ℕ) → Dec (IsReached raw_definitions trees from j)
  decide_reached j = alike (λ h. reached_by j h.0 h.1 h.2) (reached_from j) (decide_in (LeadsFrom j) (decide_from j) from)
