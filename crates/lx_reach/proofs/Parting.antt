-- Readings of trailing context.
use Rattle.std.proofs.Common.{◌≡◌, ◌≢◌, ℕ, ◌<◌, true, false, List, [], ◌∷◌, ◌++◌, Option, Some, None, All, length, refl, sym, ◌∙◌, ap, subst, arith}
use Rattle.std.proofs.lemmas.List.{append_assoc, length_push}
use Rattle.std.proofs.lemmas.List.Elements.{All-nil, All-push}
use Rattle.lx_automaton.specs.Automata.{Machine, accepted_at, start_of, state_after, state_count}
use Rattle.lx_reach.specs.Contexts.{IsContextReading, IsNextContext, IsReading, IsState, IsToken, NoneAccepted, context_state, has_begun, reached_by}
use Rattle.lx_reach.specs.declared.contexts.ContextReading.{ContextReading}
use Rattle.lx_reach.specs.declared.contexts.ContextReading.TheVariants.{NotBegun, Begins, At}
use Rattle.lx_reach.specs.declared.contexts.EmptyParts.{EmptyParts}
use Rattle.lx_reach.specs.declared.contexts.Reading.{Reading}
use Rattle.lx_reach.proofs.Reaching.{both}

swap : (t : List ℕ) (b : ℕ) → (t ++ b ∷ []) ++ [] ≡ (t ++ []) ++ b ∷ []
swap [] b = refl
swap (c ∷ t) b = ap (λ x. c ∷ x) (swap t b)

some_pushed : (r : List ℕ) (b : ℕ) → r ++ b ∷ [] ≢ []
some_pushed r b e = let l = length_push r b in let n : length (r ++ b ∷ []) ≡ 0 = ap (λ x. length x) e in omega arith

one_more : (m : Machine) (condition : ℕ) (text : List ℕ) (byte : ℕ) (state : Option ℕ) → reached_by m condition text ≡ state →
    reached_by m condition (text ++ byte ∷ []) ≡ state_after m state (byte ∷ [])
one_more m condition text byte state is = both m (Some (start_of m condition false)) text (byte ∷ []) ∙ ap (λ o. state_after m o (byte ∷ [])) is

none_more : (m : Machine) (state : Option ℕ) (rest : List ℕ) (byte : ℕ) → NoneAccepted m state rest → accepted_at m (state_after m state (rest ++ byte ∷ [])) ≡ None →
    NoneAccepted m state (rest ++ byte ∷ [])
none_more m state [] byte none last = (last, tt)
none_more m state (b ∷ rest) byte none last =
    (none.0, none_more m (state_after m state (b ∷ [])) rest byte none.1 (ap (λ o. accepted_at m o) (sym (both m state (b ∷ []) (rest ++ byte ∷ []))) ∙ last))

-- the text after the last text of r is one byte longer
pub behind_token : (m : Machine) (parts : EmptyParts) (old : Reading) (r : IsReading m parts old) (token : Option ℕ) (whole : ℕ) (state : Option ℕ) (byte : ℕ) → byte < 256 →
    token ≡ state_after m old.token (byte ∷ []) → Some whole ≡ state_after m (Some old.whole) (byte ∷ []) → IsState m token → whole < state_count m → IsState m state →
    IsToken m parts r.token → NoneAccepted m (reached_by m 1 r.token) r.rest → accepted_at m token ≡ None → reached_by m 3 (r.rest ++ byte ∷ []) ≡ state →
    IsReading m parts (record { token = token; whole = whole; context = At state })
behind_token m parts old r token whole state byte small is_token is_whole known known_whole known_state of_token none last is_state =
    let longer = sym (append_assoc r.token r.rest (byte ∷ [])) in
    let reached : (condition : ℕ) (s : Option ℕ) → reached_by m condition (r.token ++ r.rest) ≡ s → reached_by m condition (r.token ++ (r.rest ++ byte ∷ [])) ≡ state_after m s (byte ∷ []) =
    λ condition s is. ap (λ x. reached_by m condition x) longer ∙ one_more m condition (r.token ++ r.rest) byte s is in
    let at_token : reached_by m 1 (r.token ++ (r.rest ++ byte ∷ [])) ≡ token = reached 1 old.token r.at_token ∙ sym is_token in
    record {
      token = r.token;
      rest = r.rest ++ byte ∷ [];
      bytes = subst (λ x. All (λ b. b < 256) x) (sym longer) (All-push (λ b. b < 256) (r.token ++ r.rest) byte r.bytes small);
      at_token = at_token;
      at_whole = reached 2 (Some old.whole) r.at_whole ∙ sym is_whole;
      at_context = record {
        is_token = of_token;
        some = some_pushed r.rest byte;
        at_state = is_state;
        is_longest = none_more m (reached_by m 1 r.token) r.rest byte none
            (ap (λ o. accepted_at m o) (sym (both m (Some (start_of m 1 false)) r.token (r.rest ++ byte ∷ [])) ∙ at_token) ∙ last);
      };
      is_state = known;
      is_whole_state = known_whole;
      is_context_state = known_state;
    }

-- before the first text of r the text is one byte longer
pub before_token : (m : Machine) (parts : EmptyParts) (old : Reading) (r : IsReading m parts old) (token : Option ℕ) (whole : ℕ) (byte : ℕ) → byte < 256 →
    token ≡ state_after m old.token (byte ∷ []) → Some whole ≡ state_after m (Some old.whole) (byte ∷ []) → IsState m token → whole < state_count m → r.rest ≡ [] →
    IsReading m parts (record { token = token; whole = whole; context = NotBegun })
before_token m parts old r token whole byte small is_token is_whole known known_whole none =
    let longer : (r.token ++ byte ∷ []) ++ r.rest ≡ (r.token ++ r.rest) ++ byte ∷ [] =
    subst (λ x. (r.token ++ byte ∷ []) ++ x ≡ (r.token ++ x) ++ byte ∷ []) (sym none) (swap r.token byte) in
    let reached : (condition : ℕ) (s : Option ℕ) → reached_by m condition (r.token ++ r.rest) ≡ s → reached_by m condition ((r.token ++ byte ∷ []) ++ r.rest) ≡ state_after m s (byte ∷ []) =
    λ condition s is. ap (λ x. reached_by m condition x) longer ∙ one_more m condition (r.token ++ r.rest) byte s is in
    record {
      token = r.token ++ byte ∷ [];
      rest = r.rest;
      bytes = subst (λ x. All (λ b. b < 256) x) (sym longer) (All-push (λ b. b < 256) (r.token ++ r.rest) byte r.bytes small);
      at_token = reached 1 old.token r.at_token ∙ sym is_token;
      at_whole = reached 2 (Some old.whole) r.at_whole ∙ sym is_whole;
      at_context = none;
      is_state = known;
      is_whole_state = known_whole;
      is_context_state = tt;
    }

-- ---- one byte more, in each context
-- the fact that `old` has begun or not decides which text is longer
pub next_of : (m : Machine) (parts : EmptyParts) (t : Option ℕ) (w : ℕ) (old : ContextReading) → IsReading m parts (record { token = t; whole = w; context = old }) →
    (token : Option ℕ) (whole : ℕ) (next : ContextReading) (byte : ℕ) → byte < 256 →
    token ≡ state_after m t (byte ∷ []) → Some whole ≡ state_after m (Some w) (byte ∷ []) → IsState m token → whole < state_count m → IsState m (context_state next) →
    IsNextContext m old byte next → (has_begun old ≡ true → accepted_at m token ≡ None) →
    IsReading m parts (record { token = token; whole = whole; context = next })
next_of m parts t w NotBegun r token whole next byte small is_token is_whole known known_whole known_state is last =
    subst (λ x. IsReading m parts (record { token = token; whole = whole; context = x })) (sym is)
    (before_token m parts _ r token whole byte small is_token is_whole known known_whole r.at_context)
next_of m parts t w Begins r token whole next byte small is_token is_whole known known_whole known_state is last =
    subst (λ x. IsReading m parts (record { token = token; whole = whole; context = x })) (sym is)
    (behind_token m parts _ r token whole (reached_by m 3 (byte ∷ [])) byte small is_token is_whole known known_whole (subst (λ x. IsState m (context_state x)) is known_state)
    r.at_context.1 (subst (λ x. NoneAccepted m (reached_by m 1 r.token) x) (sym r.at_context.0) tt) (last refl) (ap (λ x. reached_by m 3 (x ++ byte ∷ [])) r.at_context.0))
next_of m parts t w (At state) r token whole next byte small is_token is_whole known known_whole known_state is last =
    subst (λ x. IsReading m parts (record { token = token; whole = whole; context = x })) (sym is)
    (behind_token m parts _ r token whole (state_after m state (byte ∷ [])) byte small is_token is_whole known known_whole (subst (λ x. IsState m (context_state x)) is known_state)
    r.at_context.is_token r.at_context.is_longest (last refl) (one_more m 3 r.rest byte state r.at_context.at_state))

-- ---- no byte
pub begun : (m : Machine) (parts : EmptyParts) (token whole : ℕ) (context : ContextReading) → token ≡ start_of m 1 false → whole ≡ start_of m 2 false → token < state_count m → whole < state_count m →
    IsContextReading m parts [] [] context → IsState m (context_state context) → IsReading m parts (record { token = Some token; whole = whole; context = context })
begun m parts token whole context is_token is_whole below below_whole reads known = record {
  token = [];
  rest = [];
  bytes = All-nil (λ b. b < 256);
  at_token = ap (λ (x : ℕ). Some x) (sym is_token);
  at_whole = ap (λ (x : ℕ). Some x) (sym is_whole);
  at_context = reads;
  is_state = below;
  is_whole_state = below_whole;
  is_context_state = known;
}
