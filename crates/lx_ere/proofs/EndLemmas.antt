-- Steps of the loops that look for the end of a pattern.
use Rattle.std.proofs.Common.{◌≡◌, ℕ, true, ◌&&◌, nat_eq, List, [], ◌∷◌, length, drop, refl, sym, ap, subst, arith}
use Rattle.std.proofs.lemmas.Bool.{eqb-true, and_parts}
use Rattle.lx_ere.specs.Brackets.{begins_with}
use Rattle.lx_ere.specs.PatternGrammar.{BehindQuotes, quote_escape, quote_open, quote_slash, BehindMark, mark_closes, IsInner, BehindBrackets, bracket_escape, bracket_open, bracket_slash, bracket_inner, BehindPattern, at_end, past_escape, past_slash}
use Rattle.lx_ere.specs.ChoiceLaws.{begins_is}

pub no_bytes : (text : List ℕ) → length text ≡ 0 → text ≡ []
no_bytes [] h = refl
no_bytes (c ∷ text) h = absurd (omega (arith, h))

pub quotes_escape : (text behind : List ℕ) → BehindQuotes (drop 1 text) behind → BehindQuotes (92 ∷ text) behind
quotes_escape [] behind h = at_end behind h
  where
    at_end : (behind : List ℕ) → BehindQuotes [] behind → BehindQuotes (92 ∷ []) behind
    at_end _ quote_open = quote_slash
quotes_escape (c ∷ text) behind h = quote_escape c text behind h

pub brackets_escape : (text behind : List ℕ) → BehindBrackets (drop 1 text) behind → BehindBrackets (92 ∷ text) behind
brackets_escape [] behind h = at_end behind h
  where
    at_end : (behind : List ℕ) → BehindBrackets [] behind → BehindBrackets (92 ∷ []) behind
    at_end _ bracket_open = bracket_slash
brackets_escape (c ∷ text) behind h = bracket_escape c text behind h

pub pattern_escape : (text behind : List ℕ) → BehindPattern (drop 1 text) behind → BehindPattern (92 ∷ text) behind
pattern_escape [] behind h = go behind h
  where
    go : (behind : List ℕ) → BehindPattern [] behind → BehindPattern (92 ∷ []) behind
    go _ at_end = past_slash
pattern_escape (c ∷ text) behind h = past_escape c text behind h

pub mark_found : (mark first : ℕ) (text : List ℕ) → (nat_eq first mark && begins_with 93 text) ≡ true → BehindMark mark (first ∷ text) (drop 1 text)
mark_found mark first text h =
    let both = and_parts (nat_eq first mark) (begins_with 93 text) h in
    let is : first ≡ mark = eqb-true first mark both.0 in
    let t : List ℕ = drop 1 text in
    subst (λ c. BehindMark mark (c ∷ text) (drop 1 text)) (sym is) (subst (λ x. BehindMark mark (mark ∷ x) t) (sym (begins_is 93 text both.1)) (mark_closes mark t))

pub inner_found : (mark first : ℕ) (text rest behind : List ℕ) → IsInner mark first text → BehindMark mark (drop 2 text) rest → BehindBrackets rest behind → BehindBrackets (first ∷ text) behind
inner_found mark first text rest behind i h more =
    let two : drop 2 text ≡ drop 1 (drop 1 text) = ap (drop 2) i.follows_mark in
    let whole : BehindBrackets (91 ∷ mark ∷ drop 1 text) behind = bracket_inner mark (drop 1 text) rest behind i.is_mark (subst (λ t. BehindMark mark t rest) two h) more in
    subst (λ c. BehindBrackets (c ∷ text) behind) (sym i.opens) (subst (λ t. BehindBrackets (91 ∷ t) behind) (sym i.follows_mark) whole)
