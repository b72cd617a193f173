-- A test that names are distinct, from the last one on.
use Rattle.std.proofs.Common.{◌≡◌, ℕ, zero, suc, ◌+◌, ◌<◌, Bool, true, false, Option, Some, None, List, [], ◌∷◌, length, drop, get_or, refl, sym, ◌∙◌, ap, ap₂, arith}
use Rattle.std.specs.Prelude.{not, ◌&&◌, ◌||◌, cond, nat_eq}
use Rattle.std.specs.Cmp.Lexicographic.{pointwise}
use Rattle.std.specs.List.{list_any}
use Rattle.std.specs.Option.{is_some, option_or}
use Rattle.std.specs.declared.alloc.Global.{Global}
use Rattle.std.specs.declared.vec.Vec.{Vec}
use Rattle.std.proofs.lemmas.List.{drop_more, drop_all, get_or-map, length-map}
use Rattle.lx_rules.specs.Invariant.{are_distinct}
use Rattle.lx_rules.specs.views.Rules.{names_view}

-- true if a name is one of these
abbrev pub is_among : List (List ℕ) → List ℕ → Bool
is_among names name = list_any (λ other. pointwise nat_eq other name) names

pub seen_more : (names : List (List ℕ)) (at number : ℕ) (name q : List ℕ) (old : Option ℕ) → at < length names → name ≡ get_or names at [] →
    is_some old ≡ is_among (drop (at + 1) names) q → is_some (option_or old (cond (pointwise nat_eq name q) (Some number) None)) ≡ is_among (drop at names) q
seen_more names at number name q old l is h =
    by old (pointwise nat_eq name q) (is_among (drop (at + 1) names) q) h
    ∙ ap (λ n. pointwise nat_eq n q || is_among (drop (at + 1) names) q) is
    ∙ ap (λ (ns : List (List ℕ)). is_among ns q) (sym (drop_more names at [] l))
  where
    by : (old : Option ℕ) (b c : Bool) → is_some old ≡ c → is_some (option_or old (cond b (Some number) None)) ≡ (b || c)
    by None true c e = refl
    by None false c e = e
    by (Some n) true c e = refl
    by (Some n) false c e = e

pub distinct_more : (names : List (List ℕ)) (at : ℕ) (name : List ℕ) → at < length names → name ≡ get_or names at [] →
    is_among (drop (at + 1) names) name ≡ false → are_distinct (drop (at + 1) names) ≡ true → are_distinct (drop at names) ≡ true
distinct_more names at name l is fresh h =
    ap (λ (ns : List (List ℕ)). are_distinct ns) (drop_more names at [] l)
    ∙ ap₂ (λ (b c : Bool). not b && c) (ap (λ n. is_among (drop (at + 1) names) n) (sym is) ∙ fresh) h

-- a name that comes again
pub distinct_no_more : (names : List (List ℕ)) (at : ℕ) (name : List ℕ) → at < length names → name ≡ get_or names at [] →
    is_among (drop (at + 1) names) name ≡ true → are_distinct names ≡ false
distinct_no_more names at name l is again =
    whole at names
    (ap (λ (ns : List (List ℕ)). are_distinct ns) (drop_more names at [] l)
    ∙ ap (λ (b : Bool). not b && are_distinct (drop (at + 1) names)) (ap (λ n. is_among (drop (at + 1) names) n) (sym is) ∙ again))
  where
    by : (b c : Bool) → c ≡ false → (b && c) ≡ false
    by true c e = e
    by false c e = refl

    whole : (k : ℕ) (names : List (List ℕ)) → are_distinct (drop k names) ≡ false → are_distinct names ≡ false
    whole zero names h = h
    whole (suc k) [] h = h
    whole (suc k) (n ∷ names) h = by (not (is_among names n)) (are_distinct names) (whole k names h)

-- ---- the same over the names of the code
module _ (vs : List (Vec ℕ Global)) where
  abbrev names : List (List ℕ)
  names = names_view vs

  long : length names ≡ length vs
  long = length-map vs (λ v. v.items)

  name_at : (at : ℕ) (v : Vec ℕ Global) → at < length vs → v ≡ get_or vs at v → v.items ≡ get_or names at []
  name_at at v l is = ap (λ (x : Vec ℕ Global). x.items) is ∙ sym (get_or-map (λ x. x.items) vs at v [] l)

  pub seen_next : (at number : ℕ) (v : Vec ℕ Global) (name q : List ℕ) (old : Option ℕ) → at < length vs → v ≡ get_or vs at v → name ≡ v.items →
      is_some old ≡ is_among (drop (at + 1) names) q → is_some (option_or old (cond (pointwise nat_eq name q) (Some number) None)) ≡ is_among (drop at names) q
  seen_next at number v name q old l is e h = seen_more names at number name q old (omega (arith, long)) (e ∙ name_at at v l is) h

  pub distinct_next : (at : ℕ) (v : Vec ℕ Global) (name : List ℕ) → at < length vs → v ≡ get_or vs at v → name ≡ v.items →
      is_among (drop (at + 1) names) name ≡ false → are_distinct (drop (at + 1) names) ≡ true → are_distinct (drop at names) ≡ true
  distinct_next at v name l is e fresh h = distinct_more names at name (omega (arith, long)) (e ∙ name_at at v l is) fresh h

  pub distinct_again : (at : ℕ) (v : Vec ℕ Global) (name : List ℕ) → at < length vs → v ≡ get_or vs at v → name ≡ v.items →
      is_among (drop (at + 1) names) name ≡ true → are_distinct names ≡ false
  distinct_again at v name l is e again = distinct_no_more names at name (omega (arith, long)) (e ∙ name_at at v l is) again

  pub none_seen : (q : List ℕ) → is_among (drop (length vs) names) q ≡ false
  none_seen q = ap (λ (ns : List (List ℕ)). is_among ns q) (drop_all (length vs) names (omega (arith, long)))

  pub none_distinct : are_distinct (drop (length vs) names) ≡ true
  none_distinct = ap (λ (ns : List (List ℕ)). are_distinct ns) (drop_all (length vs) names (omega (arith, long)))
