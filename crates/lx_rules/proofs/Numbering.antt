-- The numbers that a map has at each name, after a number was added.
use Rattle.std.proofs.Common.{◌≡◌, ◌∙◌, ℕ, Bool, true, false, cond, List, Option, Ordering, Some, None, refl, ap, sym, subst}
use Rattle.std.specs.Prelude.{is_some}
use Rattle.std.specs.declared.alloc.Global.{Global}
use Rattle.std.specs.declared.vec.Vec.{Vec}
use Rattle.std.specs.BTreeMap.{BTreeMap, UpdatesBy, is_at}
use Rattle.std.specs.Cmp.Lexicographic.{slice_cmp}
use Rattle.std.specs.Map.{IsKeyTest, AreApart, KeepsOthers}
use Rattle.std.specs.Option.{option_or}
use Rattle.std.specs.Ordering.{nat_cmp, is_eq, eq_by_cmp}
use Rattle.std.specs.Str.{bytes_eq}
use Rattle.std.proofs.lemmas.Bool.{false≢true}
use Rattle.std.proofs.lemmas.Map.Text.{is_eq-slice_cmp}
use Rattle.std.proofs.lemmas.Slice.Eq.{bytes_eq-Decides}
use Rattle.lx_rules.specs.views.NameTables.{number_at}

-- names are compared by their bytes
abbrev names_cmp : Vec ℕ Global → Vec ℕ Global → Ordering
names_cmp x y = slice_cmp nat_cmp x.items y.items

same_name : (a b : List ℕ) → is_eq (slice_cmp nat_cmp a b) ≡ true → a ≡ b
same_name a b h = (bytes_eq-Decides a b).0 (sym (is_eq-slice_cmp a b) ∙ h)

is_key : (q : List ℕ) → IsKeyTest (eq_by_cmp names_cmp) (is_at (λ (k : Vec ℕ Global). slice_cmp nat_cmp q k.items))
is_key q x y h = ap (λ (l : List ℕ). is_eq (slice_cmp nat_cmp l y.items)) (same_name q x.items h)

are_apart : (name q : List ℕ) → bytes_eq name q ≡ false → AreApart (is_at (λ (k : Vec ℕ Global). slice_cmp nat_cmp name k.items)) (is_at (λ (k : Vec ℕ Global). slice_cmp nat_cmp q k.items))
are_apart name q e k h = by (is_eq (slice_cmp nat_cmp q k.items)) refl where
  by : (b : Bool) → is_eq (slice_cmp nat_cmp q k.items) ≡ b → b ≡ false
  by false g = refl
  by true g =
      let same : name ≡ q = same_name name k.items h ∙ sym (same_name q k.items g) in
      absurd (false≢true (sym e ∙ (bytes_eq-Decides name q).1 same))

-- the numbers at all names, after a change at one
pub number-after : (name : List ℕ) (m n : BTreeMap (Vec ℕ Global) ℕ) (w : Option ℕ) → UpdatesBy names_cmp (λ (k : Vec ℕ Global). slice_cmp nat_cmp name k.items) m n w
    → (q : List ℕ) → number_at n q ≡ cond (bytes_eq name q) w (number_at m q)
unfolding KeepsOthers
number-after name m n w u q = by (bytes_eq name q) refl where
  by : (b : Bool) → bytes_eq name q ≡ b → number_at n q ≡ cond b w (number_at m q)
  by true e = ap (number_at n) (sym ((bytes_eq-Decides name q).0 e)) ∙ u.1
  by false e = u.3 (is_at (λ (k : Vec ℕ Global). slice_cmp nat_cmp q k.items)) (is_key q) (are_apart name q e)

or-none : (o : Option ℕ) → o ≡ option_or o None
or-none None = refl
or-none (Some x) = refl

-- the number is added if the name had none
pub number-added : (name key : List ℕ) (m n : BTreeMap (Vec ℕ Global) ℕ) (number : ℕ) → key ≡ name → is_some (number_at m name) ≡ false
    → UpdatesBy names_cmp (λ (k : Vec ℕ Global). slice_cmp nat_cmp key k.items) m n (Some number) → (q : List ℕ) → number_at n q ≡ option_or (number_at m q) (cond (bytes_eq name q) (Some number) None)
number-added name key m n number e absent u q = by (bytes_eq name q) refl where
  is : number_at n q ≡ cond (bytes_eq name q) (Some number) (number_at m q)
  is = subst (λ (l : List ℕ). number_at n q ≡ cond (bytes_eq l q) (Some number) (number_at m q)) e (number-after key m n (Some number) u q)

  none : (o : Option ℕ) → is_some o ≡ false → o ≡ None
  none None h = refl
  none (Some x) h = absurd (false≢true (sym h))

  by : (b : Bool) → bytes_eq name q ≡ b → number_at n q ≡ option_or (number_at m q) (cond (bytes_eq name q) (Some number) None)
  by true h =
      let gone : number_at m q ≡ None = ap (number_at m) (sym ((bytes_eq-Decides name q).0 h)) ∙ none (number_at m name) absent in
      is ∙ ap (λ (b : Bool). cond b (Some number) (number_at m q)) h ∙ sym (ap (λ (o : Option ℕ). option_or o (cond (bytes_eq name q) (Some number) None)) gone ∙ ap (λ (b : Bool). cond b (Some number) None) h)
  by false h =
      is ∙ ap (λ (b : Bool). cond b (Some number) (number_at m q)) h ∙ or-none (number_at m q) ∙ sym (ap (λ (b : Bool). option_or (number_at m q) (cond b (Some number) None)) h)
