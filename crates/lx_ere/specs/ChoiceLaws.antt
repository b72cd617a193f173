-- The origins of a result of `if`, `option_map` or `option_and_then`. All here are proofs, of which only the statements need be read.
use Rattle.std.proofs.Common.{◌≡◌, ℕ, ◌⊎◌, inl, inr, Bool, true, false, nat_eq, cond, List, [], ◌∷◌, ◌++◌, drop, Option, Some, None, refl, ap, arith}
use Rattle.std.specs.Option.{option_map, option_and_then}
use Rattle.std.proofs.lemmas.Bool.{eqb-true, false≢true}
use Rattle.std.proofs.lemmas.Bool.Decides.{nat_tests}
use Rattle.lx_ere.specs.Brackets.{begins_with}
use Rattle.lx_ere.specs.Lexing.{behind_byte}

pub pick_first : {A : Type 0} (b : Bool) (x y : A) → b ≡ true → cond b x y ≡ x
pick_first b x y e = rw e refl

pub pick_second : {A : Type 0} (b : Bool) (x y : A) → b ≡ false → cond b x y ≡ y
pick_second b x y e = rw e refl

pub cases_of : {A : Type 0} (b : Bool) (x y z : A) → cond b x y ≡ z → ((b ≡ true) × (x ≡ z)) ⊎ ((b ≡ false) × (y ≡ z))
cases_of true x y z e = inl (refl, e)
cases_of false x y z e = inr (refl, e)

pub no_none : {A : Type 0} (x : A) → ◌≡◌ {A = Option A} None (Some x) → ⊥
no_none x e = cc

pub same_some : {A : Type 0} (x y : A) → ◌≡◌ {A = Option A} (Some x) (Some y) → x ≡ y
same_some x y e = cc

pub map_is : {A B : Type 0} (f : A → B) (o : Option A) (y : B) → option_map f o ≡ Some y → (x : A) × (o ≡ Some x) × (f x ≡ y)
map_is f None y e = absurd (no_none y e)
map_is f (Some x) y e = (x, refl, same_some (f x) y e)

pub then_is : {A B : Type 0} (f : A → Option B) (o : Option A) (y : B) → option_and_then f o ≡ Some y → (x : A) × (o ≡ Some x) × (f x ≡ Some y)
then_is f None y e = absurd (no_none y e)
then_is f (Some x) y e = (x, refl, e)

pub eq_other : (a b : ℕ) → (a ≡ b → ⊥) → nat_eq a b ≡ false
eq_other a b h = grind (arith, nat_tests)

pub eq_same : (a : ℕ) → nat_eq a a ≡ true
eq_same a = grind (arith, nat_tests)

-- a text that begins with the byte
pub begins_is : (c : ℕ) (text : List ℕ) → begins_with c text ≡ true → text ≡ c ∷ drop 1 text
begins_is c [] e = absurd (false≢true e)
begins_is c (d ∷ text) e = ap (λ x. x ∷ text) (eqb-true d c e)

pub behind_byte_is : (c : ℕ) (text rest : List ℕ) → behind_byte c text ≡ Some rest → text ≡ c ∷ rest
behind_byte_is c [] rest e = absurd (no_none rest e)
behind_byte_is c (d ∷ text) rest e = go (cases_of (nat_eq d c) (Some text) None (Some rest) e)
  where
    go : ((nat_eq d c ≡ true) × ◌≡◌ {A = Option (List ℕ)} (Some text) (Some rest)) ⊎ ((nat_eq d c ≡ false) × ◌≡◌ {A = Option (List ℕ)} None (Some rest)) → d ∷ text ≡ c ∷ rest
    go (inl (b, f)) = let is : d ≡ c = eqb-true d c b in let same : text ≡ rest = same_some text rest f in cc
    go (inr (b, f)) = absurd (no_none rest f)

pub behind_byte_at : (c : ℕ) (rest : List ℕ) → behind_byte c (c ∷ rest) ≡ Some rest
behind_byte_at c rest = pick_first (nat_eq c c) (Some rest) None (eq_same c)

-- a front of the text spells x
pub record IsSpelledPrefix {A : Type 0} (Item : List ℕ → A → List ℕ → Type 0) (text : List ℕ) (x : A) (behind : List ℕ) : Type 0 where
  pub prefix : List ℕ
  pub spelled : Item prefix x behind
  pub joins : text ≡ prefix ++ behind
