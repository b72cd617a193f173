-- The number of a flag, as the code reads it from a value's text.
use Rattle.std.proofs.Common.{◌≡◌, ◌<◌, ◌≤◌, ◌^◌, ℕ, Bool, true, false, refl, arith, List, Option, Some, None, Result, Ok, Err}
use Rattle.std.specs.Option.{option_map_or}
use Rattle.std.specs.Prelude.{if◌then◌else◌}
use Rattle.std.specs.Str.Parse.{ParsesUnsigned, digits_value, without_leading_plus}
use Rattle.clap.proofs.ValueTestLemmas.{Accepts-accepts, accepts-Accepts}
use Rattle.clap.specs.declared.builder.value_parser.ValueParser.TheVariants.{Unsigned}
use Rattle.clap.specs.ValueTests.{is_unsigned_in}
use Rattle.clap.specs.Matches.{ReadsOne}

abbrev number_of : List ℕ → ℕ
number_of t = digits_value 10 (without_leading_plus t)

abbrev number_as : ℕ → ℕ → ℕ → List ℕ → ℕ
number_as least most default t = if is_unsigned_in least most t then number_of t else default

-- a number from `least` to `most` was read
abbrev IsInRange : ℕ → ℕ → Option ℕ → Type 0
IsInRange least most r = (v : ℕ) × (r ≡ Some v) × (least ≤ v) × (v ≤ most)

-- the numbers from `least` to `most` are read as numbers of `bits` bits
module _ (bits least most default : ℕ) (fits : (n : ℕ) → n ≤ most → n < 2 ^ bits) (few : most < 2 ^ 64)
    {E : Type 0} (G : List ℕ → Result ℕ E → Type 0) (parses : (t : List ℕ) (x : Result ℕ E) → G t x → ParsesUnsigned bits 10 t x) where
  within : (t : List ℕ) (v : ℕ) → ParsesUnsigned {E = E} bits 10 t (Ok v) → least ≤ v → v ≤ most → v ≡ number_as least most default t
  within t v p some small =
      let is : v ≡ number_of t = p.1 in
      let passes : is_unsigned_in least most t ≡ true = Accepts-accepts false (Unsigned least most) t (p.0.0, omega (arith, is), omega (arith, is), omega (arith, is)) in
      rw passes is

  outside : (t : List ℕ) (r : Option ℕ) → ReadsOne G t r → (IsInRange least most r → ⊥) → default ≡ number_as least most default t
  outside t r read none = go (is_unsigned_in least most t) refl r read none
    where
      go : (b : Bool) → is_unsigned_in least most t ≡ b → (r : Option ℕ) → ReadsOne G t r → (IsInRange least most r → ⊥) → default ≡ number_as least most default t
      go false e r read none = rw e refl
      go true e (Some v) read none =
          let a = accepts-Accepts false (Unsigned least most) t e in
          let is : v ≡ number_of t = (parses t (Ok v) read).1 in
          absurd (none (v, refl, omega (arith, a.2, is), omega (arith, a.3, is)))
      go true e None read none =
          let a = accepts-Accepts false (Unsigned least most) t e in
          absurd (parses t (Err read.0) read.1 (a.0, fits (number_of t) a.3))

  pub in_range : (o : Option (List ℕ)) (r : Option ℕ) (v : ℕ) → (o ≡ None → r ≡ None) → ((t : List ℕ) → o ≡ Some t → ReadsOne G t r) → r ≡ Some v → least ≤ v → v ≤ most
      → v ≡ option_map_or (number_as least most default) o default
  in_range None r v none value is some small =
      let gone = none refl in
      cc
  in_range (Some t) r v none value is some small = within t v (parses t (Ok v) (rw is at (value t refl))) some small

  pub not_in_range : (o : Option (List ℕ)) (r : Option ℕ) → ((t : List ℕ) → o ≡ Some t → ReadsOne G t r) → (IsInRange least most r → ⊥) → default ≡ option_map_or (number_as least most default) o default
  not_in_range None r value none = refl
  not_in_range (Some t) r value none = outside t r (value t refl) none
