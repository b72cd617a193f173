-- Texts that are lists of names. Each name has a separator after it, which the last one may lack.
use Rattle.std.specs.Prelude.{◌≡◌, ◌≢◌, ℕ, ◌+◌, ◌<◌, ◌≤◌, nat_eq, if◌then◌else◌, true, false, ⊤, List, [], ◌∷◌, ◌++◌, ◌⊎◌, All, Option, Some, None, length}
use Rattle.std.specs.List.{flat_map}
use Rattle.std.specs.Str.{is_utf8}
use Rattle.lx_forms.specs.declared.name_list.NameListFault.{NameListFault}
use Rattle.lx_forms.specs.declared.name_list.NameListFault.TheVariants.{NoName, TooMany, Memory}

-- names, each with the separator after it
abbrev pub ended : ℕ → List (List ℕ) → List ℕ
ended separator names = flat_map (λ name. name ++ separator ∷ []) names

-- the separator isn't among the bytes
abbrev pub IsFree : ℕ → List ℕ → Type 0
IsFree separator bytes = All (λ byte. byte ≢ separator) bytes

-- a name: some characters (RFC 3629) without the separator
pub record IsName (separator : ℕ) (name : List ℕ) : Type 0 where
  pub some : name ≢ []
  pub characters : is_utf8 name ≡ true
  pub free : IsFree separator name

-- the text is the list of these names
pub record IsListOf (separator : ℕ) (text : List ℕ) (names : List (List ℕ)) : Type 0 where
  pub names_are : All (IsName separator) names
  pub text_is : (text ≡ ended separator names) ⊎ (text ++ separator ∷ [] ≡ ended separator names)

-- it begins with these names, and this is the rest of it
pub record BeginsWith (separator : ℕ) (text : List ℕ) (names : List (List ℕ)) (rest : List ℕ) : Type 0 where
  pub names_are : All (IsName separator) names
  pub text_is : text ≡ ended separator names ++ rest

-- the text after a name: empty, or beginning with its separator
abbrev pub EndsName : ℕ → List ℕ → Type 0
EndsName separator rest = (rest ≡ []) ⊎ ((more : List ℕ) × (rest ≡ separator ∷ more))

-- The text isn't a list: the part for the name with this number, counted from 1, is empty or isn't UTF-8.
pub record IsNoName (separator : ℕ) (text : List ℕ) (number : ℕ) : Type 0 where
  pub names : List (List ℕ)
  pub name : List ℕ
  pub rest : List ℕ
  pub begins : BeginsWith separator text names (name ++ rest)
  pub number_is : number ≡ length names + 1
  pub free : IsFree separator name
  pub ends : EndsName separator rest
  pub bad : ((name ≡ []) × (rest ≢ [])) ⊎ (is_utf8 name ≡ false)

-- More names than this number begin there.
pub record HasMoreNames (separator : ℕ) (text : List ℕ) (most : ℕ) : Type 0 where
  pub names : List (List ℕ)
  pub rest : List ℕ
  pub begins : BeginsWith separator text names rest
  pub some : rest ≢ []
  pub more : most ≤ length names

-- The names of a text come after those that were there before.
pub record AreNamed (separator : ℕ) (text : List ℕ) (old new : List (List ℕ)) : Type 0 where
  pub names : List (List ℕ)
  pub list : IsListOf separator text names
  pub behind : new ≡ old ++ names

-- the reason why a text isn't a list of few enough names, or a failed allocation
abbrev pub IsNoList : ℕ → List ℕ → ℕ → NameListFault → Type 0
IsNoList separator text most (NoName number) = IsNoName separator text number × (number ≤ most)
IsNoList separator text most TooMany = HasMoreNames separator text most
IsNoList separator text most Memory = ⊤

-- ---- the front of a text

-- the number of separators among the bytes
abbrev pub separators : ℕ → List ℕ → ℕ
separators separator [] = 0
separators separator (byte ∷ bytes) = (if nat_eq byte separator then 1 else 0) + separators separator bytes

-- This is all of the text, or a front part of it that has more than `most` names, each with its separator.
pub record IsFront (separator most : ℕ) (text front : List ℕ) : Type 0 where
  pub rest : List ℕ
  pub text_is : text ≡ front ++ rest
  pub enough : (rest ≡ []) ⊎ (most < separators separator front)

-- ---- the part of a text that was read

-- These names were read of the text, and appended; this is the rest of the text. The rest is also empty after a last name without a separator.
pub record HasRead (separator : ℕ) (text : List ℕ) (old new : List (List ℕ)) (rest : List ℕ) : Type 0 where
  pub names : List (List ℕ)
  pub names_are : All (IsName separator) names
  pub behind : new ≡ old ++ names
  pub text_is : (text ≡ ended separator names ++ rest) ⊎ ((rest ≡ []) × (text ++ separator ∷ [] ≡ ended separator names))

-- The first part of a text, which has no separator, and the text after the separator that ends it, if there is one.
abbrev pub AreParts : ℕ → List ℕ → List ℕ → Option (List ℕ) → Type 0
AreParts separator text part None = text ≡ part
AreParts separator text part (Some rest) = text ≡ part ++ separator ∷ rest
