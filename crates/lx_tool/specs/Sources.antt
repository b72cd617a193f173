-- Files by name, and the inputs that sources give for names.
use Rattle.std.specs.Prelude.{◌≡◌, ◌≢◌, ◌<◌, ℕ, Bool, false, ◌||◌, if◌then◌else◌, List, [], ◌∷◌, ◌++◌, All, Option, map}
use Rattle.std.specs.Borrow.{Bor}
use Rattle.std.specs.Io.KnownBytes.{Consumes}
use Rattle.std.specs.Str.{bytes_eq}
use Rattle.lx_forms.specs.NameLists.{IsFront}
use Rattle.lx_piece.specs.Plans.{PlainInput}

-- names, as texts
abbrev pub texts_of : List (Bor (List ℕ)) → List (List ℕ)
texts_of names = map (λ name. name.now) names

-- a file that was read to its end
abbrev pub whole : List ℕ → PlainInput
whole bytes = record { bytes = bytes; cut = false }

-- Between one state of the sources and a later one these inputs were given for these names, in this order.
pub data AreGiven {S : Type 0} (gives : S → List ℕ → PlainInput → S → Type 0) : S → List (List ℕ) → List PlainInput → S → Type 0 where
  none : {s : S} → AreGiven gives s [] [] s
  first : {s t u : S} {name : List ℕ} {input : PlainInput} {names : List (List ℕ)} {inputs : List PlainInput} →
      gives s name input t → AreGiven gives t names inputs u → AreGiven gives s (name ∷ names) (input ∷ inputs) u

-- Between one state of the sources and a later one a file was given for the name. This is all of it, or a front part with more than `most` names.
pub record GivesFront {S : Type 0} (gives : S → List ℕ → PlainInput → S → Type 0) (before : S) (name : List ℕ) (separator most : ℕ) (input : PlainInput) (after : S) : Type 0 where
  pub text : List ℕ
  pub given : gives before name (record { bytes = text; cut = input.cut }) after
  pub front : IsFront separator most text input.bytes

-- the names of the files that were cut short
abbrev pub cut_names : List (List ℕ) → List PlainInput → List (List ℕ)
cut_names [] inputs = []
cut_names (name ∷ names) [] = []
cut_names (name ∷ names) (input ∷ inputs) = if input.cut then name ∷ cut_names names inputs else cut_names names inputs

-- A file was given for the name, and its bytes were taken in blocks, one after the other.
pub record GivesBlocks {S B : Type 0} (gives : S → List ℕ → PlainInput → S → Type 0) (takes : B → List ℕ → B → Type 0) (before : S) (name : List ℕ) (cut : Bool) (old new : B) (after : S) : Type 0 where
  pub bytes : List ℕ
  pub given : gives before name (record { bytes = bytes; cut = cut }) after
  pub taken : takes old bytes new
  pub are_bytes : All (λ b. b < 256) bytes

-- ---- sources that are a list

-- no file has this name
abbrev pub NoneIsNamed : List (List ℕ × PlainInput) → List ℕ → Type 0
NoneIsNamed files name = All (λ file. file.0 ≢ name) files

-- The input is that of the first file with this name.
pub record IsFirstNamed (files : List (List ℕ × PlainInput)) (name : List ℕ) (input : PlainInput) : Type 0 where
  pub before : List (List ℕ × PlainInput)
  pub behind : List (List ℕ × PlainInput)
  pub there : files ≡ before ++ (name, input) ∷ behind
  pub first : NoneIsNamed before name

-- true if a name is one of these
abbrev pub is_among : List (List ℕ) → List ℕ → Bool
is_among [] name = false
is_among (known ∷ names) name = bytes_eq known name || is_among names name

-- a file of a name and bytes; its reading failed after them if its name is one of these
abbrev pub named_input : List (List ℕ) → Bor (List ℕ) × Bor (List ℕ) → List ℕ × PlainInput
named_input cut file = (file.0.now, record { bytes = file.1.now; cut = is_among cut file.0.now })

-- files of names and bytes, all whole except those with one of these names
abbrev pub inputs_of : List (List ℕ) → List (Bor (List ℕ) × Bor (List ℕ)) → List (List ℕ × PlainInput)
inputs_of cut files = map (named_input cut) files

-- ---- reading

-- Bytes were read, after those that were read before.
pub record ReadsOn (before after : Option (List ℕ)) (old new : List ℕ) : Type 0 where
  pub more : List ℕ
  pub behind : new ≡ old ++ more
  pub read : Consumes before after more

-- Bytes were read, and taken in blocks.
pub record TakesOn {B : Type 0} (takes : B → List ℕ → B → Type 0) (before after : Option (List ℕ)) (old new : B) : Type 0 where
  pub bytes : List ℕ
  pub read : Consumes before after bytes
  pub taken : takes old bytes new
  pub are_bytes : All (λ b. b < 256) bytes
