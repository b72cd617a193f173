-- Texts that are items one after the other, up to a closing byte.
use Rattle.std.specs.Prelude.{◌≡◌, ℕ, List, [], ◌∷◌, ◌++◌}

-- The text is items and the closing byte, and `behind` follows it. `Item prefix x behind` means that, with `behind` after it, `prefix` spells x.
abbrev pub Closed : {A : Type 0} → (List ℕ → A → List ℕ → Type 0) → ℕ → List ℕ → List A → List ℕ → Type 0
Closed Item close text [] behind = text ≡ close ∷ []
Closed Item close text (x ∷ xs) behind =
    (prefix : List ℕ) × (rest : List ℕ) × Item prefix x (rest ++ behind) × (text ≡ prefix ++ rest) × Closed Item close rest xs behind

-- The text is a first item, of a kind of its own, then items and the closing byte.
abbrev pub Opened : {A : Type 0} → (List ℕ → A → List ℕ → Type 0) → (List ℕ → A → List ℕ → Type 0) → ℕ → List ℕ → A → List A → List ℕ → Type 0
Opened First Item close text x xs behind =
    (prefix : List ℕ) × (rest : List ℕ) × First prefix x (rest ++ behind) × (text ≡ prefix ++ rest) × Closed Item close rest xs behind
