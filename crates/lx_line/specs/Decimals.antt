-- Decimal digits, as lines are placed from them.
use Rattle.std.specs.Prelude.{ℕ, ◌+◌, ◌/◌, ◌%◌, ◌==◌, ◌<◌, ◌≤◌, if◌then◌else◌, List, [], ◌∷◌, decimal}

-- the three digits of a number below 1000
abbrev pub triple : ℕ → List ℕ
triple n = (48 + n / 100) ∷ (48 + n / 10 % 10) ∷ (48 + n % 10) ∷ []

-- the digits of a number above its last two, given the number of these: none if it is 0
abbrev pub leading : ℕ → List ℕ
leading high = if high == 0 then [] else decimal high

-- a number is one of `count` numbers from the first on
abbrev pub IsAmong : ℕ → ℕ → ℕ → Type 0
IsAmong first count number = (first ≤ number) × (number < first + count)
