-- Constant text with the prefix put in, and numbers.
use Rattle.std.specs.Prelude.{ℕ, ◌==◌, Bool, if◌then◌else◌, List, [], ◌∷◌, ◌++◌}
use Rattle.std.specs.List.{flat_map}
use Rattle.lx_tables.specs.Texts.{number}
use Rattle.lx_c.specs.Options.{Options}

-- the prefix for each `@`, and every other byte as it is
abbrev pub filled_byte : List ℕ → ℕ → List ℕ
filled_byte prefix c = if c == 64 then prefix else c ∷ []

abbrev pub filled : List ℕ → List ℕ → List ℕ
filled prefix template = flat_map (filled_byte prefix) template

-- a number in decimal, and the text after it
abbrev pub number_then : ℕ → List ℕ → List ℕ
number_then n text = number n ++ text

-- constant text, a number, and the text after it
abbrev pub numbered : Options → List ℕ → ℕ → List ℕ → List ℕ
numbered o template n after = filled o.prefix template ++ number_then n after

-- one of two constant texts
abbrev pub either : Options → Bool → List ℕ → List ℕ → List ℕ
either o is_first first second = if is_first then filled o.prefix first else filled o.prefix second
