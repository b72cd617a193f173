-- A text that lx reads as a pattern with the texts of another one.
use Rattle.std.specs.Prelude.{◌≡◌, ℕ, Bool, IsTrue, List}
use Rattle.lx_ere.specs.Regex.{Regex, Reading}
use Rattle.lx_ere.specs.Matching.{Matches}
use Rattle.lx_ere.specs.Pattern.{IsPattern, IsSubstitute}

-- the texts of a name, by a test
abbrev pub passes : (List ℕ → List ℕ → Bool) → List ℕ → List ℕ → Type 0
passes names name w = IsTrue (names name w)

-- the two match the same texts, whatever the texts of the names are
pub record HaveSameTexts (t r : Regex) : Type 0 where
  pub none_lost : (names : List ℕ → List ℕ → Bool) (w : List ℕ) → Matches (passes names) t w → Matches (passes names) r w
  pub none_added : (names : List ℕ → List ℕ → Bool) (w : List ℕ) → Matches (passes names) r w → Matches (passes names) t w

-- lx reads a pattern with the anchors and the texts of this one.
pub record IsReadAs (pattern reading : Reading) : Type 0 where
  pub begins : reading.line_begin ≡ pattern.line_begin
  pub ends : reading.line_end ≡ pattern.line_end
  pub same : HaveSameTexts pattern.tree reading.tree

-- The text is a pattern of lx, with the anchors and the texts of this one.
pub record IsTranslation (pattern : Reading) (text : List ℕ) : Type 0 where
  pub reading : Reading
  pub is_pattern : IsPattern text reading
  pub is_read : IsReadAs pattern reading

-- The text is a substitute of lx, with the texts of this tree.
pub record IsSubstituteOf (tree : Regex) (text : List ℕ) : Type 0 where
  pub regex : Regex
  pub is_substitute : IsSubstitute text regex
  pub same : HaveSameTexts tree regex
