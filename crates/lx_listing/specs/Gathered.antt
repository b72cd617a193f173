-- Lines that are gathered before they are passed on.
use Rattle.std.specs.Prelude.{ℕ, ◌≡◌, Bool, true, false, List, [], ◌++◌}
use Rattle.lx_piece.specs.Pieces.{IsPrefix}

-- the held bytes, a flag for a failed sink, and the sink
pub record Gathered (S : Type 0) : Type 0 where
  pub held : List ℕ
  pub failed : Bool
  pub sink : S

abbrev pub gathered : {S : Type 0} → List ℕ → Bool → S → Gathered S
gathered held failed sink = record { held = held; failed = failed; sink = sink }

-- Between one state and a later one these bytes were gathered, after the held ones.
pub record Gathers {S : Type 0} (wrote : S → List ℕ → S → Type 0) (old : Gathered S) (bytes : List ℕ) (new : Gathered S) : Type 0 where
  -- these bytes were written
  pub given : List ℕ
  pub written : wrote old.sink given new.sink
  -- the other bytes are held
  pub held : new.failed ≡ false → old.held ++ bytes ≡ given ++ new.held
  -- after a failure only a prefix of all was passed on, and nothing more is
  pub part : new.failed ≡ true → IsPrefix given (old.held ++ bytes)
  pub stopped : old.failed ≡ true → (new.failed ≡ true) × (given ≡ [])
