-- The written part of lines that are written in parts.
use Rattle.std.specs.Prelude.{ℕ, ◌≡◌, List}
use Rattle.lx_piece.specs.declared.reader.ReaderFault.{ReaderFault}
use Rattle.lx_piece.specs.declared.reader.ReaderFault.TheVariants.{Memory}
use Rattle.lx_piece.specs.Pieces.{IsPrefix}
use Rattle.lx_listing.specs.Listings.{AreWhole}

-- the output if it failed: a prefix of these bytes, and whole lines if an allocation failed
pub record WrotePart {S : Type 0} (wrote : S → List ℕ → S → Type 0) (old : S) (fault : ReaderFault) (bytes : List ℕ) (new : S) : Type 0 where
  pub front : List ℕ
  pub prefix : IsPrefix front bytes
  pub written : wrote old front new
  pub whole : fault ≡ Memory → AreWhole front
