use Rattle.std.proofs.Common.{ℕ, inl, Bool, true, false, List, [], ◌++◌, Option, refl}
use Rattle.std.specs.Io.KnownBytes.{Keeps}
use Rattle.lx_piece.specs.Pieces.{ItemPiece, is_cut_short}
use Rattle.lx_piece.specs.Plans.{Planned}
use Rattle.lx_line.specs.StyleLaws.{lines_whole}
use Rattle.lx_line.specs.Styles.{HasWholeLines, Style, lines_by}
use Rattle.lx_listing.specs.Lines.{cut_lines_by, piece_lines_by}
use Rattle.lx_listing.specs.Listings.{AreWhole, AppendsWhole}
use Rattle.lx_listing.specs.AppendingLaws.{appends_both, appends_nothing}
use Rattle.lx_listing.specs.PrintingLaws.{whole_both}
use Rattle.lx_listing.proofs.Appending.{kept_appends}

pub cut_whole : (style : Style) → HasWholeLines style → (file : ℕ) (cut : Bool) → AreWhole (cut_lines_by style file cut)
cut_whole style is file false = inl refl
cut_whole style is file true = is.cut_line file

pub piece_whole : (style : Style) → HasWholeLines style → (plan : Planned) (file : ℕ) (piece : ItemPiece) → AreWhole (piece_lines_by style plan file piece)
piece_whole style is plan file piece = whole_both (lines_by style plan file piece.items) (cut_lines_by style file (is_cut_short piece)) (lines_whole style is plan file piece.items) (cut_whole style is file (is_cut_short piece))

-- nothing was written
pub wrote_nothing : (a : Option (List ℕ)) → AppendsWhole a a
wrote_nothing a = ([], inl refl, appends_nothing a)

pub wrote_kept : (a b : Option (List ℕ)) → Keeps a b → AppendsWhole a b
wrote_kept a b h = ([], inl refl, kept_appends a b h)

-- whole lines were written, and then further ones
pub wrote_both : (a b c : Option (List ℕ)) → AppendsWhole a b → AppendsWhole b c → AppendsWhole a c
wrote_both a b c h k = (h.0 ++ k.0, whole_both h.0 k.0 h.1 k.1, appends_both a b c h.0 k.0 h.2 k.2)
