-- The lines of pieces and of files.
use Rattle.std.specs.Prelude.{ℕ, Bool, if◌then◌else◌, List, [], ◌++◌}
use Rattle.std.specs.List.{flat_map}
use Rattle.lx_piece.specs.Pieces.{ItemPiece, is_cut_short}
use Rattle.lx_piece.specs.Plans.{Planned, is_cut, items_of}
-- the lines of items
pub use Rattle.lx_line.specs.Escapes.{hex_digit, escaped}
pub use Rattle.lx_line.specs.Lines.{class_text, name_text, kind_text, line_of, lines_of, cut_line}
pub use Rattle.lx_line.specs.Styles.{Style, lines_at, lines_by, plain}

-- the lines after those of items: the cut line if the reading failed, otherwise none
abbrev pub cut_lines_by : Style → ℕ → Bool → List ℕ
cut_lines_by style file cut = if cut then style.cut_line file else []

abbrev pub cut_lines : ℕ → Bool → List ℕ
cut_lines file cut = cut_lines_by plain file cut

-- the lines of a piece of a file: those of its items, and then the cut line if it is marked Cut
abbrev pub piece_lines_by : Style → Planned → ℕ → ItemPiece → List ℕ
piece_lines_by style plan file piece = lines_by style plan file piece.items ++ cut_lines_by style file (is_cut_short piece)

-- the lines of pieces of a file, in order
abbrev pub pieces_lines_by : Style → Planned → ℕ → List ItemPiece → List ℕ
pieces_lines_by style plan file pieces = flat_map (piece_lines_by style plan file) pieces

-- the lines of a file: those of its items, and then the cut line if its reading failed
abbrev pub file_lines_by : Style → Planned → ℕ → List ℕ
file_lines_by style plan file = lines_by style plan file (items_of plan file) ++ cut_lines_by style file (is_cut plan file)

abbrev pub file_lines : Planned → ℕ → List ℕ
file_lines plan file = file_lines_by plain plan file
