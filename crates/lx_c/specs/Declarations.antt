-- The declarations: kinds, conditions, types and functions, as a header of their own and at the head of each scanner.
use Rattle.std.specs.Prelude.{ℕ, ◌+◌, if◌then◌else◌, List, [], ◌++◌, Option, Some, None, length, codes, slice_index_or}
use Rattle.std.specs.List.{flat_map, range_with_len}
use Rattle.lx_tables.specs.Texts.{number}
use Rattle.lx_tables.specs.Model.{Table, kind_at}
use Rattle.lx_c.specs.Options.{Options, has_file}
use Rattle.lx_c.specs.Kinds.{name_in_c}
use Rattle.lx_c.specs.Numbers.{first_kind}
use Rattle.lx_c.specs.Templates.{filled, number_then, numbered}
use Rattle.lx_c.specs.declared.templates.TheConstants.{GUARD, SPECIAL_KINDS, KINDS_END, FIRST_KIND, CONDITIONS, FUNCTIONS}

-- the file that declares the kinds
abbrev pub include_text : Option (List ℕ) → List ℕ
include_text None = []
include_text (Some file) = codes "#include \"" ++ file ++ codes "\"\n"

-- a kind and its number, if the first kind has this one
abbrev pub kind_line : Options → ℕ → List ℕ → ℕ → List ℕ
kind_line o first kind k = codes ",\n    " ++ name_in_c o kind ++ (codes " = " ++ number (first + k))

abbrev pub kind_list : Options → ℕ → Table → List ℕ
kind_list o first table = flat_map (λ k. kind_line o first (kind_at table k) k) (range_with_len 0 (length table.kinds))

-- a start condition and its number
abbrev pub condition_line : Options → ℕ → List ℕ
condition_line o c = codes "#define " ++ o.prefix ++ codes "_in_" ++ slice_index_or o.conditions c [] ++ codes " " ++ number c ++ codes "\n"

abbrev pub condition_lines : Options → List ℕ
condition_lines o = flat_map (condition_line o) (range_with_len 0 (length o.conditions))

-- the values of a token: the special kinds, and if no file declares the kinds, all kinds and the number of the first one
abbrev pub kinds_text : Options → ℕ → Table → List ℕ
kinds_text o first table =
    if has_file o.include then filled o.prefix SPECIAL_KINDS.now ++ filled o.prefix KINDS_END.now
    else filled o.prefix SPECIAL_KINDS.now ++ kind_list o first table ++ filled o.prefix KINDS_END.now ++ filled o.prefix FIRST_KIND.now ++ number_then first (codes "\n")

-- the header, if the first kind has this number
abbrev pub header_from : Options → ℕ → Table → List ℕ
header_from o first table =
    filled o.prefix GUARD.now ++ include_text o.include ++ kinds_text o first table ++ numbered o CONDITIONS.now (length table.machine.starts) (codes "\n")
    ++ condition_lines o ++ filled o.prefix FUNCTIONS.now

-- the header
abbrev pub header_text : Options → Table → List ℕ
header_text o table = header_from o (first_kind table) table
