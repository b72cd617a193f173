-- The limits of specifications.
use Rattle.std.specs.Prelude.{ℕ}

-- the most bytes of a specification
abbrev pub max_specification_bytes : ℕ
max_specification_bytes = 1048576

-- the most start conditions, INITIAL among them
abbrev pub max_start_conditions : ℕ
max_start_conditions = 64

abbrev pub max_definitions : ℕ
max_definitions = 1024

abbrev pub max_rules : ℕ
max_rules = 4096

-- the most names in a row: one in an expression, one in its substitute, and so on
abbrev pub max_name_depth : ℕ
max_name_depth = 32

-- the bound below which numbers are that actions return
abbrev pub returned_number_limit : ℕ
returned_number_limit = 2147483648

-- the most positions: sets of bytes and letters of all patterns, with repeats written out and names unfolded, and one for each line end
abbrev pub max_positions : ℕ
max_positions = 16384

-- the most sets of positions that texts can lead to
abbrev pub max_reached_sets : ℕ
max_reached_sets = 16384

-- the most kinds that have names: a rule returns at most one
abbrev pub max_kinds : ℕ
max_kinds = 4096
