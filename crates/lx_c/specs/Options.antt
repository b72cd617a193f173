-- The options of a scanner in C: the prefix of all names, the names of start conditions if they are known, and the file that declares the kinds, if
-- there is one; and the form: code for each state, or rows by classes of bytes.
use Rattle.std.specs.Prelude.{ℕ, ◌==◌, ◌&&◌, ◌||◌, not, nat_le, if◌then◌else◌, Bool, true, false, IsTrue, List, [], ◌∷◌, Option, Some, None, codes, length}
use Rattle.std.specs.List.{list_all}
use Rattle.lx_rules.specs.Identifiers.{is_between, is_digit, is_identifier}
use Rattle.lx_c.specs.declared.fault.OptionFault.{OptionFault}
use Rattle.lx_c.specs.declared.fault.OptionFault.TheVariants.{Prefix, Condition, Include}

pub record Options : Type 0 where
  pub prefix : List ℕ
  -- the names of all conditions, in order; none if they aren't known
  pub conditions : List (List ℕ)
  pub include : Option (List ℕ)
  pub direct : Bool

abbrev pub options_of : List ℕ → List (List ℕ) → Option (List ℕ) → Bool → Options
options_of prefix conditions include direct = record { prefix = prefix; conditions = conditions; include = include; direct = direct }

-- those of a scanner of a file for lex or flex, as code for each state
abbrev pub yy_options : Options
yy_options = options_of (codes "yy") [] None true

abbrev pub is_small_letter : ℕ → Bool
is_small_letter c = is_between 97 122 c

-- a small letter, a digit or _
abbrev pub is_prefix_byte : ℕ → Bool
is_prefix_byte c = is_small_letter c || (is_digit c || c == 95)

-- a small letter, and then up to 31 small letters, digits or _
abbrev pub is_prefix : List ℕ → Bool
is_prefix [] = false
is_prefix (c ∷ text) = is_small_letter c && (list_all is_prefix_byte text && nat_le (length text) 31)

-- bytes of ASCII between the quotes of an `#include`: neither a quote nor a backslash
abbrev pub is_include_byte : ℕ → Bool
is_include_byte c = is_between 32 126 c && not (c == 34 || c == 92)

-- no file, or one that is named by 1 to 255 such bytes
abbrev pub is_include : Option (List ℕ) → Bool
is_include None = true
is_include (Some file) = nat_le 1 (length file) && (nat_le (length file) 255 && list_all is_include_byte file)

pub record AreOptions (o : Options) : Type 0 where
  pub prefix : IsTrue (is_prefix o.prefix)
  pub conditions : IsTrue (list_all is_identifier o.conditions)
  pub include : IsTrue (is_include o.include)

-- true if a file declares the kinds
abbrev pub has_file : Option (List ℕ) → Bool
has_file None = false
has_file (Some file) = true

-- the first part that is wrong, if one is
abbrev pub option_fault : Options → Option OptionFault
option_fault o =
    if not (is_prefix o.prefix) then Some Prefix
    else if not (list_all is_identifier o.conditions) then Some Condition
    else if not (is_include o.include) then Some Include
    else None

-- with code for each state, or with rows
abbrev pub directly : Options → Bool → Options
directly o direct = record o { direct = direct }

-- the most states of which code is printed, since the time that compilers take grows faster than it
abbrev pub max_direct_states : ℕ
max_direct_states = 1000

-- with these names of the conditions, if all are identifiers
abbrev pub named : Options → List (List ℕ) → Options
named o names = if list_all is_identifier names then record o { conditions = names } else o
