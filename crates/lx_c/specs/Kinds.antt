-- The kinds in C: their names, and what is wrong with them.
use Rattle.std.specs.Prelude.{ℕ, ◌+◌, ◌-◌, ◌==◌, nat_eq, nat_lt, ◌&&◌, ◌||◌, Bool, false, if◌then◌else◌, List, [], ◌∷◌, ◌++◌, Option, Some, None, length, codes, slice_index}
use Rattle.std.specs.Char.{to_ascii_uppercase}
use Rattle.std.specs.List.{flat_map, starts_with}
use Rattle.lx_automaton.specs.Automata.{state_count}
use Rattle.lx_tables.specs.Model.{Table}
use Rattle.lx_c.specs.Numbers.{first_kind}
use Rattle.lx_c.specs.Options.{Options, has_file, max_direct_states}
use Rattle.lx_c.specs.declared.fault.KindFault.{KindFault}
use Rattle.lx_c.specs.declared.fault.KindFault.TheVariants.{Numbers, Reserved, Declared, States}
use Rattle.lx_c.specs.declared.words.TheConstants.{WORDS}

abbrev pub capitals : List ℕ → List ℕ
capitals text = flat_map (λ c. to_ascii_uppercase c ∷ []) text

-- the name of a kind in C: after the prefix in capitals and _, or as it is if a file declares the kinds
abbrev pub name_in_c : Options → List ℕ → List ℕ
name_in_c o kind = if has_file o.include then kind else capitals o.prefix ++ codes "_" ++ kind

-- true if the text has the part somewhere
abbrev pub has_part : List ℕ → List ℕ → Bool
has_part part [] = false
has_part part (c ∷ text) = starts_with nat_eq (c ∷ text) part || has_part part text

abbrev pub spaced : List ℕ → List ℕ
spaced name = codes " " ++ name ++ codes " "

-- a word of C or C++, or a name that one of its headers defines
unfoldable pub is_word : List ℕ → Bool
is_word name = has_part (spaced name) WORDS.now

-- a name that the scanner may have for itself: it begins with the prefix and _. A kind after its prefix begins with a capital, and is none
abbrev pub is_own : Options → List ℕ → Bool
is_own o kind =
    has_file o.include && (starts_with nat_eq kind o.prefix && (nat_lt (length o.prefix) (length kind) && slice_index kind (length o.prefix) == 95))

-- the fault of the name of a kind
abbrev pub name_fault : Options → ℕ → List ℕ → Option KindFault
name_fault o k kind =
    if is_word (name_in_c o kind) then Some (Reserved k)
    else if is_own o kind then Some (Declared k)
    else None

abbrev pub or_else : Option KindFault → Option KindFault → Option KindFault
or_else None other = other
or_else (Some fault) other = Some fault

-- the first fault of the names from number k on
abbrev pub first_name_fault : Options → ℕ → List (List ℕ) → Option KindFault
first_name_fault o k [] = None
first_name_fault o k (kind ∷ kinds) = or_else (name_fault o k kind) (first_name_fault o (k + 1) kinds)

-- the greatest int of 32 bits
abbrev pub max_int : ℕ
max_int = 2147483647

-- the numbers of kinds pass what an int of 32 bits can be
abbrev pub pass_the_limit : Options → Table → Bool
pass_the_limit o table = if has_file o.include then false else nat_lt max_int (first_kind table + (length table.kinds - 1))

-- the fault of the states, which are too many for code for each, or of the kinds, if there is one
abbrev pub kind_fault : Options → Table → Option KindFault
kind_fault o table =
    if o.direct && nat_lt max_direct_states (state_count table.machine) then Some (States (state_count table.machine))
    else if pass_the_limit o table then Some Numbers
    else first_name_fault o 0 table.kinds
