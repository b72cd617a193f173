-- The sets of bytes of flex's patterns: a byte, a range, a class, and each of them where case is ignored (flex's manual, "Patterns").
use Rattle.std.specs.Prelude.{ℕ, ◌+◌, ◌-◌, Bool, not, ◌&&◌, ◌||◌, if◌then◌else◌, List}
use Rattle.std.specs.List.{list_any}
use Rattle.std.specs.Ordering.{nat_cmp}
use Rattle.std.specs.FinSet as set
use Rattle.lx_ere.specs.Bytes.{bytes_where, in_ranges, is_between}

abbrev pub is_upper : ℕ → Bool
is_upper b = is_between 65 90 b

abbrev pub is_lower : ℕ → Bool
is_lower b = is_between 97 122 b

abbrev pub is_letter : ℕ → Bool
is_letter b = is_upper b || is_lower b

-- the letter of the other case; any other byte as it is
abbrev pub other_case : ℕ → ℕ
other_case b = if is_upper b then b + 32 else if is_lower b then b - 32 else b

-- The bytes from one to another. If case is ignored and both ends are letters, also those from the first one's other case to the last one's.
abbrev pub range_has : Bool → ℕ → ℕ → ℕ → Bool
range_has fold low high b = is_between low high b || (fold && (is_letter low && (is_letter high && is_between (other_case low) (other_case high) b)))

-- the byte, and its other case if case is ignored
abbrev pub byte_set : Bool → ℕ → set.FinSet nat_cmp
byte_set fold b = bytes_where (range_has fold b b)

-- a member of brackets: the bytes from one to another, those of a class, or those that a class hasn't
pub data Member : Type 0 where
  range : (low high : ℕ) → Member
  among : (ranges : List (ℕ × ℕ)) → Member
  outside : (ranges : List (ℕ × ℕ)) → Member

abbrev pub member_has : Bool → Member → ℕ → Bool
member_has fold (range low high) b = range_has fold low high b
member_has fold (among ranges) b = in_ranges ranges b
member_has fold (outside ranges) b = not (in_ranges ranges b)

-- true if one of the members has the byte
abbrev pub some_has : Bool → List Member → ℕ → Bool
some_has fold members b = list_any (λ m. member_has fold m b) members

-- the set of brackets with these members
abbrev pub members_set : Bool → List Member → set.FinSet nat_cmp
members_set fold members = bytes_where (some_has fold members)

-- the set of brackets that exclude these members
abbrev pub others_set : Bool → List Member → set.FinSet nat_cmp
others_set fold members = bytes_where (λ b. not (some_has fold members b))

-- `{+}`: the bytes of either set
abbrev pub union : set.FinSet nat_cmp → set.FinSet nat_cmp → set.FinSet nat_cmp
union s t = bytes_where (λ b. set.contains t b || set.contains s b)

-- `{-}`: the bytes of the first set that the second hasn't
abbrev pub difference : set.FinSet nat_cmp → set.FinSet nat_cmp → set.FinSet nat_cmp
difference s t = bytes_where (λ b. set.contains s b && not (set.contains t b))
