-- Sets of bytes, by a test.
use Rattle.std.specs.Prelude.{ℕ, zero, suc, ◌/◌, ◌%◌, Bool, nat_eq, nat_le, ◌&&◌, List, [], ◌∷◌, slice_index, filter}
use Rattle.std.specs.List.{list_any}
use Rattle.std.specs.Ordering.{nat_cmp}
use Rattle.std.specs.FinSet as set
use Rattle.std.specs.Int.{bit_at}

-- the numbers from n on, k of them
abbrev pub numbers_from : ℕ → ℕ → List ℕ
numbers_from n zero = []
numbers_from n (suc k) = n ∷ numbers_from (suc n) k

-- the bytes, in order
unfoldable pub all_bytes : List ℕ
all_bytes = numbers_from 0 256

-- the set of the bytes for which the test is true
abbrev pub bytes_where : (ℕ → Bool) → set.FinSet nat_cmp
bytes_where test = set.from_list (filter test all_bytes)

-- true if bit b % 64 of word b / 64 is set
abbrev pub has_bit : List ℕ → ℕ → Bool
has_bit words b = nat_eq (bit_at (slice_index words (b / 64)) (b % 64)) 1

abbrev pub is_between : ℕ → ℕ → ℕ → Bool
is_between first last b = nat_le first b && nat_le b last

abbrev pub byte_set : ℕ → set.FinSet nat_cmp
byte_set byte = bytes_where (is_between byte byte)

-- true if the byte is in one of the ranges, each from its first byte to its last
abbrev pub in_ranges : List (ℕ × ℕ) → ℕ → Bool
in_ranges ranges b = list_any (λ r. is_between r.0 r.1 b) ranges
