-- Claims and their seats as contracts see them.
use Rattle.std.specs.Prelude.{◌≡◌, ◌≤◌, ℕ, ◌==◌, if◌then◌else◌, nat_lt, Bool, false, List, [], count_by, sum_by}
use Rattle.atomic_table.specs.Seated.{TableId}
use Rattle.lx_piece.specs.Plans.{Planned, files_of, max_files}

-- claims: their word, the number of files, and the number of workers that draw them
pub record Claimed : Type 0 where
  pub word : TableId
  pub files : ℕ
  pub workers : ℕ

-- a seat: the word that it draws from, the number of files, true if the answer came that none is left, and the files drawn, in order
pub record Drawn : Type 0 where
  pub word : TableId
  pub files : ℕ
  pub done : Bool
  pub drawn : List ℕ

-- the seat is one of these claims
abbrev pub IsSeatOf : Claimed → Drawn → Type 0
IsSeatOf claims seat = (seat.word ≡ claims.word) × (seat.files ≡ claims.files)

-- the claims are of the files of this plan
abbrev pub AreClaimsOf : Planned → Claimed → Type 0
AreClaimsOf plan claims = (claims.files ≡ files_of plan) × (claims.files ≤ max_files)

-- a seat of these claims that drew nothing
abbrev pub fresh_seat : Claimed → Drawn
fresh_seat claims = record { word = claims.word; files = claims.files; done = false; drawn = [] }

-- the number of times that x occurs in the list
abbrev pub times : ℕ → List ℕ → ℕ
times x xs = count_by (λ y. y == x) xs

-- the number of times that x occurs in the lists of all seats together
abbrev pub times_drawn : ℕ → List Drawn → ℕ
times_drawn x seats = sum_by (λ seat. times x seat.drawn) seats

-- 1 if x is below n, else 0
abbrev pub once_below : ℕ → ℕ → ℕ
once_below x n = if nat_lt x n then 1 else 0
