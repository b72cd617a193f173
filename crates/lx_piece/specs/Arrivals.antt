-- Arrivals, from a plan or foreign: the accepted ones, and the replies to all.
use Rattle.std.specs.Prelude.{ℕ, ◌≡◌, ◌<◌, ◌==◌, Bool, true, false, not, ◌&&◌, ◌||◌, if◌then◌else◌, nat_lt, List, [], ◌∷◌, ◌++◌, Option, Some, None, All}
use Rattle.std.specs.List.{list_any}
use Rattle.lx_piece.specs.declared.piece.Piece.{Piece}
use Rattle.lx_piece.specs.declared.reply.Why.{Why}
use Rattle.lx_piece.specs.declared.reply.Why.TheVariants.{WrongRun, UnknownFile, Double, AfterLast, Contradicts}
use Rattle.lx_piece.specs.declared.reply.Reply.{Reply}
use Rattle.lx_piece.specs.declared.reply.Reply.TheVariants.{Accepted, Refused}
use Rattle.lx_piece.specs.Plans.{Planned, files_of}
use Rattle.lx_piece.specs.Pieces.{ItemPiece, Making, bare, is_closing, is_cut_short, IsPieceBy, top_number}

-- the run that pieces are of: its number, and its number of files
pub record RunShape : Type 0 where
  pub run : ℕ
  pub files : ℕ

abbrev pub shape_of : Planned → RunShape
shape_of plan = record { run = plan.run; files = files_of plan }

-- an arrival of the plan's run and one of its files is the plan's piece
abbrev pub IsHonestBy : {C : Type 0} → Making C → Planned → Piece C → Type 0
IsHonestBy made plan p = p.run ≡ plan.run → p.file < files_of plan → IsPieceBy made plan p

abbrev pub AreHonestBy : {C : Type 0} → Making C → Planned → List (Piece C) → Type 0
AreHonestBy made plan came = All (IsHonestBy made plan) came

abbrev pub IsHonest : Planned → ItemPiece → Type 0
IsHonest plan p = IsHonestBy bare plan p

abbrev pub AreHonest : Planned → List ItemPiece → Type 0
AreHonest plan came = AreHonestBy bare plan came

-- p is a piece of this file and number
abbrev pub is_numbered : {C : Type 0} → ℕ → ℕ → Piece C → Bool
is_numbered file number p = (p.file == file) && (p.number == number)

-- q closes p's file before p
abbrev pub closes_before : {C : Type 0} → Piece C → Piece C → Bool
closes_before p q = is_closing q && ((q.file == p.file) && nat_lt q.number p.number)

-- q is a later piece of p's file
abbrev pub is_later : {C : Type 0} → Piece C → Piece C → Bool
is_later p q = (q.file == p.file) && nat_lt p.number q.number

-- true if a piece of this file and number is among these
abbrev pub has_piece : {C : Type 0} → ℕ → ℕ → List (Piece C) → Bool
has_piece file number pieces = list_any (is_numbered file number) pieces

-- true if a closing piece of this file and number is among these
abbrev pub has_closing : {C : Type 0} → ℕ → ℕ → List (Piece C) → Bool
has_closing file number pieces = list_any (λ p. is_closing p && is_numbered file number p) pieces

-- true if one marked Cut is
abbrev pub has_truncated : {C : Type 0} → ℕ → ℕ → List (Piece C) → Bool
has_truncated file number pieces = list_any (λ p. is_cut_short p && is_numbered file number p) pieces

-- the first cause against an arrival that lies in its own file's pieces
abbrev pub cause_among : {C : Type 0} → List (Piece C) → Piece C → Option Why
cause_among accepted p =
    if has_piece p.file p.number accepted then Some Double
    else if (p.number == top_number) || list_any (closes_before p) accepted then Some AfterLast
    else if is_closing p && list_any (is_later p) accepted then Some Contradicts
    else None

-- the first cause against an arrival after the accepted ones
abbrev pub cause_against : {C : Type 0} → RunShape → List (Piece C) → Piece C → Option Why
cause_against shape accepted p =
    if not (p.run == shape.run) then Some WrongRun
    else if not (nat_lt p.file shape.files) then Some UnknownFile
    else cause_among accepted p

abbrev pub reply_for : Option Why → Reply
reply_for None = Accepted
reply_for (Some why) = Refused why

abbrev pub reply_to : {C : Type 0} → RunShape → List (Piece C) → Piece C → Reply
reply_to shape accepted p = reply_for (cause_against shape accepted p)

-- the accepted ones, followed by the arrival if it is accepted
abbrev pub joined : {C : Type 0} → Option Why → List (Piece C) → Piece C → List (Piece C)
joined None accepted p = accepted ++ p ∷ []
joined (Some why) accepted p = accepted

abbrev pub with_arrival : {C : Type 0} → RunShape → List (Piece C) → Piece C → List (Piece C)
with_arrival shape accepted p = joined (cause_against shape accepted p) accepted p

-- those accepted after all these have come
abbrev pub accepted_behind : {C : Type 0} → RunShape → List (Piece C) → List (Piece C) → List (Piece C)
accepted_behind shape accepted [] = accepted
accepted_behind shape accepted (p ∷ came) = accepted_behind shape (with_arrival shape accepted p) came

abbrev pub accepted_of : {C : Type 0} → RunShape → List (Piece C) → List (Piece C)
accepted_of shape came = accepted_behind shape [] came

-- the reply to each, in order
abbrev pub replies_behind : {C : Type 0} → RunShape → List (Piece C) → List (Piece C) → List Reply
replies_behind shape accepted [] = []
replies_behind shape accepted (p ∷ came) =
    reply_to shape accepted p ∷ replies_behind shape (with_arrival shape accepted p) came

abbrev pub replies_of : {C : Type 0} → RunShape → List (Piece C) → List Reply
replies_of shape came = replies_behind shape [] came

-- among the first pieces of the file, this many, a closing one was accepted
abbrev pub IsClosedBelow : {C : Type 0} → List (Piece C) → ℕ → ℕ → Type 0
IsClosedBelow accepted file count = (n : ℕ) × (n < count) × (has_closing file n accepted ≡ true)

-- and one marked Cut
abbrev pub IsTruncatedBelow : {C : Type 0} → List (Piece C) → ℕ → ℕ → Type 0
IsTruncatedBelow accepted file count = (n : ℕ) × (n < count) × (has_truncated file n accepted ≡ true)

-- k is the least number of the file that isn't accepted
pub record IsLeastMissing {C : Type 0} (accepted : List (Piece C)) (file k : ℕ) : Type 0 where
  pub below : (j : ℕ) → j < k → has_piece file j accepted ≡ true
  pub missing : has_piece file k accepted ≡ false
