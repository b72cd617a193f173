-- Pieces delivered in the plan's order: the waiting ones of a file, and those of the files after it.
use Rattle.std.proofs.Common.{ℕ, zero, suc, ◌≡◌, ◌≢◌, ◌+◌, ◌<◌, ◌≤◌, ◌==◌, inl, inr, Bool, true, false, List, [], ◌∷◌, ◌++◌, refl, sym, ◌∙◌, ap, subst, arith, length, get_or, append_assoc, add-one, Global}
use Rattle.std.specs.Prelude.{slice_index, slice_set}
use Rattle.std.specs.declared.collections.VecDeque.{VecDeque}
use Rattle.std.proofs.lemmas.Bool.{cases_eq, cases_lt, eqb-true, eqb-false, ne_eqb}
use Rattle.std.proofs.lemmas.List.{get_or-map, map-set, length-map, length_push, length-append, get_or-set_other, get_or-set_same, get_or_past, get_or_append_left}
use Rattle.std.proofs.Math.ListN.{length-set}
use Rattle.std.proofs.Math.Seq.{get_or-append_seam}
use Rattle.lx_piece.specs.declared.piece.Piece.{Piece}
use Rattle.lx_piece.specs.Plans.{Planned, files_of}
use Rattle.lx_piece.specs.Pieces.{Making, is_closing, piece_by, pieces_by, pieces_of}
use Rattle.lx_piece.specs.PieceLaws.{marked_last}
use Rattle.lx_piece.specs.NextPiece.{IsNextPieceBy}
use Rattle.lx_piece.specs.Turns.{Turn, HasTurn, turn_after, turn_at}
use Rattle.lx_piece.specs.Waiting.{AreFirstPieces, KeepsUp, TookWaiting, Waits, counted, queued, waiting_of}
use Rattle.lx_piece.proofs.Turned.{turn_left, turn_over}

-- ---- the first pieces of a file

length-pieces : {C : Type 0} (made : Making C) (plan : Planned) (file count : ℕ) → length (pieces_by made plan file count) ≡ count
length-pieces made plan file zero = refl
length-pieces made plan file (suc count) =
    length_push (pieces_by made plan file count) (piece_by made plan file count) ∙ ap (λ (n : ℕ). n + 1) (length-pieces made plan file count) ∙ add-one count

piece_in : {C : Type 0} (made : Making C) (plan : Planned) (file count number : ℕ) (d : Piece C) → number < count → get_or (pieces_by made plan file count) number d ≡ piece_by made plan file number
piece_in made plan file zero number d l = absurd (omega arith)
piece_in made plan file (suc count) number d l =
    let front = pieces_by made plan file count in
    let size = length-pieces made plan file count in
    elim (cases_eq number count) [
      | inl e ↦
          ap (λ n. get_or (front ++ piece_by made plan file count ∷ []) n d) (e ∙ sym size)
          ∙ get_or-append_seam front (piece_by made plan file count) [] d
          ∙ ap (piece_by made plan file) (sym e)
      | inr less ↦ get_or_append_left front (piece_by made plan file count ∷ []) d number (omega arith) ∙ piece_in made plan file count number d (omega arith)
    ]

-- ---- the waiting pieces of one file

-- part of them were taken: the taken ones, and those that are left
pub record TookSome {C : Type 0} (made : Making C) (plan : Planned) (file : ℕ) (all rest : List (Piece C)) (closed : Bool) (turn : Turn) : Type 0 where
  pub count : ℕ
  pub parts : all ≡ pieces_by made plan file count ++ rest
  pub turn_is : turn ≡ turn_at plan file count
  pub closing : closed ≡ (count == pieces_of plan file)

pub some_none : {C : Type 0} (made : Making C) (plan : Planned) (file : ℕ) (all : List (Piece C)) (turn : Turn) → turn ≡ record { file = file; number = 0 } → TookSome made plan file all all false turn
some_none made plan file all turn e =
    record {
      count = 0;
      parts = refl;
      turn_is = e ∙ sym (turn_left plan file 0 (omega arith));
      closing = sym (ne_eqb 0 (pieces_of plan file) (λ none. absurd (omega arith)));
    }

-- the next piece
module _ {C : Type 0} (made : Making C) (plan : Planned) (file : ℕ) (all rest left : List (Piece C)) (closed : Bool) (turn : Turn) (p : Piece C) (are : AreFirstPieces made plan file all) (some : TookSome made plan file all left closed turn)
    (e : left ≡ (p ∷ []) ++ rest) where
  parts : all ≡ pieces_by made plan file some.count ++ p ∷ rest
  parts = some.parts ∙ ap (λ ps. pieces_by made plan file some.count ++ ps) e

  more : some.count < length all
  more = omega (arith, ap length parts, length-append (pieces_by made plan file some.count) (p ∷ rest), length-pieces made plan file some.count)

  pub next_is : p ≡ piece_by made plan file some.count
  next_is =
      let done = pieces_by made plan file some.count in
      sym (get_or-append_seam done p rest p)
      ∙ ap (λ n. get_or (done ++ p ∷ rest) n p) (length-pieces made plan file some.count)
      ∙ ap (λ ps. get_or ps some.count p) (sym parts ∙ are.same)
      ∙ piece_in made plan file (length all) some.count p more

  turn_here : turn ≡ record { file = file; number = some.count }
  turn_here = let within = are.within in let l = more in some.turn_is ∙ turn_left plan file some.count (omega arith)

  pub next_turn : file < files_of plan → HasTurn made plan turn p
  next_turn there =
      let is = next_is in
      let within = are.within in
      let countable = are.countable in
      let l = more in
      let file_is : p.file ≡ file = ap (λ (q : Piece C). q.file) is in
      let number_is : p.number ≡ some.count = ap (λ (q : Piece C). q.number) is in
      record {
        piece = record {
          file = omega arith;
          number = subst (λ (f : ℕ). p.number < pieces_of plan f) (sym file_is) (omega arith);
          countable = omega arith;
          whole = is ∙ ap (λ (f : ℕ). piece_by made plan f some.count) (sym file_is) ∙ ap (λ (n : ℕ). piece_by made plan p.file n) (sym number_is);
        };
        file = file_is ∙ sym (ap (λ (t : Turn). t.file) turn_here);
        number = number_is ∙ sym (ap (λ (t : Turn). t.number) turn_here);
      }

  pub some_next : (after : Turn) → after ≡ turn_after plan turn → TookSome made plan file all rest (is_closing p) after
  some_next after a =
      record {
        count = some.count + 1;
        parts = parts
            ∙ ap (λ q. pieces_by made plan file some.count ++ q ∷ rest) next_is
            ∙ sym (append_assoc (pieces_by made plan file some.count) (piece_by made plan file some.count ∷ []) rest)
            ∙ ap (λ n. pieces_by made plan file n ++ rest) (sym (add-one some.count));
        turn_is = a ∙ ap (turn_after plan) turn_here;
        closing = ap is_closing next_is ∙ marked_last plan file some.count;
      }

-- all of it
pub some_all : {C : Type 0} (made : Making C) (plan : Planned) (file : ℕ) (all rest : List (Piece C)) (closed : Bool) (turn : Turn) → TookSome made plan file all rest closed turn → length rest ≡ 0 → (closed ≡ (length all == pieces_of plan file)) × (turn ≡ turn_at plan file (length all))
some_all made plan file all rest closed turn some none =
    let size : some.count ≡ length all = omega (arith, ap length some.parts, length-append (pieces_by made plan file some.count) rest, length-pieces made plan file some.count) in
    (some.closing ∙ ap (λ (n : ℕ). n == pieces_of plan file) size, some.turn_is ∙ ap (turn_at plan file) size)

-- ---- the waiting pieces of the files

-- the waiting pieces of a file are in the queue that was read
pub queue_read : {C : Type 0} (queues : List (VecDeque (Piece C) Global)) (file : ℕ) (queue : VecDeque (Piece C) Global) → file < length queues → queue ≡ get_or queues file queue → waiting_of (queued queues) file ≡ queue.items
queue_read {C} queues file queue l e = get_or-map (λ (q : VecDeque (Piece C) Global). q.items) queues file queue [] l ∙ ap (λ (q : VecDeque (Piece C) Global). q.items) (sym e)

-- the queues once one was changed
pub queue_set : {C : Type 0} (queues : List (VecDeque (Piece C) Global)) (file : ℕ) (queue : VecDeque (Piece C) Global) → queued (slice_set queues file queue) ≡ slice_set (queued queues) file queue.items
queue_set {C} queues file queue = map-set (λ (q : VecDeque (Piece C) Global). q.items) queues file queue

pub queue_count : {C : Type 0} (queues : List (VecDeque (Piece C) Global)) → length (queued queues) ≡ length queues
queue_count {C} queues = length-map queues (λ (q : VecDeque (Piece C) Global). q.items)

-- in the midst of the files: those below this one were taken
pub record TookFiles {C : Type 0} (plan : Planned) (from : ℕ) (old : List (List (Piece C))) (file : ℕ) (new : List (List (Piece C))) (turn : Turn) : Type 0 where
  pub rises : from ≤ file
  pub within : file ≤ files_of plan
  pub closed : (g : ℕ) → from ≤ g → g < file → length (waiting_of old g) ≡ pieces_of plan g
  pub lists : length new ≡ length old
  pub others : (g : ℕ) → file ≤ g → waiting_of new g ≡ waiting_of old g
  pub turn_is : turn ≡ record { file = file; number = 0 }

pub files_none : {C : Type 0} (plan : Planned) (from : ℕ) (old : List (List (Piece C))) (turn : Turn) → from ≤ files_of plan → turn ≡ record { file = from; number = 0 } → TookFiles plan from old from old turn
files_none plan from old turn l e = record { rises = omega arith; within = l; closed = λ g a b. absurd (omega arith); lists = refl; others = λ g _. refl; turn_is = e }

module _ {C : Type 0} (made : Making C) (plan : Planned) (from : ℕ) (old : List (List (Piece C))) (file : ℕ) (mid : List (List (Piece C))) (turn : Turn) (waits : Waits made plan from old) (w : TookFiles plan from old file mid turn) (l : file < files_of plan) where
  -- the waiting pieces of the next file are its first ones
  pub next_pieces : AreFirstPieces made plan file (waiting_of mid file)
  next_pieces = subst (AreFirstPieces made plan file) (sym (w.others file (omega arith))) (waits.each file w.rises l)

  -- they were taken, and close it
  pub files_more : (left : List (Piece C)) (after : Turn) → (length (waiting_of mid file) == pieces_of plan file) ≡ true → after ≡ turn_at plan file (length (waiting_of mid file)) → TookFiles plan from old (file + 1) (slice_set mid file left) after
  files_more left after all a =
      let whole = eqb-true (length (waiting_of mid file)) (pieces_of plan file) all in
      let rises = w.rises in
      record {
        rises = omega arith;
        within = omega arith;
        closed = λ g f h. elim (cases_eq g file) [
          | inl e ↦ subst (λ (n : ℕ). length (waiting_of old n) ≡ pieces_of plan n) (sym e) (ap length (sym (w.others file (omega arith))) ∙ whole)
          | inr d ↦ w.closed g f (omega arith)
        ];
        lists = length-set mid file left ∙ w.lists;
        others = λ g f. get_or-set_other mid file g left [] (λ e. absurd (omega arith)) ∙ w.others g (omega arith);
        turn_is = a ∙ turn_over plan file (length (waiting_of mid file)) whole;
      }

  -- they were taken, and leave it open
  pub files_open : (left : List (Piece C)) (after : Turn) → (length (waiting_of mid file) == pieces_of plan file) ≡ false → after ≡ turn_at plan file (length (waiting_of mid file)) → TookWaiting plan from old file (slice_set mid file left) after
  files_open left after some a =
      let same = ap length (w.others file (omega arith)) in
      let apart = eqb-false (length (waiting_of mid file)) (pieces_of plan file) some in
      let are = next_pieces.within in
      let fewer : length (waiting_of mid file) < pieces_of plan file = elim (cases_eq (length (waiting_of mid file)) (pieces_of plan file)) [
        | inl e ↦ absurd (apart e)
        | inr d ↦ omega arith
      ] in
      record {
        rises = w.rises;
        within = w.within;
        closed = w.closed;
        not_closed = λ _. omega arith;
        lists = length-set mid file left ∙ w.lists;
        others = λ g f. get_or-set_other mid file g left [] (λ e. absurd (omega arith)) ∙ w.others g (omega arith);
        turn_is = a ∙ turn_left plan file (length (waiting_of mid file)) fewer ∙ ap (λ n. record { file = file; number = n }) same;
      }

-- all files were taken
pub files_all : {C : Type 0} (made : Making C) (plan : Planned) (from : ℕ) (old : List (List (Piece C))) (file : ℕ) (new : List (List (Piece C))) (turn : Turn) → Waits made plan from old → TookFiles plan from old file new turn → files_of plan ≤ file → TookWaiting plan from old file new turn
files_all made plan from old file new turn waits w past =
    let lists = waits.lists in
    let none : waiting_of old file ≡ [] = get_or_past old file [] (omega arith) in
    record {
      rises = w.rises;
      within = w.within;
      closed = w.closed;
      not_closed = λ l. absurd (omega arith);
      lists = w.lists;
      others = λ g f. w.others g (omega arith);
      turn_is = w.turn_is ∙ ap (λ ps. record { file = file; number = length ps }) (sym none);
    }

-- ---- one piece more

counted_same : (counts : List ℕ) (file : ℕ) → file < length counts → slice_index (counted counts file) file ≡ slice_index counts file + 1
counted_same counts file l = get_or-set_same counts file (slice_index counts file + 1) 0 l

counted_other : (counts : List ℕ) (file other : ℕ) → (other ≡ file → ⊥) → slice_index (counted counts file) other ≡ slice_index counts other
counted_other counts file other d = get_or-set_other counts file other (slice_index counts file + 1) 0 d

module _ {C : Type 0} (made : Making C) (plan : Planned) (turn : Turn) (counts : List ℕ) (first : ℕ) (waiting : List (List (Piece C))) (p : Piece C) (k : KeepsUp made plan turn counts first waiting) (next : IsNextPieceBy made plan counts p) where
  files : length counts ≡ files_of plan
  files = k.first_open.files

  there : p.file < length counts
  there = let l = next.planned.file in let f = files in omega arith

  other : (g : ℕ) → (g ≡ p.file → ⊥) → slice_index (counted counts p.file) g ≡ slice_index counts g
  other = counted_other counts p.file

  same : slice_index (counted counts p.file) p.file ≡ slice_index counts p.file + 1
  same = counted_same counts p.file there

  -- no piece comes of a file before the first open one
  not_before : first ≤ p.file
  not_before = elim (cases_lt p.file first) [
    | inl before ↦
        let all = k.first_open.below p.file before in
        let number = next.number in
        let less = next.planned.number in
        absurd (omega arith)
    | inr after ↦ after
  ]

  -- it is the taker's turn to take a piece of the first open file
  pub first_turn_is : p.file ≡ first → HasTurn made plan turn p
  first_turn_is e =
      record {
        piece = next.planned;
        file = e ∙ sym (ap (λ (t : Turn). t.file) k.turn_is);
        number = next.number ∙ ap (slice_index counts) e ∙ sym (ap (λ (t : Turn). t.number) k.turn_is);
      }

  -- a piece of a later file is kept
  pub held_later : p.file ≢ first → KeepsUp made plan turn (counted counts p.file) first (slice_set waiting p.file (waiting_of waiting p.file ++ p ∷ []))
  held_later d =
      let f = files in
      let at_least = not_before in
      let behind : first < p.file = elim (cases_eq p.file first) [ inl e ↦ absurd (d e) | inr n ↦ omega arith ] in
      let lists = k.waits.lists in
      let inside = next.planned.file in
      let before = waiting_of waiting p.file in
      let size : length before ≡ slice_index counts p.file = k.came p.file behind inside in
      let number = next.number in
      let less = next.planned.number in
      let countable = next.planned.countable in
      let longer : length (before ++ p ∷ []) ≡ slice_index counts p.file + 1 = length_push before p ∙ ap (λ (n : ℕ). n + 1) size in
      let was = k.waits.each p.file (omega arith) inside in
      let now : waiting_of (slice_set waiting p.file (before ++ p ∷ [])) p.file ≡ before ++ p ∷ [] = get_or-set_same waiting p.file (before ++ p ∷ []) [] (omega arith) in
      let still : (g : ℕ) → (g ≡ p.file → ⊥) → waiting_of (slice_set waiting p.file (before ++ p ∷ [])) g ≡ waiting_of waiting g = λ g n. get_or-set_other waiting p.file g (before ++ p ∷ []) [] n in
      record {
        first_open = record {
          files = length-set counts p.file (slice_index counts p.file + 1) ∙ f;
          within = k.first_open.within;
          below = λ g l. other g (λ e. absurd (omega arith)) ∙ k.first_open.below g l;
          not_closed = λ l e. k.first_open.not_closed l (sym (other first (λ s. d (sym s))) ∙ e);
        };
        turn_is = k.turn_is ∙ ap (λ (n : ℕ). record { file = first; number = n }) (sym (other first (λ s. d (sym s))));
        waits = record {
          lists = length-set waiting p.file (before ++ p ∷ []) ∙ lists;
          each = λ g l m. elim (cases_eq g p.file) [
            | inl e ↦
                subst (λ (n : ℕ). AreFirstPieces made plan n (waiting_of (slice_set waiting p.file (before ++ p ∷ [])) n)) (sym e)
                (subst (AreFirstPieces made plan p.file) (sym now) (record {
                  within = omega arith;
                  countable = omega arith;
                  same =
                      ap (λ ps. ps ++ p ∷ []) (was.same ∙ ap (pieces_by made plan p.file) size)
                      ∙ ap (λ q. pieces_by made plan p.file (slice_index counts p.file) ++ q ∷ []) (next.planned.whole ∙ ap (piece_by made plan p.file) number)
                      ∙ ap (pieces_by made plan p.file) (sym (longer ∙ add-one (slice_index counts p.file)));
                }))
            | inr n ↦ subst (AreFirstPieces made plan g) (sym (still g n)) (k.waits.each g l m)
          ];
        };
        came = λ g l m. elim (cases_eq g p.file) [
          | inl e ↦ subst (λ (n : ℕ). length (waiting_of (slice_set waiting p.file (before ++ p ∷ [])) n) ≡ slice_index (counted counts p.file) n) (sym e) (ap length now ∙ longer ∙ sym same)
          | inr n ↦ ap length (still g n) ∙ k.came g l m ∙ sym (other g n)
        ];
      }

  -- it is marked if and only if it is the file's last one
  last : is_closing p ≡ (p.number + 1 == pieces_of plan p.file)
  last = ap is_closing next.planned.whole ∙ marked_last plan p.file p.number

  -- a piece is taken of the first open file, and leaves it open
  pub taken_open : p.file ≡ first → is_closing p ≡ false → (after : Turn) → after ≡ turn_after plan turn → KeepsUp made plan after (counted counts p.file) first waiting
  taken_open e unmarked after a =
      let f = files in
      let number = next.number in
      let less = next.planned.number in
      let apart = eqb-false (p.number + 1) (pieces_of plan p.file) (sym last ∙ unmarked) in
      let same_first : slice_index (counted counts p.file) first ≡ slice_index counts first + 1 = subst (λ (g : ℕ). slice_index (counted counts p.file) g ≡ slice_index counts g + 1) e same in
      let number_first : p.number ≡ slice_index counts first = number ∙ ap (slice_index counts) e in
      let open_still : slice_index (counted counts p.file) first ≢ pieces_of plan first = λ all. apart (ap (λ (n : ℕ). n + 1) number_first ∙ sym same_first ∙ all ∙ sym (ap (pieces_of plan) e)) in
      let fewer : slice_index counts first + 1 < pieces_of plan first = (let some = subst (λ (g : ℕ). p.number < pieces_of plan g) e less in elim (cases_eq (slice_index counts first + 1) (pieces_of plan first)) [
        | inl all ↦ absurd (open_still (same_first ∙ all))
        | inr d ↦ omega arith
      ]) in
      record {
        first_open = record {
          files = length-set counts p.file (slice_index counts p.file + 1) ∙ f;
          within = k.first_open.within;
          below = λ g l. other g (λ s. absurd (omega arith)) ∙ k.first_open.below g l;
          not_closed = λ _. open_still;
        };
        turn_is =
            a ∙ ap (turn_after plan) k.turn_is
            ∙ turn_left plan first (slice_index counts first + 1) fewer
            ∙ ap (λ (n : ℕ). record { file = first; number = n }) (sym same_first);
        waits = k.waits;
        came = λ g l m. k.came g l m ∙ sym (other g (λ s. absurd (omega arith)));
      }

  -- after it comes the first piece of the next file
  pub turn_closed : p.file ≡ first → is_closing p ≡ true → (after : Turn) → after ≡ turn_after plan turn → after ≡ record { file = first + 1; number = 0 }
  turn_closed e marked after a =
      let number = next.number in
      let all = eqb-true (p.number + 1) (pieces_of plan p.file) (sym last ∙ marked) in
      a ∙ ap (turn_after plan) k.turn_is
      ∙ turn_over plan first (slice_index counts first + 1) (ap (λ (n : ℕ). n + 1) (sym (ap (slice_index counts) e) ∙ sym number) ∙ all ∙ ap (pieces_of plan) e)

  -- the taken piece closes its file, and the pieces waiting after it are taken
  pub taken_closed : (next_file : ℕ) (new : List (List (Piece C))) (after : Turn) → p.file ≡ first → is_closing p ≡ true → TookWaiting plan (first + 1) waiting next_file new after → KeepsUp made plan after (counted counts p.file) next_file new
  taken_closed next_file new after e marked w =
      let f = files in
      let lists = k.waits.lists in
      let number = next.number in
      let rises = w.rises in
      let end = w.within in
      let all = eqb-true (p.number + 1) (pieces_of plan p.file) (sym last ∙ marked) in
      let full : slice_index (counted counts p.file) first ≡ pieces_of plan first =
      subst (λ (g : ℕ). slice_index (counted counts p.file) g ≡ pieces_of plan g) e (same ∙ ap (λ (n : ℕ). n + 1) (sym number) ∙ all) in
      let left : length (waiting_of waiting next_file) ≡ slice_index (counted counts p.file) next_file = elim (cases_lt next_file (files_of plan)) [
        | inl l ↦ k.came next_file (omega arith) l ∙ sym (other next_file (λ s. absurd (omega arith)))
        | inr past ↦
            ap length (get_or_past waiting next_file [] (omega arith))
            ∙ sym (other next_file (λ s. absurd (omega arith)) ∙ get_or_past counts next_file 0 (omega arith))
      ] in
      record {
        first_open = record {
          files = length-set counts p.file (slice_index counts p.file + 1) ∙ f;
          within = w.within;
          below = λ g l. elim (cases_eq g first) [
            | inl s ↦ subst (λ (h : ℕ). slice_index (counted counts p.file) h ≡ pieces_of plan h) (sym s) full
            | inr d ↦ other g (λ s. d (s ∙ e)) ∙ elim (cases_lt g first) [
              | inl before ↦ k.first_open.below g before
              | inr behind ↦ sym (k.came g (omega arith) (omega arith)) ∙ w.closed g (omega arith) l
            ]
          ];
          not_closed = λ l all_. (let fewer = w.not_closed l in let at = left in absurd (omega arith));
        };
        turn_is = w.turn_is ∙ ap (λ (n : ℕ). record { file = next_file; number = n }) left;
        waits = record {
          lists = w.lists ∙ lists;
          each = λ g l m. subst (AreFirstPieces made plan g) (sym (w.others g (omega arith))) (k.waits.each g (omega arith) m);
        };
        came = λ g l m. ap length (w.others g l) ∙ k.came g (omega arith) m ∙ sym (other g (λ s. absurd (omega arith)));
      }
