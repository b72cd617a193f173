-- Lists cut in two, and the number of pieces that a list makes.
use Rattle.std.proofs.Common.{◌≡◌, ℕ, suc, ◌+◌, ◌-◌, ◌*◌, ◌<◌, ◌≤◌, Bool, true, false, inl, inr, List, [], ◌∷◌, ◌++◌, Option, Some, None, length, take, drop, nat_eq, if◌then◌else◌, is_some, not, refl, sym, ◌∙◌, ap, subst, arith, add-one, append-nil, append_assoc}
use Rattle.std.specs.Prelude.{All, IfNone}
use Rattle.std.proofs.lemmas.List.Elements.{All-drop, All-take}
use Rattle.lx_scan.specs.ItemParts.{IsItemOf}
use Rattle.std.specs.Int.{div_ceil}
use Rattle.std.proofs.lemmas.Bool.{both_ways, eq-eqb, ne_eqb, cases_lt}
use Rattle.std.proofs.lemmas.Grind.{div_ceil_times}
use Rattle.std.proofs.lemmas.List.{drop-append-le, drop-drop, length-drop, take-append-le}
use Rattle.std.proofs.Math.Nat.{suc-mul, mul-le-mul_right}
use Rattle.lx_tables.specs.Model.{Table}
use Rattle.lx_scan.specs.Cursors.{IsInText, items_left, listed}
use Rattle.lx_scan.specs.Ends.{Appends}
use Rattle.lx_scan.specs.declared.cursor.Cursor.{Cursor}
use Rattle.lx_scan.specs.Failing.{IsMemoryOf}
use Rattle.lx_scan.specs.declared.item.Item.{Item}
use Rattle.lx_scan.specs.declared.memory.ScanMemory.{ScanMemory}
use Rattle.lx_piece.specs.declared.piece.Mark.{Mark}
use Rattle.lx_piece.specs.declared.piece.Mark.TheVariants.{More, Whole, Cut}
use Rattle.lx_piece.specs.declared.piece.Piece.{Piece}
use Rattle.lx_piece.specs.Cutting.{Cutting, IsCutterOf, items_ahead}
use Rattle.lx_piece.specs.Plans.{IsPlan, Planned, bytes_of, is_cut, items_of, kinds_of}
use Rattle.lx_piece.specs.Pieces.{IsPieceBy, mark_of, part, piece_by, piece_count, pieces_of, top_number}

-- ---- a list as the part that was taken of it and the part that is left
--  if at least most + 1 items were taken, or all
enough : (items left : List Item) (most : ℕ) → (length items < most + 1 → left ≡ []) → (take most items ≡ take most (items ++ left)) × (drop most items ++ left ≡ drop most (items ++ left))
enough items left most end = elim (cases_lt (length items) (most + 1)) [
  | inl fewer ↦
      let whole : items ≡ items ++ left = sym (append-nil items) ∙ ap (λ (xs : List Item). items ++ xs) (sym (end fewer)) in
      (ap (λ (xs : List Item). take most xs) whole, ap (λ (xs : List Item). drop most items ++ xs) (end fewer) ∙ append-nil (drop most items) ∙ ap (λ (xs : List Item). drop most xs) whole)
  | inr more ↦ (sym (take-append-le most items left (omega arith)), sym (drop-append-le most items left (omega arith)))
]

-- items that were appended to a first one, until there were most + 1 of them, or none was left
all_ahead : (first items ahead left : List Item) → Appends first items ahead left → items ++ left ≡ first ++ ahead
all_ahead first items ahead left appends =
    ap (λ xs. xs ++ left) appends.new_is ∙ append_assoc first appends.added left ∙ ap (λ xs. first ++ xs) (sym appends.left_is)

pub enough_items : (first items ahead left : List Item) (most : ℕ) → Appends first items ahead left → (length items < most + 1 → left ≡ []) → take most items ≡ take most (first ++ ahead)
enough_items first items ahead left most appends end =
    (enough items left most end).0 ∙ ap (λ (xs : List Item). take most xs) (all_ahead first items ahead left appends)

pub enough_rest : (first items ahead left : List Item) (most : ℕ) → Appends first items ahead left → (length items < most + 1 → left ≡ []) → drop most items ++ left ≡ drop most (first ++ ahead)
enough_rest first items ahead left most appends end =
    (enough items left most end).1 ∙ ap (λ (xs : List Item). drop most xs) (all_ahead first items ahead left appends)

-- if there is no item after the first most ones, nothing is left
pub none_ahead : (behind : Option Item) (items left rest : List Item) (most : ℕ) → listed behind ≡ drop most items → (length items < most + 1 → left ≡ []) → listed behind ++ left ≡ rest → IfNone behind (rest ≡ [])
none_ahead (Some item) items left rest most is end whole = tt
none_ahead None items left rest most is end whole =
    let short : length items - most ≡ 0 = sym (length-drop most items) ∙ ap length (sym is) in
    sym whole ∙ end (omega arith)

-- ---- the number of pieces
--  at most k pieces, if no item follows them
pub count_reached : (per_piece : ℕ) (items : List Item) (k : ℕ) → 0 < per_piece → 0 < k → drop (k * per_piece) items ≡ [] → piece_count per_piece items ≤ k
count_reached per_piece items k some first none =
    let left : length items - k * per_piece ≡ 0 = sym (length-drop (k * per_piece) items) ∙ ap length none in
    let above = (div_ceil_times (length items) per_piece some).1 in
    let ceil : div_ceil (length items) per_piece ≤ k = elim (cases_lt k (div_ceil (length items) per_piece)) [
      | inl more ↦
          let times = mul-le-mul_right per_piece (let l : suc k ≤ div_ceil (length items) per_piece = omega arith in l) in
          let one : suc k * per_piece ≡ k * per_piece + per_piece = suc-mul k per_piece in
          absurd (omega arith)
      | inr few ↦ omega arith
    ] in
    omega arith

-- more than k pieces, if an item follows them
pub count_more : (per_piece : ℕ) (items : List Item) (k : ℕ) (item : Item) (rest : List Item) → 0 < per_piece → drop (k * per_piece) items ≡ item ∷ rest → k < piece_count per_piece items
count_more per_piece items k item rest some there =
    let long : length items - k * per_piece ≡ suc (length rest) = sym (length-drop (k * per_piece) items) ∙ ap length there in
    let whole = (div_ceil_times (length items) per_piece some).0 in
    elim (cases_lt k (div_ceil (length items) per_piece)) [
      | inl more ↦ omega arith
      | inr few ↦
          let times = mul-le-mul_right per_piece (let l : div_ceil (length items) per_piece ≤ k = omega arith in l) in
          absurd (omega arith)
    ]

-- the items after one piece more
pub drop_piece : (per_piece : ℕ) (items : List Item) (k : ℕ) → drop per_piece (drop (k * per_piece) items) ≡ drop ((k + 1) * per_piece) items
drop_piece per_piece items k =
    let times : suc k * per_piece ≡ k * per_piece + per_piece = suc-mul k per_piece in
    let same : (k + 1) * per_piece ≡ suc k * per_piece = ap (λ n. n * per_piece) (add-one k) in
    let one : (k + 1) * per_piece ≡ k * per_piece + per_piece = omega arith in
    drop-drop _ _ items ∙ ap (λ n. drop n items) (sym one)

-- The piece with this number is the last one if and only if no item follows it.
last_is : (per_piece : ℕ) (items : List Item) (number : ℕ) (next : Option Item) (left : List Item) (last : Bool) → 0 < per_piece →
    listed next ++ left ≡ drop ((number + 1) * per_piece) items → IfNone next (drop ((number + 1) * per_piece) items ≡ []) → number < piece_count per_piece items →
    is_some next ≡ not last → last ≡ nat_eq (number + 1) (piece_count per_piece items)
last_is per_piece items number None left true some rest end there h =
    let reached = count_reached per_piece items (number + 1) some (omega arith) end in
    sym (eq-eqb (number + 1) (piece_count per_piece items) (omega arith))
last_is per_piece items number None left false some rest end there h = absurd (both_ways false refl h)
last_is per_piece items number (Some item) left true some rest end there h = absurd (both_ways false refl (sym h))
last_is per_piece items number (Some item) left false some rest end there h =
    let more = count_more per_piece items (number + 1) item left some (sym rest) in
    sym (ne_eqb (number + 1) (piece_count per_piece items) (λ e. absurd (omega arith)))

-- ---- the next piece
--  after the last one there is none
pub none_next : (plan : Planned) (cutter : Cutting) → 0 < plan.per_piece → IsCutterOf plan cutter → 0 < cutter.next → is_some cutter.ahead ≡ false → cutter.next ≡ pieces_of plan cutter.file
none_next plan cutter some is first none =
    let reached = count_reached plan.per_piece (items_of plan cutter.file) cutter.next some first (is.end first (nothing cutter.ahead none)) in
    let within = is.next in
    omega arith
  where
    nothing : (o : Option Item) → is_some o ≡ false → o ≡ None
    nothing None h = refl
    nothing (Some item) h = absurd (both_ways true h refl)

-- before it there is one
pub first_there : (plan : Planned) (cutter : Cutting) → cutter.next ≤ 0 → cutter.next < pieces_of plan cutter.file
first_there plan cutter first = omega arith

pub next_there : (plan : Planned) (cutter : Cutting) → 0 < plan.per_piece → IsCutterOf plan cutter → is_some cutter.ahead ≡ true → cutter.next < pieces_of plan cutter.file
next_there plan cutter some is ahead = at cutter.ahead ahead is.items
  where
    at : (next : Option Item) → is_some next ≡ true → listed next ++ items_left plan.table (bytes_of plan cutter.file) cutter.cursor ≡ drop (cutter.next * plan.per_piece) (items_of plan cutter.file) → cutter.next < pieces_of plan cutter.file
    at None h e = absurd (both_ways false refl h)
    at (Some item) h e = count_more plan.per_piece (items_of plan cutter.file) cutter.next item (items_left plan.table (bytes_of plan cutter.file) cutter.cursor) some (sym e)

-- ---- memory
--  a cutter's memory is of the tables and the file by which it is asked for a piece
pub remembers : (plan own : Planned) (file : ℕ) (table : Table) (text : List ℕ) (m : ScanMemory) → own ≡ plan → table ≡ plan.table → text ≡ bytes_of plan file → IsMemoryOf own.table (bytes_of own file) m → IsMemoryOf table text m
remembers plan own file table text m same e f is = rw (e, f) (subst (λ (p : Planned). IsMemoryOf p.table (bytes_of p file) m) same is)

pub remembers_on : (plan own : Planned) (file : ℕ) (table : Table) (text : List ℕ) (m : ScanMemory) → own ≡ plan → table ≡ plan.table → text ≡ bytes_of plan file → IsMemoryOf table text m → IsMemoryOf own.table (bytes_of own file) m
remembers_on plan own file table text m same e f is = subst (λ (p : Planned). IsMemoryOf p.table (bytes_of p file) m) (sym same) (rw (e, f) at is)

-- the result of taking from a cutter: the items of a piece, the item after them, and the cursor after that one
pub record TakesPiece (plan : Planned) (cutter : Cutting) (items : List Item) (next : Option Item) (cursor : Cursor) : Type 0 where
  pub in_text : IsInText plan.table (bytes_of plan cutter.file) cursor
  pub items_are : items ≡ take plan.per_piece (items_ahead plan.table (bytes_of plan cutter.file) cutter.ahead cutter.cursor)
  pub rest : items_ahead plan.table (bytes_of plan cutter.file) next cursor ≡ drop plan.per_piece (items_ahead plan.table (bytes_of plan cutter.file) cutter.ahead cutter.cursor)
  pub end : IfNone next (drop plan.per_piece (items_ahead plan.table (bytes_of plan cutter.file) cutter.ahead cutter.cursor) ≡ [])

pub takes_from : (plan : Planned) (cutter : Cutting) (items : List Item) (next : Option Item) (cursor : Cursor) (table : Table) (text : List ℕ) (most : ℕ) →
    table ≡ plan.table → text ≡ bytes_of plan cutter.file → most ≡ plan.per_piece → IsInText table text cursor →
    items ≡ take most (items_ahead table text cutter.ahead cutter.cursor) →
    items_ahead table text next cursor ≡ drop most (items_ahead table text cutter.ahead cutter.cursor) →
    IfNone next (drop most (items_ahead table text cutter.ahead cutter.cursor) ≡ []) → TakesPiece plan cutter items next cursor
takes_from plan cutter items next cursor table text most e f g in_text items_are rest end =
    record { in_text = rw (e, f) at in_text; items_are = rw (e, f, g) at items_are; rest = rw (e, f, g) at rest; end = rw (e, f, g) at end }

-- the items taken are items of the file
pub items_taken : (plan : Planned) (cutter : Cutting) (items : List Item) (table : Table) (text : List ℕ) (most : ℕ) → table ≡ plan.table → text ≡ bytes_of plan cutter.file → most ≡ plan.per_piece → IsCutterOf plan cutter →
    items ≡ take most (items_ahead table text cutter.ahead cutter.cursor) → IsPlan plan → All (IsItemOf (kinds_of plan) (bytes_of plan cutter.file)) items
items_taken plan cutter items table text most e f g is items_are whole =
    let taken : items ≡ take plan.per_piece (items_ahead plan.table (bytes_of plan cutter.file) cutter.ahead cutter.cursor) = rw (e, f, g) at items_are in
    subst (λ xs. All (IsItemOf (kinds_of plan) (bytes_of plan cutter.file)) xs) (sym (taken ∙ ap (λ xs. take plan.per_piece xs) is.items))
    (All-take (IsItemOf (kinds_of plan) (bytes_of plan cutter.file)) plan.per_piece (drop (cutter.next * plan.per_piece) (items_of plan cutter.file))
    (All-drop (IsItemOf (kinds_of plan) (bytes_of plan cutter.file)) (cutter.next * plan.per_piece) (items_of plan cutter.file) (whole.items cutter.file)))

module _ (plan : Planned) (cutter : Cutting) (items : List Item) (next : Option Item) (cursor : Cursor)
    (some : 0 < plan.per_piece) (is : IsCutterOf plan cutter) (there : cutter.next < pieces_of plan cutter.file) (takes : TakesPiece plan cutter items next cursor) where
  abbrev all : List Item
  all = items_of plan cutter.file

  behind : drop plan.per_piece (items_ahead plan.table (bytes_of plan cutter.file) cutter.ahead cutter.cursor) ≡ drop ((cutter.next + 1) * plan.per_piece) all
  behind = ap (λ xs. drop plan.per_piece xs) is.items ∙ drop_piece plan.per_piece all cutter.next

  rest_behind : items_ahead plan.table (bytes_of plan cutter.file) next cursor ≡ drop ((cutter.next + 1) * plan.per_piece) all
  rest_behind = takes.rest ∙ behind

  end_behind : IfNone next (drop ((cutter.next + 1) * plan.per_piece) all ≡ [])
  end_behind = subst (λ xs. IfNone next (xs ≡ [])) behind takes.end

  none_behind : (o : Option Item) → IfNone o (drop ((cutter.next + 1) * plan.per_piece) all ≡ []) → o ≡ None → drop ((cutter.next + 1) * plan.per_piece) all ≡ []
  none_behind None h e = h
  none_behind (Some item) h e = absurd (cc)

  pub cuts_on : IsCutterOf plan (record { plan = cutter.plan; file = cutter.file; next = cutter.next + 1; cursor = cursor; ahead = next })
  cuts_on = record {
    plan_is = is.plan_is;
    file = is.file;
    next = omega arith;
    in_text = takes.in_text;
    items = rest_behind;
    end = λ _ none. none_behind next end_behind none;
  }

  pub piece_is : {C : Type 0} (made : Planned → ℕ → List Item → C) (content : C) (run : ℕ) (mark : Mark) (last cut : Bool) → content ≡ made plan cutter.file items → run ≡ plan.run → is_some next ≡ not last → cut ≡ is_cut plan cutter.file → mark ≡ (if last then (if cut then Cut else Whole) else More) →
      ◌≡◌ {A = Piece C} (record { run = run; file = cutter.file; number = cutter.next; mark = mark; items = content }) (piece_by made plan cutter.file cutter.next)
  piece_is {C} made content run mark last cut carries same none reading marked = parts run plan.run mark (mark_of plan cutter.file cutter.next) content (made plan cutter.file (part plan.per_piece all cutter.next)) same
      (marked ∙ ap (λ b. if b then (if cut then Cut else Whole) else More) (last_is plan.per_piece all cutter.next next (items_left plan.table (bytes_of plan cutter.file) cursor) last some rest_behind end_behind there none)
      ∙ ap (λ b. if nat_eq (cutter.next + 1) (pieces_of plan cutter.file) then (if b then Cut else Whole) else More) reading)
      (carries ∙ ap (λ xs. made plan cutter.file xs) (takes.items_are ∙ ap (λ xs. take plan.per_piece xs) is.items))
    where
      parts : (r s : ℕ) (m n : Mark) (xs ys : C) → r ≡ s → m ≡ n → xs ≡ ys →
          ◌≡◌ {A = Piece C} (record { run = r; file = cutter.file; number = cutter.next; mark = m; items = xs }) (record { run = s; file = cutter.file; number = cutter.next; mark = n; items = ys })
      parts r s m n xs ys e f g = cc

  pub is_piece : {C : Type 0} (made : Planned → ℕ → List Item → C) (content : C) (run : ℕ) (mark : Mark) (last cut : Bool) → content ≡ made plan cutter.file items → cutter.next < top_number → run ≡ plan.run → is_some next ≡ not last → cut ≡ is_cut plan cutter.file → mark ≡ (if last then (if cut then Cut else Whole) else More) →
      IsPieceBy made plan (record { run = run; file = cutter.file; number = cutter.next; mark = mark; items = content })
  is_piece made content run mark last cut carries countable same none reading marked = record { file = is.file; number = there; countable = countable; whole = piece_is made content run mark last cut carries same none reading marked }
