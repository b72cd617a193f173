-- The output of a printer to which a plan's pieces were passed in order.
use Rattle.std.proofs.Common.{ℕ, ◌≡◌, inl, inr, false, List, [], ◌++◌, Option, refl, sym, ◌∙◌, ap, subst, arith, append-nil, length, replicate}
use Rattle.std.specs.Prelude.{slice_index}
use Rattle.std.specs.Io.KnownBytes.{Appends}
use Rattle.std.proofs.lemmas.Bool.{both_ways, cases_Bool, cases_lt, cases_order}
use Rattle.std.proofs.lemmas.List.{get_or-replicate, get_or_past, length-replicate}
use Rattle.lx_piece.specs.Passing.{Passing, PassesOn}
use Rattle.lx_piece.specs.Pieces.{IsPrefix}
use Rattle.lx_piece.specs.Plans.{Planned, IsPlan, files_of}
use Rattle.lx_piece.specs.Relayed.{AreAllTaken, HasOpenFile}
use Rattle.lx_piece.specs.Turns.{Turn, IsFirstOpen, IsTurnBy, first_turn}
use Rattle.lx_listing.specs.Listings.{IsDue, IsTurnOf, Listed, Prints, Progress, all_lines, lines_before, lines_until, listing_of, listing_to, listing_to_by, plainly, printed, taken_lines, taken_lines_by}
use Rattle.lx_listing.specs.ListingLaws.{due_begins, due_whole}
use Rattle.lx_listing.specs.AppendingLaws.{appends_nothing}
use Rattle.lx_listing.specs.Printing.{Printing, PrintsTo, PrintsPart, WrotePrefix}
use Rattle.lx_listing.specs.PrintingLaws.{turn_begins}

-- the passing of pieces to a printer
abbrev pub Passed : {S T : Type 0} → (S → List ℕ → S → Type 0) → (T → Printing S) → Passing T → Passing T → Type 0
Passed {S} {T} wrote at old new = PassesOn (λ t. (at t).listed.plan) (λ t. (at t).turn) (λ s t. PrintsTo wrote (at s) (at t)) (λ s fault t. PrintsPart wrote (at s) fault (at t)) old new

-- before the first piece
pub fresh_open : (plan : Planned) (counts : List ℕ) → counts ≡ replicate (files_of plan) 0 → IsFirstOpen plan counts 0
fresh_open plan counts e =
    record {
      files = ap length e ∙ length-replicate (files_of plan) 0;
      within = omega arith;
      below = λ g l. absurd (omega arith);
      not_closed = λ l all.
          let none : slice_index counts 0 ≡ 0 = ap (λ (ns : List ℕ). slice_index ns 0) e ∙ get_or-replicate (files_of plan) 0 0 0 l in
          absurd (omega arith);
    }

fresh_count : (plan : Planned) (counts : List ℕ) → counts ≡ replicate (files_of plan) 0 → slice_index counts 0 ≡ 0
fresh_count plan counts e = elim (cases_lt 0 (files_of plan)) [
  | inl l ↦ ap (λ (ns : List ℕ). slice_index ns 0) e ∙ get_or-replicate (files_of plan) 0 0 0 l
  | inr past ↦ get_or_past counts 0 0 (let size = ap length e ∙ length-replicate (files_of plan) 0 in omega arith)
]

pub fresh_turn : (plan : Planned) (counts : List ℕ) (turn : Turn) → counts ≡ replicate (files_of plan) 0 → turn ≡ first_turn → IsTurnBy plan counts turn
fresh_turn plan counts turn e t =
    subst (λ (u : Turn). IsTurnBy plan counts u) (sym t) (record { first = fresh_open plan counts e; number = sym (fresh_count plan counts e) })

-- the turn by counts of pieces taken is one of the plan
pub turn_is : (plan : Planned) (counts : List ℕ) (turn : Turn) → IsPlan plan → IsTurnBy plan counts turn → IsTurnOf plan turn
turn_is plan counts turn is by =
    let size = by.first.files in
    record {
      plan_is = is;
      within = by.first.within;
      first = λ all. by.number ∙ get_or_past counts turn.file 0 (omega arith);
    }

-- and the text that is due by them comes before it
pub due_by_turn : (plan : Planned) (counts : List ℕ) (turn : Turn) → IsPlan plan → IsTurnBy plan counts turn → IsDue plan counts (lines_before plan turn)
due_by_turn plan counts turn is by =
    record {
      plan_is = is;
      first = turn.file;
      first_open = by.first;
      lines = ap (λ (n : ℕ). listing_to plan turn.file ++ taken_lines plan turn.file n) by.number;
    }

-- there is one first file that isn't closed
first_once : (plan : Planned) (counts : List ℕ) (f g : ℕ) → IsFirstOpen plan counts f → IsFirstOpen plan counts g → f ≡ g
first_once plan counts f g a b =
    let within_f = a.within in
    let within_g = b.within in
    elim (cases_order f g) [
      | inl same ↦ same
      | inr o ↦ elim o [
        | inl less ↦ absurd (a.not_closed (omega arith) (b.below f less))
        | inr more ↦ absurd (b.not_closed (omega arith) (a.below g more))
      ]
    ]

pub due_is : (plan : Planned) (counts : List ℕ) (turn : Turn) (text : List ℕ) → IsTurnBy plan counts turn → IsDue plan counts text → text ≡ lines_before plan turn
due_is plan counts turn text by d =
    d.lines
    ∙ ap (λ (n : ℕ). listing_to plan n ++ taken_lines plan n (slice_index counts n)) (first_once plan counts d.first turn.file d.first_open by.first)
    ∙ ap (λ (n : ℕ). listing_to plan turn.file ++ taken_lines plan turn.file n) (sym by.number)

-- after all pieces, all lines were written
all_until : (listed : Listed) (counts : List ℕ) (turn : Turn) → IsTurnOf listed.plan turn → IsTurnBy listed.plan counts turn → AreAllTaken listed.plan counts → lines_until listed turn ≡ all_lines listed
all_until listed counts turn is by all =
    let style = listed.style in
    let plan = listed.plan in
    let within = is.within in
    let end : turn.file ≡ files_of plan = elim (cases_lt turn.file (files_of plan)) [
      | inl l ↦ absurd (by.first.not_closed l (all turn.file l))
      | inr past ↦ omega arith
    ] in
    ap (λ (n : ℕ). listing_to_by style plan turn.file ++ taken_lines_by style plan turn.file n) (is.first end)
    ∙ append-nil (listing_to_by style plan turn.file)
    ∙ ap (λ (n : ℕ). listing_to_by style plan n) end

-- Once each piece of each file was taken, all of the listing was written.
pub listed_whole : {S T : Type 0} (wrote : S → List ℕ → S → Type 0) (at : T → Printing S) (listed : Listed) (old new : Passing T) → IsPlan listed.plan → (at old.taker).listed ≡ listed → (at old.taker).turn ≡ first_turn → old.counts ≡ replicate (files_of listed.plan) 0 → old.failed ≡ false → Passed wrote at old new → AreAllTaken listed.plan new.counts → wrote (at old.taker).sink (all_lines listed) (at new.taker).sink
listed_whole wrote at listed old new is listed_is first fresh working passed all =
    let plan = listed.plan in
    let plan_is : (at old.taker).listed.plan ≡ plan = ap (λ (l : Listed). l.plan) listed_is in
    elim (cases_Bool new.failed) [
      | inl failed ↦
          let same = passed.same ∙ plan_is in
          let some_open = passed.stuck working failed in
          absurd (some_open.2 (subst (λ (p : Planned). AreAllTaken p new.counts) (sym same) all some_open.0 some_open.1))
      | inr going ↦
          let same = passed.same ∙ plan_is in
          let took = passed.took working going in
          let fresh_is = fresh_turn plan old.counts (at old.taker).turn fresh first in
          let begun = subst (λ (p : Planned). IsTurnBy p old.counts (at old.taker).turn) (sym plan_is) fresh_is in
          let by = subst (λ (p : Planned). IsTurnBy p new.counts (at new.taker).turn) same (passed.turned working going begun) in
          let at_first = subst (λ (p : Planned). IsTurnOf p (at old.taker).turn) (sym plan_is) (turn_is plan old.counts (at old.taker).turn is fresh_is) in
          let bytes : took.bytes ≡ all_lines listed =
          sym (ap (λ (t : Turn). lines_until (at old.taker).listed t ++ took.bytes) first)
          ∙ took.due at_first
          ∙ ap (λ (l : Listed). lines_until l (at new.taker).turn) listed_is
          ∙ all_until listed new.counts (at new.taker).turn (turn_is plan new.counts (at new.taker).turn is by) by all in
          subst (λ (bs : List ℕ). wrote (at old.taker).sink bs (at new.taker).sink) bytes took.written
    ]

-- Otherwise a prefix of it was written.
pub listed_part : {S T : Type 0} (wrote : S → List ℕ → S → Type 0) (at : T → Printing S) (listed : Listed) (old new : Passing T) → IsPlan listed.plan → (at old.taker).listed ≡ listed → (at old.taker).turn ≡ first_turn → old.counts ≡ replicate (files_of listed.plan) 0 → old.failed ≡ false → Passed wrote at old new → WrotePrefix wrote (at old.taker).sink (all_lines listed) (at new.taker).sink
listed_part wrote at listed old new is listed_is first fresh working passed =
    let plan = listed.plan in
    let own = (at old.taker).listed in
    let plan_is : own.plan ≡ plan = ap (λ (l : Listed). l.plan) listed_is in
    let begun = fresh_turn plan old.counts (at old.taker).turn fresh first in
    let at_first = subst (λ (p : Planned). IsTurnOf p (at old.taker).turn) (sym plan_is) (turn_is plan old.counts (at old.taker).turn is begun) in
    let fits : (bytes : List ℕ) → IsPrefix (lines_until own (at old.taker).turn ++ bytes) (all_lines own) → IsPrefix bytes (all_lines listed) =
    λ bytes h. subst (λ (l : Listed). IsPrefix bytes (all_lines l)) listed_is (subst (λ (t : Turn). IsPrefix (lines_until own t ++ bytes) (all_lines own)) first h) in
    elim (cases_Bool new.failed) [
      | inl failed ↦
          let part = (passed.fell working failed).1 in
          (part.bytes, fits part.bytes (part.prefix at_first), part.written)
      | inr going ↦
          let took = passed.took working going in (
            took.bytes,
            fits took.bytes (subst (λ (bs : List ℕ). IsPrefix bs (all_lines own)) (sym (took.due at_first)) (turn_begins own (at new.taker).turn (took.after at_first))),
            took.written,
          )
    ]

-- The same for a printer to which no piece was passed.
pub all_listed : {S T : Type 0} (wrote : S → List ℕ → S → Type 0) (taker : T) (at : T → Printing S) (listed : Listed) (old new : Passing T) → IsPlan listed.plan → (at taker).listed ≡ listed → (at taker).turn ≡ first_turn → old ≡ record { taker = taker; counts = replicate (files_of listed.plan) 0; faults = 0; failed = false } → Passed wrote at old new → AreAllTaken listed.plan new.counts → wrote (at taker).sink (all_lines listed) (at new.taker).sink
all_listed {S} {T} wrote taker at listed old new is listed_is first start passed all =
    listed_whole wrote at listed (record { taker = taker; counts = replicate (files_of listed.plan) 0; faults = 0; failed = false }) new is listed_is first refl refl (subst (λ (o : Passing T). Passed wrote at o new) start passed) all

pub part_listed : {S T : Type 0} (wrote : S → List ℕ → S → Type 0) (taker : T) (at : T → Printing S) (listed : Listed) (old new : Passing T) → IsPlan listed.plan → (at taker).listed ≡ listed → (at taker).turn ≡ first_turn → old ≡ record { taker = taker; counts = replicate (files_of listed.plan) 0; faults = 0; failed = false } → Passed wrote at old new → WrotePrefix wrote (at taker).sink (all_lines listed) (at new.taker).sink
part_listed {S} {T} wrote taker at listed old new is listed_is first start passed =
    listed_part wrote at listed (record { taker = taker; counts = replicate (files_of listed.plan) 0; faults = 0; failed = false }) new is listed_is first refl refl (subst (λ (o : Passing T). Passed wrote at o new) start passed)

-- the progress of a listing, by the pieces that were passed
abbrev pub progress_of : {T : Type 0} → Planned → Passing T → Progress
progress_of plan s = record { plan = plan; counts = s.counts; faults = s.faults; failed = s.failed }

-- The output of a listing while pieces were passed to its printer.
pub prints_passed : {S T : Type 0} (plan : Planned) (old new : Passing T) (at : T → Printing S) (wrote : S → List ℕ → S → Type 0) (contents : S → Option (List ℕ)) (appends : (s t : S) (bs : List ℕ) → wrote s bs t → Appends (contents s) (contents t) bs) → IsPlan plan → (at old.taker).listed ≡ plainly plan → (old.failed ≡ false → IsTurnBy plan old.counts (at old.taker).turn) → Passed wrote at old new → Prints (printed (progress_of plan old) (contents (at old.taker).sink)) (printed (progress_of plan new) (contents (at new.taker).sink))
prints_passed {S} {T} plan old new at wrote contents appends is listed_is turn passed =
    let plan_is : (at old.taker).listed.plan ≡ plan = ap (λ (l : Listed). l.plan) listed_is in
    elim (cases_Bool old.failed) [
      | inl before ↦
          let stopped = passed.stopped before in
          record {
            plan = refl;
            bytes = [];
            wrote = subst (λ (t : T). Appends (contents (at old.taker).sink) (contents (at t).sink) []) (sym stopped.1) (appends_nothing (contents (at old.taker).sink));
            due = λ working. absurd (both_ways old.failed working before);
            prefix = λ working. absurd (both_ways old.failed working before);
            whole = λ working. absurd (both_ways old.failed working before);
            stuck = λ working. absurd (both_ways old.failed working before);
            stopped = λ _. (stopped.0, refl, stopped.2);
          }
      | inr working ↦
          let by = turn working in
          let at_turn = subst (λ (p : Planned). IsTurnOf p (at old.taker).turn) (sym plan_is) (turn_is plan old.counts (at old.taker).turn is by) in
          let same = passed.same ∙ plan_is in
          elim (cases_Bool new.failed) [
            | inl failed ↦
                let part = (passed.fell working failed).1 in
                let some_open : HasOpenFile plan new.counts = subst (λ (p : Planned). HasOpenFile p new.counts) same (passed.stuck working failed) in
                record {
                  plan = refl;
                  bytes = part.bytes;
                  wrote = appends (at old.taker).sink (at new.taker).sink part.bytes part.written;
                  due = λ _ going. absurd (both_ways new.failed going failed);
                  prefix = λ _ text due.
                      subst (λ (bs : List ℕ). IsPrefix (bs ++ part.bytes) (listing_of plan)) (sym (due_is plan old.counts (at old.taker).turn text by due))
                      (subst (λ (l : Listed). IsPrefix (lines_until l (at old.taker).turn ++ part.bytes) (all_lines l)) listed_is (part.prefix at_turn));
                  whole = λ _ all. absurd (some_open.2 (all some_open.0 some_open.1));
                  stuck = λ _ _. some_open;
                  stopped = λ before. absurd (both_ways old.failed working before);
                }
            | inr going ↦
                let took = passed.took working going in
                let before_is = subst (λ (p : Planned). IsTurnBy p old.counts (at old.taker).turn) (sym plan_is) by in
                let after_by = subst (λ (p : Planned). IsTurnBy p new.counts (at new.taker).turn) same (passed.turned working going before_is) in
                let joined : lines_before plan (at old.taker).turn ++ took.bytes ≡ lines_before plan (at new.taker).turn =
                subst (λ (l : Listed). lines_until l (at old.taker).turn ++ took.bytes ≡ lines_until l (at new.taker).turn) listed_is (took.due at_turn) in
                let text_is : (text : List ℕ) → IsDue plan old.counts text → text ++ took.bytes ≡ lines_before plan (at new.taker).turn =
                λ text due. ap (λ bs. bs ++ took.bytes) (due_is plan old.counts (at old.taker).turn text by due) ∙ joined in
                let due_then : (text : List ℕ) → IsDue plan old.counts text → IsDue plan new.counts (text ++ took.bytes) =
                λ text due. subst (λ (bs : List ℕ). IsDue plan new.counts bs) (sym (text_is text due)) (due_by_turn plan new.counts (at new.taker).turn is after_by) in
                record {
                  plan = refl;
                  bytes = took.bytes;
                  wrote = appends (at old.taker).sink (at new.taker).sink took.bytes took.written;
                  due = λ _ _ text due. due_then text due;
                  prefix = λ _ text due. due_begins plan new.counts (text ++ took.bytes) (due_then text due);
                  whole = λ _ all text due. due_whole plan new.counts (text ++ took.bytes) all (due_then text due);
                  stuck = λ _ failed. absurd (both_ways new.failed going failed);
                  stopped = λ before. absurd (both_ways old.failed working before);
                }
          ]
    ]
