-- Files that are listed while they are read.
use Rattle.std.proofs.Common.{ℕ, zero, suc, ◌≡◌, ◌+◌, ◌-◌, ◌<◌, ◌≤◌, Bool, false, if◌then◌else◌, List, [], ◌∷◌, ◌++◌, Option, Bor, refl, sym, ◌∙◌, ap, subst, All, length, take, drop, map, arith, append_assoc, append-nil, length-append}
use Rattle.std.specs.Prelude.{slice_index_or}
use Rattle.std.specs.Io.KnownBytes.{Appends}
use Rattle.std.proofs.lemmas.List.{drop_more, get_or-append_right, get_or-map, length-map, take-append-drop, take_all, take_more}
use Rattle.std.proofs.lemmas.List.Elements.{All-append, All-nil, All-push}
use Rattle.lx_tables.specs.Model.{Table}
use Rattle.lx_scan.specs.Streams.{Stream, first_stream}
use Rattle.lx_scan.proofs.Streaming.{begins_scanned}
use Rattle.lx_piece.specs.Plans.{PlainInput, Planned, input_of}
use Rattle.lx_listing.specs.Gathered.{Gathered, Gathers, gathered}
use Rattle.lx_listing.specs.GatheredLaws.{gathers_nothing, gathers_on}
use Rattle.lx_listing.specs.Lines.{Style, file_lines_by}
use Rattle.lx_listing.specs.Listings.{listing_by, listing_to_by}
use Rattle.lx_listing.specs.Streamed.{HasLines, Streamed, TakesBytes}
use Rattle.lx_forms.specs.Forms.{PlainForm}
use Rattle.lx_forms.specs.FormStyleLaws.{listing_same}
use Rattle.lx_forms.specs.FormStyles.{style_of}
use Rattle.lx_tool.specs.Given.{AreListed}
use Rattle.lx_tool.specs.Planning.{ListsIn}
use Rattle.lx_tool.specs.Sources.{AreGiven, TakesOn, first, none}
use Rattle.lx_tool.specs.Streaming.{GathersFront, IsStreamed, StopsAt, WroteAll}
use Rattle.lx_tool.proofs.ReadOn.{reads_more, reads_nothing}
use Rattle.lx_tool.proofs.SourceLemmas.{cut_names_more, given_more}

-- ---- blocks

pub takes_none : {B : Type 0} (takes : B → List ℕ → B → Type 0) (nothing : (s : B) → takes s [] s) (known : Option (List ℕ)) (s : B) → TakesOn takes known known s s
takes_none takes nothing known s = record { bytes = []; read = reads_nothing known; taken = nothing s; are_bytes = All-nil (λ b. b < 256) }

pub takes_more : {B : Type 0} (takes : B → List ℕ → B → Type 0) (on : (s t u : B) (xs ys : List ℕ) → takes s xs t → takes t ys u → takes s (xs ++ ys) u) (a b c : Option (List ℕ)) (s t u : B) → TakesOn takes a b s t → TakesOn takes b c t u → TakesOn takes a c s u
takes_more takes on a b c s t u f h = record {
  bytes = f.bytes ++ h.bytes;
  read = reads_more a b c f.bytes h.bytes f.read h.read;
  taken = on s t u f.bytes h.bytes f.taken h.taken;
  are_bytes = All-append (λ b. b < 256) f.bytes h.bytes f.are_bytes h.are_bytes;
}

-- ---- one file

-- before the first byte of a file, no lines were gathered
pub no_lines : {K : Type 0} (wrote : K → List ℕ → K → Type 0) (nothing : (s : K) → wrote s [] s) (style : Style) (file : ℕ) (table : Table) (s : Stream) (k : Gathered K) → s ≡ first_stream table → HasLines wrote style file s [] k k
no_lines wrote nothing style file table s k is = record {
  given = [];
  scanned = begins_scanned table s is;
  goes_on = ap (λ (t : Stream). t.has_ended) is;
  lines = λ plan rest e bytes. gathers_nothing wrote nothing k;
}

-- its lines, once its bytes were taken and it has ended
pub file_streamed : {L K : Type 0} (style : L → Style) (wrote : K → List ℕ → K → Type 0) (nothing : (s : K) → wrote s [] s) (old begun mid : Streamed L K) (last : Gathered K) (file : ℕ) (bytes : List ℕ) (cut : Bool) →
    old.stream ≡ first_stream old.plan.table → begun ≡ record old { file = file } → TakesBytes style wrote begun bytes mid →
    ((start : Gathered K) (front : List ℕ) (whole : Planned) → HasLines wrote (style mid.style) mid.file mid.stream front start mid.sink → whole.table ≡ mid.plan.table → input_of whole mid.file ≡ record { bytes = front; cut = cut } → Gathers wrote start (file_lines_by (style mid.style) whole mid.file) last) →
    (plan : Planned) → plan.table ≡ old.plan.table → input_of plan file ≡ record { bytes = bytes; cut = cut } → Gathers wrote old.sink (file_lines_by (style old.style) plan file) last
file_streamed {L} {K} style wrote nothing old begun mid last file bytes cut fresh is takes ends plan e input =
    let taken : TakesBytes style wrote (record old { file = file }) bytes mid = subst (λ (s : Streamed L K). TakesBytes style wrote s bytes mid) is takes in
    let fed : HasLines wrote (style old.style) file mid.stream bytes old.sink mid.sink = taken.lines old.sink [] (no_lines wrote nothing (style old.style) file old.plan.table old.stream old.sink fresh) in
    let there : HasLines wrote (style mid.style) mid.file mid.stream bytes old.sink mid.sink =
    subst (λ (by : L). HasLines wrote (style by) mid.file mid.stream bytes old.sink mid.sink) (sym taken.style_is) (subst (λ (n : ℕ). HasLines wrote (style old.style) n mid.stream bytes old.sink mid.sink) (sym taken.file_is) fed) in
    let done = ends old.sink bytes plan there (e ∙ sym (ap (λ (p : Planned). p.table) taken.plan_is)) (subst (λ (n : ℕ). input_of plan n ≡ record { bytes = bytes; cut = cut }) (sym taken.file_is) input) in
    subst (λ (n : ℕ). Gathers wrote old.sink (file_lines_by (style old.style) plan n) last) taken.file_is
    (subst (λ (by : L). Gathers wrote old.sink (file_lines_by (style by) plan mid.file) last) taken.style_is done)

pub streamed_as : {L S K : Type 0} (style : L → Style) (gives : S → List ℕ → PlainInput → S → Type 0) (wrote : K → List ℕ → K → Type 0) (a b : Streamed L K) (file : ℕ) (name : List ℕ) (s t : S) (cut : Bool) (old new : Gathered K) →
    a.style ≡ b.style → a.plan ≡ b.plan → IsStreamed gives wrote (style a.style) a.plan.table file name s t cut old new → IsStreamed gives wrote (style b.style) b.plan.table file name s t cut old new
streamed_as {L} style gives wrote a b file name s t cut old new same plan f =
    subst (λ (by : L). IsStreamed gives wrote (style by) b.plan.table file name s t cut old new) same
    (subst (λ (p : Planned). IsStreamed gives wrote (style a.style) p.table file name s t cut old new) plan f)

-- ---- files, one after the other

same_length : {S : Type 0} (gives : S → List ℕ → PlainInput → S → Type 0) (s t : S) (names : List (List ℕ)) (inputs : List PlainInput) → AreGiven gives s names inputs t → length inputs ≡ length names
same_length gives s t [] [] none = refl
same_length gives s t [] (i ∷ is) given = elim given [ ]
same_length gives s t (n ∷ ns) [] given = elim given [ ]
same_length gives s t (n ∷ ns) (i ∷ is) (first {t = m} g rest) = ap suc (same_length gives m t ns is rest)

-- the file after those before it
file_behind : (before : List PlainInput) (input : PlainInput) (rest : List PlainInput) (plan : Planned) → plan.inputs ≡ (before ++ input ∷ []) ++ rest → input_of plan (length before) ≡ input
file_behind before input rest plan is =
    let empty : PlainInput = record { bytes = []; cut = false } in
    ap (λ (inputs : List PlainInput). slice_index_or inputs (length before) empty) (is ∙ append_assoc before (input ∷ []) rest)
    ∙ get_or-append_right before (input ∷ rest) (length before) (length before) empty refl (omega arith) ∙ at_first input rest (length before) empty
  where
    at_first : (input : PlainInput) (rest : List PlainInput) (n : ℕ) (d : PlainInput) → slice_index_or (input ∷ rest) (n - n) d ≡ input
    at_first input rest n d = let zero_is : n - n ≡ 0 = omega arith in ap (λ (k : ℕ). slice_index_or (input ∷ rest) k d) zero_is

module _ {S K : Type 0} (gives : S → List ℕ → PlainInput → S → Type 0) (wrote : K → List ℕ → K → Type 0) (nothing : (s : K) → wrote s [] s) (on : (s t u : K) (xs ys : List ℕ) → wrote s xs t → wrote t ys u → wrote s (xs ++ ys) u) (style : Style) (table : Table) where
  abbrev Listed : List (List ℕ) → S → S → List (List ℕ) → Gathered K → Gathered K → Type 0
  Listed names before after cut old new = AreListed gives (λ inputs. GathersFront wrote style table inputs old new) names before after cut

  pub streamed_none : (before : S) (old : Gathered K) → Listed [] before before [] old old
  streamed_none before old = record {
    inputs = [];
    read = record { given = none; bytes = All-nil (λ (input : PlainInput). All (λ b. b < 256) input.bytes); cut_are = refl };
    listed = λ plan rest e f. gathers_nothing wrote nothing old;
  }

  -- one file more
  more : (names : List (List ℕ)) (name : List ℕ) (s t u : S) (cut : List (List ℕ)) (is_cut : Bool) (old mid new : Gathered K) → Listed names s t cut old mid → IsStreamed gives wrote style table (length names) name t u is_cut mid new →
      Listed (names ++ name ∷ []) s u (cut ++ (if is_cut then name ∷ [] else [])) old new
  more names name s t u cut is_cut old mid new l f =
      let input : PlainInput = record { bytes = f.bytes; cut = is_cut } in
      let same : length l.inputs ≡ length names = same_length gives s t names l.inputs l.read.given in
      record {
        inputs = l.inputs ++ input ∷ [];
        read = record {
          given = given_more gives s t u names l.inputs name input l.read.given f.given;
          bytes = All-push (λ (i : PlainInput). All (λ b. b < 256) i.bytes) l.inputs input l.read.bytes f.are_bytes;
          cut_are = ap (λ (xs : List (List ℕ)). xs ++ (if is_cut then name ∷ [] else [])) l.read.cut_are ∙ sym (cut_names_more names l.inputs name input (sym same));
        };
        listed = λ plan rest e is.
            let count : length (l.inputs ++ input ∷ []) ≡ suc (length l.inputs) = omega (arith, length-append l.inputs (input ∷ [])) in
            let here : input_of plan (length names) ≡ input = subst (λ (n : ℕ). input_of plan n ≡ input) same (file_behind l.inputs input rest plan is) in
            let lines : Gathers wrote mid (file_lines_by style plan (length l.inputs)) new = subst (λ (n : ℕ). Gathers wrote mid (file_lines_by style plan n) new) (sym same) (f.lines plan e here) in
            subst (λ (n : ℕ). Gathers wrote old (listing_to_by style plan n) new) (sym count)
            (gathers_on wrote on old mid new (listing_to_by style plan (length l.inputs)) (file_lines_by style plan (length l.inputs))
            (l.listed plan (input ∷ rest) e (is ∙ append_assoc l.inputs (input ∷ []) rest)) lines);
      }

  abbrev names_now : List (Bor (List ℕ)) → List (List ℕ)
  names_now names = map (λ known. known.now) names

  module _ (names : List (Bor (List ℕ))) (i : ℕ) (d : Bor (List ℕ)) (l : i < length names) where
    within : i < length (names_now names)
    within = omega (arith, l, length-map names (λ (known : Bor (List ℕ)). known.now))

    here : slice_index_or (names_now names) i d.now ≡ (slice_index_or names i d).now
    here = get_or-map (λ (known : Bor (List ℕ)). known.now) names i d d.now l

    pub streamed_next : (s t u : S) (cut next : List (List ℕ)) (file : ℕ) (is_cut : Bool) (old mid new : Gathered K) → file ≡ i → Listed (take i (names_now names)) s t cut old mid →
        IsStreamed gives wrote style table file (slice_index_or names i d).now t u is_cut mid new → next ≡ cut ++ (if is_cut then (slice_index_or names i d).now ∷ [] else []) → Listed (take (i + 1) (names_now names)) s u next old new
    streamed_next s t u cut next file is_cut old mid new number before now is =
        let name = (slice_index_or names i d).now in
        let long : length (take i (names_now names)) ≡ i = length_taken (names_now names) i within in
        let at : take (i + 1) (names_now names) ≡ take i (names_now names) ++ name ∷ [] = take_more (names_now names) i d.now within ∙ ap (λ (n : List ℕ). take i (names_now names) ++ n ∷ []) here in
        rw (at, is) (more (take i (names_now names)) name s t u cut is_cut old mid new before (subst (λ (n : ℕ). IsStreamed gives wrote style table n name t u is_cut mid new) (number ∙ sym long) now))
      where
        length_taken : (xs : List (List ℕ)) (n : ℕ) → n < length xs → length (take n xs) ≡ n
        length_taken xs zero l = refl
        length_taken [] (suc n) l = absurd (omega (arith, l))
        length_taken (x ∷ xs) (suc n) l = ap suc (length_taken xs n (omega (arith, l)))

    -- the next one can't be opened
    pub stops_here : (s t : S) (cut : List (List ℕ)) (old mid new : Gathered K) → Listed (take i (names_now names)) s t cut old mid → new ≡ mid →
        StopsAt gives (λ inputs. GathersFront wrote style table inputs old new) (names_now names) s (slice_index_or names i d).now
    stops_here s t cut old mid new before is = record {
      front = take i (names_now names);
      rest = drop (i + 1) (names_now names);
      names_are = sym (take-append-drop i (names_now names)) ∙ ap (λ (xs : List (List ℕ)). take i (names_now names) ++ xs) (drop_more (names_now names) i d.now within ∙ ap (λ (n : List ℕ). n ∷ drop (i + 1) (names_now names)) here);
      after = t;
      inputs = before.inputs;
      given = before.read.given;
      listed = subst (λ (k : Gathered K). GathersFront wrote style table before.inputs old k) (sym is) before.listed;
    }

  pub streamed_all : (names : List (Bor (List ℕ))) (i : ℕ) (s t : S) (cut : List (List ℕ)) (old new : Gathered K) → length names ≤ i → Listed (take i (names_now names)) s t cut old new → Listed (names_now names) s t cut old new
  streamed_all names i s t cut old new past l =
      subst (λ (xs : List (List ℕ)). Listed xs s t cut old new) (take_all i (names_now names) (omega (arith, past, length-map names (λ (known : Bor (List ℕ)). known.now)))) l

-- ---- all that was gathered was written

module _ {K : Type 0} (wrote : K → List ℕ → K → Type 0) (on : (s t u : K) (xs ys : List ℕ) → wrote s xs t → wrote t ys u → wrote s (xs ++ ys) u) (a z : K) (ended : Gathered K) (done : Gathers wrote ended [] (gathered [] false z)) where
  written : (bytes : List ℕ) → Gathers wrote (gathered [] false a) bytes ended → wrote a bytes z
  written bytes g =
      let all : Gathers wrote (gathered [] false a) (bytes ++ []) (gathered [] false z) = gathers_on wrote on (gathered [] false a) ended (gathered [] false z) bytes [] g done in
      let is : bytes ≡ all.given = sym (append-nil bytes) ∙ (all.held refl ∙ append-nil all.given) in
      subst (λ (bs : List ℕ). wrote a bs z) (sym is) all.written

  front_written : (style : Style) (table : Table) (inputs : List PlainInput) → GathersFront wrote style table inputs (gathered [] false a) ended → WroteAll wrote style table inputs a z
  front_written style table inputs g = λ plan e is.
      let front : Gathers wrote (gathered [] false a) (listing_to_by style plan (length inputs)) ended = g plan [] e (is ∙ sym (append-nil inputs)) in
      written (listing_by style plan) (subst (λ (n : ℕ). Gathers wrote (gathered [] false a) (listing_to_by style plan n) ended) (ap length (sym is)) front)

pub wrote_all : {L K : Type 0} (style : L → Style) (wrote : K → List ℕ → K → Type 0) (on : (s t u : K) (xs ys : List ℕ) → wrote s xs t → wrote t ys u → wrote s (xs ++ ys) u) (own by : L) (own_plan plan : Planned) (a z : K) (begun ended : Gathered K) (failed : Bool) →
    own ≡ by → own_plan ≡ plan → begun ≡ gathered [] false a → failed ≡ false → Gathers wrote ended [] (gathered [] failed z) →
    (inputs : List PlainInput) → GathersFront wrote (style own) own_plan.table inputs begun ended → WroteAll wrote (style by) plan.table inputs a z
wrote_all {L} {K} style wrote on own by own_plan plan a z begun ended failed same same_plan fresh well done inputs g =
    front_written wrote on a z ended (subst (λ (f : Bool). Gathers wrote ended [] (gathered [] f z)) well done) (style by) plan.table inputs
    (subst (λ (l : L). GathersFront wrote (style l) plan.table inputs (gathered [] false a) ended) same
    (subst (λ (p : Planned). GathersFront wrote (style own) p.table inputs (gathered [] false a) ended) same_plan
    (subst (λ (k : Gathered K). GathersFront wrote (style own) own_plan.table inputs k ended) fresh g)))

-- ---- listings that are listed as well

pub stops_as_well : {S : Type 0} (gives : S → List ℕ → PlainInput → S → Type 0) (P Q : List PlainInput → Type 0) (as_well : (inputs : List PlainInput) → P inputs → Q inputs) (names : List (List ℕ)) (before : S) (name : List ℕ) → StopsAt gives P names before name → StopsAt gives Q names before name
stops_as_well gives P Q as_well names before name s = record {
  front = s.front;
  rest = s.rest;
  names_are = s.names_are;
  after = s.after;
  inputs = s.inputs;
  given = s.given;
  listed = as_well s.inputs s.listed;
}

-- all lines in the style of a form are the listing in the form
pub lists_in : (old new : Option (List ℕ)) (form : PlainForm) (own table : Table) → own ≡ table → (inputs : List PlainInput) →
    ((plan : Planned) → plan.table ≡ own → plan.inputs ≡ inputs → Appends old new (listing_by (style_of form) plan)) → ListsIn form table inputs old new
lists_in old new form own table same inputs appends =
    let plan : Planned = record { run = 1; per_piece = 1; table = own; inputs = inputs } in
    record {
      plan = plan;
      by_tables = record { table_is = same; inputs_are = refl };
      wrote = subst (λ (bytes : List ℕ). Appends old new bytes) (listing_same form plan) (appends plan refl refl);
    }
