-- The lines of a file that arrives in blocks.
use Rattle.std.proofs.Common.{ℕ, ◌≡◌, inl, ◌+◌, ◌-◌, ◌<◌, ◌≤◌, true, false, Bool, List, [], ◌∷◌, ◌++◌, Result, Ok, Err, take, drop, length, length-append, length-take, refl, sym, ◌∙◌, ap, ap₂, subst, append_assoc, append-nil, arith, if◌then◌else◌}
use Rattle.std.specs.Prelude.{All, IsTrue, OnOk}
use Rattle.std.proofs.lemmas.Grind.{flat_map-append}
use Rattle.std.proofs.lemmas.List.Elements.{All-drop, All-head, All-tail, All-take, All-weaker}
use Rattle.std.proofs.Math.Seq.{drop-append_seam, take-append_seam}
use Rattle.lx_tables.specs.Model.{IsTable, Table}
use Rattle.lx_scan.specs.declared.item.Item.{Item}
use Rattle.lx_scan.specs.ItemParts.{IsItemOf, NamesKindAmong, text_at, text_of}
use Rattle.lx_scan.specs.Items as scan
use Rattle.lx_scan.specs.Streams.{Feeds, Gives, HasScanned, IsDrained, IsFedOf, IsOver, Stream, first_stream, left_in}
use Rattle.lx_scan.proofs.Streaming.{all_scanned, begins_scanned, ends_scanned, feeds_scanned, gives_none, gives_then}
use Rattle.lx_piece.specs.Plans.{PlainInput, Planned, bytes_of, input_of, items_of}
use Rattle.lx_line.specs.Styles.{NeedsText, Style, lines_at, lines_by}
use Rattle.lx_listing.specs.Gathered.{Gathered, Gathers}
use Rattle.lx_listing.specs.GatheredLaws.{gathers_nothing, gathers_on}
use Rattle.lx_listing.specs.Lines.{cut_lines_by, file_lines_by}
use Rattle.lx_listing.specs.Streamed.{HasLines, IsScanning, ListsGiven}

-- ---- the scanner
pub scanned_more : (a b : Stream) (front : List ℕ) (before given : List Item) → Gives a b given → HasScanned a front before → HasScanned b front (before ++ given)
scanned_more a b front before given g h = record {
  fed = λ rest end. g.fed (front ++ rest) rest (h.fed rest (ended end));
  items = λ rest end.
      ap (λ (t : Table). scan.items_of t (front ++ rest)) g.table ∙ h.items rest (ended end)
      ∙ ap (λ (xs : List Item). before ++ xs) (g.items (front ++ rest) rest (h.fed rest (ended end)))
      ∙ sym (append_assoc before given (left_in b (front ++ rest)));
}
  where
    ended : {rest : List ℕ} → (IsTrue b.has_ended → rest ≡ []) → IsTrue a.has_ended → rest ≡ []
    ended end e = end (g.end ∙ e)

pub drained_first : (table : Table) (s : Stream) → s ≡ first_stream table → IsDrained s
drained_first table s is = record { none_due = ap (λ (t : Stream). t.due) is; undecided = inl (ap (λ (t : Stream). t.held) is) }

pub scanning_begins : (table : Table) (s : Stream) → s ≡ first_stream table → IsScanning table s
scanning_begins table s is = record { table_is = ap (λ (t : Stream). t.table) is; front = []; given = []; scanned = begins_scanned table s is }

pub scanning_more : (table : Table) (a b : Stream) (given : List Item) → Gives a b given → IsScanning table a → IsScanning table b
scanning_more table a b given g s = record {
  table_is = g.table ∙ s.table_is;
  front = s.front;
  given = s.given ++ given;
  scanned = scanned_more a b s.front s.given given g s.scanned;
}

pub scanning_feeds : (table : Table) (a b : Stream) (block : List ℕ) → a.has_ended ≡ false → Feeds a b block → IsScanning table a → IsScanning table b
scanning_feeds table a b block goes_on f s = record {
  table_is = ap (λ (t : Stream). t.table) f.same ∙ s.table_is;
  front = s.front ++ block;
  given = s.given;
  scanned = feeds_scanned a b s.front block s.given goes_on f s.scanned;
}

pub scanning_ends : (table : Table) (a b : Stream) → a.has_ended ≡ false → b ≡ record a { has_ended = true } → IsScanning table a → IsScanning table b
scanning_ends table a b goes_on is s = record {
  table_is = ap (λ (t : Stream). t.table) is ∙ s.table_is;
  front = s.front;
  given = s.given;
  scanned = ends_scanned a b s.front s.given goes_on is s.scanned;
}

-- the kinds of the items that it gives are those of the tables
pub given_named : (table : Table) (a b : Stream) (given : List Item) → ((t : Table) (text : List ℕ) → IsTable t → All (IsItemOf t.kinds text) (scan.items_of t text)) → IsTable table → IsScanning table a → Gives a b given → All (NamesKindAmong table.kinds) given
given_named table a b given known is s g =
    let text = s.front ++ [] in
    let end : IsTrue a.has_ended → [] ≡ [] = λ e. refl in
    let all : scan.items_of table text ≡ s.given ++ (given ++ left_in b text)
    = ap (λ (t : Table). scan.items_of t text) (sym s.table_is) ∙ s.scanned.items [] end ∙ ap (λ (xs : List Item). s.given ++ xs) (g.items text [] (s.scanned.fed [] end)) in
    let Known : Item → Type 0 = IsItemOf table.kinds text in
    let whole : All Known (s.given ++ (given ++ left_in b text)) = subst (λ (xs : List Item). All Known xs) all (known table text is) in
    let rest : All Known (given ++ left_in b text)
    = subst (λ (xs : List Item). All Known xs) (drop-append_seam s.given (given ++ left_in b text)) (All-drop Known (length s.given) (s.given ++ (given ++ left_in b text)) whole) in
    let own : All Known given = subst (λ (xs : List Item). All Known xs) (take-append_seam given (left_in b text)) (All-take Known (length given) (given ++ left_in b text) rest) in
    All-weaker Known (NamesKindAmong table.kinds) (λ item k. k.named) given own

-- no more bytes are kept than came before
pub few_kept : (s : Stream) (text rest : List ℕ) → IsFedOf s text rest → length s.kept ≤ s.place.offset
few_kept s text rest fed =
    let from : ℕ = s.place.offset - length s.kept in
    let long : length (take (s.place.offset - from) (drop from text)) ≡ length s.kept = ap length fed.kept in
    omega (arith, long, length-take (s.place.offset - from) (drop from text))

-- whatever a call that may fail returns
pub ok_anyway : {T E P : Type 0} (r : Result T E) → P → OnOk r P
ok_anyway (Ok value) p = p
ok_anyway (Err error) p = tt

-- a consequence of its success
pub ok_then : {T E P Q : Type 0} (r : Result T E) → OnOk r P → (P → Q) → OnOk r Q
ok_then (Ok value) p f = f p
ok_then (Err error) p f = tt

-- fewer are left
pub fewer_items : (a b : Stream) (text : List ℕ) (given : List Item) (full : Bool) (count most : ℕ) → Gives a b given → IsFedOf a text [] → 0 < most → count ≡ length given → (full ≡ true → count ≡ most) →
    length (left_in b text) + (if full then 1 else 0) < length (left_in a text) + 1
fewer_items a b text given true count most g fed some is full =
    let all : length (left_in a text) ≡ length (given ++ left_in b text) = ap length (g.items text [] fed) in
    let m : count ≡ most = full refl in
    omega (arith, all, some, is, m, length-append given (left_in b text))
fewer_items a b text given false count most g fed some is full =
    let all : length (left_in a text) ≡ length (given ++ left_in b text) = ap length (g.items text [] fed) in
    omega (arith, all, length-append given (left_in b text))

-- the lines of items that a scanner keeps, by the bytes that it keeps
pub lines_kept : (style : Style) → NeedsText style → (table : Table) (file : ℕ) (bytes : List ℕ) (base : ℕ) (whole : Planned) (P : Item → Type 0) → ((item : Item) → P item → text_at bytes base item ≡ text_of (bytes_of whole file) item) → whole.table ≡ table → (items : List Item) → All P items →
    lines_at style table file bytes base items ≡ lines_by style whole file items
lines_kept style needs table file bytes base whole P same e [] all = refl
lines_kept style needs table file bytes base whole P same e (item ∷ items) all =
    ap₂ (λ (line lines : List ℕ). line ++ lines)
    (ap (style.line_with table file item) (same item (All-head P item items all)) ∙ ap (λ (k : Table). style.line_with k file item (text_of (bytes_of whole file) item)) (sym e) ∙ sym (needs.line whole file item))
    (lines_kept style needs table file bytes base whole P same e items (All-tail P item items all))

module _ {S : Type 0} (wrote : S → List ℕ → S → Type 0) (nothing : (s : S) → wrote s [] s) (on : (s t u : S) (xs ys : List ℕ) → wrote s xs t → wrote t ys u → wrote s (xs ++ ys) u) (style : Style) (file : ℕ) where
  -- ---- the lines of the items that it gives
  pub lists_none : (s : Stream) (old : Gathered S) → ListsGiven wrote style file s old s old
  lists_none s old = record { given = []; gives = gives_none s; lines = λ whole rest e fed. gathers_nothing wrote nothing old }

  pub lists_more : (table : Table) (s a b : Stream) (old mid new : Gathered S) (items : List Item) → ListsGiven wrote style file s old a mid → Gives a b items → s.table ≡ table →
      ((whole : Planned) (rest : List ℕ) → whole.table ≡ table → IsFedOf b (bytes_of whole file) rest → Gathers wrote mid (lines_by style whole file items) new) → ListsGiven wrote style file s old b new
  lists_more table s a b old mid new items l g same more = record {
    given = l.given ++ items;
    gives = gives_then s a b l.given items l.gives g;
    lines = λ whole rest e fed.
        subst (λ (bytes : List ℕ). Gathers wrote old bytes new) (sym (flat_map-append (style.line whole file) l.given items))
        (gathers_on wrote on old mid new (lines_by style whole file l.given) (lines_by style whole file items) (l.lines whole rest e fed)
        (more whole rest (e ∙ same) (g.fed (bytes_of whole file) rest (l.gives.fed (bytes_of whole file) rest fed))));
  }

  -- ---- the lines of a file
  pub has_lines_fed : (a b : Stream) (front block : List ℕ) (start now : Gathered S) → Feeds a b block → HasLines wrote style file a front start now → HasLines wrote style file b (front ++ block) start now
  has_lines_fed a b front block start now f h = record {
    given = h.given;
    scanned = feeds_scanned a b front block h.given h.goes_on f h.scanned;
    goes_on = ap (λ (s : Stream). s.has_ended) f.same ∙ h.goes_on;
    lines = λ whole rest e bytes. h.lines whole (block ++ rest) (e ∙ ap (λ (s : Stream). s.table) f.same) (bytes ∙ append_assoc front block rest);
  }

  pub has_lines_more : (a b : Stream) (front : List ℕ) (start mid new : Gathered S) → ListsGiven wrote style file a mid b new → HasLines wrote style file a front start mid → HasLines wrote style file b front start new
  has_lines_more a b front start mid new l h = record {
    given = h.given ++ l.given;
    scanned = scanned_more a b front h.given l.given l.gives h.scanned;
    goes_on = l.gives.end ∙ h.goes_on;
    lines = λ whole rest e bytes.
        let there : whole.table ≡ a.table = e ∙ l.gives.table in
        let fed : IsFedOf a (bytes_of whole file) rest = subst (λ (text : List ℕ). IsFedOf a text rest) (sym bytes) (h.scanned.fed rest going) in
        subst (λ (bs : List ℕ). Gathers wrote start bs new) (sym (flat_map-append (style.line whole file) h.given l.given))
        (gathers_on wrote on start mid new (lines_by style whole file h.given) (lines_by style whole file l.given) (h.lines whole rest there bytes) (l.lines whole rest there fed));
  }
    where
      going : {xs : List ℕ} → IsTrue a.has_ended → xs ≡ []
      going ended = absurd (let no : true ≡ false = sym ended ∙ h.goes_on in cc)

  pub has_lines_passed : (s : Stream) (front : List ℕ) (start mid new : Gathered S) → Gathers wrote mid [] new → HasLines wrote style file s front start mid → HasLines wrote style file s front start new
  has_lines_passed s front start mid new p h = record {
    given = h.given;
    scanned = h.scanned;
    goes_on = h.goes_on;
    lines = λ whole rest e bytes.
        subst (λ (bs : List ℕ). Gathers wrote start bs new) (append-nil (lines_by style whole file h.given))
        (gathers_on wrote on start mid new (lines_by style whole file h.given) [] (h.lines whole rest e bytes) p);
  }

  -- a block was taken
  pub takes_block : (a b d : Stream) (front block : List ℕ) (start old mid new : Gathered S) → Feeds a b block → ListsGiven wrote style file b old d mid → Gathers wrote mid [] new →
      HasLines wrote style file a front start old → HasLines wrote style file d (front ++ block) start new
  takes_block a b d front block start old mid new f l p h =
      has_lines_passed d (front ++ block) start mid new p (has_lines_more b d (front ++ block) start old mid l (has_lines_fed a b front block start old f h))

  -- all lines of the items of a file that has ended
  pub all_lines : (a b d : Stream) (front : List ℕ) (start old new : Gathered S) (whole : Planned) → b ≡ record a { has_ended = true } → ListsGiven wrote style file b old d new → IsOver d →
      HasLines wrote style file a front start old → whole.table ≡ a.table → bytes_of whole file ≡ front → Gathers wrote start (lines_by style whole file (items_of whole file)) new
  all_lines a b d front start old new whole is l over h e bytes =
      let table : b.table ≡ a.table = ap (λ (s : Stream). s.table) is in
      let ended : IsTrue d.has_ended = l.gives.end ∙ ap (λ (s : Stream). s.has_ended) is in
      let scanned : HasScanned b front h.given = ends_scanned a b front h.given h.goes_on is h.scanned in
      let all : h.given ++ l.given ≡ scan.items_of d.table front = all_scanned d front (h.given ++ l.given) ended over (scanned_more b d front h.given l.given l.gives scanned) in
      let same : scan.items_of d.table front ≡ items_of whole file
      = ap₂ (λ (t : Table) (text : List ℕ). scan.items_of t text) (l.gives.table ∙ table ∙ sym e) (sym bytes) in
      let text : bytes_of whole file ≡ front ++ [] = bytes ∙ sym (append-nil front) in
      let fed : IsFedOf b (bytes_of whole file) [] = subst (λ (xs : List ℕ). IsFedOf b xs []) (sym text) (scanned.fed [] (λ k. refl)) in
      subst (λ (items : List Item). Gathers wrote start (lines_by style whole file items) new) (all ∙ same)
      (subst (λ (bs : List ℕ). Gathers wrote start bs new) (sym (flat_map-append (style.line whole file) h.given l.given))
      (gathers_on wrote on start old new (lines_by style whole file h.given) (lines_by style whole file l.given) (h.lines whole [] e text) (l.lines whole [] (e ∙ sym table) fed)))

  -- and the cut line
  pub ends_file : (a b d : Stream) (front : List ℕ) (cut : Bool) (start old mid next new : Gathered S) (whole : Planned) → b ≡ record a { has_ended = true } → ListsGiven wrote style file b old d mid → IsOver d →
      Gathers wrote mid (cut_lines_by style file cut) next → Gathers wrote next [] new → HasLines wrote style file a front start old → whole.table ≡ a.table → input_of whole file ≡ record { bytes = front; cut = cut } →
      Gathers wrote start (file_lines_by style whole file) new
  ends_file a b d front cut start old mid next new whole is l over c p h e input =
      let bytes : bytes_of whole file ≡ front = ap (λ (i : PlainInput). i.bytes) input in
      let ends : (input_of whole file).cut ≡ cut = ap (λ (i : PlainInput). i.cut) input in
      let items = lines_by style whole file (items_of whole file) in
      subst (λ (bs : List ℕ). Gathers wrote start bs new) (append-nil (items ++ cut_lines_by style file (input_of whole file).cut))
      (gathers_on wrote on start next new (items ++ cut_lines_by style file (input_of whole file).cut) []
      (gathers_on wrote on start mid next items (cut_lines_by style file (input_of whole file).cut) (all_lines a b d front start old mid whole is l over h e bytes)
      (subst (λ (k : Bool). Gathers wrote mid (cut_lines_by style file k) next) (sym ends) c)) p)
