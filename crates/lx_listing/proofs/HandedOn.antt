-- The held bytes are written.
use Rattle.std.proofs.Common.{ℕ, ◌≡◌, Bool, false, List, [], ◌++◌, sym, ◌∙◌, ap, subst, append-nil}
use Rattle.std.specs.Prelude.{Result, Ok, Err, OnErr, OnOk, is_err}
use Rattle.std.proofs.lemmas.Bool.{both_ways}
use Rattle.lx_tables.specs.Model.{Table}
use Rattle.lx_scan.specs.declared.item.Item.{Item}
use Rattle.lx_line.specs.Styles.{Style}
use Rattle.lx_piece.specs.declared.reader.ReaderFault.{ReaderFault}
use Rattle.lx_piece.specs.Pieces.{IsPrefix}
use Rattle.lx_listing.specs.AppendingLaws.{prefix_before, prefix_then}
use Rattle.lx_listing.specs.Gathered.{Gathered, Gathers, gathered}
use Rattle.lx_listing.specs.GatheredLaws.{gathers_on}
use Rattle.lx_listing.specs.Parts.{WrotePart}
use Rattle.lx_listing.specs.Printing.{WrotePrefix}
use Rattle.lx_listing.proofs.Parting.{prefix_on}

-- some bytes were written, or a prefix of them if that failed, and the others are held
went_on : {S T E : Type 0} (wrote : S → List ℕ → S → Type 0) (s : Gathered S) (bytes block held : List ℕ) (failed : Bool) (sink : S) (r : Result T E) → s.failed ≡ false → s.held ++ bytes ≡ block ++ held → failed ≡ is_err r → OnOk r (wrote s.sink block sink) → OnErr r (WrotePrefix wrote s.sink block sink) → Gathers wrote s bytes (gathered held failed sink)
went_on wrote s bytes block held failed sink (Ok value) working all f ok err =
    record {
      given = block;
      written = ok;
      held = λ _. all;
      part = λ h. absurd (both_ways failed f h);
      stopped = λ h. absurd (both_ways s.failed working h);
    }
went_on wrote s bytes block held failed sink (Err error) working all f ok err =
    record {
      given = err.0;
      written = err.2;
      held = λ h. absurd (both_ways failed h f);
      part = λ _. subst (λ (bs : List ℕ). IsPrefix err.0 bs) (sym all) (prefix_then err.0 block (block ++ held) err.1 (prefix_before block held));
      stopped = λ h. absurd (both_ways s.failed working h);
    }

-- all that was held
pub all_on : {S T E : Type 0} (wrote : S → List ℕ → S → Type 0) (s : Gathered S) (block held : List ℕ) (failed : Bool) (sink : S) (r : Result T E) → s.failed ≡ false → block ≡ s.held → held ≡ [] → failed ≡ is_err r → OnOk r (wrote s.sink block sink) → OnErr r (WrotePrefix wrote s.sink block sink) → Gathers wrote s [] (gathered held failed sink)
all_on wrote s block held failed sink r working same none f ok err =
    went_on wrote s [] block held failed sink r working (ap (λ bs. bs ++ []) (sym same) ∙ ap (λ bs. block ++ bs) (sym none)) f ok err

ok_always : {T E A : Type 0} (r : Result T E) → A → OnOk r A
ok_always (Ok value) a = a
ok_always (Err error) a = tt

-- a block, if nothing was held
pub block_on : {S T E : Type 0} (wrote : S → List ℕ → S → Type 0) (s : Gathered S) (block : List ℕ) (failed : Bool) (sink : S) (r : Result T E) → s.failed ≡ false → s.held ≡ [] → failed ≡ is_err r → OnOk r (wrote s.sink block sink) → OnErr r (WrotePrefix wrote s.sink block sink) → OnOk r (Gathers wrote s block (gathered s.held failed sink))
block_on wrote s block failed sink r working none f ok err =
    ok_always r
    (went_on wrote s block block s.held failed sink r working (ap (λ bs. bs ++ block) none ∙ sym (append-nil block) ∙ ap (λ bs. block ++ bs) (sym none)) f ok err)

-- a block after the held bytes
pub then_ok : {S T E : Type 0} (wrote : S → List ℕ → S → Type 0) (on : (s t u : S) (xs ys : List ℕ) → wrote s xs t → wrote t ys u → wrote s (xs ++ ys) u) (s t u : Gathered S) (block : List ℕ) (r : Result T E) → Gathers wrote s [] t → OnOk r (Gathers wrote t block u) → OnOk r (Gathers wrote s block u)
then_ok wrote on s t u block (Ok value) f h = gathers_on wrote on s t u [] block f h
then_ok wrote on s t u block (Err error) f h = tt

pub then_err : {S T E : Type 0} (wrote : S → List ℕ → S → Type 0) (on : (s t u : S) (xs ys : List ℕ) → wrote s xs t → wrote t ys u → wrote s (xs ++ ys) u) (s t u : Gathered S) (block : List ℕ) (r : Result T E) → Gathers wrote s [] t → OnErr r (WrotePrefix (Gathers wrote) t block u) → OnErr r (WrotePrefix (Gathers wrote) s block u)
then_err wrote on s t u block (Ok value) f h = tt
then_err wrote on s t u block (Err error) f h = prefix_on (Gathers wrote) (gathers_on wrote on) s t u [] block f h

-- nothing was placed
pub none_placed : {S : Type 0} (s : Gathered S) (placed : List ℕ) → placed ≡ s.held ++ [] → gathered placed s.failed s.sink ≡ s
none_placed s placed e = ap (λ held. gathered held s.failed s.sink) (e ∙ append-nil s.held)

-- the written part of lines, since an equal state
pub part_same : {S : Type 0} (wrote : S → List ℕ → S → Type 0) (s t u : S) (fault : ReaderFault) (bytes : List ℕ) → t ≡ s → WrotePart wrote t fault bytes u → WrotePart wrote s fault bytes u
part_same {S} wrote s t u fault bytes same part = subst (λ (old : S). WrotePart wrote old fault bytes u) same part

-- the written part of a line in a style, which is this one
pub part_by_style : {S L : Type 0} (wrote : S → List ℕ → S → Type 0) (style : L → Style) (a b : L) (table : Table) (file : ℕ) (item : Item) (text : List ℕ) (s t : S) (fault : ReaderFault) → a ≡ b → WrotePart wrote s fault ((style a).line_with table file item text) t → WrotePart wrote s fault ((style b).line_with table file item text) t
part_by_style wrote style a b table file item text s t fault same part = subst (λ by. WrotePart wrote s fault ((style by).line_with table file item text) t) same part

-- the written part of the line of an item, which is this one
pub part_of_item : {S X : Type 0} (wrote : S → List ℕ → S → Type 0) (text : X → List ℕ) (s t : S) (fault : ReaderFault) (x y : X) → x ≡ y → WrotePart wrote s fault (text x) t → WrotePart wrote s fault (text y) t
part_of_item wrote text s t fault x y same part = subst (λ item. WrotePart wrote s fault (text item) t) same part
