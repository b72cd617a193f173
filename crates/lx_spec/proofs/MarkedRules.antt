-- The meaning of the marks for a rule's pattern.
use Rattle.std.proofs.Common.{◌≡◌, ◌∙◌, ◌↔◌, ℕ, ◌<◌, Bool, true, false, not, ◌||◌, ◌⊎◌, inl, inr, List, length, sym, ap, subst, arith}
use Rattle.std.specs.Prelude.{IsTrue, Contains, slice_index}
use Rattle.std.proofs.lemmas.Bool.{false≢true}
use Rattle.lx_ere.specs.Regex.{Regex, Reading}
use Rattle.lx_ere.specs.Pattern.{IsPattern}
use Rattle.lx_rules.specs.Limits.{max_name_depth}
use Rattle.lx_spec.specs.Dictionary.{row_of, all_defined, mentions_of, unreadable_marks, incomplete_marks}
use Rattle.lx_spec.specs.views.Dictionaries.{dictionary_view}
use Rattle.lx_spec.specs.Graph.{IsMention, Leads, Follow, is_marked}
use Rattle.lx_spec.specs.Verdict.{SymbolTable, LeadsUnreadable, LeadsUndefined}
use Rattle.lx_spec.specs.views.SymbolTables.{symbols_view, IsSymbolTable}
use Rattle.lx_spec.specs.declared.graph.Mention.{Mention}
use Rattle.lx_spec.specs.declared.symbol_table.SymbolTable.{SymbolTable as CodeTable}
use Rattle.lx_spec.proofs.Below.{row-within, trees-length}

pub not-true : {b : Bool} → b ≡ false → IsTrue b → ⊥
not-true e h = false≢true (sym e ∙ h)

-- the result of looking for a mark in a row, given the meaning of each mark
pub marked-iff : (b : Bool) (row row' : List ℕ) (marks marks' : List Bool) (P : ℕ → Type 0) → row ≡ row' → marks ≡ marks' → (IsTrue b ↔ ((j : ℕ) × Contains row j × IsTrue (is_marked marks j)))
    → ((i : ℕ) → IsTrue (is_marked marks' i) ↔ P i) → IsTrue b ↔ ((j : ℕ) × Contains row' j × P j)
marked-iff b row row' marks marks' P e f found says = (
  λ h. let w = found.0 h in (w.0, subst (λ (l : List ℕ). Contains l w.0) e w.1, (says w.0).0 (subst (λ (m : List Bool). IsTrue (is_marked m w.0)) f w.2)),
  λ w. found.1 (w.0, subst (λ (l : List ℕ). Contains l w.0) (sym e) w.1, subst (λ (m : List Bool). IsTrue (is_marked m w.0)) (sym f) ((says w.0).1 w.2)),
)

abbrev pub mentions_in_symbols : CodeTable → List Mention
mentions_in_symbols b = mentions_of (symbols_view b).definitions (symbols_view b).trees

pub symbols-unreadable : (b : CodeTable) → IsSymbolTable b → (i : ℕ) → IsTrue (is_marked b.faults.now.unreadable.items i) ↔ Leads (mentions_in_symbols b) (unreadable_marks (symbols_view b).trees) i
symbols-unreadable b is = subst (λ (ms : List Mention). (i : ℕ) → IsTrue (is_marked b.faults.now.unreadable.items i) ↔ Leads ms (unreadable_marks (symbols_view b).trees) i) is.dictionary.mentions is.faults.unreadable

pub symbols-undefined : (b : CodeTable) → IsSymbolTable b → (i : ℕ) → IsTrue (is_marked b.faults.now.undefined.items i) ↔ Leads (mentions_in_symbols b) (incomplete_marks (symbols_view b).definitions (symbols_view b).trees) i
symbols-undefined b is =
    subst (λ (m : List Bool). (i : ℕ) → IsTrue (is_marked b.faults.now.undefined.items i) ↔ Leads (mentions_in_symbols b) m i) is.dictionary.incomplete
    (subst (λ (ms : List Mention). (i : ℕ) → IsTrue (is_marked b.faults.now.undefined.items i) ↔ Leads ms (dictionary_view b.dictionary.now).incomplete i) is.dictionary.mentions is.faults.undefined)

pub symbols-too_deep : (b : CodeTable) → IsSymbolTable b → (i : ℕ) → IsTrue (is_marked b.faults.now.too_deep.items i) ↔ Follow (IsMention (mentions_in_symbols b)) max_name_depth i
symbols-too_deep b is = subst (λ (ms : List Mention). (i : ℕ) → IsTrue (is_marked b.faults.now.too_deep.items i) ↔ Follow (IsMention ms) max_name_depth i) is.dictionary.mentions is.faults.too_deep

-- the numbers of a row have marks
pub row-marks : (b : CodeTable) → IsSymbolTable b → (tree : Regex) (row : List ℕ) (marks marks' : List Bool) → row ≡ row_of (symbols_view b).definitions tree → marks ≡ marks' → length marks' ≡ length (symbols_view b).trees
    → (k : ℕ) → k < length row → slice_index row k < length marks
row-marks b is tree row marks marks' e f len k less =
    let same : length (symbols_view b).trees ≡ length (symbols_view b).definitions = trees-length (symbols_view b).definitions (symbols_view b).trees is.dictionary.trees in
    let within : slice_index (row_of (symbols_view b).definitions tree) k < length (symbols_view b).definitions = row-within (symbols_view b).definitions tree k (subst (λ (l : List ℕ). k < length l) e less) in
    let at : slice_index row k ≡ slice_index (row_of (symbols_view b).definitions tree) k = ap (λ (l : List ℕ). slice_index l k) e in
    omega (arith, same, within, at, ap length f, len)

-- A text has at most one reading, so a property that its reading lacks is one that no reading has.
pub no-other : (unique : (text : List ℕ) (r s : Reading) → IsPattern text r → IsPattern text s → r ≡ s) (text : List ℕ) (r : Reading) → IsPattern text r → (Q : Regex → Type 0) → (Q r.tree → ⊥)
    → ((s : Reading) × IsPattern text s × Q s.tree) → ⊥
no-other unique text r is Q never (s, is', q) = never (subst Q (ap (λ (x : Reading). x.tree) (unique text s r is' is)) q)

pub no-unreadable : (unique : (text : List ℕ) (r s : Reading) → IsPattern text r → IsPattern text s → r ≡ s) (text : List ℕ) (r : Reading) → IsPattern text r → (table : SymbolTable) → (LeadsUnreadable table r.tree → ⊥)
    → (((s : Reading) → IsPattern text s → ⊥) ⊎ ((s : Reading) × IsPattern text s × LeadsUnreadable table s.tree)) → ⊥
no-unreadable unique text r is table never (inl none) = none r is
no-unreadable unique text r is table never (inr h) = no-other unique text r is (LeadsUnreadable table) never h

-- a name that isn't defined, in the expression or in a definition that it leads to
pub undefined-some : (table : SymbolTable) (tree : Regex) (complete undefined : Bool) → complete ≡ all_defined table.definitions tree
    → (IsTrue undefined ↔ ((j : ℕ) × Contains (row_of table.definitions tree) j × Leads (mentions_of table.definitions table.trees) (incomplete_marks table.definitions table.trees) j)) → (not complete || undefined) ≡ true → LeadsUndefined table tree
undefined-some table tree false undefined e says h = inl (sym e)
undefined-some table tree true undefined e says h = inr (says.0 h)

pub undefined-none : (table : SymbolTable) (tree : Regex) (complete undefined : Bool) → complete ≡ all_defined table.definitions tree
    → (IsTrue undefined ↔ ((j : ℕ) × Contains (row_of table.definitions tree) j × Leads (mentions_of table.definitions table.trees) (incomplete_marks table.definitions table.trees) j)) → (not complete || undefined) ≡ false → LeadsUndefined table tree → ⊥
undefined-none table tree false undefined e says h l = false≢true (sym h)
undefined-none table tree true undefined e says h (inl lacks) = false≢true (sym lacks ∙ sym e)
undefined-none table tree true undefined e says h (inr l) = not-true h (says.1 l)
