-- Counts, lists and the lines of states that were written are read again.
use Rattle.std.proofs.Common.{ℕ, zero, suc, ◌≡◌, ◌<◌, ◌≤◌, ◌+◌, ◌*◌, ◌/◌, List, ◌∷◌, ◌++◌, Option, Some, None, length, drop, map, refl, ◌∙◌, ap, arith, append_assoc}
use Rattle.std.specs.Prelude.{decimal, codes, min}
use Rattle.std.specs.List.{flat_map, range_with_len}
use Rattle.std.proofs.lemmas.Fmt.{decimal_nonempty}
use Rattle.std.proofs.lemmas.List.{length-append}
use Rattle.std.proofs.lemmas.Nat.{le-div}
use Rattle.lx_tables.specs.Texts.{count_line, accepts_text}
use Rattle.lx_tables.specs.Readers.{read_digits, read_count, read_many, read_list, read_state, read_lines, read_states}
use Rattle.lx_tables.specs.declared.version.Version.{Version}
use Rattle.lx_tables.proofs.LinesRead.{with_rest, count_read}
use Rattle.lx_tables.proofs.Onto.{pair}

pub count_is : (most skipped n : ℕ) (text behind : List ℕ) → drop skipped text ≡ (decimal n ++ codes "\n") ++ behind → n < 2147483648 → n ≤ most → read_count most skipped text ≡ with_rest n behind
count_is most skipped n text behind e l m =
    let least : min most n ≡ n = omega arith in
    ap (λ (bs : List ℕ). with_rest (min most (read_digits 0 bs).0) (drop 1 (read_digits 0 bs).1)) e
    ∙ ap (λ (p : ℕ × List ℕ). with_rest (min most p.0) (drop 1 p.1)) (count_read n behind l)
    ∙ ap (λ (k : ℕ). with_rest k behind) least

pub list_is : {A : Type 0} (most skipped : ℕ) (read : List ℕ → A × List ℕ) (xs : List A) (text lines behind : List ℕ) →
    drop skipped text ≡ (decimal (length xs) ++ codes "\n") ++ (lines ++ behind) → length xs < 2147483648 → length xs ≤ most →
    read_many read (length xs) (lines ++ behind) ≡ with_rest xs behind → read_list most skipped read text ≡ with_rest xs behind
list_is most skipped read xs text lines behind e l m h =
    ap (λ (n : ℕ × List ℕ). read_many read n.0 n.1) (count_is most skipped (length xs) text (lines ++ behind) e l m) ∙ h

accepts_long : (o : Option ℕ) → ((r : ℕ) → o ≡ Some r → r < 4096) → 1 ≤ length (accepts_text o)
accepts_long None h = omega arith
accepts_long (Some r) h = let l = h r refl in let some = decimal_nonempty r (omega arith) in omega arith

-- the line of a state has at least 8 bytes
pub line_long : (o : Option ℕ) (row : List ℕ) → ((r : ℕ) → o ≡ Some r → r < 4096) → 8 ≤ length (codes "state " ++ accepts_text o ++ row ++ codes "\n")
line_long o row h =
    let rule = accepts_text o in
    let some = accepts_long o h in
    let word : length (codes "state " ++ rule ++ row ++ codes "\n") ≡ suc (suc (suc (suc (suc (suc (length (rule ++ row ++ codes "\n"))))))) = refl in
    let end : length (rule ++ row ++ codes "\n") ≡ length (rule ++ row) + 1 = length-append (rule ++ row) (codes "\n") in
    let both = length-append rule row in
    omega arith

module _ (version : Version) (width count : ℕ) (line : ℕ → List ℕ) (rule : ℕ → Option ℕ) (row : ℕ → List (Option ℕ))
    (one : (s : ℕ) (behind : List ℕ) → s < count → read_state version width (line s ++ behind) ≡ with_rest (pair (rule s) (row s)) behind)
    (long : (s : ℕ) → s < count → 8 ≤ length (line s)) where
  abbrev line_then : ℕ → (Option ℕ × List (Option ℕ)) × List ℕ → List (Option ℕ) × List (Option ℕ)
  line_then n state = (state.0.0 ∷ (read_lines version width n state.1).0, state.0.1 ++ (read_lines version width n state.1).1)

  lines_read : (n c : ℕ) (behind : List ℕ) → c + n ≤ count →
      read_lines version width n (flat_map line (range_with_len c n) ++ behind) ≡ pair (map rule (range_with_len c n)) (flat_map row (range_with_len c n))
  lines_read zero c behind l = refl
  lines_read (suc n) c behind l =
      ap (λ (text : List ℕ). read_lines version width (suc n) text) (append_assoc (line c) (flat_map line (range_with_len (c + 1) n)) behind)
      ∙ ap (line_then n) (one c (flat_map line (range_with_len (c + 1) n) ++ behind) (omega arith))
      ∙ ap (λ (more : List (Option ℕ) × List (Option ℕ)). pair (rule c ∷ more.0) (row c ++ more.1)) (lines_read n (c + 1) behind (omega arith))

  lines_long : (n c : ℕ) → c + n ≤ count → n * 8 ≤ length (flat_map line (range_with_len c n))
  lines_long zero c l = omega arith
  lines_long (suc n) c l =
      let first = long c (omega arith) in
      let more = lines_long n (c + 1) (omega arith) in
      let both = length-append (line c) (flat_map line (range_with_len (c + 1) n)) in
      omega arith

  pub states_read : (behind : List ℕ) → count ≤ 16512 → read_states version width (count_line (codes "states ") count ++ flat_map line (range_with_len 0 count) ++ behind)
      ≡ pair (map rule (range_with_len 0 count)) (flat_map row (range_with_len 0 count))
  states_read behind few =
      let lines = flat_map line (range_with_len 0 count) in
      let first = count_line (codes "states ") count in
      let text = first ++ lines ++ behind in
      let whole = length-append (first ++ lines) behind in
      let front = length-append first lines in
      let each = lines_long count 0 (omega arith) in
      let room : count ≤ length text / 8 = le-div count (length text) 8 (omega arith) (omega arith) in
      ap (λ (n : ℕ × List ℕ). read_lines version width n.0 n.1)
      (count_is (min 16512 (length text / 8)) 7 count text (lines ++ behind) (append_assoc (decimal count ++ codes "\n") lines behind) (omega arith) (omega arith))
      ∙ lines_read count 0 behind (omega arith)
