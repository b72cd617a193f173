-- Lists that grow as they are read.
use Rattle.std.proofs.Common.{ℕ, zero, suc, ◌≡◌, ◌≢◌, ◌-◌, ◌+◌, ◌<◌, Bool, List, [], ◌∷◌, ◌++◌, Option, None, map, drop, refl, sym, ◌∙◌, ap, arith, append_assoc, eq-eqb}
use Rattle.std.specs.Prelude.{if◌then◌else◌, replicate, slice_index}
use Rattle.std.specs.List.{range_with_len}
use Rattle.std.proofs.lemmas.Bool.{ne_eqb}
use Rattle.std.proofs.lemmas.List.{map-append}
use Rattle.lx_automaton.specs.EncodedOptions.{decoded_option}
use Rattle.lx_rules.specs.declared.rule.Step.{Step}
use Rattle.lx_tables.specs.Model.{Table}
use Rattle.lx_tables.specs.Texts.{all_bytes}
use Rattle.lx_tables.specs.Readers.{onto, state_onto, read_many, read_state, read_lines, read_step, read_steps, read_run, read_row, read_count, read_classes, read_states, Front, read_front, table_of, read_1, read_2, read_text, below, within}
use Rattle.lx_tables.specs.declared.version.Version.{Version}
use Rattle.lx_tables.specs.declared.version.Version.TheVariants.{Second}

abbrev with_rest : {A : Type 0} → List ℕ → List A → List A × List ℕ
with_rest rest xs = (xs, rest)

abbrev pub pair : {A B : Type 0} → A → B → A × B
pair a b = (a, b)

module _ {A : Type 0} (read : List ℕ → A × List ℕ) where
  abbrev read_then : ℕ → List A → A × List ℕ → List A × List ℕ
  read_then n xs p = onto (xs ++ (p.0 ∷ [])) (read_many read n p.1)

  -- one more value was read and added
  pub onto_more : (xs ys : List A) (n m : ℕ) (text : List ℕ) (a : A) (rest : List ℕ) → ys ≡ xs ++ (a ∷ []) → n ≡ suc m → pair a rest ≡ read text →
      onto ys (read_many read m rest) ≡ onto xs (read_many read n text)
  onto_more xs ys n m text a rest g e h =
      ap (λ (zs : List A). onto zs (read_many read m rest)) g
      ∙ ap (read_then m xs) h
      ∙ ap (with_rest (read_many read m (read text).1).1) (append_assoc xs ((read text).0 ∷ []) (read_many read m (read text).1).0)
      ∙ ap (λ (k : ℕ). onto xs (read_many read k text)) (sym e)

abbrev step_then : ℕ → List Step → Step × List ℕ → List Step × List ℕ
step_then m xs p = onto (xs ++ (p.0 ∷ [])) (read_steps m p.1)

-- one more step was read and added
pub steps_more : (xs ys : List Step) (n m : ℕ) (text : List ℕ) (a : Step) (rest : List ℕ) → ys ≡ xs ++ (a ∷ []) → n ≡ suc m → slice_index text 0 ≡ 32 →
    pair a rest ≡ read_step (drop 1 text) → onto ys (read_steps m rest) ≡ onto xs (read_steps n text)
steps_more xs ys n m text a rest g e f h =
    let step = read_step (drop 1 text) in
    let more = read_steps m step.1 in
    ap (λ (zs : List Step). onto zs (read_steps m rest)) g
    ∙ ap (step_then m xs) h
    ∙ ap (with_rest more.1) (append_assoc xs (step.0 ∷ []) more.0)
    ∙ ap (λ (c : Bool). onto xs (if c then pair (step.0 ∷ more.0) more.1 else pair [] (drop 1 text))) (sym (eq-eqb (slice_index text 0) 32 f))
    ∙ ap (λ (k : ℕ). onto xs (read_steps k text)) (sym e)

-- rules and rows before those that are read
abbrev pub lines_onto : List (Option ℕ) → List (Option ℕ) → List (Option ℕ) × List (Option ℕ) → List (Option ℕ) × List (Option ℕ)
lines_onto accepted targets more = (accepted ++ more.0, targets ++ more.1)

abbrev pub three : {A B C : Type 0} → A → B → C → A × B × C
three a b c = (a, b, c)

map_replicate : (n encoded_option : ℕ) → map decoded_option (replicate n encoded_option) ≡ replicate n (decoded_option encoded_option)
map_replicate zero encoded_option = refl
map_replicate (suc n) encoded_option = ap (λ (xs : List (Option ℕ)). decoded_option encoded_option ∷ xs) (map_replicate n encoded_option)

pub map_encoded_options : (encoded_options : List ℕ) (n encoded_option : ℕ) → map decoded_option (encoded_options ++ replicate n encoded_option) ≡ map decoded_option encoded_options ++ replicate n (decoded_option encoded_option)
map_encoded_options encoded_options n encoded_option = map-append decoded_option encoded_options (replicate n encoded_option) ∙ ap (λ (xs : List (Option ℕ)). map decoded_option encoded_options ++ xs) (map_replicate n encoded_option)

module _ (version : Version) (width : ℕ) where
  abbrev lines_then : ℕ → List (Option ℕ) × List (Option ℕ) × List ℕ → List (Option ℕ) × List (Option ℕ)
  lines_then m p = lines_onto p.0 p.1 (read_lines version width m p.2)

  -- one more state was read and added
  pub lines_more : (accepted targets accepted' targets' : List (Option ℕ)) (n m : ℕ) (text rest : List ℕ) → n ≡ suc m →
      three accepted' targets' rest ≡ state_onto accepted targets (read_state version width text) →
      lines_onto accepted' targets' (read_lines version width m rest) ≡ lines_onto accepted targets (read_lines version width n text)
  lines_more accepted targets accepted' targets' n m text rest e h =
      let state = read_state version width text in
      let more = read_lines version width m state.1 in
      ap (lines_then m) h
      ∙ ap (λ (xs : List (Option ℕ)). pair xs ((targets ++ state.0.1) ++ more.1)) (append_assoc accepted (state.0.0 ∷ []) more.0)
      ∙ ap (λ (xs : List (Option ℕ)). pair (accepted ++ (state.0.0 ∷ more.0)) xs) (append_assoc targets state.0.1 more.1)
      ∙ ap (λ (k : ℕ). lines_onto accepted targets (read_lines version width k text)) (sym e)

  -- the values of a run, and those read after it
  abbrev pub put : ℕ → ℕ → ℕ → ℕ → Option ℕ → List ℕ → List (Option ℕ) × List ℕ
  put m from low end value rest =
      (replicate (low - from) None ++ replicate (end - low) value ++ (read_row version width m end rest).0, (read_row version width m end rest).1)

  abbrev pub run_then : ℕ → ℕ → (ℕ × ℕ × ℕ) × List ℕ → List (Option ℕ) × List ℕ
  run_then m from run = put m from (within from width run.0.0) (within (within from width run.0.0) width run.0.1) (below 16512 run.0.2) run.1

  -- one more run was read and added
  pub row_more : (encoded_options : List ℕ) (n m from low end first last value encoded_option : ℕ) (text rest encoded_options₁ encoded_options₂ : List ℕ) → n ≡ suc m → slice_index text 0 ≡ 32 →
      pair (three first last value) rest ≡ read_run version text → low ≡ within from width first → end ≡ within low width last → decoded_option encoded_option ≡ below 16512 value →
      encoded_options₁ ≡ encoded_options ++ replicate (low - from) 0 → encoded_options₂ ≡ encoded_options₁ ++ replicate (end - low) encoded_option →
      onto (map decoded_option encoded_options₂) (read_row version width m end rest) ≡ onto (map decoded_option encoded_options) (read_row version width n from text)
  row_more encoded_options n m from low end first last value encoded_option text rest encoded_options₁ encoded_options₂ e f h hl he hw h1 h2 =
      let W = map decoded_option encoded_options in
      let more = read_row version width m end rest in
      let gap : List (Option ℕ) = replicate (low - from) None in
      let all : map decoded_option encoded_options₂ ≡ (W ++ gap) ++ replicate (end - low) (decoded_option encoded_option) =
      ap (map decoded_option) h2 ∙ map_encoded_options encoded_options₁ (end - low) encoded_option ∙ ap (λ (ws : List ℕ). map decoded_option ws ++ replicate (end - low) (decoded_option encoded_option)) h1
      ∙ ap (λ (xs : List (Option ℕ)). xs ++ replicate (end - low) (decoded_option encoded_option)) (map_encoded_options encoded_options (low - from) 0) in
      ap (λ (xs : List (Option ℕ)). onto xs more) all
      ∙ ap (λ (v : Option ℕ). onto ((W ++ gap) ++ replicate (end - low) v) more) hw
      ∙ ap (with_rest more.1) (append_assoc (W ++ gap) (replicate (end - low) (below 16512 value)) more.0
      ∙ append_assoc W gap (replicate (end - low) (below 16512 value) ++ more.0)
      ∙ ap (λ (xs : List (Option ℕ)). W ++ xs) (sym (append_assoc gap (replicate (end - low) (below 16512 value)) more.0)))
      ∙ ap (λ k. onto W (put m from low k (below 16512 value) rest)) he
      ∙ ap (λ k. onto W (put m from k (within k width last) (below 16512 value) rest)) hl
      ∙ ap (λ run. onto W (run_then m from run)) h
      ∙ ap (λ (c : Bool). onto W (if c then run_then m from (read_run version text) else pair (replicate (width - from) None) text)) (sym (eq-eqb (slice_index text 0) 32 f))
      ∙ ap (λ (k : ℕ). onto W (read_row version width k from text)) (sym e)

  -- no further run is read
  pub row_stops : (n from : ℕ) (text : List ℕ) → (0 < n → slice_index text 0 ≢ 32) → read_row version width n from text ≡ pair (replicate (width - from) None) text
  row_stops zero from text h = refl
  row_stops (suc n) from text h =
      ap (λ (c : Bool). if c then run_then n from (read_run version text) else pair (replicate (width - from) None) text) (ne_eqb (slice_index text 0) 32 (h (omega arith)))

  pub row_ends : (encoded_options encoded_options₁ : List ℕ) (n from : ℕ) (text : List ℕ) → (0 < n → slice_index text 0 ≢ 32) → encoded_options₁ ≡ encoded_options ++ replicate (width - from) 0 →
      pair (map decoded_option encoded_options₁) text ≡ onto (map decoded_option encoded_options) (read_row version width n from text)
  row_ends encoded_options encoded_options₁ n from text h e =
      ap (λ (ws : List ℕ). pair (map decoded_option ws) text) e ∙ ap (λ (xs : List (Option ℕ)). pair xs text) (map_encoded_options encoded_options (width - from) 0)
      ∙ ap (λ more. onto (map decoded_option encoded_options) more) (sym (row_stops n from text h))

-- the bytes, in order
range_more : (a n : ℕ) → range_with_len a (suc n) ≡ range_with_len a n ++ ((a + n) ∷ [])
range_more a zero = (let e : a ≡ a + 0 = omega arith in ap (λ (k : ℕ). k ∷ []) e)
range_more a (suc n) =
    ap (λ (xs : List ℕ). a ∷ xs) (range_more (a + 1) n ∙ (let e : a + 1 + n ≡ a + suc n = omega arith in ap (λ (k : ℕ). range_with_len (a + 1) n ++ (k ∷ [])) e))

pub bytes_more : (n k : ℕ) (xs ys : List ℕ) → k ≡ suc n → ys ≡ xs ++ (n ∷ []) → xs ≡ range_with_len 0 n → ys ≡ range_with_len 0 k
bytes_more n k xs ys e h i =
    let same : 0 + n ≡ n = omega arith in
    h ∙ ap (λ (zs : List ℕ). zs ++ (n ∷ [])) i ∙ sym (range_more 0 n ∙ ap (λ (j : ℕ). range_with_len 0 n ++ (j ∷ [])) same) ∙ ap (λ (j : ℕ). range_with_len 0 j) (sym e)

pub bytes_all : (n : ℕ) → n ≡ 256 → range_with_len 0 n ≡ all_bytes
unfolding all_bytes
bytes_all n e = ap (λ (k : ℕ). range_with_len 0 k) e

-- the result of reading a whole text
pub second_is : (text : List ℕ) (front : Front) (width : ℕ) (classes : List ℕ) (accepted targets : List (Option ℕ)) (r₁ r₂ r₃ : List ℕ) →
    pair front r₁ ≡ read_front (drop 12 text) → pair width r₂ ≡ read_count 256 8 r₁ → pair classes r₃ ≡ read_classes (drop 5 r₂) →
    pair accepted targets ≡ read_states Second width (drop 1 r₃) → table_of front classes width (pair accepted targets) ≡ read_2 text
second_is text front width classes accepted targets r₁ r₂ r₃ h₁ h₂ h₃ h₄ =
    let classes_then : Front → ℕ → List ℕ × List ℕ → Table = λ f w c. table_of f c.0 w (read_states Second w (drop 1 c.1)) in
    let width_then : Front → ℕ × List ℕ → Table = λ f w. classes_then f w.0 (read_classes (drop 5 w.1)) in
    ap (λ s. table_of front classes width s) h₄ ∙ ap (classes_then front width) h₃ ∙ ap (width_then front) h₂ ∙ ap (λ (f : Front × List ℕ). width_then f.0 (read_count 256 8 f.1)) h₁

pub text_second : (text : List ℕ) → slice_index text 10 ≡ 50 → read_2 text ≡ read_text text
text_second text h = ap (λ (c : Bool). if c then read_2 text else read_1 text) (sym (eq-eqb (slice_index text 10) 50 h))

pub text_first : (text : List ℕ) → slice_index text 10 ≢ 50 → read_1 text ≡ read_text text
text_first text h = ap (λ (c : Bool). if c then read_2 text else read_1 text) (sym (ne_eqb (slice_index text 10) 50 h))
