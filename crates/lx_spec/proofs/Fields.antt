-- The fields of a text, one after the other.
use Rattle.std.proofs.Common.{◌≡◌, ◌∙◌, ℕ, ◌<◌, Bool, true, false, not, nat_eq, List, [], ◌∷◌, length, take, drop, ap, sym, refl, arith, ◌-◌, length-drop}
use Rattle.std.specs.List.{prefix_len}
use Rattle.std.proofs.lemmas.List.{take_rest}
use Rattle.lx_spec.specs.Bytes.{run, behind_run}
use Rattle.lx_spec.specs.Verdict.{is_no_comma, fields_of, onto_field}
use Rattle.lx_spec.proofs.Words.{pick_first, pick_second, run-more, run-none, behind-more, behind-none}

abbrev pub fields_behind : List ℕ → List (List ℕ)
fields_behind [] = []
fields_behind (c ∷ text) = fields_of text

pub fields-step : (text : List ℕ) → fields_of text ≡ run is_no_comma text ∷ fields_behind (behind_run is_no_comma text)
fields-step [] = refl
fields-step (c ∷ text) = by (nat_eq c 44) refl (fields-step text) where
  by : (b : Bool) → nat_eq c 44 ≡ b → fields_of text ≡ run is_no_comma text ∷ fields_behind (behind_run is_no_comma text) → fields_of (c ∷ text) ≡ run is_no_comma (c ∷ text) ∷ fields_behind (behind_run is_no_comma (c ∷ text))
  by true e more =
      pick_first _ _ e ∙ sym (ap (λ (w : List ℕ). w ∷ fields_behind (behind_run is_no_comma (c ∷ text))) (run-none is_no_comma c text (ap not e)) ∙ ap (λ (t : List ℕ). [] ∷ fields_behind t) (behind-none is_no_comma c text (ap not e)))
  by false e more =
      pick_second _ _ e ∙ ap (onto_field c) more
      ∙ sym (ap (λ (w : List ℕ). w ∷ fields_behind (behind_run is_no_comma (c ∷ text))) (run-more is_no_comma c text (ap not e)) ∙ ap (λ (t : List ℕ). (c ∷ run is_no_comma text) ∷ fields_behind t) (behind-more is_no_comma c text (ap not e)))

-- the first field ends at a comma
pub field-next : (text : List ℕ) (n c : ℕ) (rest : List ℕ) → n ≡ prefix_len is_no_comma text → take (length text - n) (drop n text) ≡ c ∷ rest → (fields_of text ≡ take n text ∷ fields_of rest) × (length rest < length text)
field-next text n c rest is cases =
    let e : drop n text ≡ c ∷ rest = sym (take_rest text n) ∙ cases in (
      fields-step text ∙ ap (λ (k : ℕ). take k text ∷ fields_behind (drop k text)) (sym is) ∙ ap (λ (l : List ℕ). take n text ∷ fields_behind l) e,
      omega (arith, ap length e, length-drop n text),
    )

no_bytes : (l : List ℕ) → length l ≡ 0 → l ≡ []
no_bytes [] e = refl
no_bytes (c ∷ l) e = absurd (omega arith)

-- the first field is the last
pub field-last : (text : List ℕ) (n : ℕ) → n ≡ prefix_len is_no_comma text → length (take (length text - n) (drop n text)) ≡ 0 → fields_of text ≡ take n text ∷ []
field-last text n is none =
    let e : drop n text ≡ [] = sym (take_rest text n) ∙ no_bytes (take (length text - n) (drop n text)) none in
    fields-step text ∙ ap (λ (k : ℕ). take k text ∷ fields_behind (drop k text)) (sym is) ∙ ap (λ (l : List ℕ). take n text ∷ fields_behind l) e
