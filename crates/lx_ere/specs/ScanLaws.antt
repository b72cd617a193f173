-- A loop over items up to a closing byte. All here are proofs, of which only the statements need be read.
use Rattle.std.proofs.Common.{◌≡◌, ℕ, zero, suc, ◌<◌, Bool, true, false, List, [], ◌∷◌, ◌++◌, length, drop, Option, Some, None, refl, sym, ap, ◌∙◌, arith, append_assoc}
use Rattle.std.specs.Option.{option_map, option_and_then}
use Rattle.lx_ere.specs.Brackets.{begins_with}
use Rattle.lx_ere.specs.Lexing.{items_at, all_items_at}
use Rattle.lx_ere.specs.ChoiceLaws.{pick_first, pick_second}

-- the state of a loop over items: these were read, and at most n - 1 more of the rest follow them
pub record Fueled {A : Type 0} (item_at : List ℕ → Option (A × List ℕ)) (close : ℕ) (text : List ℕ) (done : List A) (n : ℕ) (rest : List ℕ) : Type 0 where
  pub same : all_items_at item_at close text ≡ option_map (λ g. (done ++ g.0, g.1)) (items_at item_at close n rest)

-- the same if each item shortens the rest: there is fuel for all of them
pub record Scanned {A : Type 0} (item_at : List ℕ → Option (A × List ℕ)) (close : ℕ) (text : List ℕ) (done : List A) (rest : List ℕ) : Type 0 where
  pub fuel : ℕ
  pub enough : length rest < fuel
  pub fueled : Fueled item_at close text done fuel rest

module _ {A : Type 0} (item_at : List ℕ → Option (A × List ℕ)) (close : ℕ) where
  pub fuel_start : (text : List ℕ) → Fueled item_at close text [] (suc (length text)) text
  fuel_start text = record { same = unchanged (all_items_at item_at close text) }
    where
      unchanged : (o : Option (List A × List ℕ)) → o ≡ option_map (λ g. ([] ++ g.0, g.1)) o
      unchanged None = refl
      unchanged (Some g) = refl

  pub fuel_end : (text : List ℕ) (done : List A) (n : ℕ) (rest : List ℕ) → begins_with close rest ≡ true → Fueled item_at close text done (suc n) rest → all_items_at item_at close text ≡ Some (done, drop 1 rest)
  fuel_end text done n rest b f = f.same ∙ (ap (option_map (λ g. (done ++ g.0, g.1))) (pick_first (begins_with close rest) _ _ b) ∙ ap (λ xs. Some (xs, drop 1 rest)) (nil_right done))
    where
      nil_right : (xs : List A) → xs ++ [] ≡ xs
      nil_right [] = refl
      nil_right (x ∷ xs) = ap (λ ys. x ∷ ys) (nil_right xs)

  pub fuel_none : (text : List ℕ) (done : List A) (n : ℕ) (rest : List ℕ) → begins_with close rest ≡ false → item_at rest ≡ None → Fueled item_at close text done (suc n) rest → all_items_at item_at close text ≡ None
  fuel_none text done n rest b i f =
      f.same ∙ ap (option_map (λ g. (done ++ g.0, g.1))) (pick_second (begins_with close rest) _ _ b ∙ ap (option_and_then (λ f. option_map (λ g. (f.0 ∷ g.0, g.1)) (items_at item_at close n (f.1)))) i)

  pub fuel_step : (text : List ℕ) (done : List A) (n : ℕ) (rest : List ℕ) (x : A) (behind : List ℕ) → begins_with close rest ≡ false → item_at rest ≡ Some (x, behind) →
      Fueled item_at close text done (suc n) rest → Fueled item_at close text (done ++ x ∷ []) n behind
  fuel_step text done n rest x behind b i f = record {
    same = f.same ∙ (ap (option_map (λ g. (done ++ g.0, g.1))) (pick_second (begins_with close rest) _ _ b ∙ ap (option_and_then (λ f. option_map (λ g. (f.0 ∷ g.0, g.1)) (items_at item_at close n (f.1)))) i) ∙ moved (items_at item_at close n behind));
  }
    where
      moved : (o : Option (List A × List ℕ)) → option_map {U = List A × List ℕ} (λ g. (done ++ g.0, g.1)) (option_map {U = List A × List ℕ} (λ g. (x ∷ g.0, g.1)) o) ≡ option_map {U = List A × List ℕ} (λ g. ((done ++ x ∷ []) ++ g.0, g.1)) o
      moved None = refl
      moved (Some g) = ap (λ xs. Some (xs, g.1)) (sym (append_assoc done (x ∷ []) (g.0)))

  -- the last item has to be followed by the closing byte
  pub fuel_out : (text : List ℕ) (done : List A) (rest : List ℕ) → begins_with close rest ≡ false → Fueled item_at close text done 1 rest → all_items_at item_at close text ≡ None
  fuel_out text done rest b f = f.same ∙ ap (option_map (λ g. (done ++ g.0, g.1))) (pick_second (begins_with close rest) _ _ b ∙ out (item_at rest))
    where
      out : (o : Option (A × List ℕ)) → option_and_then {U = List A × List ℕ} (λ f. option_map (λ g. (f.0 ∷ g.0, g.1)) (items_at item_at close zero (f.1))) o ≡ None
      out None = refl
      out (Some f) = refl

  pub scan_start : (text : List ℕ) → Scanned item_at close text [] text
  scan_start text = record { fuel = suc (length text); enough = omega arith; fueled = fuel_start text }

  pub scan_end : (text : List ℕ) (done : List A) (rest : List ℕ) → begins_with close rest ≡ true → Scanned item_at close text done rest → all_items_at item_at close text ≡ Some (done, drop 1 rest)
  scan_end text done rest b s = go (s.fuel) s.enough s.fueled
    where
      go : (n : ℕ) → length rest < n → Fueled item_at close text done n rest → all_items_at item_at close text ≡ Some (done, drop 1 rest)
      go zero lt f = absurd (omega (arith, lt))
      go (suc n) lt f = fuel_end text done n rest b f

  pub scan_none : (text : List ℕ) (done : List A) (rest : List ℕ) → begins_with close rest ≡ false → item_at rest ≡ None → Scanned item_at close text done rest → all_items_at item_at close text ≡ None
  scan_none text done rest b i s = go (s.fuel) s.enough s.fueled
    where
      go : (n : ℕ) → length rest < n → Fueled item_at close text done n rest → all_items_at item_at close text ≡ None
      go zero lt f = absurd (omega (arith, lt))
      go (suc n) lt f = fuel_none text done n rest b i f

  pub scan_step : (text : List ℕ) (done : List A) (rest : List ℕ) (x : A) (behind : List ℕ) → begins_with close rest ≡ false → item_at rest ≡ Some (x, behind) → length behind < length rest →
      Scanned item_at close text done rest → Scanned item_at close text (done ++ x ∷ []) behind
  scan_step text done rest x behind b i shorter s = go (s.fuel) s.enough s.fueled
    where
      go : (n : ℕ) → length rest < n → Fueled item_at close text done n rest → Scanned item_at close text (done ++ x ∷ []) behind
      go zero lt f = absurd (omega (arith, lt))
      go (suc n) lt f = record { fuel = n; enough = omega (arith, lt, shorter); fueled = fuel_step text done n rest x behind b i f }
