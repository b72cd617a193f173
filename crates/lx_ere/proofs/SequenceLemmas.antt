-- Items up to a closing byte: `items_at` finds exactly the spellings at the start of the text.
use Rattle.std.proofs.Common.{◌≡◌, ℕ, zero, suc, ◌<◌, ◌≤◌, ◌⊎◌, inl, inr, Bool, true, false, nat_eq, List, [], ◌∷◌, ◌++◌, length, drop, Option, Some, None, refl, sym, ap, subst, ◌∙◌, arith, append_assoc, length-append}
use Rattle.std.specs.Option.{option_map, option_and_then}
use Rattle.lx_ere.specs.Sequences.{Closed, Opened}
use Rattle.lx_ere.specs.Brackets.{begins_with}
use Rattle.lx_ere.specs.Lexing.{items_at, all_items_at, opened_at}
use Rattle.lx_ere.specs.ChoiceLaws.{pick_first, pick_second, cases_of, no_none, same_some, map_is, then_is, eq_same, begins_is, IsSpelledPrefix}

-- For items that `item_at` finds exactly, that are never empty, and that don't begin with the closing byte.
module _ {A : Type 0} (Item : List ℕ → A → List ℕ → Type 0) (item_at : List ℕ → Option (A × List ℕ)) (close : ℕ)
    (complete : (prefix : List ℕ) (x : A) (behind : List ℕ) → Item prefix x behind → item_at (prefix ++ behind) ≡ Some (x, behind))
    (sound : (text : List ℕ) (x : A) (behind : List ℕ) → item_at text ≡ Some (x, behind) → IsSpelledPrefix Item text x behind)
    (some : (prefix : List ℕ) (x : A) (behind : List ℕ) → Item prefix x behind → 0 < length prefix)
    (closes : (text : List ℕ) → item_at (close ∷ text) ≡ None) where
  pub item_shorter : (text : List ℕ) (x : A) (behind : List ℕ) → item_at text ≡ Some (x, behind) → length behind < length text
  item_shorter text x behind e =
      let i = sound text x behind e in
      let long : 0 < length (i.prefix) = some (i.prefix) x behind i.spelled in
      omega (arith, long, ap length i.joins, length-append (i.prefix) behind)

  item_open : (text : List ℕ) (x : A) (behind : List ℕ) → item_at text ≡ Some (x, behind) → begins_with close text ≡ false
  item_open text x behind e = go (begins_with close text) refl
    where
      go : (b : Bool) → begins_with close text ≡ b → b ≡ false
      go false eb = refl
      go true eb = absurd (no_none (x, behind) (sym (closes (drop 1 text)) ∙ (ap item_at (sym (begins_is close text eb)) ∙ e)))

  pub items_complete : (xs : List A) (text behind : List ℕ) (n : ℕ) → Closed Item close text xs behind → length text ≤ n → items_at item_at close n (text ++ behind) ≡ Some (xs, behind)
  items_complete [] text behind zero h le = absurd (omega (arith, le, ap length h))
  items_complete [] text behind (suc n) h le =
      let e : text ++ behind ≡ close ∷ behind = ap (λ t. t ++ behind) h in
      let at : items_at item_at close (suc n) (close ∷ behind) ≡ Some ([], behind) = pick_first (nat_eq close close) _ _ (eq_same close) in
      ap (items_at item_at close (suc n)) e ∙ at
  items_complete (x ∷ xs) text behind zero (prefix, rest, i, j, more) le = absurd (omega (arith, le, ap length j, length-append prefix rest, some prefix x (rest ++ behind) i))
  items_complete (x ∷ xs) text behind (suc n) (prefix, rest, i, j, more) le =
      let e : text ++ behind ≡ prefix ++ (rest ++ behind) = ap (λ t. t ++ behind) j ∙ append_assoc prefix rest behind in
      let at : item_at (prefix ++ (rest ++ behind)) ≡ Some (x, rest ++ behind) = complete prefix x (rest ++ behind) i in
      let opened : begins_with close (prefix ++ (rest ++ behind)) ≡ false = item_open (prefix ++ (rest ++ behind)) x (rest ++ behind) at in
      let inner : items_at item_at close n (rest ++ behind) ≡ Some (xs, behind) = items_complete xs rest behind n more (omega (arith, le, ap length j, length-append prefix rest, some prefix x (rest ++ behind) i)) in
      let step : items_at item_at close (suc n) (prefix ++ (rest ++ behind)) ≡ option_and_then (λ f. option_map (λ g. (f.0 ∷ g.0, g.1)) (items_at item_at close n (f.1))) (item_at (prefix ++ (rest ++ behind))) = pick_second (begins_with close (prefix ++ (rest ++ behind))) _ _ opened in
      ap (items_at item_at close (suc n)) e ∙ (step ∙ (ap (option_and_then (λ f. option_map (λ g. (f.0 ∷ g.0, g.1)) (items_at item_at close n (f.1)))) at ∙ ap (option_map (λ g. (x ∷ g.0, g.1))) inner))

  pub items_sound : (n : ℕ) (text : List ℕ) (xs : List A) (behind : List ℕ) → items_at item_at close n text ≡ Some (xs, behind) → IsSpelledPrefix (Closed Item close) text xs behind
  items_sound zero text xs behind e = absurd (no_none (xs, behind) e)
  items_sound (suc n) text xs behind e = go (cases_of (begins_with close text) (Some ([], drop 1 text)) (option_and_then (λ f. option_map (λ g. (f.0 ∷ g.0, g.1)) (items_at item_at close n (f.1))) (item_at text)) (Some (xs, behind)) e)
      (λ t ys v. items_sound n t ys v)
    where
      go : ((begins_with close text ≡ true) × ◌≡◌ {A = Option (List A × List ℕ)} (Some ([], drop 1 text)) (Some (xs, behind))) ⊎
          ((begins_with close text ≡ false) × ◌≡◌ {A = Option (List A × List ℕ)} (option_and_then (λ f. option_map (λ g. (f.0 ∷ g.0, g.1)) (items_at item_at close n (f.1))) (item_at text)) (Some (xs, behind))) →
          ((t : List ℕ) (ys : List A) (v : List ℕ) → items_at item_at close n t ≡ Some (ys, v) → IsSpelledPrefix (Closed Item close) t ys v) → IsSpelledPrefix (Closed Item close) text xs behind
      go (inl (b, f)) rec =
          let pair : ◌≡◌ {A = List A × List ℕ} ([], drop 1 text) (xs, behind) = same_some ([], drop 1 text) (xs, behind) f in
          let none : [] ≡ xs = ap (λ p. p.0) pair in
          let rest : drop 1 text ≡ behind = ap (λ p. p.1) pair in
          record { prefix = close ∷ []; spelled = subst (λ ys. Closed Item close (close ∷ []) ys behind) none refl; joins = begins_is close text b ∙ ap (λ t. close ∷ t) rest }
      go (inr (b, f)) rec =
          let (first, at, more) = then_is (λ f. option_map (λ g. (f.0 ∷ g.0, g.1)) (items_at item_at close n (f.1))) (item_at text) (xs, behind) f in
          let (rest, found, pair) = map_is (λ g. (first.0 ∷ g.0, g.1)) (items_at item_at close n (first.1)) (xs, behind) more in
          let list : first.0 ∷ rest.0 ≡ xs = ap (λ p. p.0) pair in
          let last : rest.1 ≡ behind = ap (λ p. p.1) pair in
          let i = sound text (first.0) (first.1) at in
          let k = rec (first.1) (rest.0) (rest.1) found in
          let spelled : Item (i.prefix) (first.0) (k.prefix ++ rest.1) = subst (Item (i.prefix) (first.0)) k.joins i.spelled in
          let whole : Closed Item close (i.prefix ++ k.prefix) (first.0 ∷ rest.0) (rest.1) = (i.prefix, k.prefix, spelled, refl, k.spelled) in
          record {
            prefix = i.prefix ++ k.prefix;
            spelled = subst (λ v. Closed Item close (i.prefix ++ k.prefix) xs v) last (subst (λ ys. Closed Item close (i.prefix ++ k.prefix) ys (rest.1)) list whole);
            joins = i.joins ∙ (ap (λ t. i.prefix ++ t) (k.joins ∙ ap (λ v. k.prefix ++ v) last) ∙ sym (append_assoc (i.prefix) (k.prefix) behind));
          }

  pub opened_complete : (First : List ℕ → A → List ℕ → Type 0) (first_at : List ℕ → Option (A × List ℕ)) →
      ((prefix : List ℕ) (x : A) (behind : List ℕ) → First prefix x behind → first_at (prefix ++ behind) ≡ Some (x, behind)) →
      (text : List ℕ) (x : A) (xs : List A) (behind : List ℕ) → Opened First Item close text x xs behind → opened_at first_at item_at close (text ++ behind) ≡ Some (x, xs, behind)
  opened_complete First first_at complete_first text x xs behind (prefix, rest, d, j, more) =
      let e : text ++ behind ≡ prefix ++ (rest ++ behind) = ap (λ t. t ++ behind) j ∙ append_assoc prefix rest behind in
      let at : first_at (prefix ++ (rest ++ behind)) ≡ Some (x, rest ++ behind) = complete_first prefix x (rest ++ behind) d in
      let inner : all_items_at item_at close (rest ++ behind) ≡ Some (xs, behind) = items_complete xs rest behind (suc (length (rest ++ behind))) more (omega (arith, length-append rest behind)) in
      ap (opened_at first_at item_at close) e ∙ (ap (option_and_then (λ f. option_map (λ g. (f.0, g.0, g.1)) (all_items_at item_at close (f.1)))) at ∙ ap (option_map (λ g. (x, g.0, g.1))) inner)

  pub opened_sound : (First : List ℕ → A → List ℕ → Type 0) (first_at : List ℕ → Option (A × List ℕ)) →
      ((text : List ℕ) (x : A) (behind : List ℕ) → first_at text ≡ Some (x, behind) → IsSpelledPrefix First text x behind) →
      (text : List ℕ) (x : A) (xs : List A) (behind : List ℕ) → opened_at first_at item_at close text ≡ Some (x, xs, behind) → (prefix : List ℕ) × Opened First Item close prefix x xs behind × (text ≡ prefix ++ behind)
  opened_sound First first_at sound_first text x xs behind e =
      let (first, at, more) = then_is (λ f. option_map (λ g. (f.0, g.0, g.1)) (all_items_at item_at close (f.1))) (first_at text) (x, xs, behind) e in
      let (rest, found, triple) = map_is (λ g. (first.0, g.0, g.1)) (all_items_at item_at close (first.1)) (x, xs, behind) more in
      let one : first.0 ≡ x = ap (λ p. p.0) triple in
      let list : rest.0 ≡ xs = ap (λ p. p.1) triple in
      let last : rest.1 ≡ behind = ap (λ p. p.2) triple in
      let i = sound_first text (first.0) (first.1) at in
      let k = items_sound (suc (length (first.1))) (first.1) (rest.0) (rest.1) found in
      let spelled : First (i.prefix) (first.0) (k.prefix ++ rest.1) = subst (First (i.prefix) (first.0)) k.joins i.spelled in
      let whole : Opened First Item close (i.prefix ++ k.prefix) (first.0) (rest.0) (rest.1) = (i.prefix, k.prefix, spelled, refl, k.spelled) in (
        i.prefix ++ k.prefix,
        subst (λ v. Opened First Item close (i.prefix ++ k.prefix) x xs v) last (subst (λ ys. Opened First Item close (i.prefix ++ k.prefix) x ys (rest.1)) list (subst (λ y. Opened First Item close (i.prefix ++ k.prefix) y (rest.0) (rest.1)) one whole)),
        i.joins ∙ (ap (λ t. i.prefix ++ t) (k.joins ∙ ap (λ v. k.prefix ++ v) last) ∙ sym (append_assoc (i.prefix) (k.prefix) behind)),
      )
