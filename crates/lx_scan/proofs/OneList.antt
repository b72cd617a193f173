-- A text has one list of items: one choice at each place, and so one match, and one run.
use Rattle.std.proofs.Common.{◌≡◌, ℕ, ◌+◌, ◌<◌, ◌≤◌, inl, inr, Bool, true, false, List, [], ◌∷◌, Option, Some, None, length, drop, refl, sym, ap, ap₂, subst, ◌∙◌, arith, if◌then◌else◌}
use Rattle.std.specs.Prelude.{slice_get}
use Rattle.std.specs.Option.{option_map}
use Rattle.lx_rules.specs.declared.rule.Step.{Step}
use Rattle.lx_rules.specs.Plain.{PlainRule, PlainSpec}
use Rattle.lx_rules.specs.Choice.{IsChoice, IsChosen, reach}
use Rattle.lx_scan.specs.declared.item.Item.{Item}
use Rattle.lx_scan.specs.declared.place.Place.{Place}
use Rattle.lx_scan.specs.declared.place.Match.{Match}
use Rattle.lx_scan.specs.ByRules.{IsNext, Run, place_behind, items_of_run, actions_of, AreItemsBy}
use Rattle.lx_scan.specs.Items.{first_place}

-- equal reaches of one rule have equal lengths
pub same_length : (b : Bool) (m n : ℕ) → (if b then m + 1 else m) ≡ (if b then n + 1 else n) → m ≡ n
same_length true m n e = omega (arith, e)
same_length false m n e = e

chosen_one : (spec : PlainSpec) (condition : ℕ) (begin : Bool) (text : List ℕ) (i n j m : ℕ) → IsChosen spec condition begin text i n → IsChosen spec condition begin text j m → (i ≡ j) × (n ≡ m)
chosen_one spec condition begin text i n j m a b =
    let one = a.longest j (b.rule) m (b.at) (b.fits) in
    let other = b.longest i (a.rule) n (a.at) (a.fits) in
    let equal : (reach (b.rule) m ≡ reach (a.rule) n) × (i ≤ j) = elim one as (λ _. (reach (b.rule) m ≡ reach (a.rule) n) × (i ≤ j)) [
      | inl less ↦ elim other as (λ _. (reach (b.rule) m ≡ reach (a.rule) n) × (i ≤ j)) [ inl more ↦ absurd (omega (arith, less, more)) | inr same ↦ absurd (omega (arith, less, same.0)) ]
      | inr same ↦ same
    ] in
    let back : j ≤ i = elim other as (λ _. j ≤ i) [ inl more ↦ absurd (omega (arith, more, equal.0)) | inr same ↦ same.1 ] in
    let place : i ≡ j = (let forth : i ≤ j = equal.1 in omega arith) in
    let at : slice_get spec.rules j ≡ Some (a.rule) = subst (λ (k : ℕ). slice_get spec.rules k ≡ Some (a.rule)) place (a.at) in
    let there : slice_get spec.rules j ≡ Some (b.rule) = b.at in
    let rule : b.rule ≡ a.rule = cc in
    let reaches : reach (a.rule) m ≡ reach (a.rule) n = subst (λ (r : PlainRule). reach r m ≡ reach (a.rule) n) rule (equal.0) in
    (place, sym (same_length (a.rule).reading.line_end m n reaches))

-- one choice
pub choice_one : (spec : PlainSpec) (condition : ℕ) (begin : Bool) (text : List ℕ) (x y : Option (ℕ × ℕ)) → IsChoice spec condition begin text x → IsChoice spec condition begin text y → x ≡ y
choice_one spec condition begin text None None a b = refl
choice_one spec condition begin text None (Some g) a b = absurd (a (g.0) (b.rule) (g.1) (b.at) (b.fits))
choice_one spec condition begin text (Some f) None a b = absurd (b (f.0) (a.rule) (f.1) (a.at) (a.fits))
choice_one spec condition begin text (Some f) (Some g) a b =
    let same = chosen_one spec condition begin text (f.0) (f.1) (g.0) (g.1) a b in
    ap (λ (p : ℕ × ℕ). Some p) (pair (f.0) (f.1) (g.0) (g.1) (same.0) (same.1))
  where
    pair : (i n j m : ℕ) → i ≡ j → n ≡ m → ◌≡◌ {A = ℕ × ℕ} (i, n) (j, m)
    pair i n j m p q = ap₂ (λ (a b : ℕ). (a, b)) p q

module _ (Chooses : ℕ → Bool → List ℕ → Option (ℕ × ℕ) → Type 0) (one : (condition : ℕ) (begin : Bool) (text : List ℕ) (x y : Option (ℕ × ℕ)) → Chooses condition begin text x → Chooses condition begin text y → x ≡ y) where
  same_match : (r s : Option ℕ) (n m : ℕ) → option_map {T = ℕ} {U = ℕ × ℕ} (λ i. (i, n)) r ≡ option_map {T = ℕ} {U = ℕ × ℕ} (λ i. (i, m)) s → (r ≡ None → n ≡ 1) → (s ≡ None → m ≡ 1) → (r ≡ s) × (n ≡ m)
  same_match None None n m e a b = (refl, a refl ∙ sym (b refl))
  same_match None (Some j) n m e a b = absurd (cc)
  same_match (Some i) None n m e a b = absurd (cc)
  same_match (Some i) (Some j) n m e a b =
      let pair : ◌≡◌ {A = ℕ × ℕ} (i, n) (j, m) = cc in
      (ap (λ k. Some k) (ap (λ (p : ℕ × ℕ). p.0) pair), ap (λ (p : ℕ × ℕ). p.1) pair)

  next_one : (text : List ℕ) (place : Place) (m n : Match) → IsNext Chooses text place m → IsNext Chooses text place n → m ≡ n
  next_one text place m n a b =
      let same = same_match (m.rule) (n.rule) (m.len) (n.len) (one place.condition place.at_line_begin (drop place.offset text) _ _ a.choice b.choice) a.alone b.alone in
      let start : m.start ≡ n.start = a.start ∙ sym b.start in
      let rule : m.rule ≡ n.rule = same.0 in
      let len : m.len ≡ n.len = same.1 in
      whole (m.rule) (n.rule) (m.start) (n.start) (m.len) (n.len) rule start len
    where
      whole : (r s : Option ℕ) (i j k l : ℕ) → r ≡ s → i ≡ j → k ≡ l → ◌≡◌ {A = Match} (record { rule = r; start = i; len = k }) (record { rule = s; start = j; len = l })
      whole r s i j k l p q o = cc

  pub run_one : (actions : List (List Step)) (text : List ℕ) (ms ns : List Match) (from to to' : Place) → Run Chooses actions text from ms to → Run Chooses actions text from ns to' → to.offset ≡ length text → to'.offset ≡ length text → ms ≡ ns
  run_one actions text [] [] from to to' a b e f = refl
  run_one actions text [] (n ∷ ns) from to to' a b e f = let same : to.offset ≡ from.offset = ap (λ (p : Place). p.offset) a in let more : from.offset < length text = b.0.more in absurd (omega arith)
  run_one actions text (m ∷ ms) [] from to to' a b e f = let same : to'.offset ≡ from.offset = ap (λ (p : Place). p.offset) b in let more : from.offset < length text = a.0.more in absurd (omega arith)
  run_one actions text (m ∷ ms) (n ∷ ns) from to to' a b e f =
      let same : m ≡ n = next_one text from m n (a.0) (b.0) in
      let rest : Run Chooses actions text (place_behind actions text from m) ns to' = subst (λ (x : Match). Run Chooses actions text (place_behind actions text from x) ns to') (sym same) (b.1) in
      ap₂ (λ (x : Match) (xs : List Match). x ∷ xs) same (run_one actions text ms ns (place_behind actions text from m) to to' (a.1) rest e f)

pub items_one : (spec : PlainSpec) (text : List ℕ) (xs ys : List Item) → AreItemsBy spec text xs → AreItemsBy spec text ys → xs ≡ ys
items_one spec text xs ys a b =
    let same : a.matches ≡ b.matches = run_one (IsChoice spec) (choice_one spec) (actions_of spec) text a.matches b.matches first_place a.end b.end a.run b.run a.whole b.whole in
    a.items_are ∙ ap (λ ms. items_of_run (actions_of spec) text first_place ms) same ∙ sym b.items_are
