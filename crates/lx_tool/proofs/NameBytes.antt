-- The bytes that a text represents, character by character.
use Rattle.std.proofs.Common.{ℕ, zero, suc, ◌≡◌, ◌+◌, ◌-◌, ◌<◌, true, false, List, [], ◌∷◌, ◌++◌, Bor, refl, sym, ◌∙◌, ap, subst, drop, take, map, length, arith, append_assoc}
use Rattle.std.specs.Prelude.{slice_index_or}
use Rattle.std.proofs.lemmas.List.{drop_more, get_or-map, length-map, map-append, take_more}
use Rattle.std.specs.declared.alloc.Global.{Global}
use Rattle.std.specs.declared.vec.Vec.{Vec}
use Rattle.lx_tool.specs.Names.{bytes_after, carried_byte, carries_byte, name_bytes}

after_passed : (passed x : ℕ) (text : List ℕ) → 0 < passed → bytes_after passed (x ∷ text) ≡ bytes_after (passed - 1) text
unfolding bytes_after
after_passed zero x text some = absurd (omega (arith, some))
after_passed (suc passed) x text some = ap (λ (n : ℕ). bytes_after n text) (let e : passed ≡ suc passed - 1 = omega arith in e)

after_carried : (x : ℕ) (text : List ℕ) → carries_byte (x ∷ text) ≡ true → bytes_after 0 (x ∷ text) ≡ carried_byte (x ∷ text) ∷ bytes_after 3 text
unfolding bytes_after
after_carried x text is = rw is refl

after_plain : (x : ℕ) (text : List ℕ) → carries_byte (x ∷ text) ≡ false → bytes_after 0 (x ∷ text) ≡ x ∷ bytes_after 0 text
unfolding bytes_after
after_plain x text is = rw is refl

pub none_after : (passed : ℕ) → bytes_after passed [] ≡ []
unfolding bytes_after
none_after zero = refl
none_after (suc passed) = refl

module _ (text : List ℕ) (i : ℕ) (l : i < length text) (bytes all : List ℕ) where
  here : drop i text ≡ slice_index_or text i 0 ∷ drop (i + 1) text
  here = drop_more text i 0 l

  pub next_passed : (passed : ℕ) → 0 < passed → bytes ++ bytes_after passed (drop i text) ≡ all → bytes ++ bytes_after (passed - 1) (drop (i + 1) text) ≡ all
  next_passed passed some before =
      ap (λ (bs : List ℕ). bytes ++ bs) (sym (ap (bytes_after passed) here ∙ after_passed passed (slice_index_or text i 0) (drop (i + 1) text) some)) ∙ before

  pub next_carried : (b : ℕ) (new : List ℕ) → carries_byte (drop i text) ≡ true → b ≡ carried_byte (drop i text) → new ≡ bytes ++ b ∷ [] →
      bytes ++ bytes_after 0 (drop i text) ≡ all → new ++ bytes_after 3 (drop (i + 1) text) ≡ all
  next_carried b new is byte pushed before =
      let front = slice_index_or text i 0 ∷ drop (i + 1) text in
      let carries : carries_byte front ≡ true = subst (λ (t : List ℕ). carries_byte t ≡ true) here is in
      let value : b ≡ carried_byte front = byte ∙ ap carried_byte here in
      ap (λ (bs : List ℕ). bs ++ bytes_after 3 (drop (i + 1) text)) (pushed ∙ ap (λ (x : ℕ). bytes ++ x ∷ []) value)
      ∙ append_assoc bytes (carried_byte front ∷ []) (bytes_after 3 (drop (i + 1) text))
      ∙ ap (λ (bs : List ℕ). bytes ++ bs) (sym (ap (bytes_after 0) here ∙ after_carried (slice_index_or text i 0) (drop (i + 1) text) carries)) ∙ before

  pub next_plain : (b : ℕ) (new : List ℕ) → carries_byte (drop i text) ≡ false → b ≡ slice_index_or text i 0 → new ≡ bytes ++ b ∷ [] →
      bytes ++ bytes_after 0 (drop i text) ≡ all → new ++ bytes_after 0 (drop (i + 1) text) ≡ all
  next_plain b new is byte pushed before =
      let front = slice_index_or text i 0 ∷ drop (i + 1) text in
      let carries : carries_byte front ≡ false = subst (λ (t : List ℕ). carries_byte t ≡ false) here is in
      ap (λ (bs : List ℕ). bs ++ bytes_after 0 (drop (i + 1) text)) (pushed ∙ ap (λ (x : ℕ). bytes ++ x ∷ []) byte)
      ∙ append_assoc bytes (slice_index_or text i 0 ∷ []) (bytes_after 0 (drop (i + 1) text))
      ∙ ap (λ (bs : List ℕ). bytes ++ bs) (sym (ap (bytes_after 0) here ∙ after_plain (slice_index_or text i 0) (drop (i + 1) text) carries)) ∙ before

abbrev texts_now : List (Bor (List ℕ)) → List (List ℕ)
texts_now texts = map (λ text. text.now) texts

abbrev names_items : List (Vec ℕ Global) → List (List ℕ)
names_items names = map (λ name. name.items) names

-- one name more
pub names_next : (texts : List (Bor (List ℕ))) (i : ℕ) (d : Bor (List ℕ)) → i < length texts → (names more : List (Vec ℕ Global)) (name : Vec ℕ Global) →
    names_items names ≡ map name_bytes (take i (texts_now texts)) → name.items ≡ name_bytes (slice_index_or texts i d).now → more ≡ names ++ name ∷ [] →
    names_items more ≡ map name_bytes (take (i + 1) (texts_now texts))
names_next texts i d l names more name before is pushed =
    let within : i < length (texts_now texts) = omega (arith, l, length-map texts (λ (text : Bor (List ℕ)). text.now)) in
    let at = take_more (texts_now texts) i d.now within ∙ ap (λ (t : List ℕ). take i (texts_now texts) ++ t ∷ []) (get_or-map (λ (text : Bor (List ℕ)). text.now) texts i d d.now l) in
    let due = ap (map name_bytes) at ∙ map-append name_bytes (take i (texts_now texts)) ((slice_index_or texts i d).now ∷ []) in
    ap names_items pushed ∙ map-append (λ (n : Vec ℕ Global). n.items) names (name ∷ [])
    ∙ ap (λ (ns : List (List ℕ)). ns ++ name.items ∷ []) before ∙ ap (λ (n : List ℕ). map name_bytes (take i (texts_now texts)) ++ n ∷ []) is ∙ sym due
