-- The result for a front part of a text that has too many names.
use Rattle.std.proofs.Common.{ℕ, ◌≡◌, ◌≢◌, ◌+◌, ◌<◌, ◌≤◌, List, [], ◌∷◌, ◌++◌, inl, inr, refl, sym, ◌∙◌, ap, subst, length, All, arith, append_assoc, append-nil, if◌then◌else◌}
use Rattle.std.specs.Prelude.{Bool}
use Rattle.std.proofs.lemmas.Bool.{eq-eqb, ne_eqb}
use Rattle.std.proofs.lemmas.List.Elements.{All-head, All-tail}
use Rattle.lx_forms.specs.NameLists.{BeginsWith, EndsName, HasMoreNames, HasRead, IsFree, IsFront, IsListOf, IsName, IsNoList, IsNoName, ended, separators}
use Rattle.lx_forms.specs.declared.name_list.NameListFault.{NameListFault}
use Rattle.lx_forms.specs.declared.name_list.NameListFault.TheVariants.{NoName, TooMany, Memory}

-- ---- the number of separators of a text
joined : (s : ℕ) (a b : List ℕ) → separators s (a ++ b) ≡ separators s a + separators s b
joined s [] b = omega arith
joined s (byte ∷ a) b = let rest = joined s a b in omega (arith, rest)

none_free : (s : ℕ) (a : List ℕ) → IsFree s a → separators s a ≡ 0
none_free s [] free = refl
none_free s (byte ∷ a) free =
    let rest = none_free s a (All-tail (λ b. b ≢ s) byte a free) in
    ap (λ (b : Bool). (if b then 1 else 0) + separators s a) (ne_eqb byte s (All-head (λ b. b ≢ s) byte a free)) ∙ omega (arith, rest)

one : (s : ℕ) → separators s (s ∷ []) ≡ 1
one s = ap (λ (b : Bool). (if b then 1 else 0) + 0) (eq-eqb s s refl)

of_ended : (s : ℕ) (names : List (List ℕ)) → All (IsName s) names → separators s (ended s names) ≡ length names
of_ended s [] are = refl
of_ended s (name ∷ names) are =
    let head = joined s name (s ∷ []) in
    let both = joined s (name ++ s ∷ []) (ended s names) in
    let free = none_free s name (All-head (IsName s) name names are).free in
    let last = one s in
    let rest = of_ended s names (All-tail (IsName s) name names are) in
    omega (arith, head, both, free, last, rest)

-- ---- a list with few enough names is complete
pub read_all : (s : ℕ) (text : List ℕ) (old new : List (List ℕ)) (rest : List ℕ) (read : HasRead s text old new rest) → length rest ≡ 0 → IsListOf s text read.names
read_all s text old new rest read none = record {
  names_are = read.names_are;
  text_is = elim read.text_is [
    | inl is ↦ inl (is ∙ ap (λ bytes. ended s read.names ++ bytes) (nothing rest none) ∙ append-nil (ended s read.names))
    | inr last ↦ inr last.1
  ];
}
  where
    nothing : (xs : List ℕ) → length xs ≡ 0 → xs ≡ []
    nothing [] is = refl
    nothing (x ∷ xs) is = absurd (omega (arith, is))

few_names : (s : ℕ) (front : List ℕ) (names : List (List ℕ)) → IsListOf s front names → separators s front ≤ length names
few_names s front names list = elim list.text_is [
  | inl is ↦ (let count = ap (separators s) is in let n = of_ended s names list.names_are in omega (arith, count, n))
  | inr is ↦
      (let count = ap (separators s) is in let n = of_ended s names list.names_are in let split = joined s front (s ∷ []) in let last = one s in
      omega (arith, count, n, split, last))
]

pub is_whole : (s most : ℕ) (whole front : List ℕ) (names : List (List ℕ)) → IsFront s most whole front → IsListOf s front names → length names ≤ most → whole ≡ front
is_whole s most whole front names part list few = elim part.enough [
  | inl none ↦ part.text_is ∙ ap (λ rest. front ++ rest) none ∙ append-nil front
  | inr many ↦ let count = few_names s front names list in absurd (omega (arith, count))
]

-- ---- a fault of the front part is a fault of the whole
longer : (s : ℕ) (front rest : List ℕ) (names : List (List ℕ)) (more : List ℕ) → BeginsWith s front names more → BeginsWith s (front ++ rest) names (more ++ rest)
longer s front rest names more begins = record {
  names_are = begins.names_are;
  text_is = ap (λ text. text ++ rest) begins.text_is ∙ append_assoc (ended s names) more rest;
}

more_names : (s most : ℕ) (front rest : List ℕ) → HasMoreNames s front most → HasMoreNames s (front ++ rest) most
more_names s most front rest has = record {
  names = has.names;
  rest = has.rest ++ rest;
  begins = longer s front rest has.names has.rest has.begins;
  some = λ none. has.some (no_front has.rest rest none);
  more = has.more;
}
  where
    no_front : (a b : List ℕ) → a ++ b ≡ [] → a ≡ []
    no_front [] b is = refl
    no_front (byte ∷ a) b is = let nothing = ap length is in absurd (omega (arith, nothing))

no_name : (s number : ℕ) (front rest : List ℕ) → number ≤ separators s front → IsNoName s front number → IsNoName s (front ++ rest) number
no_name s number front rest many bad = by bad.ends
  where
    by : EndsName s bad.rest → IsNoName s (front ++ rest) number
    by (inl none) =
        let text = bad.begins.text_is in
        let count = ap (separators s) text in
        let split = joined s (ended s bad.names) (bad.name ++ bad.rest) in
        let behind = joined s bad.name bad.rest in
        let nothing = ap (separators s) none in
        let n = of_ended s bad.names bad.begins.names_are in
        let free = none_free s bad.name bad.free in
        let is = bad.number_is in
        absurd (omega (arith, count, split, behind, nothing, n, free, is))
    by (inr first) = record {
      names = bad.names;
      name = bad.name;
      rest = bad.rest ++ rest;
      begins = record {
        names_are = bad.begins.names_are;
        text_is = ap (λ text. text ++ rest) bad.begins.text_is ∙ append_assoc (ended s bad.names) (bad.name ++ bad.rest) rest
            ∙ ap (λ text. ended s bad.names ++ text) (append_assoc bad.name bad.rest rest);
      };
      number_is = bad.number_is;
      free = bad.free;
      ends = inr (first.0 ++ rest, ap (λ text. text ++ rest) first.1);
      bad = elim bad.bad [
        | inl none ↦ inl (none.0, λ is. let nothing = ap length (sym (ap (λ text. text ++ rest) first.1) ∙ is) in absurd (omega (arith, nothing)))
        | inr other ↦ inr other
      ];
    }

pub no_list : (s most : ℕ) (whole front : List ℕ) (fault : NameListFault) → IsFront s most whole front → IsNoList s front most fault → IsNoList s whole most fault
no_list s most whole front fault part bad = elim part.enough [
  | inl none ↦ subst (λ text. IsNoList s text most fault) (sym (part.text_is ∙ ap (λ rest. front ++ rest) none ∙ append-nil front)) bad
  | inr many ↦ subst (λ text. IsNoList s text most fault) (sym part.text_is) (by fault bad many)
]
  where
    by : (fault : NameListFault) → IsNoList s front most fault → most < separators s front → IsNoList s (front ++ part.rest) most fault
    by (NoName number) b many = (no_name s number front part.rest (let few = b.1 in omega (arith, few)) b.0, b.1)
    by TooMany b many = more_names s most front part.rest b
    by Memory b many = tt
