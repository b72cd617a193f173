use Rattle.std.proofs.Common.{ℕ, ◌≡◌, ◌≢◌, ◌+◌, ◌<◌, ◌≤◌, Bool, true, false, ◌||◌, if◌then◌else◌, List, [], ◌∷◌, ◌++◌, Bor, refl, sym, ◌∙◌, ap, subst, All, length, take, drop, map, arith, append-nil}
use Rattle.std.specs.Prelude.{slice_index_or}
use Rattle.std.specs.Str.{bytes_eq}
use Rattle.std.proofs.lemmas.Slice.Eq.{bytes_eq-Decides}
use Rattle.std.proofs.lemmas.List.{length-take-le, take_all, take_more, map-append, drop_all, drop_more, take-append-drop, get_or-map, length-map}
use Rattle.std.proofs.lemmas.List.Elements.{All-more, All-push}
use Rattle.lx_piece.specs.declared.input.Input.{Input}
use Rattle.lx_piece.specs.Plans.{PlainInput, input_view}
use Rattle.lx_tool.specs.Naming.{input_count, inputs_among}
use Rattle.lx_tool.specs.Planning.{AreBytes}
use Rattle.lx_tool.specs.Sources.{AreGiven, none, first, IsFirstNamed, NoneIsNamed, cut_names, inputs_of, is_among, named_input}

-- ---- a list as sources

abbrev NamedBytes : Type 0
NamedBytes = Bor (List ℕ) × Bor (List ℕ)

abbrev plain : List ℕ → Bool → PlainInput
plain bytes is_cut = record { bytes = bytes; cut = is_cut }

module _ (cut : List (List ℕ)) (files : List NamedBytes) (name : List ℕ) (i : ℕ) (d : NamedBytes) (l : i < length files) where
  shown_at : slice_index_or (inputs_of cut files) i (named_input cut d) ≡ named_input cut (slice_index_or files i d)
  shown_at = get_or-map (named_input cut) files i d (named_input cut d) l

  shown_within : i < length (inputs_of cut files)
  shown_within = omega (arith, length-map files (named_input cut))

  module _ (same : Bool) (is : same ≡ bytes_eq (slice_index_or files i d).0.now name) where
    is_name : same ≡ true → (slice_index_or files i d).0.now ≡ name
    is_name equal = (bytes_eq-Decides (slice_index_or files i d).0.now name).0 (sym is ∙ equal)

    -- a file of this name is at this place
    pub not_none : same ≡ true → NoneIsNamed (inputs_of cut files) name → ⊥
    not_none equal none_named =
        none_named i (named_input cut d) shown_within (ap (λ (file : List ℕ × PlainInput). file.0) shown_at ∙ is_name equal)

    -- none up to here, and neither the next one
    pub none_more : same ≡ false → NoneIsNamed (take i (inputs_of cut files)) name → NoneIsNamed (take (i + 1) (inputs_of cut files)) name
    none_more differs none_before =
        let next = slice_index_or (inputs_of cut files) i (named_input cut d) in
        let other : next.0 ≢ name = λ e. absurd (let t = (bytes_eq-Decides (slice_index_or files i d).0.now name).1 (sym (ap (λ (file : List ℕ × PlainInput). file.0) shown_at) ∙ e) in let f = sym is ∙ differs in cc) in
        All-more (λ (file : List ℕ × PlainInput). file.0 ≢ name) (inputs_of cut files) i (named_input cut d) shown_within none_before other

    -- the first one of this name
    pub first_named : (input : PlainInput) (is_cut : Bool) → same ≡ true → NoneIsNamed (take i (inputs_of cut files)) name → input ≡ plain (slice_index_or files i d).1.now is_cut → is_cut ≡ is_among cut name →
        IsFirstNamed (inputs_of cut files) name input
    first_named input is_cut equal none_before given among =
        let all = inputs_of cut files in
        let at : named_input cut (slice_index_or files i d) ≡ (name, input)
        = ap (λ (n : List ℕ). (n, plain (slice_index_or files i d).1.now (is_among cut n))) (is_name equal)
        ∙ ap (λ (c : Bool). (name, plain (slice_index_or files i d).1.now c)) (sym among)
        ∙ ap (λ (held : PlainInput). (name, held)) (sym given) in
        let here : slice_index_or all i (named_input cut d) ≡ (name, input) = shown_at ∙ at in
        record {
          before = take i all;
          behind = drop (i + 1) all;
          there = sym (take-append-drop i all) ∙ ap (λ fs. take i all ++ fs) (drop_more all i (named_input cut d) shown_within ∙ ap (λ (file : List ℕ × PlainInput). file ∷ drop (i + 1) all) here);
          first = none_before;
        }

pub none_at_all : (cut : List (List ℕ)) (files : List NamedBytes) (name : List ℕ) (i : ℕ) → length files ≤ i → NoneIsNamed (take i (inputs_of cut files)) name → NoneIsNamed (inputs_of cut files) name
none_at_all cut files name i l none_before = subst (λ fs. NoneIsNamed fs name) (take_all i (inputs_of cut files) (omega (arith, length-map files (named_input cut)))) none_before

-- ---- the names of standard input

-- one name more is counted
pub counts_one : (names : List (Bor (List ℕ))) (i : ℕ) (d : Bor (List ℕ)) (count one all : ℕ) → i < length names → one ≡ input_count (slice_index_or names i d).now →
    count + inputs_among (drop i (map (λ name. name.now) names)) ≡ all → count + one + inputs_among (drop (i + 1) (map (λ name. name.now) names)) ≡ all
counts_one names i d count one all l is before =
    let texts : List (List ℕ) = map (λ name. name.now) names in
    let within : i < length texts = omega (arith, length-map names (λ (name : Bor (List ℕ)). name.now)) in
    let here : slice_index_or texts i d.now ≡ (slice_index_or names i d).now = get_or-map (λ (name : Bor (List ℕ)). name.now) names i d d.now l in
    let cut : inputs_among (drop i texts) ≡ input_count (slice_index_or names i d).now + inputs_among (drop (i + 1) texts) =
    ap inputs_among (drop_more texts i d.now within) ∙ ap (λ (name : List ℕ). input_count name + inputs_among (drop (i + 1) texts)) here in
    omega (arith, is, before, cut)

-- ---- one more name

pub given_more : {S : Type 0} (gives : S → List ℕ → PlainInput → S → Type 0) (s t u : S) (names : List (List ℕ)) (inputs : List PlainInput) (name : List ℕ) (input : PlainInput) →
    AreGiven gives s names inputs t → gives t name input u → AreGiven gives s (names ++ name ∷ []) (inputs ++ input ∷ []) u
given_more gives s t u [] [] name input none h = first h none
given_more gives s t u [] (i ∷ is) name input none_given h = elim none_given [ ]
given_more gives s t u (n ∷ ns) [] name input none_given h = elim none_given [ ]
given_more gives s t u (n ∷ ns) (i ∷ is) name input (first {t = m} g rest) h = first g (given_more gives m t u ns is name input rest h)

-- a name, if its file was cut short
abbrev pub cut_name : List ℕ → PlainInput → List (List ℕ)
cut_name name input = if input.cut then name ∷ [] else []

cut_first : (c : Bool) (name : List ℕ) (xs ys : List (List ℕ)) → (if c then name ∷ (xs ++ ys) else xs ++ ys) ≡ (if c then name ∷ xs else xs) ++ ys
cut_first true name xs ys = refl
cut_first false name xs ys = refl

pub cut_names_more : (names : List (List ℕ)) (inputs : List PlainInput) (name : List ℕ) (input : PlainInput) → length names ≡ length inputs →
    cut_names (names ++ name ∷ []) (inputs ++ input ∷ []) ≡ cut_names names inputs ++ cut_name name input
cut_names_more [] [] name input l = refl
cut_names_more [] (i ∷ is) name input l = absurd (omega (arith, l))
cut_names_more (n ∷ ns) [] name input l = absurd (omega (arith, l))
cut_names_more (n ∷ ns) (i ∷ is) name input l =
    let rest = cut_names_more ns is name input (omega (arith, l)) in
    ap (λ (xs : List (List ℕ)). if i.cut then n ∷ xs else xs) rest ∙ cut_first i.cut n (cut_names ns is) (cut_name name input)

-- ---- a name among others

abbrev names_now : List (Bor (List ℕ)) → List (List ℕ)
names_now names = map (λ known. known.now) names

module _ (names : List (Bor (List ℕ))) (name : List ℕ) (i : ℕ) (d : Bor (List ℕ)) (l : i < length names) (same : Bool) (is : same ≡ bytes_eq (slice_index_or names i d).now name) where
  among_at : is_among (drop i (names_now names)) name ≡ same || is_among (drop (i + 1) (names_now names)) name
  among_at =
      let here = drop_more (names_now names) i [] (omega (arith, l, length-map names (λ (known : Bor (List ℕ)). known.now))) in
      let at = get_or-map (λ (known : Bor (List ℕ)). known.now) names i d [] l in
      ap (λ (ns : List (List ℕ)). is_among ns name) (here ∙ ap (λ (n : List ℕ). n ∷ drop (i + 1) (names_now names)) at)
      ∙ ap (λ (b : Bool). b || is_among (drop (i + 1) (names_now names)) name) (sym is)

  pub among_here : same ≡ true → is_among (drop i (names_now names)) name ≡ true
  among_here equal = among_at ∙ ap (λ (b : Bool). b || is_among (drop (i + 1) (names_now names)) name) equal

  pub among_behind : same ≡ false → is_among (drop (i + 1) (names_now names)) name ≡ is_among (drop i (names_now names)) name
  among_behind differs = sym (among_at ∙ ap (λ (b : Bool). b || is_among (drop (i + 1) (names_now names)) name) differs)

pub among_none : (names : List (Bor (List ℕ))) (name : List ℕ) (i : ℕ) → length names ≤ i → is_among (drop i (names_now names)) name ≡ false
among_none names name i l = ap (λ (ns : List (List ℕ)). is_among ns name) (drop_all i (names_now names) (omega (arith, l, length-map names (λ (known : Bor (List ℕ)). known.now))))

-- ---- turns of loops over names

-- one name more was given
pub given_next : {S : Type 0} (gives : S → List ℕ → PlainInput → S → Type 0) (s t u : S) (names : List (Bor (List ℕ))) (files items : List Input) (i : ℕ) (d : Bor (List ℕ)) (file : Input) →
    i < length names → AreGiven gives s (take i (names_now names)) (map input_view files) t → gives t (slice_index_or names i d).now (input_view file) u → items ≡ files ++ file ∷ [] →
    AreGiven gives s (take (i + 1) (names_now names)) (map input_view items) u
given_next gives s t u names files items i d file l before now is =
    let within : i < length (names_now names) = omega (arith, l, length-map names (λ (known : Bor (List ℕ)). known.now)) in
    let at = take_more (names_now names) i d.now within ∙ ap (λ (n : List ℕ). take i (names_now names) ++ n ∷ []) (get_or-map (λ (known : Bor (List ℕ)). known.now) names i d d.now l) in
    let inputs = ap (map input_view) is ∙ map-append input_view files (file ∷ []) in
    rw (at, inputs) (given_more gives s t u (take i (names_now names)) (map input_view files) (slice_index_or names i d).now (input_view file) before now)

-- one file more, whose bytes are bytes
pub bytes_next : (files items : List Input) (file : Input) → AreBytes (map input_view files) → All (λ b. b < 256) file.bytes.items → items ≡ files ++ file ∷ [] → AreBytes (map input_view items)
bytes_next files items file before now is =
    rw (ap (map input_view) is ∙ map-append input_view files (file ∷ [])) (All-push (λ (input : PlainInput). All (λ b. b < 256) input.bytes) (map input_view files) (input_view file) before now)

-- one name more, if its file was cut short
pub cut_names_next : (names : List (Bor (List ℕ))) (files : List Input) (i : ℕ) (d : Bor (List ℕ)) (e : Input) → length files ≡ length names → i < length files →
    cut_names (take (i + 1) (names_now names)) (take (i + 1) (map input_view files))
    ≡ cut_names (take i (names_now names)) (take i (map input_view files)) ++ cut_name (slice_index_or names i d).now (input_view (slice_index_or files i e))
cut_names_next names files i d e same l =
    let within : i < length names = omega (arith, l, same) in
    let names_within : i < length (names_now names) = omega (arith, within, length-map names (λ (known : Bor (List ℕ)). known.now)) in
    let files_within : i < length (map input_view files) = omega (arith, l, length-map files input_view) in
    let at = take_more (names_now names) i d.now names_within ∙ ap (λ (n : List ℕ). take i (names_now names) ++ n ∷ []) (get_or-map (λ (known : Bor (List ℕ)). known.now) names i d d.now within) in
    let inputs = take_more (map input_view files) i (input_view e) files_within ∙ ap (λ (n : PlainInput). take i (map input_view files) ++ n ∷ []) (get_or-map input_view files i e (input_view e) l) in
    let long : length (take i (names_now names)) ≡ length (take i (map input_view files)) = length-take-le i (names_now names) (omega (arith, names_within)) ∙ sym (length-take-le i (map input_view files) (omega (arith, files_within))) in
    rw (at, inputs) (cut_names_more (take i (names_now names)) (take i (map input_view files)) (slice_index_or names i d).now (input_view (slice_index_or files i e)) long)

module _ (names : List (Bor (List ℕ))) (files : List Input) (i : ℕ) (d : Bor (List ℕ)) (e : Input) (same : length files ≡ length names) (l : i < length files)
    (cut : List (Bor (List ℕ))) (before : names_now cut ≡ cut_names (take i (names_now names)) (take i (map input_view files))) where
  turn : (b : Bool) → (slice_index_or files i e).cut ≡ b → names_now cut ++ (if b then (slice_index_or names i d).now ∷ [] else []) ≡ cut_names (take (i + 1) (names_now names)) (take (i + 1) (map input_view files))
  turn b is = ap (λ (ns : List (List ℕ)). ns ++ (if b then (slice_index_or names i d).now ∷ [] else [])) before
      ∙ ap (λ (c : Bool). cut_names (take i (names_now names)) (take i (map input_view files)) ++ (if c then (slice_index_or names i d).now ∷ [] else [])) (sym is)
      ∙ sym (cut_names_next names files i d e same l)

  pub with_cut_name : (new : List (Bor (List ℕ))) → (slice_index_or files i e).cut ≡ true → new ≡ cut ++ slice_index_or names i d ∷ [] →
      names_now new ≡ cut_names (take (i + 1) (names_now names)) (take (i + 1) (map input_view files))
  with_cut_name new is pushed = ap names_now pushed ∙ map-append (λ (known : Bor (List ℕ)). known.now) cut (slice_index_or names i d ∷ []) ∙ turn true is

  pub with_whole_name : (slice_index_or files i e).cut ≡ false → names_now cut ≡ cut_names (take (i + 1) (names_now names)) (take (i + 1) (map input_view files))
  with_whole_name is = sym (append-nil (names_now cut)) ∙ turn false is

pub ruleset name_steps = (given_next, bytes_next)
