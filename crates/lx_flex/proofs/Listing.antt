-- Names of a list that are read one after the other.
use Rattle.std.proofs.Common.{ℕ, suc, ◌≡◌, ◌≢◌, ◌+◌, ◌<◌, Bool, true, false, ◌&&◌, List, [], ◌∷◌, ◌++◌, Option, Some, None, length, drop, refl, sym, subst, ◌∙◌, ap, ap₂, append_assoc, arith, codes}
use Rattle.std.specs.Prelude.{is_some}
use Rattle.std.specs.List.{cons_option, prefix_len, range_with_len}
use Rattle.std.specs.Char.{is_ascii_whitespace}
use Rattle.std.proofs.lemmas.Bool.{eqb-true, eq-eqb}
use Rattle.lx_ere.specs.Brackets.{begins_with}
use Rattle.lx_flex.specs.Activity.{condition_number}
use Rattle.lx_flex.specs.ConditionLists.{starts, name_len, name_of, after_name, unspaced, IsSpacedName, AreNames, last_name, more_names, numbers_of, are_declared, IsList, all, named, IsNoList, AreAllDeclared}
use Rattle.lx_flex.specs.States.{IfNoFault}
use Rattle.lx_flex.proofs.Advancing.{later_by, later_then, further_by, further_after, further_shorter}

pub all_list : (declared : List (List ℕ)) (text own rest : List ℕ) → starts (codes "*>") text ≡ true → own ≡ range_with_len 0 (length declared) → rest ≡ drop 2 text →
    IsList declared text own rest
all_list declared text own rest h is left =
    subst (λ (xs : List ℕ). IsList declared text xs rest) (sym is) (subst (λ (xs : List ℕ). IsList declared text (range_with_len 0 (length declared)) xs) (sym left) (all h))

and_true : (a b : Bool) → (a && b) ≡ true → (a ≡ true) × (b ≡ true)
and_true true b h = (refl, h)
and_true false b h = absurd (cc)

begins_is : (c : ℕ) (text : List ℕ) → begins_with c text ≡ true → c ∷ drop 1 text ≡ text
begins_is c [] h = absurd (cc)
begins_is c (b ∷ text) h = ap (λ (n : ℕ). n ∷ text) (sym (eqb-true b c h))

begins_not : (c : ℕ) (text rest : List ℕ) → begins_with c text ≡ false → c ∷ rest ≡ text → ⊥
begins_not c text rest h is =
    let e : begins_with c (c ∷ rest) ≡ false = ap (begins_with c) is ∙ h in
    let t : begins_with c (c ∷ rest) ≡ true = eq-eqb c c refl in
    absurd (cc)

cons_more : (o : Option ℕ) (xs ys zs : List ℕ) → zs ≡ xs ++ ys → cons_option o zs ≡ cons_option o xs ++ ys
cons_more None xs ys zs h = h
cons_more (Some n) xs ys zs h = ap (λ (ns : List ℕ). n ∷ ns) h

numbers_more : (declared seen names : List (List ℕ)) → numbers_of declared (seen ++ names) ≡ numbers_of declared seen ++ numbers_of declared names
numbers_more declared [] names = refl
numbers_more declared (name ∷ seen) names =
    cons_more (condition_number declared name) (numbers_of declared seen) (numbers_of declared names) (numbers_of declared (seen ++ names)) (numbers_more declared seen names)

declared_more : (declared seen : List (List ℕ)) (name : List ℕ) → are_declared declared seen ≡ true → is_some (condition_number declared name) ≡ true →
    are_declared declared (seen ++ name ∷ []) ≡ true
declared_more declared [] name h some = ap (λ (b : Bool). b && true) some
declared_more declared (first ∷ seen) name h some =
    let parts = and_true (is_some (condition_number declared first)) (are_declared declared seen) h in
    ap₂ (λ (a b : Bool). a && b) parts.0 (declared_more declared seen name parts.1 some)

names_next : (text next : List ℕ) (names : List (List ℕ)) (rest : List ℕ) → next ≡ unspaced (after_name (unspaced text)) → begins_with 44 next ≡ true → AreNames text names rest →
    (more : List (List ℕ)) × AreNames (drop 1 next) more rest × (names ≡ name_of (unspaced text) ∷ more)
names_next text next names rest is comma (last_name s) =
    absurd (begins_not 62 next rest (ap (begins_with 62) (sym (begins_is 44 next comma))) (s.rest_is ∙ sym is))
names_next text next names rest is comma (more_names {next = later} {names = more} s r) =
    let e : later ≡ drop 1 next = ap (λ (t : List ℕ). drop 1 t) (s.rest_is ∙ sym is) in
    (more, subst (λ (t : List ℕ). AreNames t more rest) e r, ap (λ (name : List ℕ). name ∷ more) s.name_is)

names_end : (text next : List ℕ) (names : List (List ℕ)) (rest : List ℕ) → next ≡ unspaced (after_name (unspaced text)) → begins_with 62 next ≡ true → AreNames text names rest →
    names ≡ name_of (unspaced text) ∷ []
names_end text next names rest is ends (last_name s) = ap (λ (name : List ℕ). name ∷ []) s.name_is
names_end text next names rest is ends (more_names {next = later} s r) =
    absurd (begins_not 44 next later (ap (begins_with 44) (sym (begins_is 62 next ends))) (s.rest_is ∙ sym is))

pub names_none : (text : List ℕ) → name_len (unspaced text) ≡ 0 → (names : List (List ℕ)) (rest : List ℕ) → AreNames text names rest → ⊥
names_none text h names rest (last_name s) = s.some h
names_none text h names rest (more_names s r) = s.some h

pub names_wrong : (text next : List ℕ) → next ≡ unspaced (after_name (unspaced text)) → begins_with 62 next ≡ false → begins_with 44 next ≡ false →
    (names : List (List ℕ)) (rest : List ℕ) → AreNames text names rest → ⊥
names_wrong text next is no_end no_comma names rest (last_name s) = begins_not 62 next rest no_end (s.rest_is ∙ sym is)
names_wrong text next is no_end no_comma names rest (more_names {next = later} s r) = begins_not 44 next later no_comma (s.rest_is ∙ sym is)

-- Up to this place these numbers were read of a list: the names so far, and whatever is read from here on, are those from its start.
pub record Listing (declared : List (List ℕ)) (start text numbers : List ℕ) (before after : Bool) : Type 0 where
  pub seen : List (List ℕ)
  pub goes_on : (names : List (List ℕ)) (rest : List ℕ) → AreNames text names rest → AreNames start (seen ++ names) rest
  pub only : (names : List (List ℕ)) (rest : List ℕ) → AreNames start names rest → (more : List (List ℕ)) × AreNames text more rest × (names ≡ seen ++ more)
  pub numbers_are : numbers ≡ numbers_of declared seen
  pub no_fault : IfNoFault before after (are_declared declared seen ≡ true)

-- a name and what follows it were read
pub record Named (declared : List (List ℕ)) (text next numbers more : List ℕ) (before after : Bool) : Type 0 where
  pub some : name_len (unspaced text) ≢ 0
  pub next_is : next ≡ unspaced (after_name (unspaced text))
  pub numbers_are : more ≡ numbers ++ numbers_of declared (name_of (unspaced text) ∷ [])
  pub no_fault : IfNoFault before after (is_some (condition_number declared (name_of (unspaced text))) ≡ true)

pub named_by : (declared : List (List ℕ)) (text first second next numbers more : List ℕ) (before after : Bool) → first ≡ unspaced text →
    (name_len first ≢ 0) × (second ≡ after_name first) → next ≡ unspaced second → more ≡ numbers ++ numbers_of declared (name_of first ∷ []) →
    IfNoFault before after (is_some (condition_number declared (name_of first)) ≡ true) → Named declared text next numbers more before after
named_by declared text first second next numbers more before after is name behind adds fault = record {
  some = subst (λ (t : List ℕ). name_len t ≢ 0) is name.0;
  next_is = behind ∙ ap (λ (t : List ℕ). unspaced t) (name.1 ∙ ap (λ (t : List ℕ). after_name t) is);
  numbers_are = adds ∙ ap (λ (t : List ℕ). numbers ++ numbers_of declared (name_of t ∷ [])) is;
  no_fault = subst (λ (t : List ℕ). IfNoFault before after (is_some (condition_number declared (name_of t)) ≡ true)) is fault;
}

some_left : (text : List ℕ) → name_len (unspaced text) ≢ 0 → 0 < length text
some_left [] h = absurd (h refl)
some_left (b ∷ text) h = omega arith

module _ (declared : List (List ℕ)) (start text next numbers more : List ℕ) (before middle after : Bool) where
  numbers_next : (l : Listing declared start text numbers before middle) → Named declared text next numbers more middle after →
      more ≡ numbers_of declared (l.seen ++ name_of (unspaced text) ∷ [])
  numbers_next l n =
      n.numbers_are ∙ (ap (λ (xs : List ℕ). xs ++ numbers_of declared (name_of (unspaced text) ∷ [])) l.numbers_are
      ∙ sym (numbers_more declared l.seen (name_of (unspaced text) ∷ [])))

  faults_next : (l : Listing declared start text numbers before middle) → Named declared text next numbers more middle after →
      IfNoFault before after (are_declared declared (l.seen ++ name_of (unspaced text) ∷ []) ≡ true)
  faults_next l n = record { facts = λ clean. let last = n.no_fault.facts clean in let earlier = l.no_fault.facts last.0 in (earlier.0, declared_more declared l.seen (name_of (unspaced text)) earlier.1 last.1) }

  -- a name was read, and a comma after it
  pub listing_next : Listing declared start text numbers before middle → Named declared text next numbers more middle after → begins_with 44 next ≡ true →
      Listing declared start (drop 1 next) more before after
  listing_next l n comma = record {
    seen = l.seen ++ name_of (unspaced text) ∷ [];
    goes_on = λ names rest a.
        let here = l.goes_on (name_of (unspaced text) ∷ names) rest (more_names (record { some = n.some; name_is = refl; rest_is = begins_is 44 next comma ∙ n.next_is }) a) in
        subst (λ (all : List (List ℕ)). AreNames start all rest) (sym (append_assoc l.seen (name_of (unspaced text) ∷ []) names)) here;
    only = λ names rest a. let (later, b, is) = l.only names rest a in
        let (after, b, first) = names_next text next later rest n.next_is comma b in
        (after, b, is ∙ (ap (λ (xs : List (List ℕ)). l.seen ++ xs) first ∙ sym (append_assoc l.seen (name_of (unspaced text) ∷ []) after)));
    numbers_are = numbers_next l n;
    no_fault = faults_next l n;
  }

  pub listing_turns : (rest : List ℕ) (turns bound : ℕ) → Named declared text next numbers more middle after → rest ≡ drop 1 next → turns + length text < suc bound →
      (turns + 1) + length rest < suc bound
  listing_turns rest turns bound n is h =
      let first = later_by (prefix_len is_ascii_whitespace text) text (unspaced text) refl in
      let second = later_by (name_len (unspaced text)) (unspaced text) (after_name (unspaced text)) refl in
      let third = later_by (prefix_len is_ascii_whitespace (after_name (unspaced text))) (after_name (unspaced text)) next n.next_is in
      let all_of = later_then text (after_name (unspaced text)) next (later_then text (unspaced text) (after_name (unspaced text)) first second) third in
      further_shorter text rest turns bound (further_after text next rest all_of (further_by 0 next rest is)) h (some_left text n.some)

  -- a name was read, and `>` after it
  pub listing_end : Listing declared start text numbers before middle → Named declared text next numbers more middle after → begins_with 62 next ≡ true →
      starts (codes "*>") start ≡ false → IsList declared start more (drop 1 next)
  listing_end l n ends no_star =
      let spaced : IsSpacedName text (name_of (unspaced text)) (62 ∷ drop 1 next) = record { some = n.some; name_is = refl; rest_is = begins_is 62 next ends ∙ n.next_is } in
      subst (λ (own : List ℕ). IsList declared start own (drop 1 next)) (sym (numbers_next l n))
      (named no_star (l.goes_on (name_of (unspaced text) ∷ []) (drop 1 next) (last_name spaced)))

  pub all_declared : Listing declared start text numbers before middle → Named declared text next numbers more middle after → begins_with 62 next ≡ true →
      IfNoFault before after (AreAllDeclared declared start)
  all_declared l n ends = record {
    facts = λ clean.
        let f = (faults_next l n).facts clean in (
          f.0,
          record {
            all_are = λ names rest a.
                let (later, b, is) = l.only names rest a in
                let e = is ∙ ap (λ (xs : List (List ℕ)). l.seen ++ xs) (names_end text next later rest n.next_is ends b) in
                subst (λ (xs : List (List ℕ)). are_declared declared xs ≡ true) (sym e) f.1;
          },
        );
  }

pub no_list : (declared : List (List ℕ)) (start text numbers : List ℕ) (before after : Bool) → Listing declared start text numbers before after → starts (codes "*>") start ≡ false →
    ((names : List (List ℕ)) (rest : List ℕ) → AreNames text names rest → ⊥) → IsNoList declared start
no_list declared start text numbers before after l no_star none = record { none = λ own rest is. go own rest is }
  where
    go : (own rest : List ℕ) → IsList declared start own rest → ⊥
    go own rest (all star) = absurd (let e : true ≡ false = sym star ∙ no_star in cc)
    go own rest (named star a) = let (more, b, is) = l.only _ rest a in none more rest b

-- nothing is left
pub none_at_end : (text : List ℕ) → text ≡ [] → (names : List (List ℕ)) (rest : List ℕ) → AreNames text names rest → ⊥
none_at_end text h names rest a = names_none text (ap (λ (t : List ℕ). name_len (unspaced t)) h) names rest a
