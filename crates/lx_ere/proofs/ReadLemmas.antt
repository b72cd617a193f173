-- The part of a pattern that was read, and its reading.
use Rattle.std.proofs.Common.{◌≡◌, ℕ, ◌<◌, ◌≤◌, Bool, true, false, ◌||◌, nat_eq, cond, List, [], ◌∷◌, ◌++◌, Option, Some, None, length, drop, refl, sym, ap, subst, ◌∙◌, arith, append_assoc, length-append, ◌⊎◌, inl, inr}
use Rattle.std.specs.Option.{option_and_then}
use Rattle.std.proofs.lemmas.Bool.{eqb-true, or_cases}
use Rattle.std.proofs.lemmas.Slice.Eq.{bytes_eq-Decides}
use Rattle.std.specs.Prelude.{codes}
use Rattle.std.specs.Str.{bytes_eq}
use Rattle.lx_ere.specs.Limits.{max_pattern_bytes}
use Rattle.lx_ere.specs.Regex.{Regex, Reading}
use Rattle.lx_ere.specs.Grammar.{Lexeme, IsAlternation}
use Rattle.lx_ere.specs.Brackets.{begins_with}
use Rattle.lx_ere.specs.Spelling.{Lexes}
use Rattle.lx_ere.specs.Pattern.{IsEnding, nothing, dollar, slash_newline, IsPattern, IsSubstitute}
use Rattle.lx_ere.specs.Lexing.{lexeme_at, body_of, ending_at, Reads}
use Rattle.lx_ere.specs.Stacks.{empty_frame, Stack, stack, step, run, finish, parse}
use Rattle.lx_ere.specs.ChoiceLaws.{no_none, same_some, cases_of, begins_is}
use Rattle.lx_ere.specs.StackLaws.{runs, run_fails, parse_sound, parse_complete, one_tree}
use Rattle.lx_ere.proofs.SpellingLemmas.{lexeme_sound, lexeme_complete, spelling_some}

-- these lexemes were read of the text, the rest follows them, and they lead to this stack
pub record Reached (text rest : List ℕ) (st : Stack) : Type 0 where
  pub read : List Lexeme
  pub leads : run read (stack empty_frame []) ≡ Some st
  pub sound : (ms : List Lexeme) (ending : List ℕ) → Lexes rest ms ending → Lexes text (read ++ ms) ending
  pub complete : (ks : List Lexeme) (ending : List ℕ) → lexeme_at ending ≡ None → Lexes text ks ending → (ms : List Lexeme) × Lexes rest ms ending × (ks ≡ read ++ ms)

pub Reached-start : (text : List ℕ) → Reached text text (stack empty_frame [])
Reached-start text = record { read = []; leads = refl; sound = λ ms ending h. h; complete = λ ks ending stops h. (ks, h, refl) }

pub lexeme_shorter : (text : List ℕ) (l : Lexeme) (behind : List ℕ) → lexeme_at text ≡ Some (l, behind) → length behind < length text
lexeme_shorter text l behind e =
    let i = lexeme_sound text l behind e in
    let some : 0 < length (i.prefix) = spelling_some (i.prefix) l behind i.spelled in
    omega (arith, some, ap length i.joins, length-append (i.prefix) behind)

-- a lexeme at the front is the first in each list of lexemes
Lexes-first : (rest : List ℕ) (l : Lexeme) (behind : List ℕ) (ks : List Lexeme) (ending : List ℕ) → lexeme_at ending ≡ None → lexeme_at rest ≡ Some (l, behind) → Lexes rest ks ending →
    (ms : List Lexeme) × Lexes behind ms ending × (ks ≡ l ∷ ms)
Lexes-first rest l behind [] ending stops e h = absurd (no_none (l, behind) (sym stops ∙ (ap lexeme_at (sym h) ∙ e)))
Lexes-first rest l behind (k ∷ ks) ending stops e (prefix, after, d, j, more) =
    let a : lexeme_at rest ≡ Some (k, after) = ap lexeme_at j ∙ lexeme_complete prefix k after d in
    let pair : ◌≡◌ {A = Lexeme × List ℕ} (l, behind) (k, after) = same_some (l, behind) (k, after) (sym e ∙ a) in
    let same : after ≡ behind = sym (ap (λ p. p.1) pair) in
    (ks, subst (λ x. Lexes x ks ending) same more, ap (λ x. x ∷ ks) (sym (ap (λ p. p.0) pair)))

-- if no lexeme is at the start, there are none
Lexes-none : (rest : List ℕ) (ks : List Lexeme) (ending : List ℕ) → lexeme_at rest ≡ None → Lexes rest ks ending → (ks ≡ []) × (rest ≡ ending)
Lexes-none rest [] ending none h = (refl, h)
Lexes-none rest (k ∷ ks) ending none (prefix, after, d, j, more) = absurd (no_none (k, after) (sym none ∙ (ap lexeme_at j ∙ lexeme_complete prefix k after d)))

pub Reached-step : (text rest : List ℕ) (st next : Stack) (l : Lexeme) (behind : List ℕ) → lexeme_at rest ≡ Some (l, behind) → step l st ≡ Some next → Reached text rest st → Reached text behind next
Reached-step text rest st next l behind e s r = record {
  read = r.read ++ l ∷ [];
  leads = runs (r.read) (l ∷ []) (stack empty_frame []) st next r.leads (rw s refl);
  sound = λ ms ending h. let i = lexeme_sound rest l behind e in rw append_assoc (r.sound (l ∷ ms) ending (i.prefix, behind, i.spelled, i.joins, h));
  complete = λ ks ending stops h.
      let a = r.complete ks ending stops h in
      let b = Lexes-first rest l behind (a.0) ending stops e (a.1) in
      (b.0, b.1, a.2 ∙ (ap (λ x. r.read ++ x) (b.2) ∙ sym (append_assoc (r.read) (l ∷ []) (b.0))));
}

nil_right : (ls : List Lexeme) → ls ++ [] ≡ ls
nil_right [] = refl
nil_right (l ∷ ls) = ap (λ x. l ∷ x) (nil_right ls)

-- the whole alternation was read
pub Reached-end : (text rest : List ℕ) (st : Stack) (tree : Regex) → lexeme_at rest ≡ None → Reached text rest st → finish (st.top) (st.below) ≡ Some tree → Reads text tree rest
Reached-end text rest st tree none r e = record {
  lexemes = r.read;
  spelled = subst (λ ls. Lexes text ls rest) (nil_right (r.read)) (r.sound [] rest refl);
  alternation = parse_sound (r.read) tree (ap (option_and_then (λ s. finish s.top s.below)) r.leads ∙ e);
  stops = none;
}

not_both : (ls : List Lexeme) (tree : Regex) → parse ls ≡ None → IsAlternation ls tree → ⊥
not_both ls tree none d = no_none tree (sym none ∙ parse_complete ls tree d)

-- no reading, if the end isn't one
pub Reached-no_end : (text rest : List ℕ) (st : Stack) → lexeme_at rest ≡ None → Reached text rest st → finish (st.top) (st.below) ≡ None → (tree : Regex) (ending : List ℕ) → Reads text tree ending → ⊥
Reached-no_end text rest st none r e tree ending p =
    let a = r.complete (p.lexemes) ending p.stops p.spelled in
    let n = Lexes-none rest (a.0) ending none (a.1) in
    let all : p.lexemes ≡ r.read = a.2 ∙ (ap (λ x. r.read ++ x) n.0 ∙ nil_right (r.read)) in
    not_both (p.lexemes) tree (ap parse all ∙ (ap (option_and_then (λ s. finish s.top s.below)) r.leads ∙ e)) p.alternation

-- no reading, if the stack doesn't take the next lexeme
pub Reached-no_step : (text rest : List ℕ) (st : Stack) (l : Lexeme) (behind : List ℕ) → lexeme_at rest ≡ Some (l, behind) → step l st ≡ None → Reached text rest st → (tree : Regex) (ending : List ℕ) → Reads text tree ending → ⊥
Reached-no_step text rest st l behind e s r tree ending p =
    let a = r.complete (p.lexemes) ending p.stops p.spelled in
    let b = Lexes-first rest l behind (a.0) ending p.stops e (a.1) in
    let all : p.lexemes ≡ r.read ++ l ∷ b.0 = a.2 ∙ ap (λ x. r.read ++ x) (b.2) in
    let fails : run (r.read ++ l ∷ b.0) (stack empty_frame []) ≡ None = run_fails (r.read) (l ∷ b.0) (stack empty_frame []) st r.leads (rw s refl) in
    not_both (p.lexemes) tree (ap parse all ∙ ap (option_and_then (λ t. finish t.top t.below)) fails) p.alternation

-- a text is the spellings of one list of lexemes, up to a position without a spelling
one_lexing : (text : List ℕ) (ks ms : List Lexeme) (v w : List ℕ) → lexeme_at v ≡ None → lexeme_at w ≡ None → Lexes text ks v → Lexes text ms w → (ks ≡ ms) × (v ≡ w)
one_lexing text [] ms v w stops_v stops_w h k =
    let n = Lexes-none text ms w (ap lexeme_at h ∙ stops_v) k in
    (sym n.0, sym h ∙ n.1)
one_lexing text (k ∷ ks) ms v w stops_v stops_w (prefix, behind, d, j, more) h =
    let b = Lexes-first text k behind ms w stops_w (ap lexeme_at j ∙ lexeme_complete prefix k behind d) h in
    let rec = one_lexing behind ks (b.0) v w stops_v stops_w more (b.1) in
    (ap (λ x. k ∷ x) rec.0 ∙ sym b.2, rec.1)

-- an alternation is read in one way
pub one_alternation : (text : List ℕ) (r s : Regex) (v w : List ℕ) → Reads text r v → Reads text s w → (r ≡ s) × (v ≡ w)
one_alternation text r s v w p q =
    let same = one_lexing text (p.lexemes) (q.lexemes) v w p.stops q.stops p.spelled q.spelled in
    (one_tree (q.lexemes) r s (subst (λ ls. IsAlternation ls r) same.0 p.alternation) q.alternation, same.1)

-- nothing that is an ending begins a lexeme
pub ending_stops : (ending : List ℕ) (b : Bool) → IsEnding ending b → lexeme_at ending ≡ None
ending_stops _ _ nothing = refl
ending_stops _ _ dollar = refl
ending_stops _ _ slash_newline = refl

pub ending_complete : (ending : List ℕ) (b : Bool) → IsEnding ending b → ending_at ending ≡ Some b
ending_complete _ _ nothing = refl
ending_complete _ _ dollar = refl
ending_complete _ _ slash_newline = refl

pub ending_sound : (ending : List ℕ) (b : Bool) → ending_at ending ≡ Some b → IsEnding ending b
ending_sound ending b e = by_empty (cases_of (nat_eq (length ending) 0) (Some false) (cond {A = Option Bool} (bytes_eq ending (codes "$") || bytes_eq ending (codes "/\\n")) (Some true) None) (Some b) e)
  where
    empty_is : (xs : List ℕ) → length xs ≡ 0 → xs ≡ []
    empty_is [] h = refl
    empty_is (x ∷ xs) h = absurd (omega (arith, h))

    of_text : (word : List ℕ) → bytes_eq ending word ≡ true → IsEnding word b → IsEnding ending b
    of_text word h i = let decides = bytes_eq-Decides ending word in subst (λ t. IsEnding t b) (sym (decides.0 h)) i

    by_text : ((bytes_eq ending (codes "$") || bytes_eq ending (codes "/\\n")) ≡ true) × ◌≡◌ {A = Option Bool} (Some true) (Some b) ⊎ (((bytes_eq ending (codes "$") || bytes_eq ending (codes "/\\n")) ≡ false) × ◌≡◌ {A = Option Bool} None (Some b)) → IsEnding ending b
    by_text (inl (h, f)) =
        let is : true ≡ b = same_some true b f in
        elim (or_cases (bytes_eq ending (codes "$")) (bytes_eq ending (codes "/\\n")) h) [
          | inl one ↦ of_text (codes "$") one (subst (IsEnding (36 ∷ [])) is dollar)
          | inr two ↦ of_text (codes "/\\n") two (subst (IsEnding (47 ∷ 92 ∷ 110 ∷ [])) is slash_newline)
        ]
    by_text (inr (h, f)) = absurd (no_none b f)

    by_empty : (nat_eq (length ending) 0 ≡ true) × ◌≡◌ {A = Option Bool} (Some false) (Some b) ⊎ ((nat_eq (length ending) 0 ≡ false) × (cond {A = Option Bool} (bytes_eq ending (codes "$") || bytes_eq ending (codes "/\\n")) (Some true) None ≡ Some b)) → IsEnding ending b
    by_empty (inl (h, f)) =
        let none : ending ≡ [] = empty_is ending (eqb-true (length ending) 0 h) in
        let is : false ≡ b = same_some false b f in
        subst (λ t. IsEnding t b) (sym none) (subst (IsEnding []) is nothing)
    by_empty (inr (h, f)) = by_text (cases_of (bytes_eq ending (codes "$") || bytes_eq ending (codes "/\\n")) (Some true) None (Some b) f)

-- an alternation doesn't begin with `^`
no_caret : (text : List ℕ) (tree : Regex) (ending : List ℕ) → Reads text tree ending → begins_with 94 text ≡ false
no_caret text tree ending p = go (begins_with 94 text) refl
  where
    go : (b : Bool) → begins_with 94 text ≡ b → b ≡ false
    go false eb = refl
    go true eb =
        let none : lexeme_at text ≡ None = ap lexeme_at (begins_is 94 text eb) in
        let n = Lexes-none text (p.lexemes) ending none p.spelled in
        absurd (not_both [] tree refl (subst (λ ls. IsAlternation ls tree) n.0 p.alternation))

-- the meaning of a pattern's text for its parts
pub record Parts (text : List ℕ) (r : Reading) : Type 0 where
  pub caret : r.line_begin ≡ begins_with 94 text
  pub ending : List ℕ
  pub reads : Reads (body_of text) (r.tree) ending
  pub ends : IsEnding ending (r.line_end)

pub parts_of : (text : List ℕ) (r : Reading) → IsPattern text r → Parts text r
parts_of text r p = go (r.line_begin) refl
  where
    reads : Reads (p.body) (r.tree) (p.ending)
    reads = record { lexemes = p.lexemes; spelled = p.spelled; alternation = p.alternation; stops = ending_stops (p.ending) (r.line_end) p.ends }

    go : (b : Bool) → r.line_begin ≡ b → Parts text r
    go true eb =
        let whole : text ≡ 94 ∷ p.body = p.begins ∙ ap (λ c. cond {A = List ℕ} c (94 ∷ p.body) (p.body)) eb in
        record {
          caret = eb ∙ sym (ap (begins_with 94) whole);
          ending = p.ending;
          reads = subst (λ t. Reads t (r.tree) (p.ending)) (sym (ap body_of whole)) reads;
          ends = p.ends;
        }
    go false eb =
        let whole : text ≡ p.body = p.begins ∙ ap (λ c. cond {A = List ℕ} c (94 ∷ p.body) (p.body)) eb in
        let no : begins_with 94 text ≡ false = ap (begins_with 94) whole ∙ no_caret (p.body) (r.tree) (p.ending) reads in
        record {
          caret = eb ∙ sym no;
          ending = p.ending;
          reads = subst (λ t. Reads t (r.tree) (p.ending)) (sym (ap (λ c. cond {A = List ℕ} c (drop 1 text) text) no ∙ whole)) reads;
          ends = p.ends;
        }

pub of_parts : (text : List ℕ) (r : Reading) → length text ≤ max_pattern_bytes → Parts text r → IsPattern text r
of_parts text r short q = record {
  short = short;
  body = body_of text;
  lexemes = q.reads.lexemes;
  ending = q.ending;
  begins = rw q.caret (go (begins_with 94 text) refl);
  spelled = q.reads.spelled;
  alternation = q.reads.alternation;
  ends = q.ends;
}
  where
    go : (b : Bool) → begins_with 94 text ≡ b → text ≡ cond {A = List ℕ} b (94 ∷ cond {A = List ℕ} b (drop 1 text) text) (cond {A = List ℕ} b (drop 1 text) text)
    go true eb = begins_is 94 text eb
    go false eb = refl

pub one_pattern : (text : List ℕ) (r s : Reading) → IsPattern text r → IsPattern text s → r ≡ s
one_pattern text r s p q =
    let a = parts_of text r p in
    let b = parts_of text s q in
    let same = one_alternation (body_of text) (r.tree) (s.tree) (a.ending) (b.ending) a.reads b.reads in
    let begin : r.line_begin ≡ s.line_begin = a.caret ∙ sym b.caret in
    let end : r.line_end ≡ s.line_end = same_some (r.line_end) (s.line_end) (sym (ending_complete (a.ending) (r.line_end) a.ends) ∙ (ap ending_at same.1 ∙ ending_complete (b.ending) (s.line_end) b.ends)) in
    join begin end same.0
  where
    make : Bool → Bool → Regex → Reading
    make a b t = record { line_begin = a; line_end = b; tree = t }

    join : r.line_begin ≡ s.line_begin → r.line_end ≡ s.line_end → r.tree ≡ s.tree → r ≡ s
    join a b c = three r.line_begin s.line_begin r.line_end s.line_end r.tree s.tree a b c
      where
        three : (a x : Bool) (b y : Bool) (c z : Regex) → a ≡ x → b ≡ y → c ≡ z → ◌≡◌ {A = Reading} (record { line_begin = a; line_end = b; tree = c }) (record { line_begin = x; line_end = y; tree = z })
        three a x b y c z e f g = ap (λ v. record { line_begin = v; line_end = b; tree = c }) e ∙ (ap (λ v. record { line_begin = x; line_end = v; tree = c }) f ∙ ap (λ v. record { line_begin = x; line_end = y; tree = v }) g)

pub reads_of : (text : List ℕ) (tree : Regex) → IsSubstitute text tree → Reads text tree []
reads_of text tree p = record { lexemes = p.lexemes; spelled = p.spelled; alternation = p.alternation; stops = refl }

pub one_substitute : (text : List ℕ) (r s : Regex) → IsSubstitute text r → IsSubstitute text s → r ≡ s
one_substitute text r s p q = let same = one_alternation text r s [] [] (reads_of text r p) (reads_of text s q) in same.0
