-- A row of parts has one list of lexemes, and a text one reading.
use Rattle.std.proofs.Common.{◌≡◌, ℕ, zero, suc, ◌+◌, List, ◌++◌, Option, Some, refl, sym, ap, subst, ◌∙◌, arith, length}
use Rattle.lx_ere.specs.ChoiceLaws.{no_none, same_some, map_is}
use Rattle.lx_ere.specs.Grammar.{Lexeme, IsAlternation}
use Rattle.lx_ere.specs.Regex.{Regex}
use Rattle.lx_ere.specs.StackLaws.{one_tree}
use Rattle.lx_flex_pattern.specs.declared.options.PatternOptions.{PatternOptions}
use Rattle.lx_flex_pattern.specs.Lexing.{Definition, Piece, goes, inserts, ends, ends_line, slash, wrong, piece_at, initial}
use Rattle.lx_flex_pattern.specs.Reading.{Place, place, behind_part, at_text, Stop, at_end, at_dollar, at_slash, before, row_of, row, Lexes, Reads, FlexReading, EndsAt, IsFlexPattern, plain, with_dollar, with_context}

-- a row: its lexemes, its stop, and the place after it
abbrev pub Row : Type 0
Row = List Lexeme × Stop × Place

before_more : (ls : List Lexeme) (x y : Option Row) → ((r : Row) → x ≡ Some r → y ≡ Some r) → (r : Row) → before ls x ≡ Some r → before ls y ≡ Some r
before_more ls x y more r h =
    let (s, e, f) = map_is (λ q. (ls ++ q.0, q.1, q.2)) x r h in
    ap (before ls) (more s e) ∙ ap Some f

row_of-more : (f g : Place → Option Row) → ((q : Place) (r : Row) → f q ≡ Some r → g q ≡ Some r) → (p : Place) (piece : Piece) (r : Row) → row_of f p piece ≡ Some r → row_of g p piece ≡ Some r
row_of-more f g more p (goes ls st rest) r h = before_more ls (f (behind_part p st rest)) (g (behind_part p st rest)) (more (behind_part p st rest)) r h
row_of-more f g more p (inserts ls st front rest) r h = before_more ls (f (at_text p st front rest)) (g (at_text p st front rest)) (more (at_text p st front rest)) r h
row_of-more f g more p (ends ls st rest) r h = h
row_of-more f g more p (ends_line ls st rest) r h = h
row_of-more f g more p (slash ls st rest) r h = h
row_of-more f g more p wrong r h = h

module _ (o : PatternOptions) (names : List ℕ → Option Definition) where
  row_more : (k : ℕ) (p : Place) (r : Row) → row k o names p ≡ Some r → row (suc k) o names p ≡ Some r
  row_more zero p r h = absurd (no_none r h)
  row_more (suc k) p r h = row_of-more (row k o names) (row (suc k) o names) (row_more k) p (piece_at o names p.state p.text) r h

  pub row_grows : (d k : ℕ) (p : Place) (r : Row) → row k o names p ≡ Some r → row (d + k) o names p ≡ Some r
  row_grows zero k p r h = let e : 0 + k ≡ k = omega arith in ap (λ n. row n o names p) e ∙ h
  row_grows (suc d) k p r h = let e : suc d + k ≡ suc (d + k) = omega arith in ap (λ n. row n o names p) e ∙ row_more (d + k) p r (row_grows d k p r h)

  pub one_row : (p : Place) (ls ms : List Lexeme) (s t : Stop) (l m : Place) → Lexes o names p ls s l → Lexes o names p ms t m → ◌≡◌ {A = Row} (ls, s, l) (ms, t, m)
  one_row p ls ms s t l m g h =
      let e : g.parts + h.parts ≡ h.parts + g.parts = omega arith in
      let one : row (h.parts + g.parts) o names p ≡ Some (ls, s, l) = row_grows h.parts g.parts p (ls, s, l) g.lexed in
      let other : row (g.parts + h.parts) o names p ≡ Some (ms, t, m) = row_grows g.parts h.parts p (ms, t, m) h.lexed in
      same_some (ls, s, l) (ms, t, m) (sym one ∙ (ap (λ n. row n o names p) (sym e) ∙ other))

  pub one_alternation : (p : Place) (r q : Regex) (s t : Stop) (l m : Place) → Reads o names p r s l → Reads o names p q t m → (r ≡ q) × (s ≡ t) × (l ≡ m)
  one_alternation p r q s t l m g h =
      let same = one_row p g.lexemes h.lexemes s t l m g.lexed h.lexed in (
        one_tree h.lexemes r q (subst (λ ls. IsAlternation ls r) (ap (λ x. x.0) same) g.alternation) h.alternation,
        ap (λ x. x.1) same,
        ap (λ x. x.2) same,
      )

one_length : (text : List ℕ) (m n : ℕ) (l k : Place) → l ≡ k → EndsAt text m l → EndsAt text n k → m ≡ n
one_length text m n l k e a b = let same : length l.text ≡ length k.text = ap (λ p. length p.text) e in omega (arith, a.whole, b.whole, same)

pub one_reading : (o : PatternOptions) (names : List ℕ → Option Definition) (text : List ℕ) (r s : FlexReading) → IsFlexPattern o names text r → IsFlexPattern o names text s → r ≡ s
one_reading o names _ _ _ (plain _ _ text t l m g a) (plain _ _ _ u k n h b) =
    let same = one_alternation o names (place (initial o) 0 text) t u at_end at_end l k g h in
    let lengths = one_length text m n l k same.2 a b in
    rw (same.0, same.2, lengths) refl
one_reading o names _ _ _ (plain _ _ text t l m g a) (with_dollar _ _ _ u k n h b) =
    let same = one_alternation o names (place (initial o) 0 text) t u at_end at_dollar l k g h in
    let stop : at_end ≡ at_dollar = same.1 in absurd (cc)
one_reading o names _ _ _ (plain _ _ text t l m g a) (with_context _ _ _ u v j k n h i b) =
    let same = one_alternation o names (place (initial o) 0 text) t u at_end at_slash l j g h in
    let stop : at_end ≡ at_slash = same.1 in absurd (cc)
one_reading o names _ _ _ (with_dollar _ _ text t l m g a) (plain _ _ _ u k n h b) =
    let same = one_alternation o names (place (initial o) 0 text) t u at_dollar at_end l k g h in
    let stop : at_dollar ≡ at_end = same.1 in absurd (cc)
one_reading o names _ _ _ (with_dollar _ _ text t l m g a) (with_dollar _ _ _ u k n h b) =
    let same = one_alternation o names (place (initial o) 0 text) t u at_dollar at_dollar l k g h in
    let lengths = one_length text m n l k same.2 a b in
    rw (same.0, same.2, lengths) refl
one_reading o names _ _ _ (with_dollar _ _ text t l m g a) (with_context _ _ _ u v j k n h i b) =
    let same = one_alternation o names (place (initial o) 0 text) t u at_dollar at_slash l j g h in
    let stop : at_dollar ≡ at_slash = same.1 in absurd (cc)
one_reading o names _ _ _ (with_context _ _ text t w f l m g c a) (plain _ _ _ u k n h b) =
    let same = one_alternation o names (place (initial o) 0 text) t u at_slash at_end f k g h in
    let stop : at_slash ≡ at_end = same.1 in absurd (cc)
one_reading o names _ _ _ (with_context _ _ text t w f l m g c a) (with_dollar _ _ _ u k n h b) =
    let same = one_alternation o names (place (initial o) 0 text) t u at_slash at_dollar f k g h in
    let stop : at_slash ≡ at_dollar = same.1 in absurd (cc)
one_reading o names _ _ _ (with_context _ _ text t w f l m g c a) (with_context _ _ _ u v j k n h i b) =
    let first = one_alternation o names (place (initial o) 0 text) t u at_slash at_slash f j g h in
    let here : Reads o names f v at_end k = subst (λ p. Reads o names p v at_end k) (sym first.2) i in
    let second = one_alternation o names f w v at_end at_end l k c here in
    let lengths = one_length text m n l k second.2 a b in
    rw (first.0, first.2, second.0, lengths) refl
