-- An interval is only spelled with bounds in order, so the trees read from texts have such bounds.
use Rattle.std.proofs.Common.{◌≡◌, ℕ, ◌≤◌, Bool, true, false, ◌&&◌, nat_eq, cond, List, [], ◌∷◌, ◌++◌, Option, Some, None, refl, sym, ap, ◌∙◌, arith}
use Rattle.std.specs.Prelude.{IsTrue, nat_le}
use Rattle.std.specs.List.{list_all}
use Rattle.std.proofs.lemmas.Bool.{and_parts}
use Rattle.std.proofs.lemmas.Bool.Decides.{nat_tests}
use Rattle.std.proofs.lemmas.List.Folds.{list_all-append}
use Rattle.lx_ere.specs.Bytes.{byte_set}
use Rattle.lx_ere.specs.Regex.{Regex, Reading, one_of, then}
use Rattle.lx_ere.specs.Bounds.{is_ordered, has_ordered_bounds}
use Rattle.lx_ere.specs.Grammar.{Lexeme, set_of, quoted, name, interval, repeat, empty_word, open_group, close_group, bar, joined, IsAlternation, branch_alone, or_branch, IsBranch, unit_alone, then_unit, then_interval, IsUnit, a_set, a_string, a_name, a_group, an_empty_word, repeated}
use Rattle.lx_ere.specs.Spelling.{is_plain, byte_lexeme, Spells, of_byte, of_escape, of_string, of_bracket, of_name, exactly, at_least, between, Lexes}
use Rattle.lx_ere.specs.Pattern.{IsPattern, IsSubstitute}

both : (a b : Bool) → IsTrue a → IsTrue b → IsTrue (a && b)
both a b e f = ap (λ x. x && b) e ∙ f

-- the bounds of an interval and of a repetition are in order; other lexemes have none
abbrev is_lexeme_ordered : Lexeme → Bool
is_lexeme_ordered (set_of s) = true
is_lexeme_ordered (quoted first more) = true
is_lexeme_ordered (name n) = true
is_lexeme_ordered (interval low high) = is_ordered low high
is_lexeme_ordered open_group = true
is_lexeme_ordered close_group = true
is_lexeme_ordered (repeat low high) = is_ordered low high
is_lexeme_ordered empty_word = true
is_lexeme_ordered bar = true

abbrev is_option_ordered : Option Lexeme → Bool
is_option_ordered None = true
is_option_ordered (Some l) = is_lexeme_ordered l

either : (b : Bool) (x y : Option Lexeme) → IsTrue (is_option_ordered x) → IsTrue (is_option_ordered y) → IsTrue (is_option_ordered (cond b x y))
either true x y e f = e
either false x y e f = f

byte_ordered : (c : ℕ) → IsTrue (is_option_ordered (byte_lexeme c))
byte_ordered c =
    either (nat_eq c 40) _ _ refl (either (nat_eq c 41) _ _ refl (either (nat_eq c 42) _ _ refl (either (nat_eq c 43) _ _ refl
    (either (nat_eq c 63) _ _ refl (either (nat_eq c 124) _ _ refl (either (nat_eq c 46) _ _ refl (either (is_plain c) _ _ refl refl)))))))

le_is : (m n : ℕ) → m ≤ n → IsTrue (nat_le m n)
le_is m n h = let t : nat_le m n ≡ true = grind (arith, nat_tests) in t

spelled_ordered : (text : List ℕ) (l : Lexeme) (behind : List ℕ) → Spells text l behind → IsTrue (is_lexeme_ordered l)
spelled_ordered _ _ _ (of_byte c l behind e) = ap is_option_ordered (sym e) ∙ byte_ordered c
spelled_ordered _ _ _ (of_escape text byte behind e) = refl
spelled_ordered _ _ _ (of_string text first more behind o) = refl
spelled_ordered _ _ _ (of_bracket text s behind b) = refl
spelled_ordered _ _ _ (of_name n behind e) = refl
spelled_ordered _ _ _ (exactly digits n behind b) = le_is n n (omega arith)
spelled_ordered _ _ _ (at_least digits n behind b) = refl
spelled_ordered _ _ _ (between digits low more high behind b d h) = le_is low high h

lexemes_ordered : (text : List ℕ) (ls : List Lexeme) (behind : List ℕ) → Lexes text ls behind → IsTrue (list_all is_lexeme_ordered ls)
lexemes_ordered text [] behind h = refl
lexemes_ordered text (l ∷ ls) behind (prefix, rest, spelled, joins, more) =
    both (is_lexeme_ordered l) (list_all is_lexeme_ordered ls) (spelled_ordered prefix l rest spelled) (lexemes_ordered rest ls behind more)

-- both parts of a list of lexemes
parts : (ls ms : List Lexeme) → IsTrue (list_all is_lexeme_ordered (ls ++ ms)) → IsTrue (list_all is_lexeme_ordered ls) × IsTrue (list_all is_lexeme_ordered ms)
parts ls ms h = and_parts (list_all is_lexeme_ordered ls) (list_all is_lexeme_ordered ms) (sym (list_all-append is_lexeme_ordered ls ms) ∙ h)

joined_ordered : (first : Regex) (bytes : List ℕ) → IsTrue (has_ordered_bounds first) → IsTrue (has_ordered_bounds (joined first bytes))
joined_ordered first [] h = h
joined_ordered first (b ∷ bytes) h = joined_ordered (then first (one_of (byte_set b))) bytes (both (has_ordered_bounds first) true h refl)

mutual
  alternation_ordered : (ls : List Lexeme) (r : Regex) → IsAlternation ls r → IsTrue (list_all is_lexeme_ordered ls) → IsTrue (has_ordered_bounds r)
  alternation_ordered _ _ (branch_alone ls r d) h = branch_ordered ls r d h
  alternation_ordered _ _ (or_branch ls ms a b d e) h =
      let p = parts ls (bar ∷ ms) h in
      both (has_ordered_bounds a) (has_ordered_bounds b) (alternation_ordered ls a d p.0) (branch_ordered ms b e p.1)

  branch_ordered : (ls : List Lexeme) (r : Regex) → IsBranch ls r → IsTrue (list_all is_lexeme_ordered ls) → IsTrue (has_ordered_bounds r)
  branch_ordered _ _ (unit_alone ls r d) h = unit_ordered ls r d h
  branch_ordered _ _ (then_unit ls ms a b d e) h =
      let p = parts ls ms h in
      both (has_ordered_bounds a) (has_ordered_bounds b) (branch_ordered ls a d p.0) (unit_ordered ms b e p.1)
  branch_ordered _ _ (then_interval ls a low high d) h =
      let p = parts ls (interval low high ∷ []) h in
      both (is_ordered low high) (has_ordered_bounds a) ((and_parts (is_ordered low high) true p.1).0) (branch_ordered ls a d p.0)

  unit_ordered : (ls : List Lexeme) (r : Regex) → IsUnit ls r → IsTrue (list_all is_lexeme_ordered ls) → IsTrue (has_ordered_bounds r)
  unit_ordered _ _ (a_set s) h = refl
  unit_ordered _ _ (a_string first more) h = joined_ordered (one_of (byte_set first)) more refl
  unit_ordered _ _ (a_name n) h = refl
  unit_ordered _ _ (a_group ls r d) h = alternation_ordered ls r d ((parts ls (close_group ∷ []) h).0)
  unit_ordered _ _ an_empty_word h = refl
  unit_ordered _ _ (repeated ls r low high d) h =
      let p = parts ls (repeat low high ∷ []) h in
      both (is_ordered low high) (has_ordered_bounds r) ((and_parts (is_ordered low high) true p.1).0) (unit_ordered ls r d p.0)

pub pattern_ordered : (text : List ℕ) (r : Reading) → IsPattern text r → IsTrue (has_ordered_bounds r.tree)
pattern_ordered text r p = alternation_ordered p.lexemes r.tree p.alternation (lexemes_ordered p.body p.lexemes p.ending p.spelled)

pub substitute_ordered : (text : List ℕ) (tree : Regex) → IsSubstitute text tree → IsTrue (has_ordered_bounds tree)
substitute_ordered text tree s = alternation_ordered s.lexemes tree s.alternation (lexemes_ordered text s.lexemes [] s.spelled)
