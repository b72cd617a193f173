-- It is decidable if a text is words, piece by piece: the text after a piece is shorter than the text.
use Rattle.std.proofs.Common.{◌≡◌, ℕ, zero, suc, ◌<◌, ◌≤◌, Bool, true, false, ◌||◌, cond, nat_eq, Option, Some, None, List, [], ◌∷◌, length, drop, refl, ap, arith, length-drop}
use Rattle.std.specs.Prelude.{IfSome}
use Rattle.std.specs.List.{prefix_len}
use Rattle.lx_ere.proofs.Deciding.{along}
use Rattle.lx_rules.specs.Identifiers.{is_word_byte}
use Rattle.lx_spec.specs.Bytes.{is_blank, begins_with, behind_run}
use Rattle.lx_spec.specs.Constants.{enclosed_at, behind_quote, closed_byte, closed_constant, constant_at}
use Rattle.lx_spec.specs.ActionWords.{Word, WordConstruct, ended, passed, word, no_word, sign_of, word_or_none, constant_or_none, behind_comment, passed_or_none, is_no_newline, comment_at, letters_piece, sign_piece, piece_at, AreWords, none, behind_passed, behind_word}
use Rattle.lx_spec.proofs.EscapeSteps.{LeavesAtMost, either as chosen, behind-escape}
use Rattle.lx_spec.proofs.Words.{behind-more}
use Rattle.lx_spec.proofs.WordSteps.{in_passed, in_word, in_none}

-- ---- the text after a piece

-- fewer than n bytes follow the piece
abbrev LeavesBelow : ℕ → WordConstruct → Type 0
LeavesBelow n ended = Unit {0}
LeavesBelow n (passed rest) = length rest < n
LeavesBelow n (word w rest) = length rest < n
LeavesBelow n no_word = Unit {0}

either : (n : ℕ) (b : Bool) (x y : WordConstruct) → (b ≡ true → LeavesBelow n x) → LeavesBelow n y → LeavesBelow n (cond b x y)
either n true x y h g = h refl
either n false x y h g = g

-- at most n bytes are left, if the result has any
abbrev NoLonger : ℕ → Option (List ℕ) → Type 0
NoLonger n found = IfSome found (λ rest. length rest ≤ n)

one_longer : (n : ℕ) (found : Option (List ℕ)) → NoLonger n found → NoLonger (suc n) found
one_longer n None h = tt
one_longer n (Some rest) h = omega (arith, h)

comment_no_longer : (text : List ℕ) → NoLonger (length text) (behind_comment text)
comment_no_longer [] = tt
comment_no_longer (c ∷ text) = by (begins_with 42 47 (c ∷ text)) (one_longer (length text) (behind_comment text) (comment_no_longer text)) where
  by : (b : Bool) → NoLonger (suc (length text)) (behind_comment text) → NoLonger (suc (length text)) (cond b (Some (drop 1 text)) (behind_comment text))
  by true h = let l = length-drop 1 text in omega (arith, l)
  by false h = h

passed_below : (n : ℕ) (found : Option (List ℕ)) → NoLonger n found → LeavesBelow (suc n) (passed_or_none found)
passed_below n None h = tt
passed_below n (Some rest) h = omega (arith, h)

comment_below : (text : List ℕ) → LeavesBelow (suc (length text)) (comment_at text)
comment_below [] = tt
comment_below (c ∷ text) = passed_below (suc (length text)) (behind_comment text) (one_longer (length text) (behind_comment text) (comment_no_longer text))

behind_quote_leaves : (n b : ℕ) (text : List ℕ) → length text ≤ n → LeavesAtMost n (closed_byte b (behind_quote text))
behind_quote_leaves n b [] le = tt
behind_quote_leaves n b (c ∷ text) le = by (nat_eq c 39) where
  by : (t : Bool) → LeavesAtMost n (closed_byte b (cond t (Some text) None))
  by true = omega (arith, le)
  by false = tt

closed_leaves : (n : ℕ) (found : Option (ℕ × List ℕ)) → LeavesAtMost n found → LeavesAtMost n (closed_constant found)
closed_leaves n None h = tt
closed_leaves n (Some (b, text)) h = behind_quote_leaves n b text h

enclosed_leaves : (n : ℕ) (text : List ℕ) → length text ≤ n → LeavesAtMost n (enclosed_at text)
enclosed_leaves n [] le = tt
enclosed_leaves n (c ∷ text) le =
    let less : length text ≤ n = omega (arith, le) in
    chosen n (nat_eq c 92) _ _ (behind-escape n text less) (chosen n (nat_eq c 39 || nat_eq c 10) None (Some (c, text)) tt less)

constant_below : (n : ℕ) (found : Option (ℕ × List ℕ)) → LeavesAtMost n found → LeavesBelow (suc n) (constant_or_none found)
constant_below n None h = tt
constant_below n (Some (b, rest)) h = omega (arith, h)

word_below : (n : ℕ) (found : Option Word) (rest : List ℕ) → length rest < n → LeavesBelow n (word_or_none found rest)
word_below n None rest less = tt
word_below n (Some w) rest less = less

sign_below : (c : ℕ) (text : List ℕ) → LeavesBelow (suc (length text)) (sign_piece c text)
sign_below c text =
    either (suc (length text)) (nat_eq c 39) (constant_or_none (constant_at text)) (word_or_none (sign_of c) text)
    (λ _. constant_below (length text) (constant_at text) (closed_leaves (length text) (enclosed_at text) (enclosed_leaves (length text) text (omega arith))))
    (word_below (suc (length text)) (sign_of c) text (omega arith))

run_within : (p : ℕ → Bool) (text : List ℕ) → length (behind_run p text) < suc (length text)
run_within p text = let l = length-drop (prefix_len p text) text in omega (arith, l)

run_below : (p : ℕ → Bool) (c : ℕ) (text : List ℕ) → p c ≡ true → length (behind_run p (c ∷ text)) < suc (length text)
run_below p c text e = let same : length (behind_run p (c ∷ text)) ≡ length (behind_run p text) = ap (λ (t : List ℕ). length t) (behind-more p c text e) in omega (arith, same, run_within p text)

piece_below : (text : List ℕ) → LeavesBelow (length text) (piece_at text)
piece_below [] = tt
piece_below (c ∷ text) =
    either (suc (length text)) (is_blank c || nat_eq c 10) (passed text) _ (λ _. omega arith)
    (either (suc (length text)) (begins_with 47 42 (c ∷ text)) (comment_at text) _ (λ _. comment_below text)
    (either (suc (length text)) (begins_with 47 47 (c ∷ text)) (passed (behind_run is_no_newline text)) _ (λ _. run_within is_no_newline text)
    (either (suc (length text)) (is_word_byte c) (letters_piece (c ∷ text)) (sign_piece c text) (run_below is_word_byte c text) (sign_below c text))))

-- ---- the words of a text

by_piece : (text : List ℕ) (p : WordConstruct) → piece_at text ≡ p → LeavesBelow (length text) p → ((rest : List ℕ) → length rest < length text → Dec ((ws : List Word) × AreWords rest ws)) → Dec ((ws : List Word) × AreWords text ws)
by_piece text ended e less further = yes ([], none text e)
by_piece text (passed rest) e less further = along (λ h. (h.0, behind_passed text rest h.0 e h.1)) (λ h. (h.0, in_passed text rest h.0 h.1 e)) (further rest less)
by_piece text (word w rest) e less further = along (λ h. (w ∷ h.0, behind_word text rest w h.0 e h.1)) (λ h. let v = in_word text rest w h.0 h.1 e in (v.0, v.1)) (further rest less)
by_piece text no_word e less further = no (λ h. in_none text h.0 h.1 e)

read_words : (fuel : ℕ) (text : List ℕ) → length text < fuel → Dec ((ws : List Word) × AreWords text ws)
read_words zero text less = absurd (omega (arith, less))
read_words (suc fuel) text less = by_piece text (piece_at text) refl (piece_below text) (λ rest l. read_words fuel rest (omega (arith, less, l)))

pub decide_words : (text : List ℕ) → Dec ((ws : List Word) × AreWords text ws)
decide_words text = read_words (suc (length text)) text (omega arith)
