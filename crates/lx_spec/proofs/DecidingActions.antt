-- It is decidable if a text is an action: if it is words, and if these are statements, turn by turn.
use Rattle.std.proofs.Common.{◌≡◌, ℕ, zero, suc, ◌<◌, ◌≤◌, Bool, true, false, cond, nat_eq, Option, Some, None, List, [], ◌∷◌, length, refl, subst, arith}
use Rattle.std.specs.Prelude.{IfSome, codes}
use Rattle.std.specs.Cmp.Lexicographic.{pointwise}
use Rattle.lx_ere.proofs.Deciding.{along}
use Rattle.lx_spec.specs.ActionWords.{Word, letters, semicolon, open_brace, close_brace, open_group, close_group, AreWords}
use Rattle.lx_spec.specs.Actions.{Value, value_of, condition_of, Statement, echo, begin, return, behind_word, in_group, operand_at, ended, returned, return_at, begun, begin_at, letters_at, Turn, finished, opens, closes, states, no_statement, stated_or_none, turn_at, AreStatements, none, opened, closed, stated, is_bar, Action, shared, own, IsAction, a_bar, some_statements}
use Rattle.lx_spec.proofs.ActionSteps.{in_finished, in_opened, in_closed, in_stated, in_none, bar-is, no_action, no_words}
use Rattle.lx_spec.proofs.DecidingWords.{decide_words}

-- ---- the words after a turn

-- fewer than n words follow the turn
abbrev LeavesFewer : ℕ → Turn → Type 0
LeavesFewer n finished = Unit {0}
LeavesFewer n (opens rest) = length rest < n
LeavesFewer n (closes rest) = length rest < n
LeavesFewer n (states s rest) = length rest < n
LeavesFewer n no_statement = Unit {0}

-- at most n words follow the result
abbrev LeavesAtMost : {X : Type 0} → ℕ → Option (X × List Word) → Type 0
LeavesAtMost n found = IfSome found (λ f. length f.1 ≤ n)

either : (n : ℕ) (b : Bool) (x y : Option (Statement × List Word)) → LeavesAtMost n x → LeavesAtMost n y → LeavesAtMost n (cond b x y)
either n true x y h g = h
either n false x y h g = g

behind_word_leaves : (n : ℕ) (w : Word) (ws : List Word) → length ws ≤ n → LeavesAtMost n (behind_word w ws)
behind_word_leaves n w [] le = tt
behind_word_leaves n w (close_group ∷ ws) le = omega (arith, le)
behind_word_leaves n w (_ ∷ ws) le = tt

in_group_leaves : (n : ℕ) (ws : List Word) → length ws ≤ n → LeavesAtMost n (in_group ws)
in_group_leaves n [] le = tt
in_group_leaves n (w ∷ ws) le = behind_word_leaves n w ws (omega (arith, le))

operand_leaves : (n : ℕ) (ws : List Word) → length ws ≤ n → LeavesAtMost n (operand_at ws)
operand_leaves n [] le = tt
operand_leaves n (open_group ∷ ws) le = in_group_leaves n ws (omega (arith, le))
operand_leaves n (_ ∷ ws) le = omega (arith, le)

ended_leaves : (n : ℕ) (s : Statement) (ws : List Word) → length ws ≤ n → LeavesAtMost n (ended s ws)
ended_leaves n s [] le = tt
ended_leaves n s (semicolon ∷ ws) le = omega (arith, le)
ended_leaves n s (_ ∷ ws) le = tt

returned_leaves : (n : ℕ) (v : Option Value) (ws : List Word) → length ws ≤ n → LeavesAtMost n (returned v ws)
returned_leaves n None ws le = tt
returned_leaves n (Some v) ws le = ended_leaves n (return v) ws le

return_leaves : (n : ℕ) (found : Option (Word × List Word)) → LeavesAtMost n found → LeavesAtMost n (return_at found)
return_leaves n None h = tt
return_leaves n (Some (w, ws)) h = returned_leaves n (value_of w) ws h

begun_leaves : (n : ℕ) (condition : Option (List ℕ)) (ws : List Word) → length ws ≤ n → LeavesAtMost n (begun condition ws)
begun_leaves n None ws le = tt
begun_leaves n (Some condition) ws le = ended_leaves n (begin condition) ws le

begin_leaves : (n : ℕ) (found : Option (Word × List Word)) → LeavesAtMost n found → LeavesAtMost n (begin_at found)
begin_leaves n None h = tt
begin_leaves n (Some (w, ws)) h = begun_leaves n (condition_of w) ws h

letters_leaves : (n : ℕ) (text : List ℕ) (ws : List Word) → length ws ≤ n → LeavesAtMost n (letters_at text ws)
letters_leaves n text ws le =
    either n (pointwise nat_eq text (codes "return")) (return_at (operand_at ws)) _ (return_leaves n (operand_at ws) (operand_leaves n ws le))
    (either n (pointwise nat_eq text (codes "ECHO")) (ended echo ws) _ (ended_leaves n echo ws le)
    (either n (pointwise nat_eq text (codes "BEGIN")) (begin_at (operand_at ws)) None (begin_leaves n (operand_at ws) (operand_leaves n ws le)) tt))

stated_fewer : (n : ℕ) (found : Option (Statement × List Word)) → LeavesAtMost n found → LeavesFewer (suc n) (stated_or_none found)
stated_fewer n None h = tt
stated_fewer n (Some (s, rest)) h = omega (arith, h)

turn_fewer : (ws : List Word) → LeavesFewer (length ws) (turn_at ws)
turn_fewer [] = tt
turn_fewer (open_brace ∷ ws) = omega arith
turn_fewer (close_brace ∷ ws) = omega arith
turn_fewer (semicolon ∷ ws) = omega arith
turn_fewer (letters text ∷ ws) = stated_fewer (length ws) (letters_at text ws) (letters_leaves (length ws) text ws (omega arith))
turn_fewer (_ ∷ ws) = tt

-- ---- the statements of some words

abbrev HasStatements : ℕ → List Word → Type 0
HasStatements d ws = (ss : List Statement) × AreStatements d ws ss

at_end : (d : ℕ) (ws : List Word) → turn_at ws ≡ finished → Dec (HasStatements d ws)
at_end zero ws e = yes ([], none ws e)
at_end (suc d) ws e = no (λ h. let z = in_finished (suc d) ws h.0 h.1 e in absurd (omega (arith, z.0)))

at_close : (d : ℕ) (ws rest : List Word) → turn_at ws ≡ closes rest → ((k : ℕ) → Dec (HasStatements k rest)) → Dec (HasStatements d ws)
at_close zero ws rest e further = no (λ h. let v = in_closed 0 ws rest h.0 h.1 e in absurd (omega (arith, v.1)))
at_close (suc d) ws rest e further = along (λ h. (h.0, closed d ws rest h.0 e h.1)) back (further d) where
  back : HasStatements (suc d) ws → HasStatements d rest
  back h = let v = in_closed (suc d) ws rest h.0 h.1 e in let same : v.0 ≡ d = omega (arith, v.1) in (h.0, subst (λ (n : ℕ). AreStatements n rest h.0) same v.2)

by_turn : (d : ℕ) (ws : List Word) (t : Turn) → turn_at ws ≡ t → LeavesFewer (length ws) t → ((k : ℕ) (rest : List Word) → length rest < length ws → Dec (HasStatements k rest)) → Dec (HasStatements d ws)
by_turn d ws finished e less further = at_end d ws e
by_turn d ws (opens rest) e less further = along (λ h. (h.0, opened d ws rest h.0 e h.1)) (λ h. (h.0, in_opened d ws rest h.0 h.1 e)) (further (suc d) rest less)
by_turn d ws (closes rest) e less further = at_close d ws rest e (λ k. further k rest less)
by_turn d ws (states s rest) e less further = along (λ h. (s ∷ h.0, stated d ws rest s h.0 e h.1)) (λ h. let u = in_stated d ws rest s h.0 h.1 e in (u.0, u.1)) (further d rest less)
by_turn d ws no_statement e less further = no (λ h. in_none d ws h.0 h.1 e)

read_statements : (fuel d : ℕ) (ws : List Word) → length ws < fuel → Dec (HasStatements d ws)
read_statements zero d ws less = absurd (omega (arith, less))
read_statements (suc fuel) d ws less = by_turn d ws (turn_at ws) refl (turn_fewer ws) (λ k rest l. read_statements fuel k rest (omega (arith, less, l)))

-- ---- actions

by_statements : (text : List ℕ) (ws : List Word) → AreWords text ws → is_bar ws ≡ false → Dec (HasStatements 0 ws) → Dec ((a : Action) × IsAction text a)
by_statements text ws are other (yes s) = yes (own s.0, some_statements ws s.0 are s.1)
by_statements text ws are other (no never) = no (λ h. no_action text ws are other (λ ss s. never (ss, s)) h.0 h.1)

by_bar : (text : List ℕ) (ws : List Word) → AreWords text ws → (b : Bool) → is_bar ws ≡ b → Dec ((a : Action) × IsAction text a)
by_bar text ws are true e = yes (shared, a_bar (subst (AreWords text) (bar-is ws e) are))
by_bar text ws are false e = by_statements text ws are e (read_statements (suc (length ws)) 0 ws (omega arith))

by_words : (text : List ℕ) → Dec ((ws : List Word) × AreWords text ws) → Dec ((a : Action) × IsAction text a)
by_words text (yes w) = by_bar text w.0 w.1 (is_bar w.0) refl
by_words text (no never) = no (λ h. no_words text (λ ws are. never (ws, are)) h.0 h.1)

pub decide_action : (text : List ℕ) → Dec ((a : Action) × IsAction text a)
decide_action text = by_words text (decide_words text)
