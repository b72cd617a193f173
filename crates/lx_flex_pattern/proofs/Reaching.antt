-- Reading one part after the other reaches the row's end, or shows that there is none.
use Rattle.std.proofs.Common.{◌≡◌, ℕ, zero, suc, ◌+◌, List, [], ◌∷◌, ◌++◌, Option, Some, None, refl, sym, ap, subst, ◌∙◌, arith, append_assoc}
use Rattle.std.specs.Option.{option_map, option_and_then}
use Rattle.lx_ere.specs.ChoiceLaws.{no_none, same_some, map_is}
use Rattle.lx_ere.specs.Grammar.{Lexeme, IsAlternation}
use Rattle.lx_ere.specs.Regex.{Regex}
use Rattle.lx_ere.specs.Stacks.{Stack, stack, empty_frame, run, finish, parse}
use Rattle.lx_ere.specs.StackLaws.{runs, run_fails, parse_sound, parse_complete}
use Rattle.lx_flex_pattern.specs.declared.options.PatternOptions.{PatternOptions}
use Rattle.lx_flex_pattern.specs.Lexing.{Definition, State, Piece, goes, inserts, ends, ends_line, slash, wrong, piece_at}
use Rattle.lx_flex_pattern.specs.KeptStacks.{IsKeptStack, AreKeptStacks}
use Rattle.lx_flex_pattern.specs.Progress.{Reached, Stopped, ReadsKept, ReadsNothing, Outcome, halts, Tells}
use Rattle.lx_flex_pattern.specs.Reading.{Place, behind_part, at_text, Stop, at_end, at_dollar, at_slash, before, row_of, row, Lexes}
use Rattle.lx_flex_pattern.proofs.KeptStacks.{Takes, empty_kept, run_kept, finish_kept, written_stack, no_written_stack, stays_none, written_tree, no_written_tree}
use Rattle.lx_flex_pattern.proofs.Rows.{Row, row_grows, one_row}

before_none : (x : Option Row) → before [] x ≡ x
before_none None = refl
before_none (Some r) = refl

before_both : (ls ms : List Lexeme) (x : Option Row) → before ls (before ms x) ≡ before (ls ++ ms) x
before_both ls ms None = refl
before_both ls ms (Some r) = ap (λ xs. Some (xs, r.1, r.2)) (sym (append_assoc ls ms (r.0)))

-- the lexemes that a part has
abbrev pub lexemes_of : Piece → Option (List Lexeme)
lexemes_of (goes ls st rest) = Some ls
lexemes_of (inserts ls st front rest) = Some ls
lexemes_of (ends ls st rest) = Some ls
lexemes_of (ends_line ls st rest) = Some ls
lexemes_of (slash ls st rest) = Some ls
lexemes_of wrong = None

takes_same : (ls : List Lexeme) (g : Stack) (h : Option Stack) → run ls g ≡ h → Takes ls g h
takes_same ls g h e w kept = subst (AreKeptStacks (run ls w)) e (run_kept ls w g kept)

module _ (o : PatternOptions) (names : List ℕ → Option Definition) where
  pub reach_start : (p : Place) → Reached o names p (stack empty_frame []) p
  reach_start p = record {
    read = [];
    parts = 0;
    written = stack empty_frame [];
    leads = refl;
    kept = empty_kept;
    follows = λ k. let e : 0 + k ≡ k = omega arith in ap (λ n. row n o names p) e ∙ sym (before_none (row k o names p));
  }

  -- one more part, after which the row goes on at the place `next`
  reach_part : (from here next : Place) (g h : Stack) (ls : List Lexeme) → ((k : ℕ) → row (suc k) o names here ≡ before ls (row k o names next)) → Takes ls g (Some h) →
      Reached o names from g here → Reached o names from h next
  reach_part from here next g h ls goes_on takes r =
      let (w, at, is) = written_stack (run ls r.written) (Some h) h refl (takes r.written r.kept) in
      record {
        read = r.read ++ ls;
        parts = r.parts + 1;
        written = w;
        leads = runs r.read ls (stack empty_frame []) r.written w r.leads at;
        kept = is;
        follows = λ k.
            let e : (r.parts + 1) + k ≡ r.parts + suc k = omega arith in
            ap (λ n. row n o names from) e ∙ (r.follows (suc k) ∙ (ap (before r.read) (goes_on k) ∙ before_both r.read ls (row k o names next)));
      }

  -- an interval after lexemes
  pub reach_interval : (from here : Place) (g h : Stack) (ls : List Lexeme) (st : State) (rest : List ℕ) → piece_at o names here.state here.text ≡ goes ls st rest → Takes ls g (Some h) →
      Reached o names from g here → Reached o names from h (behind_part here st rest)
  reach_interval from here g h ls st rest e takes r = reach_part from here (behind_part here st rest) g h ls (λ k. ap (row_of (row k o names) here) e) takes r

  pub reach_goes : (from here : Place) (g h : Stack) (ls : List Lexeme) (st : State) (rest : List ℕ) → piece_at o names here.state here.text ≡ goes ls st rest → run ls g ≡ Some h →
      Reached o names from g here → Reached o names from h (behind_part here st rest)
  reach_goes from here g h ls st rest e takes r = reach_interval from here g h ls st rest e (takes_same ls g (Some h) takes) r

  pub reach_inserts : (from here : Place) (g h : Stack) (ls : List Lexeme) (st : State) (front rest : List ℕ) → piece_at o names here.state here.text ≡ inserts ls st front rest → run ls g ≡ Some h →
      Reached o names from g here → Reached o names from h (at_text here st front rest)
  reach_inserts from here g h ls st front rest e takes r = reach_part from here (at_text here st front rest) g h ls (λ k. ap (row_of (row k o names) here) e) (takes_same ls g (Some h) takes) r

  -- the last part
  pub reach_stop : (from here last : Place) (g h : Stack) (ls : List Lexeme) (stop : Stop) → row 1 o names here ≡ Some (ls, stop, last) → run ls g ≡ Some h →
      Reached o names from g here → Stopped o names from h stop last
  reach_stop from here last g h ls stop e takes r =
      let (w, at, is) = written_stack (run ls r.written) (run ls g) h takes (run_kept ls r.written g r.kept) in
      record {
        read = r.read ++ ls;
        written = w;
        leads = runs r.read ls (stack empty_frame []) r.written w r.leads at;
        kept = is;
        lexed = record { parts = r.parts + 1; lexed = r.follows 1 ∙ ap (before r.read) e };
      }

  pub tells_stop : (from here last : Place) (g : Stack) (ls : List Lexeme) (stop : Stop) (end : Outcome) → row 1 o names here ≡ Some (ls, stop, last) → option_map (λ h. halts h stop last) (run ls g) ≡ Some end →
      Reached o names from g here → Tells o names from end
  tells_stop from here last g ls stop end e takes r =
      let (h, at, is) = map_is (λ h. halts h stop last) (run ls g) end takes in
      subst (Tells o names from) is (reach_stop from here last g h ls stop e at r)

  -- the row from a place that was reached
  row_here : (from here : Place) (g : Stack) (ls : List Lexeme) (stop : Stop) (last : Place) → Reached o names from g here → Lexes o names from ls stop last →
      (k : ℕ) × (y : Row) × (row k o names here ≡ Some y) × (r_read : List Lexeme) × (w : Stack) × (run r_read (stack empty_frame []) ≡ Some w) × IsKeptStack w g × (r_read ++ y.0 ≡ ls)
  row_here from here g ls stop last r l =
      let whole = row_grows o names r.parts l.parts from (ls, stop, last) l.lexed in
      let (y, at, is) = map_is (λ q. (r.read ++ q.0, q.1, q.2)) (row l.parts o names here) (ls, stop, last) (sym (r.follows l.parts) ∙ whole) in
      (l.parts, y, at, r.read, r.written, r.leads, r.kept, ap (λ x. x.0) is)

  row_none : (here : Place) (k : ℕ) (y : Row) → piece_at o names here.state here.text ≡ wrong → row k o names here ≡ Some y → ⊥
  row_none here zero y e h = no_none y h
  row_none here (suc k) y e h = no_none y (sym (ap (row_of (row k o names) here) e) ∙ h)

  -- nothing is read where no part is
  pub reads_no_part : (from here : Place) (g : Stack) → piece_at o names here.state here.text ≡ wrong → Reached o names from g here → ReadsNothing o names from
  reads_no_part from here g e r = λ tree stop last reads.
      let (k, y, at, read, w, leads, kept, joins) = row_here from here g reads.lexemes stop last r reads.lexed in
      row_none here k y e at

  before_begins : (ls : List Lexeme) (x : Option Row) (y : Row) → before ls x ≡ Some y → (ms : List Lexeme) × (y.0 ≡ ls ++ ms)
  before_begins ls x y h = let (q, at, is) = map_is (λ q. (ls ++ q.0, q.1, q.2)) x y h in (q.0, sym (ap (λ x. x.0) is))

  nil_right : (ls : List Lexeme) → ls ≡ ls ++ []
  nil_right [] = refl
  nil_right (l ∷ ls) = ap (λ x. l ∷ x) (nil_right ls)

  part_begins : (f : Place → Option Row) (p : Place) (piece : Piece) (ls : List Lexeme) (y : Row) → lexemes_of piece ≡ Some ls → row_of f p piece ≡ Some y → (ms : List Lexeme) × (y.0 ≡ ls ++ ms)
  part_begins f p (goes ms st rest) ls y e h = let same : ms ≡ ls = same_some ms ls e in rw (← same) (before_begins ms (f (behind_part p st rest)) y h)
  part_begins f p (inserts ms st front rest) ls y e h = let same : ms ≡ ls = same_some ms ls e in rw (← same) (before_begins ms (f (at_text p st front rest)) y h)
  part_begins f p (ends ms st rest) ls y e h = let same : ms ≡ ls = same_some ms ls e in rw (← same) ([], sym (ap (λ x. x.0) (same_some (ms, at_end, behind_part p st rest) y h)) ∙ nil_right ms)
  part_begins f p (ends_line ms st rest) ls y e h = let same : ms ≡ ls = same_some ms ls e in rw (← same) ([], sym (ap (λ x. x.0) (same_some (ms, at_dollar, behind_part p st rest) y h)) ∙ nil_right ms)
  part_begins f p (slash ms st rest) ls y e h = let same : ms ≡ ls = same_some ms ls e in rw (← same) ([], sym (ap (λ x. x.0) (same_some (ms, at_slash, behind_part p st rest) y h)) ∙ nil_right ms)
  part_begins f p wrong ls y e h = absurd (no_none y h)

  row_begins : (here : Place) (k : ℕ) (ls : List Lexeme) (y : Row) → lexemes_of (piece_at o names here.state here.text) ≡ Some ls → row k o names here ≡ Some y → (ms : List Lexeme) × (y.0 ≡ ls ++ ms)
  row_begins here zero ls y e h = absurd (no_none y h)
  row_begins here (suc k) ls y e h = part_begins (row k o names) here (piece_at o names here.state here.text) ls y e h

  not_both : (ls : List Lexeme) (tree : Regex) → parse ls ≡ None → IsAlternation ls tree → ⊥
  not_both ls tree none is = no_none tree (sym none ∙ parse_complete ls tree is)

  -- nothing is read where the stack doesn't take the lexemes of the next part
  pub reads_no_interval : (from here : Place) (g : Stack) (ls : List Lexeme) → lexemes_of (piece_at o names here.state here.text) ≡ Some ls → Takes ls g None → Reached o names from g here → ReadsNothing o names from
  reads_no_interval from here g ls e fails r = λ tree stop last reads.
      let (k, y, at, read, w, leads, kept, joins) = row_here from here g reads.lexemes stop last r reads.lexed in
      let (ms, is) = row_begins here k ls y e at in
      let all : reads.lexemes ≡ (read ++ ls) ++ ms = sym joins ∙ (ap (λ x. read ++ x) is ∙ sym (append_assoc read ls ms)) in
      let front : run (read ++ ls) (stack empty_frame []) ≡ None = run_fails read ls (stack empty_frame []) w leads (no_written_stack (run ls w) None refl (fails w kept)) in
      not_both reads.lexemes tree (ap parse all ∙ ap (option_and_then (λ t. finish t.top t.below)) (stays_none (read ++ ls) ms (stack empty_frame []) front)) reads.alternation

  pub reads_no_lexemes : (from here : Place) (g : Stack) (ls : List Lexeme) → lexemes_of (piece_at o names here.state here.text) ≡ Some ls → run ls g ≡ None → Reached o names from g here → ReadsNothing o names from
  reads_no_lexemes from here g ls e fails r = reads_no_interval from here g ls e (takes_same ls g None fails) r

  -- at the stop of a row its tree is known, or there is none
  pub reads_tree : (from last : Place) (g : Stack) (stop : Stop) (tree : Regex) → finish g.top g.below ≡ Some tree → Stopped o names from g stop last → ReadsKept o names from tree stop last
  reads_tree from last g stop tree e s =
      let (t, at, is) = written_tree (finish s.written.top s.written.below) (finish g.top g.below) tree e (finish_kept s.written g s.kept) in
      record {
        written = t;
        reads = record {
          lexemes = s.read;
          lexed = s.lexed;
          alternation = parse_sound s.read t (ap (option_and_then (λ x. finish x.top x.below)) s.leads ∙ at);
        };
        is_kept = is;
      }

  pub reads_no_tree : (from last : Place) (g : Stack) (stop : Stop) → finish g.top g.below ≡ None → Stopped o names from g stop last → ReadsNothing o names from
  reads_no_tree from last g stop e s = λ tree stop' last' reads.
      let same = one_row o names from reads.lexemes s.read stop' stop last' last reads.lexed s.lexed in
      let none : finish s.written.top s.written.below ≡ None = no_written_tree (finish s.written.top s.written.below) (finish g.top g.below) e (finish_kept s.written g s.kept) in
      not_both reads.lexemes tree (ap parse (ap (λ x. x.0) same) ∙ (ap (option_and_then (λ t. finish t.top t.below)) s.leads ∙ none)) reads.alternation
