-- Reading lexemes from left to right with a stack yields the grammar's one tree. All here are proofs, of which only the statements need be read.
use Rattle.std.proofs.Common.{◌≡◌, ℕ, List, [], ◌∷◌, ◌++◌, Option, Some, None, refl, ap, subst, ◌∙◌, arith, append_assoc}
use Rattle.std.specs.Option.{option_map, option_and_then}
use Rattle.std.proofs.lemmas.Grind.{common_steps}
use Rattle.lx_ere.specs.Bytes.{byte_set}
use Rattle.lx_ere.specs.Regex.{Regex, nil, one_of, then, or, times, named}
use Rattle.lx_ere.specs.Grammar.{Lexeme, set_of, quoted, name, interval, repeat, empty_word, open_group, close_group, bar, joined, IsAlternation, branch_alone, or_branch, IsBranch, unit_alone, then_unit, then_interval, IsUnit, a_set, a_string, a_name, a_group, an_empty_word, repeated}
use Rattle.lx_ere.specs.Stacks.{Frame, frame, empty_frame, whole, either, total, push, Stack, stack, again, closed, step, run, finish, parse}

-- one run after the other
run_then : (ls ms : List Lexeme) (o : Option Stack) → option_and_then (run (ls ++ ms)) o ≡ option_and_then (run ms) (option_and_then (run ls) o)
run_then ls ms None = refl
run_then [] ms (Some s) = refl
run_then (l ∷ ls) ms (Some s) = run_then ls ms (step l s)

pub runs : (ls ms : List Lexeme) (s t v : Stack) → run ls s ≡ Some t → run ms t ≡ Some v → run (ls ++ ms) s ≡ Some v
runs ls ms s t v e f = run_then ls ms (Some s) ∙ (ap (option_and_then (run ms)) e ∙ f)

pub run_fails : (ls ms : List Lexeme) (s t : Stack) → run ls s ≡ Some t → run ms t ≡ None → run (ls ++ ms) s ≡ None
run_fails ls ms s t e f = run_then ls ms (Some s) ∙ (ap (option_and_then (run ms)) e ∙ f)

-- completeness: the stack reads all that the grammar reads
pub record BranchRuns (ls : List Lexeme) (r : Regex) (a : Option Regex) (fs : List Frame) : Type 0 where
  pub b : Option Regex
  pub u : Option Regex
  pub goes : run ls (stack (frame a None None) fs) ≡ Some (stack (frame a b u) fs)
  pub gives : whole b u ≡ Some r

pub record AlternationRuns (ls : List Lexeme) (r : Regex) (fs : List Frame) : Type 0 where
  pub f : Frame
  pub goes : run ls (stack empty_frame fs) ≡ Some (stack f fs)
  pub gives : total f ≡ Some r

mutual
  pub alternation_runs : (ls : List Lexeme) (r : Regex) → IsAlternation ls r → (fs : List Frame) → AlternationRuns ls r fs
  alternation_runs _ _ (branch_alone ls r d) fs =
      let h = branch_runs ls r d None fs in
      record { f = frame None h.b h.u; goes = h.goes; gives = ap (option_map (either None)) h.gives }
  alternation_runs _ _ (or_branch ls ms a b d e) fs =
      let h = alternation_runs ls a d fs in
      let k = branch_runs ms b e (Some a) fs in
      let at_bar : run (bar ∷ ms) (stack h.f fs) ≡ Some (stack (frame (Some a) k.b k.u) fs) = rw h.gives k.goes in
      record {
        f = frame (Some a) k.b k.u;
        goes = runs ls (bar ∷ ms) (stack empty_frame fs) (stack h.f fs) (stack (frame (Some a) k.b k.u) fs) h.goes at_bar;
        gives = ap (option_map (either (Some a))) k.gives;
      }

  pub branch_runs : (ls : List Lexeme) (r : Regex) → IsBranch ls r → (a : Option Regex) (fs : List Frame) → BranchRuns ls r a fs
  branch_runs _ _ (unit_alone ls r d) a fs = record { b = None; u = Some r; goes = unit_runs ls r d (frame a None None) fs; gives = refl }
  branch_runs _ _ (then_unit ls ms x y d e) a fs =
      let h = branch_runs ls x d a fs in
      record {
        b = whole h.b h.u;
        u = Some y;
        goes = runs ls ms (stack (frame a None None) fs) (stack (frame a h.b h.u) fs) (stack (frame a (whole h.b h.u) (Some y)) fs) h.goes (unit_runs ms y e (frame a h.b h.u) fs);
        gives = ap (λ o. whole o (Some y)) h.gives;
      }
  branch_runs _ _ (then_interval ls x low high d) a fs =
      let h = branch_runs ls x d a fs in
      record {
        b = Some (times x low high);
        u = None;
        goes = runs ls (interval low high ∷ []) (stack (frame a None None) fs) (stack (frame a h.b h.u) fs) (stack (frame a (Some (times x low high)) None) fs) h.goes (rw h.gives refl);
        gives = refl;
      }

  pub unit_runs : (ls : List Lexeme) (r : Regex) → IsUnit ls r → (f : Frame) (fs : List Frame) → run ls (stack f fs) ≡ Some (stack (push f r) fs)
  unit_runs _ _ (a_set s) f fs = refl
  unit_runs _ _ (a_string first more) f fs = refl
  unit_runs _ _ (a_name n) f fs = refl
  unit_runs _ _ (a_group ls r d) f fs =
      let h = alternation_runs ls r d (f ∷ fs) in
      runs ls (close_group ∷ []) (stack empty_frame (f ∷ fs)) (stack h.f (f ∷ fs)) (stack (push f r) fs) h.goes (rw h.gives refl)
  unit_runs _ _ an_empty_word f fs = refl
  unit_runs _ _ (repeated ls x low high d) f fs =
      runs ls (repeat low high ∷ []) (stack f fs) (stack (push f x) fs) (stack (push f (times x low high)) fs) (unit_runs ls x d f fs) refl

pub parse_complete : (ls : List Lexeme) (r : Regex) → IsAlternation ls r → parse ls ≡ Some r
parse_complete ls r d = let h = alternation_runs ls r d [] in rw h.goes h.gives

-- at most one tree
pub one_tree : (ls : List Lexeme) (r s : Regex) → IsAlternation ls r → IsAlternation ls s → r ≡ s
one_tree ls r s d e = let a = parse_complete ls r d in let b = parse_complete ls s e in cc

-- soundness: the lexemes that were read spell the contents of the stack
abbrev pub IsBefore : Option Regex → List Lexeme → Type 0
IsBefore None ls = ls ≡ []
IsBefore (Some a) ls = (ms : List Lexeme) × IsAlternation ms a × (ls ≡ ms ++ bar ∷ [])

abbrev pub IsStarted : Option Regex → Option Regex → List Lexeme → Type 0
IsStarted None None ls = ls ≡ []
IsStarted None (Some u) ls = IsUnit ls u
IsStarted (Some b) None ls = IsBranch ls b
IsStarted (Some b) (Some u) ls = (ms : List Lexeme) × (ns : List Lexeme) × IsBranch ms b × IsUnit ns u × (ls ≡ ms ++ ns)

pub record IsFrame (f : Frame) (ls : List Lexeme) : Type 0 where
  pub prefix : List Lexeme
  pub back : List Lexeme
  pub before : IsBefore (f.before) prefix
  pub started : IsStarted (f.branch) (f.unit) back
  pub joins : ls ≡ prefix ++ back

abbrev pub IsStack : Frame → List Frame → List Lexeme → Type 0
IsStack f [] ls = IsFrame f ls
IsStack f (g ∷ fs) ls = (prefix : List Lexeme) × (inner : List Lexeme) × IsStack g fs prefix × IsFrame f inner × (ls ≡ prefix ++ open_group ∷ inner)

whole_is : (b u : Option Regex) (ls : List Lexeme) (r : Regex) → IsStarted b u ls → whole b u ≡ Some r → IsBranch ls r
whole_is None None ls r s e = absurd (let h : None ≡ Some r = e in cc)
whole_is None (Some u) ls r s e = let h : u ≡ r = cc in subst (IsBranch ls) h (unit_alone ls u s)
whole_is (Some b) None ls r s e = let h : b ≡ r = cc in subst (IsBranch ls) h s
whole_is (Some b) (Some u) ls r (ms, ns, d, w, j) e =
    let h : then b u ≡ r = cc in
    rw (j, ← h) (then_unit ms ns b u d w)

total_is : (a b u : Option Regex) (ls : List Lexeme) (r : Regex) → IsFrame (frame a b u) ls → total (frame a b u) ≡ Some r → IsAlternation ls r
total_is a b u ls r i e = go a (whole b u) refl i.before e
  where
    go : (a w : Option Regex) → whole b u ≡ w → IsBefore a (i.prefix) → option_map (either a) w ≡ Some r → IsAlternation ls r
    go a None ew before e = absurd (let h : None ≡ Some r = e in cc)
    go None (Some x) ew before e =
        let h : x ≡ r = cc in
        let j : ls ≡ i.back = rw before at i.joins in
        rw (j, ← h) (branch_alone (i.back) x (whole_is b u (i.back) x i.started ew))
    go (Some y) (Some x) ew (ms, d, k) e =
        let h : or y x ≡ r = cc in
        let j : ls ≡ ms ++ bar ∷ i.back = i.joins ∙ (ap (λ xs. xs ++ i.back) k ∙ append_assoc ms (bar ∷ []) (i.back)) in
        rw (j, ← h) (or_branch ms (i.back) y x d (whole_is b u (i.back) x i.started ew))

-- the part before the last unit
started_whole : (b u : Option Regex) (ls : List Lexeme) → IsStarted b u ls → IsStarted (whole b u) None ls
started_whole None None ls s = s
started_whole None (Some u) ls s = unit_alone ls u s
started_whole (Some b) None ls s = s
started_whole (Some b) (Some u) ls s = whole_is (Some b) (Some u) ls (then b u) s refl

started_push : (w : Option Regex) (ls ms : List Lexeme) (r : Regex) → IsStarted w None ls → IsUnit ms r → IsStarted w (Some r) (ls ++ ms)
started_push None ls ms r s d = rw s d
started_push (Some b) ls ms r s d = (ls, ms, s, d, refl)

frame_push : (f : Frame) (ls ms : List Lexeme) (r : Regex) → IsFrame f ls → IsUnit ms r → IsFrame (push f r) (ls ++ ms)
frame_push f ls ms r i d = record {
  prefix = i.prefix;
  back = i.back ++ ms;
  before = i.before;
  started = started_push (whole (f.branch) (f.unit)) (i.back) ms r (started_whole (f.branch) (f.unit) (i.back) i.started) d;
  joins = ap (λ xs. xs ++ ms) i.joins ∙ append_assoc (i.prefix) (i.back) ms;
}

stack_push : (f : Frame) (fs : List Frame) (ls ms : List Lexeme) (r : Regex) → IsStack f fs ls → IsUnit ms r → IsStack (push f r) fs (ls ++ ms)
stack_push f [] ls ms r i d = frame_push f ls ms r i d
stack_push f (g ∷ fs) ls ms r (prefix, inner, s, i, j) d =
    (prefix, inner ++ ms, s, frame_push f inner ms r i d, ap (λ xs. xs ++ ms) j ∙ append_assoc prefix (open_group ∷ inner) ms)

-- a change of only the innermost frame
stack_change : (f g : Frame) (fs : List Frame) (ls ms : List Lexeme) → ((ls : List Lexeme) → IsFrame f ls → IsFrame g (ls ++ ms)) → IsStack f fs ls → IsStack g fs (ls ++ ms)
stack_change f g [] ls ms change i = change ls i
stack_change f g (h ∷ fs) ls ms change (prefix, inner, s, i, j) =
    (prefix, inner ++ ms, s, change inner i, ap (λ xs. xs ++ ms) j ∙ append_assoc prefix (open_group ∷ inner) ms)

frame_again : (a b : Option Regex) (u v : Regex) (l : Lexeme) (ls : List Lexeme) → ((ms : List Lexeme) → IsUnit ms u → IsUnit (ms ++ l ∷ []) v) → IsFrame (frame a b (Some u)) ls → IsFrame (frame a b (Some v)) (ls ++ l ∷ [])
frame_again a None u v l ls make i = record {
  prefix = i.prefix;
  back = i.back ++ l ∷ [];
  before = i.before;
  started = make (i.back) i.started;
  joins = ap (λ xs. xs ++ l ∷ []) i.joins ∙ append_assoc (i.prefix) (i.back) (l ∷ []);
}
frame_again a (Some b) u v l ls make i =
    let s = i.started in
    record {
      prefix = i.prefix;
      back = i.back ++ l ∷ [];
      before = i.before;
      started = (s.0, s.1 ++ l ∷ [], s.2, make (s.1) (s.3), ap (λ xs. xs ++ l ∷ []) (s.4) ∙ append_assoc (s.0) (s.1) (l ∷ []));
      joins = ap (λ xs. xs ++ l ∷ []) i.joins ∙ append_assoc (i.prefix) (i.back) (l ∷ []);
    }

again_keeps : (a b u : Option Regex) (fs : List Frame) (ls : List Lexeme) (l : Lexeme) (low : ℕ) (high : Option ℕ) (t : Stack) →
    ((ms : List Lexeme) (r : Regex) → IsUnit ms r → IsUnit (ms ++ l ∷ []) (times r low high)) →
    IsStack (frame a b u) fs ls → again low high (stack (frame a b u) fs) ≡ Some t → IsStack (t.top) (t.below) (ls ++ l ∷ [])
again_keeps a b None fs ls l low high t make s e = absurd (let h : None ≡ Some t = e in cc)
again_keeps a b (Some u) fs ls l low high t make s e =
    let h : stack (frame a b (Some (times u low high))) fs ≡ t = cc in
    rw (← h) (stack_change (frame a b (Some u)) (frame a b (Some (times u low high))) fs ls (l ∷ []) (λ ms. frame_again a b u (times u low high) l ms (λ ns. make ns u)) s)

interval_keeps : (a b u : Option Regex) (fs : List Frame) (ls : List Lexeme) (low : ℕ) (high : Option ℕ) (t : Stack) →
    IsStack (frame a b u) fs ls → step (interval low high) (stack (frame a b u) fs) ≡ Some t → IsStack (t.top) (t.below) (ls ++ interval low high ∷ [])
interval_keeps a b u fs ls low high t s e = go (whole b u) refl e
  where
    go : (w : Option Regex) → whole b u ≡ w → option_map (λ x. stack (frame a (Some (times x low high)) None) fs) w ≡ Some t → IsStack (t.top) (t.below) (ls ++ interval low high ∷ [])
    go None ew e = absurd (let h : None ≡ Some t = e in cc)
    go (Some x) ew e =
        let h : stack (frame a (Some (times x low high)) None) fs ≡ t = cc in
        rw (← h) (stack_change (frame a b u) (frame a (Some (times x low high)) None) fs ls (interval low high ∷ [])
        (λ ms i. record {
          prefix = i.prefix;
          back = i.back ++ interval low high ∷ [];
          before = i.before;
          started = then_interval (i.back) x low high (whole_is b u (i.back) x i.started ew);
          joins = ap (λ xs. xs ++ interval low high ∷ []) i.joins ∙ append_assoc (i.prefix) (i.back) (interval low high ∷ []);
        }) s)

bar_keeps : (a b u : Option Regex) (fs : List Frame) (ls : List Lexeme) (t : Stack) →
    IsStack (frame a b u) fs ls → step bar (stack (frame a b u) fs) ≡ Some t → IsStack (t.top) (t.below) (ls ++ bar ∷ [])
bar_keeps a b u fs ls t s e = go (total (frame a b u)) refl e
  where
    go : (w : Option Regex) → total (frame a b u) ≡ w → option_map (λ r. stack (frame (Some r) None None) fs) w ≡ Some t → IsStack (t.top) (t.below) (ls ++ bar ∷ [])
    go None ew e = absurd (let h : None ≡ Some t = e in cc)
    go (Some x) ew e =
        let h : stack (frame (Some x) None None) fs ≡ t = cc in
        rw (← h) (stack_change (frame a b u) (frame (Some x) None None) fs ls (bar ∷ [])
        (λ ms i. record { prefix = ms ++ bar ∷ []; back = []; before = (ms, total_is a b u ms x i ew, refl); started = refl; joins = grind (arith, common_steps) }) s)

close_keeps : (a b u : Option Regex) (fs : List Frame) (ls : List Lexeme) (t : Stack) →
    IsStack (frame a b u) fs ls → step close_group (stack (frame a b u) fs) ≡ Some t → IsStack (t.top) (t.below) (ls ++ close_group ∷ [])
close_keeps a b u [] ls t s e = go (total (frame a b u)) e
  where
    go : (w : Option Regex) → closed w [] ≡ Some t → IsStack (t.top) (t.below) (ls ++ close_group ∷ [])
    go None e = absurd (let h : None ≡ Some t = e in cc)
    go (Some x) e = absurd (let h : None ≡ Some t = e in cc)
close_keeps a b u (g ∷ fs) ls t (prefix, inner, s, i, j) e = go (total (frame a b u)) refl e
  where
    go : (w : Option Regex) → total (frame a b u) ≡ w → closed w (g ∷ fs) ≡ Some t → IsStack (t.top) (t.below) (ls ++ close_group ∷ [])
    go None ew e = absurd (let h : None ≡ Some t = e in cc)
    go (Some x) ew e =
        let h : stack (push g x) fs ≡ t = cc in
        let k : ls ++ close_group ∷ [] ≡ prefix ++ (open_group ∷ inner ++ close_group ∷ []) = ap (λ xs. xs ++ close_group ∷ []) j ∙ append_assoc prefix (open_group ∷ inner) (close_group ∷ []) in
        rw (k, ← h) (stack_push g fs prefix (open_group ∷ inner ++ close_group ∷ []) x s (a_group inner x (total_is a b u inner x i ew)))

open_keeps : (f : Frame) (fs : List Frame) (ls : List Lexeme) → IsStack f fs ls → IsStack empty_frame (f ∷ fs) (ls ++ open_group ∷ [])
open_keeps f fs ls s = (ls, [], s, record { prefix = []; back = []; before = refl; started = refl; joins = refl }, refl)

pub step_keeps : (l : Lexeme) (st t : Stack) (ls : List Lexeme) → IsStack (st.top) (st.below) ls → step l st ≡ Some t → IsStack (t.top) (t.below) (ls ++ l ∷ [])
step_keeps (set_of x) st t ls s e = let h : stack (push (st.top) (one_of x)) (st.below) ≡ t = cc in rw (← h) (stack_push (st.top) (st.below) ls (set_of x ∷ []) (one_of x) s (a_set x))
step_keeps (quoted first more) st t ls s e =
    let h : stack (push (st.top) (joined (one_of (byte_set first)) more)) (st.below) ≡ t = cc in
    rw (← h) (stack_push (st.top) (st.below) ls (quoted first more ∷ []) (joined (one_of (byte_set first)) more) s (a_string first more))
step_keeps (name n) st t ls s e = let h : stack (push (st.top) (named n)) (st.below) ≡ t = cc in rw (← h) (stack_push (st.top) (st.below) ls (name n ∷ []) (named n) s (a_name n))
step_keeps (interval low high) st t ls s e = interval_keeps (st.top.before) (st.top.branch) (st.top.unit) (st.below) ls low high t s e
step_keeps open_group st t ls s e = let h : stack empty_frame (st.top ∷ st.below) ≡ t = cc in rw (← h) (open_keeps (st.top) (st.below) ls s)
step_keeps close_group st t ls s e = close_keeps (st.top.before) (st.top.branch) (st.top.unit) (st.below) ls t s e
step_keeps (repeat low high) st t ls s e =
    again_keeps (st.top.before) (st.top.branch) (st.top.unit) (st.below) ls (repeat low high) low high t (λ ms r. repeated ms r low high) s e
step_keeps empty_word st t ls s e = let h : stack (push (st.top) nil) (st.below) ≡ t = cc in rw (← h) (stack_push (st.top) (st.below) ls (empty_word ∷ []) nil s an_empty_word)
step_keeps bar st t ls s e = bar_keeps (st.top.before) (st.top.branch) (st.top.unit) (st.below) ls t s e

pub run_keeps : (ms : List Lexeme) (st t : Stack) (ls : List Lexeme) → IsStack (st.top) (st.below) ls → run ms st ≡ Some t → IsStack (t.top) (t.below) (ls ++ ms)
run_keeps [] st t ls s e = let h : st ≡ t = cc in let k : ls ++ [] ≡ ls = grind (arith, common_steps) in rw (k, ← h) s
run_keeps (l ∷ ms) st t ls s e = go (step l st) refl e (λ next kept f. run_keeps ms next t (ls ++ l ∷ []) kept f)
  where
    go : (o : Option Stack) → step l st ≡ o → option_and_then (run ms) o ≡ Some t →
        ((next : Stack) → IsStack (next.top) (next.below) (ls ++ l ∷ []) → run ms next ≡ Some t → IsStack (t.top) (t.below) ((ls ++ l ∷ []) ++ ms)) → IsStack (t.top) (t.below) (ls ++ l ∷ ms)
    go None eo e rest = absurd (let h : None ≡ Some t = e in cc)
    go (Some next) eo e rest = rw append_assoc at (rest next (step_keeps l st next ls s eo) e)

pub parse_sound : (ls : List Lexeme) (r : Regex) → parse ls ≡ Some r → IsAlternation ls r
parse_sound ls r e = go (run ls (stack empty_frame [])) refl e
  where
    at_end : (f : Frame) (fs : List Frame) → IsStack f fs ls → finish f fs ≡ Some r → IsAlternation ls r
    at_end f [] s e = total_is (f.before) (f.branch) (f.unit) ls r s e
    at_end f (g ∷ fs) s e = absurd (let h : None ≡ Some r = e in cc)

    go : (o : Option Stack) → run ls (stack empty_frame []) ≡ o → option_and_then (λ st. finish st.top st.below) o ≡ Some r → IsAlternation ls r
    go None eo e = absurd (let h : None ≡ Some r = e in cc)
    go (Some t) eo e = at_end (t.top) (t.below) (run_keeps ls (stack empty_frame []) t [] (record { prefix = []; back = []; before = refl; started = refl; joins = refl }) eo) e
