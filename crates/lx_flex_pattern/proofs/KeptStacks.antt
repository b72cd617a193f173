-- The stack of open groups takes lexemes as they are written, and is kept.
use Rattle.std.proofs.Common.{◌≡◌, ℕ, List, [], ◌∷◌, ◌++◌, Option, Some, None, refl, sym, ap, subst, ◌∙◌}
use Rattle.std.specs.Option.{option_and_then}
use Rattle.lx_ere.specs.Bytes.{byte_set}
use Rattle.lx_ere.specs.ChoiceLaws.{no_none, same_some}
use Rattle.lx_ere.specs.Grammar.{Lexeme, set_of, quoted, name, interval, repeat, empty_word, open_group, close_group, bar, joined}
use Rattle.lx_ere.specs.Regex.{Regex, nil, one_of, then, or, times, named}
use Rattle.lx_ere.specs.Stacks.{Frame, frame, empty_frame, whole, total, push, Stack, stack, closed, step, run, finish}
use Rattle.lx_flex_pattern.specs.Intervals.{IsKeptAs, keeps_nil, keeps_set, keeps_name, keeps_then, keeps_or, keeps_times, AreKeptAs, keeps_none, keeps_some}
use Rattle.lx_flex_pattern.specs.KeptStacks.{IsKeptFrame, AreKeptFrames, no_frames, one_frame_more, IsKeptStack, AreKeptStacks, no_stack, a_stack}

pub same_kept : (t : Regex) → IsKeptAs t t
same_kept nil = keeps_nil
same_kept (one_of s) = keeps_set s
same_kept (then a b) = keeps_then a b a b (same_kept a) (same_kept b)
same_kept (or a b) = keeps_or a b a b (same_kept a) (same_kept b)
same_kept (times a n m) = keeps_times a a n m (same_kept a)
same_kept (named n) = keeps_name n

pub empty_kept : IsKeptStack (stack empty_frame []) (stack empty_frame [])
empty_kept = record { top = record { before = keeps_none; branch = keeps_none; unit = keeps_none }; below = no_frames }

whole_kept : (b c u v : Option Regex) → AreKeptAs b c → AreKeptAs u v → AreKeptAs (whole b u) (whole c v)
whole_kept _ _ _ _ keeps_none keeps_none = keeps_none
whole_kept _ _ _ _ keeps_none (keeps_some u v h) = keeps_some u v h
whole_kept _ _ _ _ (keeps_some b c g) keeps_none = keeps_some b c g
whole_kept _ _ _ _ (keeps_some b c g) (keeps_some u v h) = keeps_some (then b u) (then c v) (keeps_then b u c v g h)

total_of : (a b r s : Option Regex) → AreKeptAs a b → AreKeptAs r s → (f g : Frame) → f.before ≡ a → g.before ≡ b → whole f.branch f.unit ≡ r → whole g.branch g.unit ≡ s → AreKeptAs (total f) (total g)
total_of _ _ _ _ keeps_none keeps_none f g i j k l = rw (i, j, k, l) keeps_none
total_of _ _ _ _ keeps_none (keeps_some r s h) f g i j k l = rw (i, j, k, l) (keeps_some r s h)
total_of _ _ _ _ (keeps_some a b h) keeps_none f g i j k l = rw (i, j, k, l) keeps_none
total_of _ _ _ _ (keeps_some a b h) (keeps_some r s m) f g i j k l = rw (i, j, k, l) (keeps_some (or a r) (or b s) (keeps_or a r b s h m))

total_kept : (f g : Frame) → IsKeptFrame f g → AreKeptAs (total f) (total g)
total_kept f g h = total_of f.before g.before (whole f.branch f.unit) (whole g.branch g.unit) h.before (whole_kept f.branch g.branch f.unit g.unit h.branch h.unit) f g refl refl refl refl

push_kept : (f g : Frame) (r s : Regex) → IsKeptFrame f g → IsKeptAs r s → IsKeptFrame (push f r) (push g s)
push_kept f g r s h m = record { before = h.before; branch = whole_kept f.branch g.branch f.unit g.unit h.branch h.unit; unit = keeps_some r s m }

-- a unit is pushed
pushed : (w k : Stack) (r : Regex) → IsKeptStack w k → AreKeptStacks (Some (stack (push w.top r) w.below)) (Some (stack (push k.top r) k.below))
pushed w k r h = a_stack (stack (push w.top r) w.below) (stack (push k.top r) k.below) (record { top = push_kept w.top k.top r r h.top (same_kept r); below = h.below })

closed_kept : (r s : Option Regex) (fs gs : List Frame) → AreKeptAs r s → AreKeptFrames fs gs → AreKeptStacks (closed r fs) (closed s gs)
closed_kept _ _ fs gs keeps_none h = no_stack
closed_kept _ _ _ _ (keeps_some r s m) no_frames = no_stack
closed_kept _ _ _ _ (keeps_some r s m) (one_frame_more f g fs gs h i) = a_stack (stack (push f r) fs) (stack (push g s) gs) (record { top = push_kept f g r s h m; below = i })

-- The last unit is replaced, by what is kept of its repetition.
pub unit_kept : (w k h : Stack) (n : ℕ) (m : Option ℕ) (body tree : Regex) → k.top.unit ≡ Some body → ((t : Regex) → IsKeptAs t body → IsKeptAs (times t n m) tree) →
    h ≡ stack (frame k.top.before k.top.branch (Some tree)) k.below → IsKeptStack w k → AreKeptStacks (step (repeat n m) w) (Some h)
unit_kept w k h n m body tree e f g kept = by_unit w.top.unit k.top.unit refl e kept.top.unit
  where
    by_unit : (u v : Option Regex) → w.top.unit ≡ u → v ≡ Some body → AreKeptAs u v → AreKeptStacks (step (repeat n m) w) (Some h)
    by_unit _ _ i j keeps_none = absurd (cc)
    by_unit _ _ i j (keeps_some u v l) =
        let same : v ≡ body = cc in
        rw (i, g) (a_stack _ _ (record { top = record { before = kept.top.before; branch = kept.top.branch; unit = keeps_some (times u n m) tree (f u (subst (IsKeptAs u) same l)) }; below = kept.below }))

pub no_unit_kept : (w k : Stack) (n : ℕ) (m : Option ℕ) → k.top.unit ≡ None → IsKeptStack w k → AreKeptStacks (step (repeat n m) w) None
no_unit_kept w k n m e kept = by_unit w.top.unit k.top.unit refl e kept.top.unit
  where
    by_unit : (u v : Option Regex) → w.top.unit ≡ u → v ≡ None → AreKeptAs u v → AreKeptStacks (step (repeat n m) w) None
    by_unit _ _ i j keeps_none = rw i no_stack
    by_unit _ _ i j (keeps_some u v l) = absurd (cc)

-- The same of the whole branch.
pub branch_kept : (w k h : Stack) (n : ℕ) (m : Option ℕ) (body tree : Regex) → whole k.top.branch k.top.unit ≡ Some body → ((t : Regex) → IsKeptAs t body → IsKeptAs (times t n m) tree) →
    h ≡ stack (frame k.top.before (Some tree) None) k.below → IsKeptStack w k → AreKeptStacks (step (interval n m) w) (Some h)
branch_kept w k h n m body tree e f g kept =
    by_branch (whole w.top.branch w.top.unit) (whole k.top.branch k.top.unit) refl e (whole_kept w.top.branch k.top.branch w.top.unit k.top.unit kept.top.branch kept.top.unit)
  where
    by_branch : (u v : Option Regex) → whole w.top.branch w.top.unit ≡ u → v ≡ Some body → AreKeptAs u v → AreKeptStacks (step (interval n m) w) (Some h)
    by_branch _ _ i j keeps_none = absurd (cc)
    by_branch _ _ i j (keeps_some u v l) =
        let same : v ≡ body = cc in
        rw (i, g) (a_stack _ _ (record { top = record { before = kept.top.before; branch = keeps_some (times u n m) tree (f u (subst (IsKeptAs u) same l)); unit = keeps_none }; below = kept.below }))

pub no_branch_kept : (w k : Stack) (n : ℕ) (m : Option ℕ) → whole k.top.branch k.top.unit ≡ None → IsKeptStack w k → AreKeptStacks (step (interval n m) w) None
no_branch_kept w k n m e kept =
    by_branch (whole w.top.branch w.top.unit) (whole k.top.branch k.top.unit) refl e (whole_kept w.top.branch k.top.branch w.top.unit k.top.unit kept.top.branch kept.top.unit)
  where
    by_branch : (u v : Option Regex) → whole w.top.branch w.top.unit ≡ u → v ≡ None → AreKeptAs u v → AreKeptStacks (step (interval n m) w) None
    by_branch _ _ i j keeps_none = rw i no_stack
    by_branch _ _ i j (keeps_some u v l) = absurd (cc)

step_repeat : (n : ℕ) (m : Option ℕ) (w k : Stack) (u v : Option Regex) → k.top.unit ≡ v → AreKeptAs u v → IsKeptStack w k → AreKeptStacks (step (repeat n m) w) (step (repeat n m) k)
step_repeat n m w k _ _ e keeps_none kept = rw e (no_unit_kept w k n m e kept)
step_repeat n m w k _ _ e (keeps_some u v l) kept = rw e (unit_kept w k _ n m v (times v n m) e (λ t h. keeps_times t v n m h) refl kept)

step_interval : (n : ℕ) (m : Option ℕ) (w k : Stack) (v : Option Regex) → whole k.top.branch k.top.unit ≡ v → IsKeptStack w k → AreKeptStacks (step (interval n m) w) (step (interval n m) k)
step_interval n m w k None e kept = rw e (no_branch_kept w k n m e kept)
step_interval n m w k (Some v) e kept = rw e (branch_kept w k _ n m v (times v n m) e (λ t h. keeps_times t v n m h) refl kept)

step_bar : (w k : Stack) (r s : Option Regex) → total w.top ≡ r → total k.top ≡ s → AreKeptAs r s → IsKeptStack w k → AreKeptStacks (step bar w) (step bar k)
step_bar w k _ _ i j keeps_none kept = rw (i, j) no_stack
step_bar w k _ _ i j (keeps_some r s l) kept = rw (i, j) (a_stack _ _ (record { top = record { before = keeps_some r s l; branch = keeps_none; unit = keeps_none }; below = kept.below }))

step_kept : (l : Lexeme) (w k : Stack) → IsKeptStack w k → AreKeptStacks (step l w) (step l k)
step_kept (set_of s) w k h = pushed w k (one_of s) h
step_kept (quoted first more) w k h = pushed w k (joined (one_of (byte_set first)) more) h
step_kept (name n) w k h = pushed w k (named n) h
step_kept (interval n m) w k h = step_interval n m w k _ refl h
step_kept (repeat n m) w k h = step_repeat n m w k _ _ refl h.top.unit h
step_kept empty_word w k h = pushed w k nil h
step_kept open_group w k h = a_stack _ _ (record { top = record { before = keeps_none; branch = keeps_none; unit = keeps_none }; below = one_frame_more w.top k.top w.below k.below h.top h.below })
step_kept close_group w k h = closed_kept (total w.top) (total k.top) w.below k.below (total_kept w.top k.top h.top) h.below
step_kept bar w k h = step_bar w k _ _ refl refl (total_kept w.top k.top h.top) h

run_option : (ls : List Lexeme) (x y : Option Stack) → AreKeptStacks x y → AreKeptStacks (option_and_then (run ls) x) (option_and_then (run ls) y)
run_option ls _ _ no_stack = no_stack
run_option [] _ _ (a_stack w k h) = a_stack w k h
run_option (l ∷ ls) _ _ (a_stack w k h) = run_option ls (step l w) (step l k) (step_kept l w k h)

-- Lexemes are taken of both, or of neither.
pub run_kept : (ls : List Lexeme) (w k : Stack) → IsKeptStack w k → AreKeptStacks (run ls w) (run ls k)
run_kept ls w k h = run_option ls (Some w) (Some k) (a_stack w k h)

-- the trees at the end
pub finish_kept : (w k : Stack) → IsKeptStack w k → AreKeptAs (finish w.top w.below) (finish k.top k.below)
finish_kept w k h = by_below w.below k.below h.below
  where
    by_below : (fs gs : List Frame) → AreKeptFrames fs gs → AreKeptAs (finish w.top fs) (finish k.top gs)
    by_below _ _ no_frames = total_kept w.top k.top h.top
    by_below _ _ (one_frame_more f g fs gs i j) = keeps_none

-- The kept stack determines the written one.
pub written_stack : (x : Option Stack) (y : Option Stack) (k : Stack) → y ≡ Some k → AreKeptStacks x y → (w : Stack) × (x ≡ Some w) × IsKeptStack w k
written_stack _ _ k e no_stack = absurd (cc)
written_stack _ _ k e (a_stack w h m) = let same : h ≡ k = cc in (w, refl, subst (IsKeptStack w) same m)

pub no_written_stack : (x y : Option Stack) → y ≡ None → AreKeptStacks x y → x ≡ None
no_written_stack _ _ e no_stack = refl
no_written_stack _ _ e (a_stack w h m) = absurd (cc)

pub written_tree : (x y : Option Regex) (k : Regex) → y ≡ Some k → AreKeptAs x y → (t : Regex) × (x ≡ Some t) × IsKeptAs t k
written_tree _ _ k e keeps_none = absurd (cc)
written_tree _ _ k e (keeps_some t r m) = let same : r ≡ k = cc in (t, refl, subst (IsKeptAs t) same m)

pub no_written_tree : (x y : Option Regex) → y ≡ None → AreKeptAs x y → x ≡ None
no_written_tree _ _ e keeps_none = refl
no_written_tree _ _ e (keeps_some t r m) = absurd (cc)

-- Lexemes are taken by each stack that is kept as this one, and lead to one that is kept as that.
abbrev pub Takes : List Lexeme → Stack → Option Stack → Type 0
Takes ls g h = (written : Stack) → IsKeptStack written g → AreKeptStacks (run ls written) h

none_then : (xs ys : List Lexeme) (x : Option Stack) → option_and_then (run xs) x ≡ None → option_and_then (run (xs ++ ys)) x ≡ None
none_then xs ys None h = refl
none_then [] ys (Some s) h = absurd (no_none s (sym h))
none_then (x ∷ xs) ys (Some s) h = none_then xs ys (step x s) h

pub stays_none : (xs ys : List Lexeme) (s : Stack) → run xs s ≡ None → run (xs ++ ys) s ≡ None
stays_none xs ys s h = none_then xs ys (Some s) h

alone : (o : Option Stack) → option_and_then (run []) o ≡ o
alone None = refl
alone (Some s) = refl

then_one : (ls : List Lexeme) (l : Lexeme) (o : Option Stack) (x : Stack) → option_and_then (run ls) o ≡ Some x → option_and_then (run (ls ++ l ∷ [])) o ≡ step l x
then_one ls l None x h = absurd (no_none x h)
then_one [] l (Some s) x h = alone (step l s) ∙ ap (step l) (same_some s x h)
then_one (y ∷ ls) l (Some s) x h = then_one ls l (step y s) x h

-- lexemes, and one after them
pub takes_one_more : (ls : List Lexeme) (l : Lexeme) (g h : Stack) (o : Option Stack) → run ls g ≡ Some h → ((w : Stack) → IsKeptStack w h → AreKeptStacks (step l w) o) → Takes (ls ++ l ∷ []) g o
takes_one_more ls l g h o e f w kept =
    let (x, at, is) = written_stack (run ls w) (run ls g) h e (run_kept ls w g kept) in
    subst (λ y. AreKeptStacks y o) (sym (then_one ls l (Some w) x at)) (f x is)

pub takes_none : (ls : List Lexeme) (l : Lexeme) (g : Stack) → run ls g ≡ None → Takes (ls ++ l ∷ []) g None
takes_none ls l g e w kept = subst (λ y. AreKeptStacks y None) (sym (stays_none ls (l ∷ []) w (no_written_stack (run ls w) (run ls g) e (run_kept ls w g kept)))) no_stack
