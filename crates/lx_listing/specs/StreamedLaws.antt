-- Bytes that are taken in blocks, one block after the other.
use Rattle.std.proofs.Common.{ℕ, ◌≡◌, List, [], ◌++◌, refl, sym, ◌∙◌, ap, subst, append_assoc, append-nil}
use Rattle.lx_line.specs.Styles.{Style}
use Rattle.lx_listing.specs.Gathered.{Gathered}
use Rattle.lx_listing.specs.Streamed.{HasLines, Streamed, TakesBytes}

pub takes_nothing : {L S : Type 0} (style : L → Style) (wrote : S → List ℕ → S → Type 0) (s : Streamed L S) → TakesBytes style wrote s [] s
takes_nothing style wrote s = record {
  style_is = refl;
  plan_is = refl;
  file_is = refl;
  lines = λ start front h. subst (λ (bytes : List ℕ). HasLines wrote (style s.style) s.file s.stream bytes start s.sink) (sym (append-nil front)) h;
  prompt = λ h. h;
}

pub takes_on : {L S : Type 0} (style : L → Style) (wrote : S → List ℕ → S → Type 0) (s t u : Streamed L S) (xs ys : List ℕ) → TakesBytes style wrote s xs t → TakesBytes style wrote t ys u → TakesBytes style wrote s (xs ++ ys) u
takes_on {L} {S} style wrote s t u xs ys f h = record {
  style_is = h.style_is ∙ f.style_is;
  plan_is = h.plan_is ∙ f.plan_is;
  file_is = h.file_is ∙ f.file_is;
  lines = λ start front first.
      let mid = f.lines start front first in
      let there = subst (λ (by : L). HasLines wrote (style by) t.file t.stream (front ++ xs) start t.sink) (sym f.style_is)
      (subst (λ (file : ℕ). HasLines wrote (style s.style) file t.stream (front ++ xs) start t.sink) (sym f.file_is) mid) in
      let last = h.lines start (front ++ xs) there in
      let back = subst (λ (file : ℕ). HasLines wrote (style s.style) file u.stream ((front ++ xs) ++ ys) start u.sink) f.file_is
      (subst (λ (by : L). HasLines wrote (style by) t.file u.stream ((front ++ xs) ++ ys) start u.sink) f.style_is last) in
      subst (λ (bytes : List ℕ). HasLines wrote (style s.style) s.file u.stream bytes start u.sink) (append_assoc front xs ys) back;
  prompt = λ first. h.prompt (f.prompt first);
}
