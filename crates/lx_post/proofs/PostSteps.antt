-- Each step on the queue keeps the rule of the post.
use Rattle.std.proofs.Common.{◌≡◌, ◌≢◌, ◌⊎◌, inl, inr, ⊎_elim, ℕ, zero, suc, ◌+◌, ◌<◌, List, [], ◌∷◌, ◌++◌, length, set, sym, refl, ap, ◌∙◌, subst, arith, cond, eqb, eq-eqb, ne_eqb, Bool, true, false, append_assoc}
use mathlib.Core.Logic.{dite}
use native.Mathlib.Decide.{ℕ_discrete, dec_lt}
use mathlib.Core.Option.{some, some-injective, some-ne-none}
use Rattle.std.proofs.lemmas.List.{append-nil}
use lib.ListN.{get_elem?}
use Rattle.crossbeam_queue.specs.Fifo.{Pushes, Pops, Forks, Merges, Learns}
use Rattle.crossbeam_queue.proofs.Lists.{at_set}
use Rattle.lx_piece.specs.Pieces.{Making}
use Rattle.lx_piece.specs.Plans.{Planned}
use Rattle.lx_post.specs.declared.note.Note.{Note}
use Rattle.lx_post.specs.declared.post_rule.PassView.{PassView}
use Rattle.lx_post.specs.declared.post_rule.Role.TheVariants.{Blank, Sends, Takes}
use Rattle.lx_post.specs.Notes.{worker_of, IsHonestNote, AreHonestNotes, notes_of, has_end, NothingFollowsEnd}
use Rattle.lx_post.specs.Posting.{blank, spent_pass, sender, taker, opened, no_worker, with_next_worker, next_worker, joined, Sending, Taking, IsWhole, Shared, Fits, IsRunning, IsPosting}
use Rattle.lx_post.proofs.NoteLists.{notes_of-append, of_push_same, of_push_other, of_here, honest_push, honest_at, ends_push, ends_here}

only : {C : Type 0} (u : PassView C) (k : ℕ) (v : PassView C) → get_elem? (u ∷ []) k ≡ some v → u ≡ v
only u zero v e = some-injective u v e
only u (suc k) v e = absurd (some-ne-none v (sym e))

only_zero : {C : Type 0} (u : PassView C) (k : ℕ) (v : PassView C) → get_elem? (u ∷ []) k ≡ some v → k ≡ 0
only_zero u zero v e = refl
only_zero u (suc k) v e = absurd (some-ne-none v (sym e))

at_snoc_end : {C : Type 0} (l : List (PassView C)) (a b : PassView C) (j : ℕ) → get_elem? (l ++ a ∷ []) j ≡ some b → (get_elem? l j ≡ some b) ⊎ ((j ≡ length l) × (a ≡ b))
at_snoc_end [] a b zero e = inr (refl, some-injective a b e)
at_snoc_end [] a b (suc j) e = absurd (some-ne-none b (sym e))
at_snoc_end (x ∷ xs) a b zero e = inl e
at_snoc_end (x ∷ xs) a b (suc j) e = ⊎_elim (λ h. inl h) (λ (h : (j ≡ length xs) × (a ≡ b)). inr (ap suc h.0, h.1)) (at_snoc_end xs a b j e)

not_nil : {C : Type 0} (xs : List (Note C)) (y : Note C) (ys : List (Note C)) → xs ++ y ∷ ys ≡ [] → ⊥
not_nil [] y ys e = cc
not_nil (x ∷ xs) y ys e = cc

not_true : (b : Bool) → (b ≡ true → ⊥) → b ≡ false
not_true true h = absurd (h refl)
not_true false h = refl

-- once a pass isn't blank, the plan is named
running : {C : Type 0} (made : Making C) (items : List (Note C)) (views : List (PassView C)) (id : ℕ) (v : PassView C) → IsPosting made items views → get_elem? views id ≡ some v → v.role ≢ Blank → IsRunning made items views
running made items views id v (inl b) at not = absurd (not (sym (ap (λ (u : PassView _). u.role) (only blank id v (subst (λ (l : List (PassView _)). get_elem? l id ≡ some v) b.1 at)))))
running made items views id v (inr r) at not = r

pub begins : {C : Type 0} (made : Making C) → IsPosting made [] (blank ∷ [])
begins made = inl (refl, refl)

spent_fits : {C : Type 0} (shared : Shared C) (all : List (Note C)) (id : ℕ) → Fits shared all id spent_pass
spent_fits shared all id = record { not_blank = λ e. cc; sends = λ e. absurd (cc); takes = λ e. absurd (cc) }

-- an equal view with an equal number fits, too
fits_as : {C : Type 0} (shared : Shared C) (all : List (Note C)) (id j : ℕ) (v u : PassView C) → j ≡ id → v ≡ u → Fits shared all id v → Fits shared all j u
fits_as shared all id j v u same is fits = let P : ℕ × PassView _ → Type 0 = λ z. Fits shared all z.0 z.1 in subst P (λ i. (sym same i, is i)) fits

abbrev first_shared : {C : Type 0} → Planned → Shared C
first_shared plan = record { plan = plan; taker = 0; pass_of = λ _. 0; given = 0; received = [] }

opened_fits : {C : Type 0} (plan : Planned) → Fits (first_shared {C = C} plan) [] 0 (opened plan)
opened_fits plan = record { not_blank = λ e. cc; sends = λ e. absurd (cc); takes = λ e. record { plan = refl; alone = refl; given = refl; received = refl; joined = refl; sent = refl } }

open_first : {C : Type 0} (made : Making C) (plan : Planned) (v : PassView C) (id : ℕ) → get_elem? (blank ∷ []) id ≡ some v → IsPosting made [] (set (blank ∷ []) id (opened plan) ++ spent_pass ∷ [])
open_first made plan v zero e =
    let shared = first_shared plan in
    inr record {
      shared = shared;
      honest = tt;
      ended = λ _. tt;
      unmade = λ _ _. refl;
      fits = λ j u at'. ⊎_elim
          (λ h. fits_as shared [] 0 j (opened plan) u (only_zero (opened plan) j u h) (only (opened plan) j u h) (opened_fits plan))
          (λ (h : (j ≡ 1) × (spent_pass ≡ u)). fits_as shared [] j j spent_pass u refl h.1 (spent_fits shared [] j))
          (at_snoc_end (opened plan ∷ []) spent_pass u j at');
    }
open_first made plan v (suc k) e = absurd (some-ne-none v (sym e))

pub opens : {C : Type 0} (made : Making C) (id : ℕ) (v : PassView C) (plan : Planned) → v ≡ blank → Forks (IsPosting made) id v (opened plan) spent_pass
opens made id v plan is items views (inl b) at =
    let first : get_elem? (blank ∷ []) id ≡ some v = subst (λ (l : List (PassView _)). get_elem? l id ≡ some v) b.1 at in
    let P : List (Note _) × List (PassView _) → Type 0 = λ z. IsPosting made z.0 (set z.1 id (opened plan) ++ spent_pass ∷ []) in
    subst P (λ i. (sym b.0 i, sym b.1 i)) (open_first made plan v id first)
opens made id v plan is items views (inr r) at = absurd ((r.fits id v at).not_blank (ap (λ (u : PassView _). u.role) is))

pub adds_worker : {C : Type 0} (made : Making C) (id : ℕ) (v : PassView C) → v.role ≡ Takes → v.worker ≡ no_worker → v.given < no_worker → Forks (IsPosting made) id v (with_next_worker v) (next_worker v)
adds_worker made id v role none room items views rule at =
    let r = running made items views id v rule at (λ e. cc) in
    let mine = (r.fits id v at).takes role in
    let all = r.shared.received ++ items in
    let views' = set views id (with_next_worker v) in
    let new = length views' in
    let pass_of : ℕ → ℕ = λ k. cond (eqb k v.given) new (r.shared.pass_of k) in
    let apart : (k : ℕ) → k ≢ v.given → pass_of k ≡ r.shared.pass_of k = λ k not. ap (λ (b : Bool). cond b new (r.shared.pass_of k)) (ne_eqb k v.given not) in
    let shared : Shared _ = record r.shared { pass_of = pass_of; given = r.shared.given + 1 } in
    let given = mine.given in
    inr record {
      shared = shared;
      honest = r.honest;
      ended = r.ended;
      unmade = λ w le. r.unmade w (omega arith);
      fits = λ j u at'. ⊎_elim
          (λ old. ⊎_elim
          (λ (h : (j ≡ id) × (with_next_worker v ≡ u)). fits_as shared all id j (with_next_worker v) u h.0 h.1 record {
            not_blank = λ e. cc;
            sends = λ e. absurd (cc);
            takes = λ e. record { plan = mine.plan; alone = mine.alone; given = ap (λ (n : ℕ). n + 1) given; received = mine.received; joined = apart v.worker (λ is. omega arith) ∙ mine.joined; sent = mine.sent };
          })
          (λ (h : (j ≢ id) × (get_elem? views j ≡ some u)). let f = r.fits j u h.1 in record {
            not_blank = f.not_blank;
            sends = λ s. let g = f.sends s in let lower = g.has_pass in record { plan = g.plan; alone = apart u.worker (λ is. omega arith) ∙ g.alone; has_pass = omega arith; sent = g.sent };
            takes = λ t. let g = f.takes t in absurd (h.0 (sym g.alone ∙ mine.alone));
          })
          (at_set views id j (with_next_worker v) u old))
          (λ (h : (j ≡ new) × (next_worker v ≡ u)). fits_as shared all new j (next_worker v) u h.0 h.1 record {
            not_blank = λ e. cc;
            sends = λ e. record { plan = mine.plan; alone = ap (λ (b : Bool). cond b new (r.shared.pass_of v.given)) (eq-eqb v.given v.given refl); has_pass = omega arith; sent = sym (r.unmade v.given (omega arith)) };
            takes = λ e. absurd (cc);
          })
          (at_snoc_end views' (next_worker v) u j at');
    }

pub sends_one : {C : Type 0} (made : Making C) (n id : ℕ) (v : PassView C) (x : Note C) → v.role ≡ Sends → worker_of x ≡ v.worker → IsHonestNote made v.plan x → has_end v.sent ≡ false → Pushes (IsPosting made) n id v x (Sending v x)
sends_one made n id v x role own honest going items views _ rule at =
    let r = running made items views id v rule at (λ e. cc) in
    let mine = (r.fits id v at).sends role in
    let all = r.shared.received ++ items in
    let same : all ++ x ∷ [] ≡ r.shared.received ++ (items ++ x ∷ []) = append_assoc r.shared.received items (x ∷ []) in
    let w = sender v.plan v.worker (v.sent ++ x ∷ []) in
    let not_others : (k : ℕ) → k ≢ v.worker → notes_of k (all ++ x ∷ []) ≡ notes_of k all = λ k not. of_push_other k all x (λ is. not (sym is ∙ own)) in (
      w,
      inr record {
        shared = r.shared;
        honest = subst (AreHonestNotes made r.shared.plan) same (honest_push made r.shared.plan all x r.honest (subst (λ (p : Planned). IsHonestNote made p x) mine.plan honest));
        ended = λ k. subst (λ (l : List (Note _)). NothingFollowsEnd (notes_of k l)) same (dite (ℕ_discrete k v.worker)
            (λ is. subst NothingFollowsEnd (sym (of_push_same k all x (own ∙ sym is))) (ends_push (notes_of k all) x (r.ended k) (ap has_end (ap (λ (q : ℕ). notes_of q all) is ∙ sym mine.sent) ∙ going)))
            (λ not. subst NothingFollowsEnd (sym (not_others k not)) (r.ended k)));
        unmade = λ k le. subst (λ (l : List (Note _)). notes_of k l ≡ []) same (not_others k (λ is. let lower = mine.has_pass in omega arith) ∙ r.unmade k le);
        fits = λ j u at'. subst (λ (l : List (Note _)). Fits r.shared l j u) same (⊎_elim
            (λ (h : (j ≡ id) × (w ≡ u)). fits_as r.shared (all ++ x ∷ []) id j w u h.0 h.1 record {
              not_blank = λ e. cc;
              sends = λ e. record { plan = mine.plan; alone = mine.alone; has_pass = mine.has_pass; sent = ap (λ (l : List (Note _)). l ++ x ∷ []) mine.sent ∙ sym (of_push_same v.worker all x own) };
              takes = λ e. absurd (cc);
            })
            (λ (h : (j ≢ id) × (get_elem? views j ≡ some u)). let f = r.fits j u h.1 in record {
              not_blank = f.not_blank;
              sends = λ s. let g = f.sends s in record { plan = g.plan; alone = g.alone; has_pass = g.has_pass; sent = g.sent ∙ sym (not_others u.worker (λ is. h.0 (sym g.alone ∙ ap r.shared.pass_of is ∙ mine.alone))) };
              takes = λ t. let g = f.takes t in record { plan = g.plan; alone = g.alone; given = g.given; received = g.received; joined = g.joined; sent = g.sent ∙ sym (not_others u.worker (λ is. h.0 (sym g.joined ∙ ap r.shared.pass_of is ∙ mine.alone))) };
            })
            (at_set views id j w u at'));
      },
      refl,
    )

pub takes_one : {C : Type 0} (made : Making C) (id : ℕ) (v : PassView C) → v.role ≡ Takes → Pops (IsPosting made) id v (Taking made v)
takes_one made id v role x items views rule at =
    let r = running made (x ∷ items) views id v rule at (λ e. cc) in
    let mine = (r.fits id v at).takes role in
    let received = r.shared.received in
    let all = received ++ x ∷ items in
    let same : all ≡ (received ++ x ∷ []) ++ items = sym (append_assoc received (x ∷ []) items) in
    let k = worker_of x in
    let here = of_here k received x items refl in
    let w = taker v.plan v.given (v.received ++ x ∷ []) v.worker v.sent in
    let shared : Shared _ = record r.shared { received = received ++ x ∷ [] } in
    let given = mine.given in (
      w,
      inr record {
        shared = shared;
        honest = subst (AreHonestNotes made r.shared.plan) same r.honest;
        ended = λ q. subst (λ (l : List (Note _)). NothingFollowsEnd (notes_of q l)) same (r.ended q);
        unmade = λ q le. subst (λ (l : List (Note _)). notes_of q l ≡ []) same (r.unmade q le);
        fits = λ j u at'. subst (λ (l : List (Note _)). Fits shared l j u) same (⊎_elim
            (λ (h : (j ≡ id) × (w ≡ u)). fits_as shared all id j w u h.0 h.1 record {
              not_blank = λ e. cc;
              sends = λ e. absurd (cc);
              takes = λ e. record { plan = mine.plan; alone = mine.alone; given = given; received = ap (λ (l : List (Note _)). l ++ x ∷ []) mine.received; joined = mine.joined; sent = mine.sent };
            })
            (λ (h : (j ≢ id) × (get_elem? views j ≡ some u)). let f = r.fits j u h.1 in record {
              not_blank = f.not_blank;
              sends = λ s. let g = f.sends s in record { plan = g.plan; alone = g.alone; has_pass = g.has_pass; sent = g.sent };
              takes = λ t. let g = f.takes t in absurd (h.0 (sym g.alone ∙ mine.alone));
            })
            (at_set views id j w u at'));
      },
      record {
        view = refl;
        honest = subst (λ (p : Planned). IsHonestNote made p x) (sym mine.plan) (honest_at made r.shared.plan received x items r.honest);
        has_pass = dite (dec_lt k v.given) (λ lt. lt) (λ not. absurd (not_nil (notes_of k received) x (notes_of k items) (sym here ∙ r.unmade k (omega arith))));
        going = not_true (has_end (notes_of k v.received)) (λ some_end. not_nil [] x (notes_of k items) (ends_here (notes_of k received) (x ∷ notes_of k items) (subst NothingFollowsEnd here (r.ended k)) (ap (λ (l : List (Note _)). has_end (notes_of k l)) (sym mine.received) ∙ some_end)));
      },
    )

pub joins : {C : Type 0} (made : Making C) (id : ℕ) (v : PassView C) (other : ℕ) (w : PassView C) → v.role ≡ Takes → w.role ≡ Sends → Merges (IsPosting made) id v other w (joined v w) spent_pass
joins made id v other w role role' items views rule at apart at' =
    let r = running made items views id v rule at (λ e. cc) in
    let mine = (r.fits id v at).takes role in
    let all = r.shared.received ++ items in
    let both = joined v w in
    let was : get_elem? views other ≡ some w = ⊎_elim (λ (h : (other ≡ id) × (both ≡ w)). absurd (apart h.0)) (λ (h : (other ≢ id) × (get_elem? views other ≡ some w)). h.1) (at_set views id other both w at') in
    let theirs = (r.fits other w was).sends role' in
    let pass_of : ℕ → ℕ = λ k. cond (eqb k w.worker) id (r.shared.pass_of k) in
    let here : pass_of w.worker ≡ id = ap (λ (b : Bool). cond b id (r.shared.pass_of w.worker)) (eq-eqb w.worker w.worker refl) in
    let else_where : (k : ℕ) → k ≢ w.worker → pass_of k ≡ r.shared.pass_of k = λ k not. ap (λ (b : Bool). cond b id (r.shared.pass_of k)) (ne_eqb k w.worker not) in
    let shared : Shared _ = record r.shared { pass_of = pass_of } in
    inr record {
      shared = shared;
      honest = r.honest;
      ended = r.ended;
      unmade = r.unmade;
      fits = λ j u at''. ⊎_elim
          (λ (h : (j ≡ other) × (spent_pass ≡ u)). fits_as shared all j j spent_pass u refl h.1 (spent_fits shared all j))
          (λ (h : (j ≢ other) × (get_elem? (set views id both) j ≡ some u)). ⊎_elim
          (λ (g : (j ≡ id) × (both ≡ u)). fits_as shared all id j both u g.0 g.1 record {
            not_blank = λ e. cc;
            sends = λ e. absurd (cc);
            takes = λ e. record { plan = mine.plan; alone = mine.alone; given = mine.given; received = mine.received; joined = here; sent = theirs.sent };
          })
          (λ (g : (j ≢ id) × (get_elem? views j ≡ some u)). let f = r.fits j u g.1 in record {
            not_blank = f.not_blank;
            sends = λ s. let p = f.sends s in record { plan = p.plan; alone = else_where u.worker (λ is. h.0 (sym p.alone ∙ ap r.shared.pass_of is ∙ theirs.alone)) ∙ p.alone; has_pass = p.has_pass; sent = p.sent };
            takes = λ t. let p = f.takes t in absurd (g.0 (sym p.alone ∙ mine.alone));
          })
          (at_set views id j both u h.1))
          (at_set (set views id both) other j spent_pass u at'');
    }

pub whole : {C : Type 0} (made : Making C) (id : ℕ) (v : PassView C) → v.role ≡ Takes → Learns (IsPosting made) id v (λ items. IsWhole v)
whole made id v role items views rule at some_end =
    let r = running made items views id v rule at (λ e. cc) in
    let mine = (r.fits id v at).takes role in
    let received = r.shared.received in
    let k = v.worker in
    let split = notes_of-append k received items in
    let same = ap (λ (l : List (Note _)). notes_of k l) mine.received in
    let rest : notes_of k items ≡ [] = ends_here (notes_of k received) (notes_of k items) (subst NothingFollowsEnd split (r.ended k)) (ap has_end (sym same) ∙ some_end) in
    sym (mine.sent ∙ split ∙ ap (λ (l : List (Note _)). notes_of k received ++ l) rest ∙ append-nil (notes_of k received) ∙ sym same)
