use Rattle.std.proofs.Common.{ℕ, ◌≡◌, ◌⊎◌, inl, inr, false, not, List, [], ◌∷◌, ◌++◌, length, Option, Some, None, refl, sym, ◌∙◌, ap, subst, nat_eq, nat_lt, is_some, MatchOption}
use Rattle.std.specs.Prelude.{slice_get, slice_set}
use Rattle.std.proofs.lemmas.Bool.{cases_eq}
use Rattle.std.proofs.lemmas.Option.{slice_get_within}
use Rattle.std.proofs.Math.ListN.{length-set}
use Rattle.lx_piece.specs.declared.piece.Piece.{Piece}
use Rattle.lx_piece.specs.declared.reply.Why.{Why}
use Rattle.lx_piece.specs.declared.reply.Why.TheVariants.{WrongRun, UnknownFile, Memory}
use Rattle.lx_piece.specs.Arrivals.{RunShape, accepted_behind, accepted_of, replies_behind, with_arrival, joined, reply_to, cause_against, cause_among}
use Rattle.lx_piece.specs.Kept.{Buffered, Kept, BufferStandsFor, StandsFor, shape_of_kept, Delivers, KeepsIn, NoneReady}
use Rattle.lx_piece.proofs.AnyOf.{choice_none}
use Rattle.lx_piece.proofs.Stands.{kept_stands, other_stands, advanced_stands}
use Rattle.lx_piece.proofs.Readies.{get_set_same, get_set_other}

-- one arrival more
pub accepted_last : {C : Type 0} (shape : RunShape) (accepted came : List (Piece C)) (p : Piece C) → accepted_behind shape accepted (came ++ p ∷ []) ≡ with_arrival shape (accepted_behind shape accepted came) p
accepted_last shape accepted [] p = refl
accepted_last shape accepted (q ∷ came) p = accepted_last shape (with_arrival shape accepted q) came p

pub replies_last : {C : Type 0} (shape : RunShape) (accepted came : List (Piece C)) (p : Piece C) → replies_behind shape accepted (came ++ p ∷ []) ≡ replies_behind shape accepted came ++ reply_to shape (accepted_behind shape accepted came) p ∷ []
replies_last shape accepted [] p = refl
replies_last shape accepted (q ∷ came) p = ap (λ rest. reply_to shape accepted q ∷ rest) (replies_last shape (with_arrival shape accepted q) came p)

pub accepted_more : {C : Type 0} (shape : RunShape) (came : List (Piece C)) (p : Piece C) → None ≡ cause_against shape (accepted_of shape came) p → accepted_of shape (came ++ p ∷ []) ≡ accepted_of shape came ++ p ∷ []
accepted_more shape came p h = accepted_last shape [] came p ∙ ap (λ cause. joined cause (accepted_of shape came) p) (sym h)

pub accepted_same : {C : Type 0} (shape : RunShape) (came : List (Piece C)) (p : Piece C) (why : Why) → Some why ≡ cause_against shape (accepted_of shape came) p → accepted_of shape (came ++ p ∷ []) ≡ accepted_of shape came
accepted_same shape came p why h = accepted_last shape [] came p ∙ ap (λ cause. joined cause (accepted_of shape came) p) (sym h)

-- no cause against p: it is of the run and of one of its files, and none of its file's causes holds
pub known : {C : Type 0} (shape : RunShape) (accepted : List (Piece C)) (p : Piece C) → None ≡ cause_against shape accepted p → (not (nat_eq p.run shape.run) ≡ false) × (not (nat_lt p.file shape.files) ≡ false) × (None ≡ cause_among accepted p)
known shape accepted p h =
    let a = choice_none (not (nat_eq p.run shape.run)) WrongRun _ h in
    let b = choice_none (not (nat_lt p.file shape.files)) UnknownFile _ a.1 in
    (a.0, b.0, b.1)

pub same_some : {X : Type 0} (x y : X) → Some x ≡ Some y → x ≡ y
same_some x y h = cc

-- the buffers represent one accepted piece more
kept_buffers : {C : Type 0} (old new : List (Buffered C)) (accepted : List (Piece C)) (p : Piece C) → ((file : ℕ) (buffer : Buffered C) → slice_get old file ≡ Some buffer → BufferStandsFor buffer file accepted) → KeepsIn old p new → None ≡ cause_among accepted p → (file : ℕ) (buffer : Buffered C) → slice_get new file ≡ Some buffer → BufferStandsFor buffer file (accepted ++ p ∷ [])
kept_buffers old new accepted p s k none file buffer at =
    elim (cases_eq file p.file) [
      | inl e ↦
          let there : Some k.kept ≡ Some buffer = sym (ap (λ l. slice_get l file) k.after ∙ (ap (slice_get (slice_set old p.file k.kept)) e ∙ get_set_same old p.file k.kept (slice_get_within old p.file k.buffer k.there))) ∙ at in
          let stands = kept_stands k.buffer k.kept accepted p (s p.file k.buffer k.there) k.keeps none in
          subst (λ f. BufferStandsFor buffer f (accepted ++ p ∷ [])) (sym e) (subst (λ l. BufferStandsFor l p.file (accepted ++ p ∷ [])) (same_some k.kept buffer there) stands)
      | inr d ↦
          let there : slice_get old file ≡ Some buffer = sym (ap (λ l. slice_get l file) k.after ∙ get_set_other old p.file file k.kept d) ∙ at in
          other_stands buffer file accepted p (s file buffer there) (λ e. d (sym e))
    ]

pub stands_with : {C : Type 0} (run : ℕ) (old new : List (Buffered C)) (came : List (Piece C)) (p : Piece C) → StandsFor (record { run = run; buffers = old }) came → KeepsIn old p new → None ≡ cause_against (record { run = run; files = length old }) (accepted_of (record { run = run; files = length old }) came) p → StandsFor (record { run = run; buffers = new }) (came ++ p ∷ [])
stands_with run old new came p s k none = record {
  each = λ file buffer at.
      let shape : RunShape = record { run = run; files = length old } in
      let size : length new ≡ length old = ap length k.after ∙ length-set old p.file k.kept in
      let last = kept_buffers old new (accepted_of shape came) p s.each k (known shape (accepted_of shape came) p none).2 file buffer at in
      let joined : BufferStandsFor buffer file (accepted_of shape (came ++ p ∷ [])) = subst (λ xs. BufferStandsFor buffer file xs) (sym (accepted_more shape came p none)) last in
      subst (λ (n : ℕ). BufferStandsFor buffer file (accepted_of (record { run = run; files = n }) (came ++ p ∷ []))) (sym size) joined;
}

advanced_buffers : {C : Type 0} (old new : List (Buffered C)) (at_file : ℕ) (p : Piece C) (accepted : List (Piece C)) → ((file : ℕ) (buffer : Buffered C) → slice_get old file ≡ Some buffer → BufferStandsFor buffer file accepted) → Delivers old at_file p new → (file : ℕ) (buffer : Buffered C) → slice_get new file ≡ Some buffer → BufferStandsFor buffer file accepted
advanced_buffers old new at_file p accepted s k file buffer at =
    elim (cases_eq file at_file) [
      | inl e ↦
          let there : Some k.advanced ≡ Some buffer = sym (ap (λ l. slice_get l file) k.after ∙ (ap (slice_get (slice_set old at_file k.advanced)) e ∙ get_set_same old at_file k.advanced (slice_get_within old at_file k.buffer k.there))) ∙ at in
          let stands = advanced_stands k.buffer k.advanced at_file accepted (s at_file k.buffer k.there) k.moves (ap is_some k.next) in
          subst (λ f. BufferStandsFor buffer f accepted) (sym e) (subst (λ l. BufferStandsFor l at_file accepted) (same_some k.advanced buffer there) stands)
      | inr d ↦ s file buffer (sym (ap (λ l. slice_get l file) k.after ∙ get_set_other old at_file file k.advanced d) ∙ at)
    ]

pub stands_delivered : {C : Type 0} (run : ℕ) (old new : List (Buffered C)) (at_file : ℕ) (p : Piece C) (came : List (Piece C)) → StandsFor (record { run = run; buffers = old }) came → Delivers old at_file p new → StandsFor (record { run = run; buffers = new }) came
stands_delivered run old new at_file p came s k = record {
  each = λ file buffer at.
      let size : length new ≡ length old = ap length k.after ∙ length-set old at_file k.advanced in
      subst (λ (n : ℕ). BufferStandsFor buffer file (accepted_of (record { run = run; files = n }) came)) (sym size)
      (advanced_buffers old new at_file p (accepted_of (record { run = run; files = length old }) came) s.each k file buffer at);
}

-- a refused arrival doesn't change the list that a collector represents
pub stands_still : {C : Type 0} (kept : Kept C) (came : List (Piece C)) (p : Piece C) (why : Why) → StandsFor kept came → Some why ≡ cause_against (shape_of_kept kept) (accepted_of (shape_of_kept kept) came) p → StandsFor kept (came ++ p ∷ [])
stands_still kept came p why s h = record { each = λ file buffer at. subst (λ xs. BufferStandsFor buffer file xs) (sym (accepted_same (shape_of_kept kept) came p why h)) (s.each file buffer at) }

pub delivered_kept : {C : Type 0} (run : ℕ) (old new : List (Buffered C)) (r : Option (Piece C)) (Q : Piece C → Type 0) → MatchOption r (NoneReady old × (new ≡ old)) Q → MatchOption r (NoneReady old × ◌≡◌ {A = (Kept C)} (record { run = run; buffers = new }) (record { run = run; buffers = old })) Q
delivered_kept run old new None Q h = (h.0, ap (λ buffers. record { run = run; buffers = buffers }) h.1)
delivered_kept run old new (Some p) Q h = h

pub delivered_stands : {C : Type 0} (run : ℕ) (old new : List (Buffered C)) (r : Option (Piece C)) (came : List (Piece C)) → StandsFor (record { run = run; buffers = old }) came → MatchOption r (NoneReady old × (new ≡ old)) (λ p. (file : ℕ) × Delivers old file p new) → StandsFor (record { run = run; buffers = new }) came
delivered_stands {C} run old new None came s h = subst (λ (buffers : List (Buffered C)). StandsFor (record { run = run; buffers = buffers }) came) (sym h.1) s
delivered_stands run old new (Some p) came s h = stands_delivered run old new h.0 p came s h.1

pub same_shape : {C : Type 0} (old new : Kept C) → new.run ≡ old.run → length new.buffers ≡ length old.buffers → shape_of_kept new ≡ shape_of_kept old
same_shape old new r n = ap (λ (run : ℕ). record { run = run; files = length new.buffers }) r ∙ ap (λ (files : ℕ). record { run = old.run; files = files }) n

-- a cause that was named in a refusal is not memory
pub named_cause : (why : Why) (cause : Option Why) → (why ≡ Memory → ⊥) → (why ≡ Memory) ⊎ (cause ≡ Some why) → cause ≡ Some why
named_cause why cause other h = elim h [ inl e ↦ absurd (other e) | inr e ↦ e ]
