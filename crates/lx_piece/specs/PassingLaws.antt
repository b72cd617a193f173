-- Changes of a reader that delivers pieces in order: between two states, and between the second and a third one.
use Rattle.std.specs.Prelude.{List, ℕ, refl}
use Rattle.std.proofs.Common.{inl, inr, sym, ◌∙◌, subst}
use Rattle.std.proofs.lemmas.Bool.{both_ways, cases_Bool}
use Rattle.lx_piece.specs.declared.reader.ReaderFault.{ReaderFault}
use Rattle.lx_piece.specs.Plans.{Planned}
use Rattle.lx_piece.specs.Relayed.{HasOpenFile}
use Rattle.lx_piece.specs.Turns.{Turn}
use Rattle.lx_piece.specs.Passing.{Passing, PassesOn}

pub passes_itself : {T : Type 0} (plan : T → Planned) (turn : T → Turn) (follows : T → T → Type 0) (fails : T → ReaderFault → T → Type 0) (itself : (s : T) → follows s s) → (s : Passing T) → PassesOn plan turn follows fails s s
passes_itself plan turn follows fails itself s =
    record {
      same = refl;
      took = λ _ _. itself s.taker;
      turned = λ _ _ is. is;
      fell = λ going failed. absurd (both_ways s.failed going failed);
      stuck = λ going failed. absurd (both_ways s.failed going failed);
      stopped = λ failed. (failed, refl, refl);
    }

pub passes_on : {T : Type 0} (plan : T → Planned) (turn : T → Turn) (follows : T → T → Type 0) (fails : T → ReaderFault → T → Type 0) (on : (s t u : T) → follows s t → follows t u → follows s u) (behind : (s t u : T) (fault : ReaderFault) → follows s t → fails t fault u → fails s fault u) → (s t u : Passing T) → PassesOn plan turn follows fails s t → PassesOn plan turn follows fails t u → PassesOn plan turn follows fails s u
passes_on {T} plan turn follows fails on behind s t u f h =
    record {
      same = h.same ∙ f.same;
      took = λ going after. elim (cases_Bool t.failed) [
        | inl failed ↦ absurd (both_ways u.failed after (h.stopped failed).0)
        | inr still ↦ on s.taker t.taker u.taker (f.took going still) (h.took still after)
      ];
      turned = λ going after is. elim (cases_Bool t.failed) [
        | inl failed ↦ absurd (both_ways u.failed after (h.stopped failed).0)
        | inr still ↦ h.turned still after (f.turned going still is)
      ];
      fell = λ going failed. elim (cases_Bool t.failed) [
        | inl before ↦
            let fell = f.fell going before in
            (fell.0, subst (λ (taker : T). fails s.taker fell.0 taker) (sym (h.stopped before).1) fell.1)
        | inr still ↦
            let fell = h.fell still failed in
            (fell.0, behind s.taker t.taker u.taker fell.0 (f.took going still) fell.1)
      ];
      stuck = λ going failed. elim (cases_Bool t.failed) [
        | inl before ↦
            subst (λ (plan_of : Planned). HasOpenFile plan_of u.counts) (sym h.same)
            (subst (λ (counts : List ℕ). HasOpenFile (plan t.taker) counts) (sym (h.stopped before).2) (f.stuck going before))
        | inr still ↦ h.stuck still failed
      ];
      stopped = λ failed.
          let a = f.stopped failed in
          let b = h.stopped a.0 in
          (b.0, b.1 ∙ a.1, b.2 ∙ a.2);
    }
