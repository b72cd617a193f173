use Rattle.std.proofs.Common.{sym, ◌∙◌, ap, refl, false, cond}
use Rattle.std.proofs.lemmas.Bool.{ne_eqb, eq-eqb}
use Rattle.std.proofs.lemmas.Option.{slice_get_within}
use Rattle.lx_piece.specs.Kept.{has_file}
use Rattle.lx_piece.proofs.Readies.{lowest_delivers, ready_set_with}
use Rattle.lx_piece.proofs.collector.deliver_lowest.Goals as goal
use Rattle.lx_piece.proofs.collector.deliver_lowest.Goals.{then-not-is_ready, else-not-is_ready}

pub returns-clause-delivered : goal.returns-clause-delivered
returns-clause-delivered g c =
    let file = c.in_ok-file.ensures in
    let piece = c.in_ok-piece.ensures in
    (c.in_ok-file.file, lowest_delivers _ _ _ _ _ _ c.requires file.member file.least c.index_mut-buffer.ensures.value (sym piece.piece) piece.some)

pub returns-clause-ready_set : goal.returns-clause-ready_set
returns-clause-ready_set g c =
    let file = c.in_ok-file.file in
    let ready = c.args.ready.now in
    let hands = lowest_delivers _ _ _ _ _ _ c.requires c.in_ok-file.ensures.member c.in_ok-file.ensures.least c.index_mut-buffer.ensures.value (sym c.in_ok-piece.ensures.piece) c.in_ok-piece.ensures.some in
    let within = slice_get_within _ _ _ hands.there in
    elim c.if-not-is_ready.branch [
      | then-not-is_ready w ↦
          ready_set_with _ ready _ file _ c.requires within
          (ap (λ s. has_file s file) w.ready-is ∙ w.remove.ensures file ∙ ap (λ b. cond b false (has_file ready file)) (eq-eqb file file refl) ∙ sym (sym c.is_ready.ensures ∙ w.if-not-is_ready.true))
          (λ g d. ap (λ s. has_file s g) w.ready-is ∙ w.remove.ensures g ∙ ap (λ b. cond b false (has_file ready g)) (ne_eqb g file d))
      | else-not-is_ready w ↦
          ready_set_with _ ready _ file _ c.requires within
          (ap (λ s. has_file s file) w.ready-is ∙ c.in_ok-file.ensures.member ∙ sym (sym c.is_ready.ensures ∙ w.if-not-is_ready.false))
          (λ g d. ap (λ s. has_file s g) w.ready-is)
    ]
