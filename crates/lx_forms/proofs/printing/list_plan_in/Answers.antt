use Rattle.std.proofs.Common.{ℕ, List, subst}
use Rattle.std.specs.Prelude.{OnErr, OnOk}
use Rattle.std.specs.Io.KnownBytes.{Appends}
use Rattle.lx_listing.specs.Appending.{AppendsPrefix}
use Rattle.lx_forms.specs.FormStyleLaws.{listing_same}
use Rattle.lx_forms.specs.Views.{form_view}
use Rattle.lx_forms.proofs.printing.list_plan_in.Goals as goal

pub returns-clause-ok : goal.returns-clause-ok
returns-clause-ok g c =
    subst (λ (bytes : List ℕ). OnOk c.list_plan_by.result (Appends (g.W.Write.contents c.args.out.now) (g.W.Write.contents c.list_plan_by.new.out) bytes)) (listing_same (form_view c.args.form.now) c.args.plan.now) c.list_plan_by.ensures.ok

pub returns-clause-err : goal.returns-clause-err
returns-clause-err g c =
    subst (λ (bytes : List ℕ). OnErr c.list_plan_by.result (AppendsPrefix (g.W.Write.contents c.args.out.now) (g.W.Write.contents c.list_plan_by.new.out) bytes)) (listing_same (form_view c.args.form.now) c.args.plan.now) c.list_plan_by.ensures.err
