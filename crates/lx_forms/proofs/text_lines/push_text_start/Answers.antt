use Rattle.lx_forms.specs.Views.{form_view}
use Rattle.lx_forms.proofs.TextPlaced.{line_pushed, start_pushed}
use Rattle.lx_forms.proofs.text_lines.push_text_start.Goals as goal

pub returns-then-form-clause-start : goal.returns-then-form-clause-start
returns-then-form-clause-start c = λ _ own.
    start_pushed (form_view c.args.form.now) c.args.plan.now c.args.file c.args.item.now own c.args.block.now.items c.push_file.new.block.items c.extend_from_slice.new.self.items c.push_fields.new.block.items c.extend_from_slice-then-form.new.self.items
    c.if-form.true c.in_ok-push_file.ensures c.in_ok-extend_from_slice.ensures.items c.in_ok-push_fields.ensures c.in_ok-extend_from_slice-2.ensures.items

pub returns-clause-whole : goal.returns-clause-whole
returns-clause-whole c = λ _ own.
    line_pushed (form_view c.args.form.now) c.args.plan.now c.args.file c.args.item.now own c.args.block.now.items c.push_file.new.block.items c.extend_from_slice.new.self.items c.push_fields.new.block.items c.extend_from_slice-2.new.self.items
    c.if-form.false c.in_ok-push_file.ensures c.in_ok-extend_from_slice.ensures.items c.in_ok-push_fields.ensures c.in_ok-extend_from_slice-3.ensures.items
