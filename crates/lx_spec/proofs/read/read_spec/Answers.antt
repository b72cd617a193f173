use Rattle.std.proofs.Common.{map, ap}
use Rattle.std.proofs.lemmas.Result.{err_from_is_err_and}
use Rattle.lx_spec.specs.views.Sections.{sections_view}
use Rattle.lx_spec.specs.views.ResolvedRules.{resolved_view}
use Rattle.lx_spec.specs.views.Trees.{trees_view}
use Rattle.lx_spec.specs.Whole.{too_long, in_sections, in_rules}
use Rattle.lx_spec.specs.Bytes.{lines}
use Rattle.lx_spec.specs.Sections.{only_initial, entries, definitions}
use Rattle.lx_spec.specs.declared.fault.SpecFault.{SpecFault}
use Rattle.lx_spec.proofs.MemoryFaults.{memory-line}
use Rattle.lx_spec.proofs.WellFormed.{entries-kept, first-kept}
use Rattle.lx_spec.proofs.read.read_spec.Goals as goal

pub returns-then-text-gt-MAX_SPECIFICATION_BYTES-clause-fault : goal.returns-then-text-gt-MAX_SPECIFICATION_BYTES-clause-fault
returns-then-text-gt-MAX_SPECIFICATION_BYTES-clause-fault c = λ _. too_long c.if-text-gt-MAX_SPECIFICATION_BYTES.true

pub returns-in_err-sections-clause-fault : goal.returns-in_err-sections-clause-fault
returns-in_err-sections-clause-fault c =
    let p = err_from_is_err_and c.from_residual.result c.from_residual.ensures.1 in
    rw (p.1, p.2) (λ h. in_sections _ c.if-text-gt-MAX_SPECIFICATION_BYTES.false (c.in_err-sections.ensures (λ same. h (ap (λ (f : SpecFault). f.code) same))))

pub returns-in_err-sections-clause-memory : goal.returns-in_err-sections-clause-memory
returns-in_err-sections-clause-memory c =
    let p = err_from_is_err_and c.from_residual.result c.from_residual.ensures.1 in
    rw (p.1, p.2) (memory-line c.args.text.now _ (λ h. in_sections _ c.if-text-gt-MAX_SPECIFICATION_BYTES.false (c.in_err-sections.ensures h)))

pub returns-in_err-dictionary-clause-fault : goal.returns-in_err-dictionary-clause-fault
returns-in_err-dictionary-clause-fault c =
    let p = err_from_is_err_and c.from_residual-in_err-dictionary.result c.from_residual-in_err-dictionary.ensures.1 in
    rw (p.1, p.2) (λ h. let w = c.in_err-dictionary.ensures.fault (λ same. h (ap (λ (f : SpecFault). f.code) same)) in in_rules (sections_view c.in_ok-sections.sections) w.0 _ c.if-text-gt-MAX_SPECIFICATION_BYTES.false c.in_ok-sections.ensures w.1 w.2)

pub returns-in_err-dictionary-clause-memory : goal.returns-in_err-dictionary-clause-memory
returns-in_err-dictionary-clause-memory c =
    let p = err_from_is_err_and c.from_residual-in_err-dictionary.result c.from_residual-in_err-dictionary.ensures.1 in
    rw (p.1, p.2) (memory-line c.args.text.now _ (λ h. let w = c.in_err-dictionary.ensures.fault h in
    in_rules (sections_view c.in_ok-sections.sections) w.0 _ c.if-text-gt-MAX_SPECIFICATION_BYTES.false c.in_ok-sections.ensures w.1 w.2))

pub spec_of-requires-clause-sections : goal.spec_of-requires-clause-sections
spec_of-requires-clause-sections c =
    entries-kept (entries definitions 1 (lines c.args.text.now)) only_initial (sections_view c.in_ok-sections.sections) c.in_ok-sections.ensures first-kept

pub returns-clause-spec : goal.returns-clause-spec
returns-clause-spec c = record {
  short = c.if-text-gt-MAX_SPECIFICATION_BYTES.false;
  sections = sections_view c.in_ok-sections.sections;
  parsed = c.in_ok-sections.ensures;
  trees = trees_view c.in_ok-dictionary.dictionary.trees.items;
  read = c.in_ok-dictionary.ensures.dictionary.trees;
  clean = c.in_ok-dictionary.ensures.clean;
  resolved = map resolved_view c.in_ok-dictionary.resolved.items;
  resolves = c.in_ok-dictionary.ensures.resolves;
  is = c.in_ok-spec.ensures;
}
