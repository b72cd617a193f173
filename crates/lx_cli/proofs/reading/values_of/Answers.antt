use Rattle.std.proofs.Common.{◌≡◌, ◌∙◌, ap, List, [], map, Option, unwrap_or}
use Rattle.std.proofs.lemmas.Result.{IfOk-weaker}
use Rattle.std.specs.Borrow.{Bor}
use Rattle.clap.proofs.WalkLemmas.{raw_values-rows}
use Rattle.clap.specs.Words.{Text, found_of, rows_of}
use Rattle.lx_cli.specs.CommandLine.{values_in}
use Rattle.lx_cli.proofs.reading.values_of.Goals as goal

abbrev or_none : Option (List Text) → List Text
or_none o = unwrap_or o []

pub returns-in-Some : goal.returns-in-Some
returns-in-Some c =
    let read = ap or_none (c.get_strs.ensures ∙ raw_values-rows (found_of c.args.found.now) c.args.id.now) in
    let names : map (λ name. name.now) c.in-Some.names.now ≡ values_in c.args.id.now (rows_of (found_of c.args.found.now)) = rw c.in-Some.is at read in
    IfOk-weaker c.from_slice.result _ _ (λ values e. ap (map (λ (name : Bor Text). name.now)) e ∙ names) c.from_slice.ensures.items

pub returns-in-None : goal.returns-in-None
returns-in-None c =
    let read = ap or_none (c.get_strs.ensures ∙ raw_values-rows (found_of c.args.found.now) c.args.id.now) in
    let none : [] ≡ values_in c.args.id.now (rows_of (found_of c.args.found.now)) = rw c.in-None.is at read in
    ap (map (λ (name : Bor Text). name.now)) c.new.ensures.items ∙ none
