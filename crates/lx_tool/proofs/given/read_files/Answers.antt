use Rattle.std.proofs.Common.{List, [], sym, subst, map, arith}
use Rattle.std.proofs.lemmas.List.{take_all, length-map}
use Rattle.lx_piece.specs.declared.input.Input.{Input}
use Rattle.lx_piece.specs.Plans.{input_view}
use Rattle.lx_tool.specs.Planning.{AreBytes}
use Rattle.lx_tool.specs.Sources.{AreGiven, none}
use Rattle.lx_tool.proofs.given.read_files.Goals as goal

pub loop-name-init : goal.loop-name-init
loop-name-init g c = record {
  given = subst (λ (files : List Input). AreGiven g.S.Sources.gives c.args.sources.now [] (map input_view files) c.args.sources.now) (sym c.new-files.ensures.items) none;
  bytes = subst (λ (files : List Input). AreBytes (map input_view files)) (sym c.new-files.ensures.items) (λ k d l. absurd (omega (arith, l)));
  len = c.new-files.ensures.len;
}

pub returns-clause-ok : goal.returns-clause-ok
returns-clause-ok g c =
    subst (λ names. AreGiven g.S.Sources.gives c.args.sources.now names (map input_view c.loop-name.files.items) c.loop-name.sources)
    (take_all c.loop-name.name-index (map (λ name. name.now) c.args.names.now) (let past = c.loop-name-test.false in omega (arith, past, length-map c.args.names.now (λ name. name.now)))) c.loop-name.invariant.given

pub returns-clause-len : goal.returns-clause-len
returns-clause-len g c = let past = c.loop-name-test.false in let len = c.loop-name.invariant.len in let end = c.loop-name.auto in omega arith
