use Rattle.std.proofs.Common.{◌≡◌, arith}
use Rattle.std.proofs.lemmas.Result.{IfOk-weaker}
use Rattle.lx_minimize.specs.Completion.{total}
use Rattle.lx_minimize.proofs.Containing.{all_contain_preimage, contain_preimage}
use Rattle.lx_minimize.proofs.candidates.sources_into.Goals as goal

pub returns-then-listed : goal.returns-then-listed
returns-then-listed c = IfOk-weaker c.sources_of_all.result _ _ (λ states are.
    contain_preimage c.args.m.now c.args.inside.now c.args.members.now states.items c.args.class c.requires.complete c.requires.class are c.requires.members) c.sources_of_all.ensures

pub returns : goal.returns
returns c =
    let held = c.args.m.now.labels.ok.0 in
    let count : c.len.result ≡ total c.args.m.now = omega (arith, c.len.ensures) in
    IfOk-weaker c.all_states.result _ _ (λ states are. all_contain_preimage c.args.m.now c.args.inside.now states.items c.args.class c.len.result c.requires.class count are) c.all_states.ensures
