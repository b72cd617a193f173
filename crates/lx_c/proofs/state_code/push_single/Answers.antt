use Rattle.std.proofs.Common.{◌≡◌, Some, codes, rules}
use Rattle.lx_c.specs.StateCode.{byte_text, edge_text, other_target}
use Rattle.lx_c.proofs.Texts.{then_5}
use Rattle.lx_c.specs.Templates.{filled}
use Rattle.lx_c.specs.declared.state_templates.TheConstants.{SINGLE}
use Rattle.lx_c.proofs.state_code.push_single.Goals as goal

pub returns-in_ok-push_edge-in-Some : goal.returns-in_ok-push_edge-in-Some
returns-in_ok-push_edge-in-Some c =
    let leads : other_target c.args.code.nul_ends c.args.code.tables.now.machine c.args.state c.args.marked c.args.byte ≡ Some c.in-Some.target = search rules in
    rw leads (then_5 c.push-in-Some.result _ _ _ _ _ _ (filled c.args.code.options.now.prefix SINGLE.now) (byte_text c.args.byte) (codes ") { ") (edge_text c.args.code.options.now c.args.code.nul_ends c.args.code.tables.now.machine c.args.state c.in-Some.target) (codes " }\n")
    c.in_ok-push_filled-in-Some.ensures c.in_ok-push_byte-in-Some.ensures c.in_ok-push-in-Some.ensures c.in_ok-push_edge-in-Some.ensures c.push-in-Some.ensures)
