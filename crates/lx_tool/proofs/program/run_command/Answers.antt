use Rattle.std.proofs.Common.{map, ◌≡◌, None}
use Rattle.std.specs.Prelude.{IsOk}
use Rattle.lx_cli.specs.CommandLine.{asked_by}
use Rattle.lx_tool.specs.Commands.{HasObeyed}
use Rattle.lx_tool.specs.Sources.{texts_of}
use Rattle.lx_tool.specs.Helping.{AskForHelp}
use Rattle.lx_tool.proofs.Helped.{at_status_0}
use Rattle.lx_tool.proofs.Obeyed.{has_done, has_ended, said_err, said_ok, sent_as_well, sent_err, sent_ok, sent_on}
use Rattle.lx_tool.proofs.program.run_command.Goals as goal

pub returns-clause-ended : goal.returns-clause-ended
returns-clause-ended g c =
    let gives = g.S.Sources.gives in
    let asked = asked_by (map (λ word. word.bytes.items) c.args.words.now) in
    let before = c.args.sources.now in
    let after = c.execute-ended.new.sources in
    let old = g.O.Write.contents c.args.out.now in
    let mid = g.O.Write.contents c.execute-ended.new.out in
    let new = g.O.Write.contents c.write_report_of-ended.new.out in
    let end = g.O.Write.contents c.send-answer.new.self in
    has_ended gives asked before after old end (λ cut. cut.items) c.result_after_flush-ended.result c.report_end.result
    (sent_ok old new end c.send-answer.ensures.bytes gives before after asked (IsOk c.send-answer.result) (λ cut. texts_of cut.items) c.write_report_of-ended.result c.result_after_flush-ended.result
    (said_ok old mid new (λ cut held. HasObeyed gives before after old held (texts_of cut.items) asked) c.execute-ended.result c.write_report_of-ended.result c.execute-ended.ensures.ok c.write_report_of-ended.ensures.ok) c.result_after_flush-ended.ensures.ok)
    (sent_err old new end c.send-answer.ensures.bytes gives before after asked c.write_report_of-ended.result c.result_after_flush-ended.result
    (said_err old mid new gives asked before c.execute-ended.result c.write_report_of-ended.result c.execute-ended.ensures.err c.write_report_of-ended.ensures.err) c.result_after_flush-ended.ensures.err)
    c.report_end.ensures.ok c.report_end.ensures.err

pub returns-clause-done : goal.returns-clause-done
returns-clause-done g c =
    let gives = g.S.Sources.gives in
    let asked = asked_by (map (λ word. word.bytes.items) c.args.words.now) in
    let before = c.args.sources.now in
    let after = c.execute-ended.new.sources in
    let old = g.O.Write.contents c.args.out.now in
    let mid = g.O.Write.contents c.execute-ended.new.out in
    let new = g.O.Write.contents c.write_report_of-ended.new.out in
    let end = g.O.Write.contents c.send-answer.new.self in
    has_done gives asked before after old end (λ cut. cut.items) c.result_after_flush-ended.result c.report_end.result
    (sent_ok old new end c.send-answer.ensures.bytes gives before after asked (IsOk c.send-answer.result) (λ cut. texts_of cut.items) c.write_report_of-ended.result c.result_after_flush-ended.result
    (said_ok old mid new (λ cut held. HasObeyed gives before after old held (texts_of cut.items) asked) c.execute-ended.result c.write_report_of-ended.result c.execute-ended.ensures.ok c.write_report_of-ended.ensures.ok) c.result_after_flush-ended.ensures.ok)
    c.report_end.ensures.ok c.report_end.ensures.err

pub returns-clause-told : goal.returns-clause-told
returns-clause-told g c =
    let words = map (λ word. word.bytes.items) c.args.words.now in
    let old = g.O.Write.contents c.args.out.now in
    let mid = g.O.Write.contents c.execute-ended.new.out in
    let new = g.O.Write.contents c.write_report_of-ended.new.out in
    at_status_0 (asked_by words ≡ None → AskForHelp words) c.result_after_flush-ended.result c.report_end.result
    (sent_as_well (IsOk c.send-answer.result) (asked_by words ≡ None → AskForHelp words) c.write_report_of-ended.result c.result_after_flush-ended.result
    (said_ok old mid new (λ cut held. asked_by words ≡ None → AskForHelp words) c.execute-ended.result c.write_report_of-ended.result c.execute-ended.ensures.told c.write_report_of-ended.ensures.ok) c.result_after_flush-ended.ensures.ok)
    c.report_end.ensures.err

pub returns-clause-sent : goal.returns-clause-sent
returns-clause-sent g c =
    let Sent = g.O.Output.sent c.send-answer.new.self in
    at_status_0 Sent c.result_after_flush-ended.result c.report_end.result (sent_on Sent c.write_report_of-ended.result c.result_after_flush-ended.result c.send-answer.result c.result_after_flush-ended.ensures.ok c.send-answer.ensures.sent) c.report_end.ensures.err
