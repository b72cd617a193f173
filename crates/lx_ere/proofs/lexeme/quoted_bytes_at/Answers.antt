use Rattle.std.proofs.Common.{◌∙◌, sym}
use Rattle.lx_ere.specs.Lexing.{quoted_byte_at}
use Rattle.lx_ere.specs.ScanLaws.{scan_start, scan_step, scan_end, scan_none}
use Rattle.lx_ere.proofs.QuoteLoop.{quoted_shorter}
use Rattle.lx_ere.proofs.lexeme.quoted_bytes_at.Goals as goal

pub loop-rest-init : goal.loop-rest-init
loop-rest-init c = rw c.new-bytes.ensures.items (scan_start quoted_byte_at 34 c.args.text.now)

pub returns-in_default : goal.returns-in_default
returns-in_default c =
    sym (scan_none quoted_byte_at 34 c.args.text.now c.loop-rest.bytes.items c.loop-rest.rest.now (sym c.begins_with.ensures ∙ c.loop-rest-test.true) (sym c.in_default.ensures) c.loop-rest.invariant)

pub loop-rest-smaller : goal.loop-rest-smaller
loop-rest-smaller c = quoted_shorter c.loop-rest.rest.now c.in-Some.byte c.in-Some.behind.now (sym c.in-Some.ensures)

pub loop-rest-preserved : goal.loop-rest-preserved
loop-rest-preserved c =
    rw c.in_ok-push.ensures.items (scan_step quoted_byte_at 34 c.args.text.now c.loop-rest.bytes.items c.loop-rest.rest.now c.in-Some.byte c.in-Some.behind.now (sym c.begins_with.ensures ∙ c.loop-rest-test.true) (sym c.in-Some.ensures)
    (quoted_shorter c.loop-rest.rest.now c.in-Some.byte c.in-Some.behind.now (sym c.in-Some.ensures)) c.loop-rest.invariant)

pub returns : goal.returns
returns c =
    rw c.skip.ensures (sym (scan_end quoted_byte_at 34 c.args.text.now c.loop-rest.bytes.items c.loop-rest.rest.now (sym c.begins_with.ensures ∙ c.loop-rest-test.false) c.loop-rest.invariant))
