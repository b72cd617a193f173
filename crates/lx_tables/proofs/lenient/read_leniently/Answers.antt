use Rattle.std.proofs.Common.{◌≡◌, ◌∙◌, arith}
use Rattle.std.proofs.lemmas.Result.{IfOk-weaker}
use Rattle.lx_tables.specs.Readers.{read_1, read_2, read_text}
use Rattle.lx_tables.specs.Views.{raw_view}
use Rattle.lx_tables.proofs.Onto.{text_first, text_second}
use Rattle.lx_tables.proofs.lenient.read_leniently.Goals as goal

pub returns-then-byte_at-eq50 : goal.returns-then-byte_at-eq50
returns-then-byte_at-eq50 c =
    IfOk-weaker c.second_version.result (λ raw. raw_view raw ≡ read_2 c.args.text.now) (λ raw. raw_view raw ≡ read_text c.args.text.now)
    (λ raw h. h ∙ text_second c.args.text.now (omega arith)) c.second_version.ensures

pub returns-else-byte_at-eq50 : goal.returns-else-byte_at-eq50
returns-else-byte_at-eq50 c =
    IfOk-weaker c.first_version.result (λ raw. raw_view raw ≡ read_1 c.args.text.now) (λ raw. raw_view raw ≡ read_text c.args.text.now)
    (λ raw h. h ∙ text_first c.args.text.now (λ e. absurd (omega arith))) c.first_version.ensures
