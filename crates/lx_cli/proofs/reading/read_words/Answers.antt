use Rattle.std.proofs.Common.{◌≡◌, ◌∙◌, inl, inr, sym, subst, ap, List, map, is_some}
use Rattle.std.proofs.lemmas.List.{length-map}
use Rattle.clap.specs.Words.{Text, app_of, kind_of}
use Rattle.clap.specs.declared.error.kind.ErrorKind.TheVariants as kind
use Rattle.lx_cli.proofs.Asked.{asked_where_refused, asked_where_stored, asked_where_taken, fault_is, met_asks, not_told}
use Rattle.clap.specs.declared.error.ErrorKind.{ErrorKind}
use Rattle.lx_cli.specs.CommandLine.{IsFault, IsTold}
use Rattle.clap.specs.declared.error.Error.{Error}
use Rattle.lx_cli.proofs.reading.read_words.Goals as goal

pub returns-then-words-le1-clause-asked : goal.returns-then-words-le1-clause-asked
returns-then-words-le1-clause-asked c =
    asked_where_stored _ (rw length-map c.if-words-le1.true)

pub request_of-requires : goal.request_of-requires
request_of-requires c =
    let words : List Text = map (λ word. word.bytes.items) c.args.words.now in
    met_asks (app_of c.in_ok-command.command) words c.in_ok-command.ensures (rw length-map c.if-words-le1.false) c.in-Ok.matches c.in-Ok.ensures.kinds c.in-Ok.ensures.matches

pub returns-in-Ok-clause-asked : goal.returns-in-Ok-clause-asked
returns-in-Ok-clause-asked c =
    let words : List Text = map (λ word. word.bytes.items) c.args.words.now in
    asked_where_taken (app_of c.in_ok-command.command) words c.in_ok-command.ensures (rw length-map c.if-words-le1.false) c.in-Ok.matches c.in-Ok.ensures.kinds c.in-Ok.ensures.matches
    ∙ c.in_ok-request_of-in-Ok.ensures

pub returns-in-Ok-clause-told : goal.returns-in-Ok-clause-told
returns-in-Ok-clause-told c text is =
    let words : List Text = map (λ word. word.bytes.items) c.args.words.now in
    let asks = met_asks (app_of c.in_ok-command.command) words c.in_ok-command.ensures (rw length-map c.if-words-le1.false) c.in-Ok.matches c.in-Ok.ensures.kinds c.in-Ok.ensures.matches in
    absurd (not_told c.in_ok-request_of-in-Ok.field-0 text (cc) (ap is_some (sym c.in_ok-request_of-in-Ok.ensures) ∙ asks))

not_memory : (k : ErrorKind) → IsTold k → k ≡ kind.OutOfMemory → ⊥
not_memory k (inl help) e = let bad = sym help ∙ e in cc
not_memory k (inr version) e = let bad = sym version ∙ e in cc

pub returns-in-DisplayHelp-clause-asked : goal.returns-in-DisplayHelp-clause-asked
returns-in-DisplayHelp-clause-asked c =
    let words : List Text = map (λ word. word.bytes.items) c.args.words.now in
    asked_where_refused (app_of c.in_ok-command.command) words c.in_ok-command.ensures (rw length-map c.if-words-le1.false) c.in-Err.error c.in-Err.ensures.kinds
    (λ e. not_memory c.kind.result c.in-DisplayHelp.is (c.kind.ensures ∙ e))

pub returns-in-DisplayHelp-clause-told : goal.returns-in-DisplayHelp-clause-told
returns-in-DisplayHelp-clause-told c text is =
    let words : List Text = map (λ word. word.bytes.items) c.args.words.now in
    let same : c.in-Err.error ≡ text = cc in
    let told : IsTold (kind_of c.in-Err.error) = subst IsTold c.kind.ensures c.in-DisplayHelp.is in
    let fault = fault_is (app_of c.in_ok-command.command) words c.in_ok-command.ensures (rw length-map c.if-words-le1.false) c.in-Err.error c.in-Err.ensures.kinds
    (λ e. not_memory c.kind.result c.in-DisplayHelp.is (c.kind.ensures ∙ e)) in
    subst (λ (x : Error). IsTold (kind_of x) × IsFault words (kind_of x)) same (told, fault)

pub returns-clause-refused : goal.returns-clause-refused
returns-clause-refused c text is =
    let words : List Text = map (λ word. word.bytes.items) c.args.words.now in
    asked_where_refused (app_of c.in_ok-command.command) words c.in_ok-command.ensures (rw length-map c.if-words-le1.false) c.in-Err.error c.in-Err.ensures.kinds
    (λ e. c.in_default.not-OutOfMemory (c.kind.ensures ∙ e))

pub returns-clause-words : goal.returns-clause-words
returns-clause-words c text is e =
    let same : c.in-Err.error ≡ text = cc in
    c.in_default.not-OutOfMemory (c.kind.ensures ∙ (ap kind_of same ∙ e))

pub returns-clause-faulty : goal.returns-clause-faulty
returns-clause-faulty c text is =
    let words : List Text = map (λ word. word.bytes.items) c.args.words.now in
    let same : c.in-Err.error ≡ text = cc in
    let fault = fault_is (app_of c.in_ok-command.command) words c.in_ok-command.ensures (rw length-map c.if-words-le1.false) c.in-Err.error c.in-Err.ensures.kinds
    (λ e. c.in_default.not-OutOfMemory (c.kind.ensures ∙ e)) in
    (λ e. c.in_default.not-DisplayHelp (c.kind.ensures ∙ (ap kind_of same ∙ e)), λ e. c.in_default.not-DisplayVersion (c.kind.ensures ∙ (ap kind_of same ∙ e)), subst (λ (x : Error). IsFault words (kind_of x)) same fault)
