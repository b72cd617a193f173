use Rattle.std.proofs.Common.{◌∙◌, ◌++◌, ◌∷◌, [], List, ℕ, ap, inr}
use Rattle.lx_ere.specs.Regex.{reading_of}
use Rattle.lx_spec.specs.views.Sections.{raw_rule_view}
use Rattle.lx_spec.specs.Dictionary.{row_of, unreadable_marks, incomplete_marks}
use Rattle.lx_spec.specs.Graph.{Leads, Follow, IsMention}
use Rattle.lx_spec.specs.Verdict.{case_of, reading, undefined as undefined_name, depth, LeadsDeep, LeadsUndefined}
use Rattle.lx_spec.specs.views.SymbolTables.{symbols_view}
use Rattle.lx_spec.proofs.Checking.{fault-here, fault-behind}
use Rattle.lx_spec.proofs.MarkedRules.{marked-iff, symbols-unreadable, symbols-undefined, symbols-too_deep, mentions_in_symbols, row-marks, no-other, no-unreadable, undefined-some, undefined-none, not-true}
use Rattle.lx_spec.proofs.check.check_pattern.Goals as goal

pub any_marked-unreadable-requires : goal.any_marked-unreadable-requires
any_marked-unreadable-requires c =
    let b = c.args.symbols.now in
    let table = symbols_view b in
    let r = reading_of c.args.pattern.now in
    let row = c.in_ok-complete.ensures.row ∙ ap (λ (l : List ℕ). l ++ row_of table.definitions r.tree) c.new-row.ensures.items in
    row-marks b c.requires.symbols r.tree c.deref.result.now c.deref-2.result.now b.faults.now.unreadable.items (c.deref.ensures.value ∙ row) c.deref-2.ensures.value c.requires.symbols.faults.unreadable_len

pub any_marked-undefined-requires : goal.any_marked-undefined-requires
any_marked-undefined-requires c =
    let b = c.args.symbols.now in
    let table = symbols_view b in
    let r = reading_of c.args.pattern.now in
    let row = c.in_ok-complete.ensures.row ∙ ap (λ (l : List ℕ). l ++ row_of table.definitions r.tree) c.new-row.ensures.items in
    row-marks b c.requires.symbols r.tree c.deref-3.result.now c.deref-4.result.now b.faults.now.undefined.items (c.deref-3.ensures.value ∙ row) c.deref-4.ensures.value c.requires.symbols.faults.undefined_len

pub any_marked-too_deep-requires : goal.any_marked-too_deep-requires
any_marked-too_deep-requires c =
    let b = c.args.symbols.now in
    let table = symbols_view b in
    let r = reading_of c.args.pattern.now in
    let row = c.in_ok-complete.ensures.row ∙ ap (λ (l : List ℕ). l ++ row_of table.definitions r.tree) c.new-row.ensures.items in
    row-marks b c.requires.symbols r.tree c.deref-5.result.now c.deref-6.result.now b.faults.now.too_deep.items (c.deref-5.ensures.value ∙ row) c.deref-6.ensures.value c.requires.symbols.faults.too_deep_len

pub returns-then-unreadable : goal.returns-then-unreadable
returns-then-unreadable c =
    let b = c.args.symbols.now in
    let table = symbols_view b in
    let raw = raw_rule_view c.args.rule.now in
    let case = case_of raw c.args.is_last in
    let r = reading_of c.args.pattern.now in
    let row = c.in_ok-complete.ensures.row ∙ ap (λ (l : List ℕ). l ++ row_of table.definitions r.tree) c.new-row.ensures.items in
    let unreadable = marked-iff c.any_marked-unreadable.result c.deref.result.now (row_of table.definitions r.tree) c.deref-2.result.now b.faults.now.unreadable.items (λ j. Leads (mentions_in_symbols b) (unreadable_marks table.trees) j) (c.deref.ensures.value ∙ row) c.deref-2.ensures.value c.any_marked-unreadable.ensures (symbols-unreadable b c.requires.symbols) in
    λ _. fault-here table raw c.args.is_last reading (case undefined_name ∷ case depth ∷ []) (inr (r, c.requires.reading, unreadable.0 c.if-unreadable.true))

pub returns-then-complete-undefined : goal.returns-then-complete-undefined
returns-then-complete-undefined c =
    let b = c.args.symbols.now in
    let table = symbols_view b in
    let raw = raw_rule_view c.args.rule.now in
    let case = case_of raw c.args.is_last in
    let r = reading_of c.args.pattern.now in
    let row = c.in_ok-complete.ensures.row ∙ ap (λ (l : List ℕ). l ++ row_of table.definitions r.tree) c.new-row.ensures.items in
    let unreadable = marked-iff c.any_marked-unreadable.result c.deref.result.now (row_of table.definitions r.tree) c.deref-2.result.now b.faults.now.unreadable.items (λ j. Leads (mentions_in_symbols b) (unreadable_marks table.trees) j) (c.deref.ensures.value ∙ row) c.deref-2.ensures.value c.any_marked-unreadable.ensures (symbols-unreadable b c.requires.symbols) in
    let undefined = marked-iff c.any_marked-undefined.result c.deref-3.result.now (row_of table.definitions r.tree) c.deref-4.result.now b.faults.now.undefined.items (λ j. Leads (mentions_in_symbols b) (incomplete_marks table.definitions table.trees) j) (c.deref-3.ensures.value ∙ row) c.deref-4.ensures.value c.any_marked-undefined.ensures (symbols-undefined b c.requires.symbols) in
    λ _. fault-behind table (case reading ∷ []) (case undefined_name ∷ case depth ∷ []) _ ((no-unreadable c.one_reading.ensures c.args.rule.now.pattern.now r c.requires.reading table (λ l. not-true c.if-unreadable.false (unreadable.1 l))), tt)
    (fault-here table raw c.args.is_last undefined_name (case depth ∷ []) (r, c.requires.reading, undefined-some table r.tree c.in_ok-complete.complete c.any_marked-undefined.result c.in_ok-complete.ensures.all undefined c.if-complete-undefined.true))

pub returns-then-too_deep : goal.returns-then-too_deep
returns-then-too_deep c =
    let b = c.args.symbols.now in
    let table = symbols_view b in
    let raw = raw_rule_view c.args.rule.now in
    let case = case_of raw c.args.is_last in
    let r = reading_of c.args.pattern.now in
    let row = c.in_ok-complete.ensures.row ∙ ap (λ (l : List ℕ). l ++ row_of table.definitions r.tree) c.new-row.ensures.items in
    let unreadable = marked-iff c.any_marked-unreadable.result c.deref.result.now (row_of table.definitions r.tree) c.deref-2.result.now b.faults.now.unreadable.items (λ j. Leads (mentions_in_symbols b) (unreadable_marks table.trees) j) (c.deref.ensures.value ∙ row) c.deref-2.ensures.value c.any_marked-unreadable.ensures (symbols-unreadable b c.requires.symbols) in
    let undefined = marked-iff c.any_marked-undefined.result c.deref-3.result.now (row_of table.definitions r.tree) c.deref-4.result.now b.faults.now.undefined.items (λ j. Leads (mentions_in_symbols b) (incomplete_marks table.definitions table.trees) j) (c.deref-3.ensures.value ∙ row) c.deref-4.ensures.value c.any_marked-undefined.ensures (symbols-undefined b c.requires.symbols) in
    let too_deep = marked-iff c.any_marked-too_deep.result c.deref-5.result.now (row_of table.definitions r.tree) c.deref-6.result.now b.faults.now.too_deep.items (λ j. Follow (IsMention (mentions_in_symbols b)) 32 j) (c.deref-5.ensures.value ∙ row) c.deref-6.ensures.value c.any_marked-too_deep.ensures (symbols-too_deep b c.requires.symbols) in
    λ _. fault-behind table (case reading ∷ case undefined_name ∷ []) (case depth ∷ []) _ ((no-unreadable c.one_reading.ensures c.args.rule.now.pattern.now r c.requires.reading table (λ l. not-true c.if-unreadable.false (unreadable.1 l))), ((no-other c.one_reading.ensures c.args.rule.now.pattern.now r c.requires.reading (LeadsUndefined table) (undefined-none table r.tree c.in_ok-complete.complete c.any_marked-undefined.result c.in_ok-complete.ensures.all undefined c.if-complete-undefined.false)), tt))
    (fault-here table raw c.args.is_last depth [] (r, c.requires.reading, too_deep.0 c.if-too_deep.true))

pub returns : goal.returns
returns c =
    let b = c.args.symbols.now in
    let table = symbols_view b in
    let r = reading_of c.args.pattern.now in
    let row = c.in_ok-complete.ensures.row ∙ ap (λ (l : List ℕ). l ++ row_of table.definitions r.tree) c.new-row.ensures.items in
    let unreadable = marked-iff c.any_marked-unreadable.result c.deref.result.now (row_of table.definitions r.tree) c.deref-2.result.now b.faults.now.unreadable.items (λ j. Leads (mentions_in_symbols b) (unreadable_marks table.trees) j) (c.deref.ensures.value ∙ row) c.deref-2.ensures.value c.any_marked-unreadable.ensures (symbols-unreadable b c.requires.symbols) in
    let undefined = marked-iff c.any_marked-undefined.result c.deref-3.result.now (row_of table.definitions r.tree) c.deref-4.result.now b.faults.now.undefined.items (λ j. Leads (mentions_in_symbols b) (incomplete_marks table.definitions table.trees) j) (c.deref-3.ensures.value ∙ row) c.deref-4.ensures.value c.any_marked-undefined.ensures (symbols-undefined b c.requires.symbols) in
    let too_deep = marked-iff c.any_marked-too_deep.result c.deref-5.result.now (row_of table.definitions r.tree) c.deref-6.result.now b.faults.now.too_deep.items (λ j. Follow (IsMention (mentions_in_symbols b)) 32 j) (c.deref-5.ensures.value ∙ row) c.deref-6.ensures.value c.any_marked-too_deep.ensures (symbols-too_deep b c.requires.symbols) in
    ((no-unreadable c.one_reading.ensures c.args.rule.now.pattern.now r c.requires.reading table (λ l. not-true c.if-unreadable.false (unreadable.1 l))), ((no-other c.one_reading.ensures c.args.rule.now.pattern.now r c.requires.reading (LeadsUndefined table) (undefined-none table r.tree c.in_ok-complete.complete c.any_marked-undefined.result c.in_ok-complete.ensures.all undefined c.if-complete-undefined.false)), ((no-other c.one_reading.ensures c.args.rule.now.pattern.now r c.requires.reading (LeadsDeep table) (λ l. not-true c.if-too_deep.false (too_deep.1 l))), tt)))
