use Rattle.std.proofs.Common.{ℕ, List, Bor, map}
use Rattle.std.proofs.lemmas.Result.{IfOk-weaker, IfErr-weaker}
use Rattle.lx_tool.specs.Given.{ArePartlyListed}
use Rattle.lx_tool.specs.Planning.{ListsBy, ListsPrefixBy, ListsByRules, ListsPrefixByRules}
use Rattle.lx_tool.specs.Tabling.{HasNoTables}
use Rattle.lx_tool.proofs.GivenListed.{listed_as_well, partly_as_well, fails_as_well}
use Rattle.lx_tool.proofs.Planned.{GiveItems, by_rules, prefix_by_rules}
use Rattle.lx_tool.proofs.given.list_by_specification.Goals as goal

pub returns-clause-ok : goal.returns-clause-ok
returns-clause-ok g c =
    let old = g.W.Write.contents c.args.out.now in
    let new = g.W.Write.contents c.list_given.new.out in
    let table = c.in_ok-tables.tables in
    let names : List (List ℕ) = map (λ (name : Bor (List ℕ)). name.now) c.args.names.now in
    let law : GiveItems = record { by_rules = c.items_are_by_rules.ensures } in
    IfOk-weaker c.list_given.result _ _
    (λ cut. listed_as_well g.S.Sources.gives (λ inputs. ListsBy table inputs old new) (λ inputs. ListsByRules c.args.text.now inputs old new)
    (λ inputs. by_rules c.args.text.now table inputs old new law c.in_ok-tables.ensures.table c.in_ok-tables.ensures.ok)
    names c.args.sources.now c.list_given.new.sources (map (λ (name : Bor (List ℕ)). name.now) cut.items))
    c.list_given.ensures.ok

pub returns-clause-err : goal.returns-clause-err
returns-clause-err g c =
    let old = g.W.Write.contents c.args.out.now in
    let new = g.W.Write.contents c.list_given.new.out in
    let table = c.in_ok-tables.tables in
    let before = c.args.sources.now in
    let after = c.list_given.new.sources in
    let names : List (List ℕ) = map (λ (name : Bor (List ℕ)). name.now) c.args.names.now in
    let law : GiveItems = record { by_rules = c.items_are_by_rules.ensures } in
    let Part = ArePartlyListed g.S.Sources.gives (λ inputs. ListsPrefixBy table inputs old new) names before after in
    let PartByRules = ArePartlyListed g.S.Sources.gives (λ inputs. ListsPrefixByRules c.args.text.now inputs old new) names before after in
    let part : Part → PartByRules = partly_as_well g.S.Sources.gives (λ inputs. ListsPrefixBy table inputs old new) (λ inputs. ListsPrefixByRules c.args.text.now inputs old new)
    (λ inputs. prefix_by_rules c.args.text.now table inputs old new law c.in_ok-tables.ensures.table c.in_ok-tables.ensures.ok) names before after in
    IfErr-weaker c.list_given.result _ _
    (fails_as_well (λ _. ⊥) (HasNoTables c.args.text.now) Part PartByRules names before after old new (λ failure h. absurd h) part)
    c.list_given.ensures.err
