use Rattle.std.proofs.Common.{◌≡◌, ◌∙◌, rules}
use Rattle.lx_rules.specs.views.NameTables.{number_at}
use Rattle.lx_spec.proofs.kind_index.KindIndex.place_of.Goals as goal

pub returns : goal.returns
returns c = (let at : c.copied.result ≡ number_at c.args.self.now.numbers c.args.text.now = search rules in at) ∙ c.args.self.now.exact c.args.text.now
