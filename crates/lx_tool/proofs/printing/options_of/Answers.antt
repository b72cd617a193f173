use Rattle.std.proofs.Common.{◌≡◌, ◌∙◌, Bool, List, [], ℕ, Option, ap, false, inr, option_map, refl}
use Rattle.lx_c.specs.Options.{Options, option_fault}
use Rattle.lx_rules.specs.views.Rules.{names_view}
use Rattle.lx_cli.specs.CommandLine.{plain_c}
use Rattle.lx_tool.specs.Printing.{options_by}
use Rattle.lx_tool.specs.declared.failure.RequestFault.TheVariants.{Scanner}
use Rattle.lx_tool.proofs.printing.options_of.Goals as goal

abbrev of_parts : List ℕ → List (List ℕ) → Option (List ℕ) → Options
of_parts prefix conditions include = record { prefix = prefix; conditions = conditions; include = include; direct = false }

same_parts : (p q : List ℕ) (n : List (List ℕ)) (i j : Option (List ℕ)) → p ≡ q → n ≡ [] → i ≡ j → of_parts p n i ≡ of_parts q [] j
same_parts p q n i j first second third = cc

pub returns-in-Err-clause-err : goal.returns-in-Err-clause-err
returns-in-Err-clause-err c =
    let o = plain_c c.args.words.now in
    let prefix = c.in_ok-prefix.ensures.items ∙ c.as_bytes.ensures.value ∙ c.prefix_of.ensures in
    let same = same_parts c.in_ok-prefix.prefix.items (options_by o).prefix (names_view c.new.result.items) (option_map (λ b. b.items) c.in_ok-include.include) (options_by o).include
    prefix (ap names_view c.new.ensures.items) c.in_ok-include.ensures in
    inr (Scanner c.in-Err.fault, refl, inr (inr (c.in-Err.fault, refl, c.in-Err.ensures.err ∙ ap option_fault same)))
