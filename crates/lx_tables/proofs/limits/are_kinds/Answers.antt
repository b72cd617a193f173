use Rattle.std.proofs.Common.{◌∙◌, sym, arith}
use Rattle.std.proofs.lemmas.List.{length-map}
use Rattle.std.proofs.lemmas.List.Folds.{list_all-map}
use Rattle.std.proofs.lemmas.Result.{IfOk-weaker}
use Rattle.lx_rules.specs.Identifiers.{is_identifier}
use Rattle.lx_tables.proofs.limits.are_kinds.Goals as goal

pub returns-then-names-gt-MAX_KINDS : goal.returns-then-names-gt-MAX_KINDS
returns-then-names-gt-MAX_KINDS c = ((λ yes. cc), (λ are. let long = length-map c.args.names.now (λ name. name.items) in let few = are.few in absurd (omega arith)))

pub returns-then-not-are_identifiers : goal.returns-then-not-are_identifiers
returns-then-not-are_identifiers c =
    ((λ yes. cc), (λ are. let e = sym c.if-not-are_identifiers.true ∙ c.are_identifiers.ensures ∙ sym (list_all-map is_identifier (λ name. name.items) c.args.names.now) ∙ are.identifiers in cc))

pub returns : goal.returns
returns c = IfOk-weaker c.are_distinct.result _ _ (λ yes is. (
  (λ h. record {
    few = (let long = length-map c.args.names.now (λ name. name.items) in omega arith);
    identifiers = list_all-map is_identifier (λ name. name.items) c.args.names.now ∙ sym c.are_identifiers.ensures ∙ c.if-not-are_identifiers.false;
    distinct = sym is ∙ h;
  }),
  (λ are. is ∙ are.distinct),
)) c.are_distinct.ensures
