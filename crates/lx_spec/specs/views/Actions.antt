-- The statements of actions in the code, without their places in memory.
use Rattle.std.specs.Prelude.{List, map}
use Rattle.lx_spec.specs.Actions as actions
use Rattle.lx_spec.specs.declared.returned_value.Value.{Value}
use Rattle.lx_spec.specs.declared.returned_value.Value.TheVariants as value
use Rattle.lx_spec.specs.declared.action.Statement.{Statement}
use Rattle.lx_spec.specs.declared.action.Statement.TheVariants as statement
use Rattle.lx_spec.specs.declared.action.Action.{Action}
use Rattle.lx_spec.specs.declared.action.Action.TheVariants.{Shared, Own}

abbrev pub value_view : Value → actions.Value
value_view (value.Name i) = actions.name i.text.now
value_view (value.Number n) = actions.number n.value

abbrev pub statement_view : Statement → actions.Statement
statement_view statement.Nothing = actions.nothing
statement_view statement.Echo = actions.echo
statement_view (statement.Begin c) = actions.begin c.now
statement_view (statement.Return v) = actions.return (value_view v)

abbrev pub statements_view : List Statement → List actions.Statement
statements_view ss = map statement_view ss

abbrev pub action_view : Action → actions.Action
action_view Shared = actions.shared
action_view (Own ss) = actions.own (statements_view ss.items)
