-- The graph: a node for each start condition, a node for each state, and an edge from a state to each state to which it steps.
use Rattle.std.specs.Prelude.{ℕ, ◌==◌, Bool, true, false, if◌then◌else◌, List, [], ◌++◌, Option, Some, None, codes, decimal, length}
use Rattle.std.specs.List.{flat_map, list_any, range_with_len}
use Rattle.lx_automaton.specs.Automata.{Machine, accepted_by, class_target, start_of, state_count}
use Rattle.lx_tables.specs.Model.{Table, TableRule, rule_at}
use Rattle.lx_graph.specs.Labels.{action_label, condition_label, is_target, ranges}

-- true if the state steps to t on a class before this one
unfoldable pub is_led_before : Machine → ℕ → ℕ → ℕ → Bool
is_led_before m s t class = list_any (λ c. is_target t (class_target m s c)) (range_with_len 0 class)

abbrev pub ends_text : ℕ → ℕ → List ℕ
ends_text s t = codes "    " ++ (decimal s ++ (codes " -> " ++ decimal t))

-- an edge, with the ranges of its bytes
abbrev pub edge_line : Machine → ℕ → ℕ → List ℕ
edge_line m s t = ends_text s t ++ (codes " [label=\"" ++ (ranges m s t ++ codes "\"];\n"))

-- the edge to this target, if no class before has it
abbrev pub edge_to : Machine → ℕ → ℕ → Option ℕ → List ℕ
edge_to m s class None = []
edge_to m s class (Some t) = if is_led_before m s t class then [] else edge_line m s t

abbrev pub edge_text : Machine → ℕ → ℕ → List ℕ
edge_text m s class = edge_to m s class (class_target m s class)

unfoldable pub edges_text : Machine → ℕ → List ℕ
edges_text m s = flat_map (edge_text m s) (range_with_len 0 m.width)

-- a state as a node
abbrev pub state_name : ℕ → List ℕ
state_name s = codes "    " ++ decimal s

-- it has a second circle, and a label that begins with its number
abbrev pub accepting_name : ℕ → List ℕ
accepting_name s = state_name s ++ (codes " [shape=doublecircle, label=\"" ++ decimal s)

-- a state that accepts a rule, with the rule's action
abbrev pub accepting_line : Table → List (List ℕ) → ℕ → TableRule → List ℕ
accepting_line table names s rule = accepting_name s ++ (action_label table names rule ++ codes "\"];\n")

abbrev pub node_by : Table → List (List ℕ) → ℕ → Option ℕ → List ℕ
node_by table names s None = state_name s ++ codes ";\n"
node_by table names s (Some rule) = accepting_line table names s (rule_at table rule)

abbrev pub node_line : Table → List (List ℕ) → ℕ → List ℕ
node_line table names s = node_by table names s (accepted_by table.machine s)

-- a state and its edges
abbrev pub state_text : Table → List (List ℕ) → ℕ → List ℕ
state_text table names s = node_line table names s ++ edges_text table.machine s

-- the node of a condition
abbrev pub begin_text : ℕ → List ℕ
begin_text c = codes "    begin" ++ decimal c

abbrev pub begin_edge : ℕ → ℕ → List ℕ
begin_edge c s = begin_text c ++ (codes " -> " ++ decimal s)

-- the edge to the state in which a condition begins
abbrev pub start_edge : ℕ → ℕ → List ℕ
start_edge c s = begin_edge c s ++ codes ";\n"

-- the edge for a condition at the start of a line, if it begins in another state there
abbrev pub line_edge : ℕ → ℕ → ℕ → List ℕ
line_edge c elsewhere s =
    if s == elsewhere then []
    else begin_edge c s ++ codes " [label=\"^\"];\n"

abbrev pub condition_line : List (List ℕ) → ℕ → List ℕ
condition_line names c = begin_text c ++ (codes " [shape=plaintext, label=\"" ++ (condition_label names c ++ codes "\"];\n"))

-- a condition with its edges
abbrev pub condition_text : List (List ℕ) → Machine → ℕ → List ℕ
condition_text names m c =
    condition_line names c ++ (start_edge c (start_of m c false) ++ line_edge c (start_of m c false) (start_of m c true))

abbrev pub head_text : List ℕ
head_text = codes "digraph lx {\n    rankdir=LR;\n    node [shape=circle];\n"

-- The graph of tables, with these names of their conditions.
abbrev pub graph_text : Table → List (List ℕ) → List ℕ
graph_text table names =
    head_text
    ++ (flat_map (condition_text names table.machine) (range_with_len 0 (length table.machine.starts))
    ++ (flat_map (state_text table names) (range_with_len 0 (state_count table.machine)) ++ codes "}\n"))
