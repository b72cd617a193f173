-- Options of numbers, each encoded as a number: None as 0, Some n as n + 1; and the machine of lists of encoded options.
use Rattle.std.specs.Prelude.{ℕ, ◌-◌, ◌==◌, if◌then◌else◌, Option, Some, None, List, map}
use Rattle.lx_automaton.specs.Automata.{Machine}

abbrev pub decoded_option : ℕ → Option ℕ
decoded_option n = if n == 0 then None else Some (n - 1)

abbrev pub machine_of : List (ℕ × ℕ) → List ℕ → ℕ → List ℕ → List ℕ → Machine
machine_of starts classes width accepted targets =
    record { starts = starts; classes = classes; width = width; accepted = map decoded_option accepted; targets = map decoded_option targets }
