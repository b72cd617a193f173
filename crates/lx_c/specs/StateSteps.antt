-- The target of a state's code on a byte, by its loop and its tests in their order.
use Rattle.std.specs.Prelude.{◌≡◌, ℕ, ◌<◌, ◌==◌, nat_lt, if◌then◌else◌, Bool, Option, Some, None}
use Rattle.lx_automaton.specs.Automata.{Machine, state_count}
use Rattle.lx_c.specs.StateCode.{first_target, mark, marked_target, most_singles, other_target, single_count, step_of}

-- a state, if it is marked for the byte
abbrev pub by_marks : Bool → Machine → Option ℕ → ℕ → Option ℕ
by_marks nul_ends m None b = None
by_marks nul_ends m (Some t) b = if mark nul_ends m t b == 0 then None else Some t

-- a test that comes first decides
abbrev pub first_of_two : Option ℕ → Option ℕ → Option ℕ
first_of_two (Some t) second = Some t
first_of_two None second = second

-- the test before all cases, and the cases; or the bytes that are tested one by one, and then the marks
abbrev pub tested : Bool → Machine → ℕ → Option ℕ → ℕ → Option ℕ
tested nul_ends m s marked b =
    if nat_lt most_singles (single_count nul_ends m s marked) then first_of_two (by_marks nul_ends m (first_target m s) b) (other_target nul_ends m s None b)
    else first_of_two (other_target nul_ends m s marked b) (by_marks nul_ends m marked b)

-- the loop comes before the tests
abbrev pub coded_step : Bool → Machine → ℕ → ℕ → Option ℕ
coded_step nul_ends m s b = if mark nul_ends m s b == 0 then tested nul_ends m s (marked_target m s) b else Some s

-- The code of each state steps on each byte as the automaton does, but not on a byte 0 that ends the text.
abbrev pub StepsAlike : Bool → Machine → Type 0
StepsAlike nul_ends m = (s b : ℕ) → s < state_count m → b < 256 → coded_step nul_ends m s b ≡ step_of nul_ends m s b
