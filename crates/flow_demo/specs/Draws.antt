-- The generator of numbers: a linear congruential generator of 64 bits, with Knuth's multiplier for MMIX. A draw
-- changes the state, and gives the high 31 bits of the new one.
use Rattle.std.specs.Prelude.{ℕ, zero, suc, ◌+◌, ◌*◌, ◌/◌, ◌%◌, ◌^◌, List, map}
use Rattle.std.specs.List.{range_with_len}

unfoldable pub next_state : ℕ → ℕ
next_state s = (s * 6364136223846793005 + 1442695040888963407) % 2 ^ 64

-- the draw that left this state
abbrev pub drawn : ℕ → ℕ
drawn s = s / 2 ^ 33

-- the state after so many draws
abbrev pub state_after : ℕ → ℕ → ℕ
state_after s zero = s
state_after s (suc n) = next_state (state_after s n)

-- draw k from a state on, from 0
abbrev pub draw : ℕ → ℕ → ℕ
draw s k = drawn (state_after s (suc k))

-- the first n draws from a state on
abbrev pub first_draws : ℕ → ℕ → List ℕ
first_draws s n = map (draw s) (range_with_len 0 n)
