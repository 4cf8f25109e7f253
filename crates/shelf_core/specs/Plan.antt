-- Calls that are counted, and those that are to fail.
use Rattle.std.specs.Prelude.{ℕ, ◌+◌, ◌-◌, ◌^◌, min, List, [], ◌∷◌, ◌++◌, Option, Some, None, find, take, ◌==◌}
use Rattle.shelf_core.specs.declared.calls.Failing.{Failing}

-- how many calls were made, and the list of those that are to fail
pub record Plan : Type 0 where
  pub made : ℕ
  pub failing : List Failing

-- no call was made, and none is to fail
abbrev pub no_calls : Plan
no_calls = record { made = 0; failing = [] }

-- a count after one more, which stays at 2^64 - 1
abbrev pub raised : ℕ → ℕ
raised count = min (count + 1) (2 ^ 64 - 1)

-- after one more call
abbrev pub called : Plan → Plan
called plan = record plan { made = raised plan.made }

-- with one more call that is to fail
abbrev pub fails_at : Plan → ℕ → ℕ → Plan
fails_at plan call left = record plan { failing = plan.failing ++ record { call = call; left = left } ∷ [] }

abbrev pub left_of : Option Failing → Option ℕ
left_of None = None
left_of (Some entry) = Some entry.left

-- how many of its bytes a call leaves, where it is to fail: its first entry says it
abbrev pub left_at : List Failing → ℕ → Option ℕ
left_at failing call = left_of (find (λ entry. entry.call == call) failing)

-- the same of the next call
abbrev pub next_left : Plan → Option ℕ
next_left plan = left_at plan.failing (raised plan.made)

-- the bytes that a call leaves: all, where it is not to fail
abbrev pub left_part : Option ℕ → List ℕ → List ℕ
left_part None bytes = bytes
left_part (Some left) bytes = take left bytes
