-- The first that is there of several.
use Rattle.std.specs.Prelude.{ℕ, zero, suc, Option, None}
use Rattle.std.specs.Option.{option_or}

-- the first that is there of f i, f (i + 1), .., of n of them
abbrev pub first_from : {X : Type 0} → (ℕ → Option X) → ℕ → ℕ → Option X
first_from f i zero = None
first_from f i (suc n) = option_or (f i) (first_from f (suc i) n)
