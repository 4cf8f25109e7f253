-- What a register or a slot of the stack holds.
use Rattle.std.specs.Prelude.{ℕ, ℤ, List, Option, Some, None}

pub data Value : Type 0 where
  -- nothing yet, or nothing any more
  Unset : Value
  -- a number below 2 ^ 64
  Number : ℕ → Value
  -- a place in the frame, from its first byte
  Packet : ℤ → Value
  -- a place in the stack, from its end
  Stack : ℤ → Value
  -- the context
  Context : Value
  -- a map, by its number
  Map : ℕ → Value
  -- a place in the value that a map holds under a key, from its first byte
  Entry : ℕ → List ℕ → ℤ → Value

-- the number that a value is, if it is one
abbrev pub number_in : Value → Option ℕ
number_in (Number n) = Some n
number_in v = None

-- the map that a value is
abbrev pub map_in : Value → Option ℕ
map_in (Map q) = Some q
map_in v = None

-- a value that may be copied: there is one
abbrev pub held : Value → Option Value
held Unset = None
held v = Some v

-- what follows from a value, where there is one
infixl 10 ◌>>=◌
abbrev pub ◌>>=◌ : {A B : Type 0} → Option A → (A → Option B) → Option B
None >>= f = None
(Some x) >>= f = f x
