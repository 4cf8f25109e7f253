-- What a name holds, read piece by piece.
use Rattle.std.specs.Prelude.{◌≡◌, ◌⊎◌, ℕ, ◌+◌, ◌≤◌, List, [], ◌++◌, length, take, drop, Option, Some, None}

-- how many bytes may be read in all, how many were given so far, those that were given last, and those that
-- were read after them
pub record Feeding : Type 0 where
  pub limit : ℕ
  pub at : ℕ
  pub given : List ℕ
  pub ahead : List ℕ

-- these bytes stand in what is held, from a place on; of a name that is not there none were read
abbrev pub StandsAt : Option (List ℕ) → ℕ → List ℕ → Type 0
StandsAt None at bytes = (at ≡ 0) × (bytes ≡ [])
StandsAt (Some content) at bytes = (at + length bytes ≤ length content) × (bytes ≡ take (length bytes) (drop at content))

-- what was read ahead are the bytes of what is held
abbrev pub IsAheadOf : Option (List ℕ) → Feeding → Type 0
IsAheadOf held f = StandsAt held f.at f.ahead

-- the next n bytes of what is held, or fewer exactly where it ends
abbrev pub IsNextOf : Option (List ℕ) → ℕ → ℕ → List ℕ → Type 0
IsNextOf None at n bytes = (n ≡ 0) × (bytes ≡ [])
IsNextOf (Some content) at n bytes = bytes ≡ take n (drop at content)

-- n bytes are given, or all that came: first those that were read ahead, then those that were read now
pub record GivesNext (old new : Feeding) (n : ℕ) : Type 0 where
  pub read : List ℕ
  pub given : new.given ≡ take n (old.ahead ++ read)
  pub ahead : new.ahead ≡ drop n (old.ahead ++ read)
  pub at : new.at ≡ old.at + length new.given
  pub limit : new.limit ≡ old.limit

-- what is held was read up to a place: enough of it, or all
abbrev pub IsReadTo : Option (List ℕ) → ℕ → Type 0 → Type 0
IsReadTo None at enough = ⊥
IsReadTo (Some content) at enough = enough ⊎ (length content ≤ at)
