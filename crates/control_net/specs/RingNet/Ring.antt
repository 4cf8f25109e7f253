-- The number of a frame as a slot and a lap, in a ring of n slots: frames stand in the slots one after another, and each time
-- that the last slot is passed the lap turns.
use Rattle.std.specs.Prelude.{◌≡◌, ◌≢◌, ◌↔◌, ℕ, zero, suc, ◌+◌, ◌<◌, ◌≤◌, ◌==◌, if◌then◌else◌, Bool, false}
use Rattle.std.proofs.Common.{not}

abbrev pub slot : ℕ → ℕ → ℕ
slot n zero = 0
slot n (suc k) = if slot n k + 1 == n then 0 else suc (slot n k)

-- whether the ring has been gone round an odd number of times
abbrev pub lap : ℕ → ℕ → Bool
lap n zero = false
lap n (suc k) = if slot n k + 1 == n then not (lap n k) else lap n k

-- at most a whole ring from one number to another
pub record IsNear (n a b : ℕ) : Type 0 where
  pub some : 0 < n
  pub after : a ≤ b
  pub most : b ≤ a + n

-- Slot and lap tell numbers apart that are near each other: they are the same exactly where the numbers are, and the slots are the
-- same and the laps differ exactly where a whole ring lies between. Frames that are less than a ring apart stand in different slots.
pub record AreDistinct : Type 0 where
  pub small : (n k : ℕ) → 0 < n → slot n k < n
  pub equal : (n a b : ℕ) → IsNear n a b → ((slot n a ≡ slot n b) × (lap n a ≡ lap n b)) ↔ (a ≡ b)
  pub full : (n a b : ℕ) → IsNear n a b → ((slot n a ≡ slot n b) × (lap n a ≢ lap n b)) ↔ (a + n ≡ b)
  pub apart : (n a b : ℕ) → a < b → b < a + n → slot n a ≢ slot n b
