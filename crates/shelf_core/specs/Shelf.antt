-- What a shelf and a sink hold, and what their failures mean.
use Rattle.std.specs.Prelude.{◌≡◌, ◌≢◌, ◌⊎◌, ℕ, ◌+◌, ◌-◌, ◌^◌, ◌<◌, ◌≤◌, min, List, [], ◌++◌, length, take, drop, Option, Some, None, unwrap_or}

-- what each name holds, where the shelf tells it; `None` for a name that is not there
abbrev pub Holding : Type 0
Holding = List ℕ → Option (List ℕ)

-- a count for each name
abbrev pub Counts : Type 0
Counts = List ℕ → ℕ

-- a count is greater than before, or stands at 2^64 - 1, above which none goes
abbrev pub Rose : ℕ → ℕ → Type 0
Rose before now = min (before + 1) (2 ^ 64 - 1) ≤ now

-- no count fell
pub record NoneFell (old new : Counts) : Type 0 where
  pub each : (name : List ℕ) → old name ≤ new name

-- no count changed
pub record SameCounts (old new : Counts) : Type 0 where
  pub each : (name : List ℕ) → new name ≡ old name

-- every name holds what it held
pub record SameHeld (old new : Holding) : Type 0 where
  pub each : (name : List ℕ) → new name ≡ old name

-- every other name holds what it held
pub record ChangesOnly (name : List ℕ) (old new : Holding) : Type 0 where
  pub others : (other : List ℕ) → other ≢ name → new other ≡ old other

-- the bytes, or none where nothing is there
abbrev pub content_of : Option (List ℕ) → List ℕ
content_of held = unwrap_or held []

-- n bytes of what is held, from a place on, stand first in the buffer; there are none only at the end
pub record ReadsFrom (content : List ℕ) (at n : ℕ) (into : List ℕ) : Type 0 where
  pub bytes : take n into ≡ take n (drop at content)
  pub within : 0 < n → at + n ≤ length content
  pub end : n ≡ 0 → 0 < length into → length content ≤ at

-- the same of a name: nothing is read from one that is not there
abbrev pub Reads : Option (List ℕ) → ℕ → ℕ → List ℕ → Type 0
Reads None at n into = ⊥
Reads (Some content) at n into = ReadsFrom content at n into

-- what is there after these bytes were added at the end
abbrev pub appended : Option (List ℕ) → List ℕ → List ℕ
appended held bytes = content_of held ++ bytes

-- what is there is a front of these bytes
pub record HoldsFront (whole : List ℕ) (held : Option (List ℕ)) : Type 0 where
  pub many : ℕ
  pub front : held ≡ Some (take many whole)

-- after a failed append a name holds a front of what success would have left; one that was not
-- there may still not be
abbrev pub LeavesFront : Option (List ℕ) → List ℕ → Option (List ℕ) → Type 0
LeavesFront None bytes new = (new ≡ None) ⊎ HoldsFront bytes new
LeavesFront (Some content) bytes new = HoldsFront (content ++ bytes) new

-- more than so many bytes are there
abbrev pub IsLonger : ℕ → Option (List ℕ) → Type 0
IsLonger limit None = ⊥
IsLonger limit (Some content) = limit < length content
