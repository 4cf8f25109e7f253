-- What a command writes, in its order: what the names are to hold, and what they hold where a write fails.
use Rattle.std.specs.Prelude.{◌≡◌, ◌⊎◌, ℕ, IsTrue, List, [], ◌∷◌, Option, Some}
use Rattle.shelf_core.specs.Shelf.{Holding, Rose, appended, HoldsFront, LeavesFront}
use Rattle.capture_run.specs.States.{ShelfState, Changes}

-- ---- files
-- a name, and the bytes that it is to hold
pub record File : Type 0 where
  pub name : List ℕ
  pub bytes : List ℕ

abbrev pub file : List ℕ → List ℕ → File
file name bytes = record { name = name; bytes = bytes }

abbrev pub names_in : List File → List (List ℕ)
names_in [] = []
names_in (f ∷ rest) = f.name ∷ names_in rest

-- each holds its bytes
abbrev pub HoldWhole : List File → Holding → Type 0
HoldWhole [] held = Unit {0}
HoldWhole (f ∷ rest) held = (held f.name ≡ Some f.bytes) × HoldWhole rest held

-- what it held, or a prefix of what it was to hold, which may be nothing
abbrev pub KeepsOrHoldsPrefix : List ℕ → Option (List ℕ) → Option (List ℕ) → Type 0
KeepsOrHoldsPrefix whole old new = (new ≡ old) ⊎ HoldsFront whole new

-- each holds what it held, or a prefix of its bytes
abbrev pub HoldPrefixes : List File → Holding → Holding → Type 0
HoldPrefixes [] old new = Unit {0}
HoldPrefixes (f ∷ rest) old new = KeepsOrHoldsPrefix f.bytes (old f.name) (new f.name) × HoldPrefixes rest old new

-- ---- writes
-- a name is made to hold nothing, or bytes are added at the end of what it holds
pub data Write : Type 0 where
  Begin : List ℕ → Write
  Append : List ℕ → List ℕ → Write

abbrev pub name_of : Write → List ℕ
name_of (Begin name) = name
name_of (Append name bytes) = name

-- what the name holds after a write, and what it may hold after one that failed
abbrev pub left_by : Write → Option (List ℕ) → List ℕ
left_by (Begin name) held = []
left_by (Append name bytes) held = appended held bytes

abbrev pub LeavesPart : Write → Option (List ℕ) → Option (List ℕ) → Type 0
LeavesPart (Begin name) old new = (new ≡ old) ⊎ (new ≡ Some [])
LeavesPart (Append name bytes) old new = LeavesFront old bytes new

-- a write was done, and changed its name alone
pub record IsDone (w : Write) (old new : ShelfState) : Type 0 where
  pub left : IsTrue old.tells → new.held (name_of w) ≡ Some (left_by w (old.held (name_of w)))
  pub kept : Changes (name_of w ∷ []) old new

-- a write failed: its name's count has risen, and no other name has changed
pub record IsFailed (w : Write) (old new : ShelfState) : Type 0 where
  pub rose : Rose (old.write_faults (name_of w)) (new.write_faults (name_of w))
  pub left : IsTrue old.tells → LeavesPart w (old.held (name_of w)) (new.held (name_of w))
  pub kept : Changes (name_of w ∷ []) old new

-- the writes were done, in their order
abbrev pub AreDone : List Write → ShelfState → ShelfState → Type 0
AreDone [] old new = Changes [] old new
AreDone (w ∷ rest) old new = (mid : ShelfState) × IsDone w old mid × AreDone rest mid new

-- One of the writes failed: those before it were done, in their order, and none after it was begun.
abbrev pub OneFailed : List Write → ShelfState → ShelfState → Type 0
OneFailed [] old new = ⊥
OneFailed (w ∷ rest) old new = IsFailed w old new ⊎ ((mid : ShelfState) × IsDone w old mid × OneFailed rest mid new)

-- a name's file, written at once
abbrev pub file_writes : List ℕ → List ℕ → List Write
file_writes name bytes = Begin name ∷ Append name bytes ∷ []

-- ---- outputs
-- what the outputs of a command are to hold, and the writes that make them, in their order
pub record Outputs : Type 0 where
  pub files : List File
  pub writes : List Write
