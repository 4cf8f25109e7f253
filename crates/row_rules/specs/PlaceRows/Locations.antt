-- Data locations: where the values of a program stand at a node. Each has a number, sort after sort: 11 registers, 64 slots of the stack, the
-- packet's first 256 bytes, the target of a redirect, and the writes that are pending of 16 maps.
use Rattle.std.specs.Prelude.{ℕ, ◌+◌, ◌-◌, ◌<◌, nat_lt, if◌then◌else◌}
use Rattle.row_rules.specs.declared.place_rows.location.Location.{Location}
use Rattle.row_rules.specs.declared.place_rows.location.Location.TheVariants.{Register, StackSlot, PacketByte, Target, PendingWrites}

-- ---- numbers: the first of each sort, and how many there are
abbrev pub first_slot : ℕ
first_slot = 11

abbrev pub first_byte : ℕ
first_byte = 75

abbrev pub target_number : ℕ
target_number = 331

abbrev pub first_pending : ℕ
first_pending = 332

abbrev pub location_count : ℕ
location_count = 348

abbrev pub location_number : Location → ℕ
location_number (Register r) = r
location_number (StackSlot s) = first_slot + s
location_number (PacketByte i) = first_byte + i
location_number Target = target_number
location_number (PendingWrites q) = first_pending + q

-- ---- the location of a number
abbrev pub location_at : ℕ → Location
location_at n =
    if nat_lt n first_slot then Register n else
    if nat_lt n first_byte then StackSlot (n - first_slot) else
    if nat_lt n target_number then PacketByte (n - first_byte) else
    if nat_lt n first_pending then Target else
    PendingWrites (n - first_pending)

-- there is such a location, whatever the number of maps
abbrev pub IsLocation : Location → Type 0
IsLocation (Register r) = r < 11
IsLocation (StackSlot s) = s < 64
IsLocation (PacketByte i) = i < 256
IsLocation Target = Unit {0}
IsLocation (PendingWrites q) = Unit {0}

-- cells hold what stands there: all but what is pending
abbrev pub IsHeld : Location → Type 0
IsHeld (PendingWrites q) = ⊥
IsHeld l = IsLocation l
