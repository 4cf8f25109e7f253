-- Locations and their numbers are each other's inverse.
use Rattle.std.proofs.Common.{◌≡◌, ◌∙◌, ℕ, ◌+◌, ◌-◌, ◌<◌, ◌≤◌, ◌⊎◌, inl, inr, refl, sym, ap, arith}
use Rattle.std.proofs.lemmas.Bool.{cases_lt, lt-ltb, le-ltb}
use Rattle.row_rules.specs.declared.place_rows.location.Location.{Location}
use Rattle.row_rules.specs.declared.place_rows.location.Location.TheVariants.{Register, StackSlot, PacketByte, Target, PendingWrites}
use Rattle.row_rules.specs.PlaceRows.Locations.{first_slot, first_byte, target_number, first_pending, location_number, location_at, IsLocation, IsHeld}

-- the location of the number of one is that one
pub at_number : (l : Location) → IsLocation l → location_at (location_number l) ≡ l
at_number (Register r) there = rw (lt-ltb r first_slot there) refl
at_number (StackSlot s) there =
    let same : first_slot + s - first_slot ≡ s = omega arith in
    rw (le-ltb (first_slot + s) first_slot (omega arith), lt-ltb (first_slot + s) first_byte (omega (arith, there)), same) refl
at_number (PacketByte i) there =
    let same : first_byte + i - first_byte ≡ i = omega arith in
    rw (le-ltb (first_byte + i) first_slot (omega arith), le-ltb (first_byte + i) first_byte (omega arith), lt-ltb (first_byte + i) target_number (omega (arith, there)), same) refl
at_number Target there = refl
at_number (PendingWrites q) there =
    let same : first_pending + q - first_pending ≡ q = omega arith in
    rw (le-ltb (first_pending + q) first_slot (omega arith), le-ltb (first_pending + q) first_byte (omega arith), le-ltb (first_pending + q) target_number (omega arith), le-ltb (first_pending + q) first_pending (omega arith), same) refl

-- a number is that of its location
number_back : (n : ℕ) → location_number (location_at n) ≡ n
number_back n = by (cases_lt n first_slot) (cases_lt n first_byte) (cases_lt n target_number) (cases_lt n first_pending)
  where
    by : (n < first_slot) ⊎ (first_slot ≤ n) → (n < first_byte) ⊎ (first_byte ≤ n) → (n < target_number) ⊎ (target_number ≤ n) → (n < first_pending) ⊎ (first_pending ≤ n) → location_number (location_at n) ≡ n
    by (inl a) b c d = rw (lt-ltb n first_slot a) refl
    by (inr a) (inl b) c d = rw (le-ltb n first_slot a, lt-ltb n first_byte b) (omega (arith, a))
    by (inr a) (inr b) (inl c) d = rw (le-ltb n first_slot a, le-ltb n first_byte b, lt-ltb n target_number c) (omega (arith, b))
    by (inr a) (inr b) (inr c) (inl d) = rw (le-ltb n first_slot a, le-ltb n first_byte b, le-ltb n target_number c, lt-ltb n first_pending d) (omega (arith, c, d))
    by (inr a) (inr b) (inr c) (inr d) = rw (le-ltb n first_slot a, le-ltb n first_byte b, le-ltb n target_number c, le-ltb n first_pending d) (omega (arith, d))

pub numbered_as : (n : ℕ) (l : Location) → location_at n ≡ l → n ≡ location_number l
numbered_as n l e = sym (number_back n) ∙ ap location_number e

-- where a number leads there is a location
pub location_there : (n : ℕ) → IsLocation (location_at n)
location_there n = by (cases_lt n first_slot) (cases_lt n first_byte) (cases_lt n target_number) (cases_lt n first_pending)
  where
    by : (n < first_slot) ⊎ (first_slot ≤ n) → (n < first_byte) ⊎ (first_byte ≤ n) → (n < target_number) ⊎ (target_number ≤ n) → (n < first_pending) ⊎ (first_pending ≤ n) → IsLocation (location_at n)
    by (inl a) b c d = rw (lt-ltb n first_slot a) a
    by (inr a) (inl b) c d = rw (le-ltb n first_slot a, lt-ltb n first_byte b) (omega (arith, a, b))
    by (inr a) (inr b) (inl c) d = rw (le-ltb n first_slot a, le-ltb n first_byte b, lt-ltb n target_number c) (omega (arith, b, c))
    by (inr a) (inr b) (inr c) (inl d) = rw (le-ltb n first_slot a, le-ltb n first_byte b, le-ltb n target_number c, lt-ltb n first_pending d) tt
    by (inr a) (inr b) (inr c) (inr d) = rw (le-ltb n first_slot a, le-ltb n first_byte b, le-ltb n target_number c, le-ltb n first_pending d) tt

-- below the first that is pending it is one that is held, and from there on none
pub held_there : (n : ℕ) → n < first_pending → IsHeld (location_at n)
held_there n low = by (location_at n) refl (location_there n)
  where
    by : (l : Location) → location_at n ≡ l → IsLocation l → IsHeld l
    by (Register r) e there = there
    by (StackSlot s) e there = there
    by (PacketByte i) e there = there
    by Target e there = tt
    by (PendingWrites q) e there = let far : n ≡ first_pending + q = numbered_as n (PendingWrites q) e in absurd (omega (arith, far, low))

pub pending_there : (n : ℕ) → first_pending ≤ n → location_at n ≡ PendingWrites (n - first_pending)
pending_there n far = rw (le-ltb n first_slot (omega (arith, far)), le-ltb n first_byte (omega (arith, far)), le-ltb n target_number (omega (arith, far)), le-ltb n first_pending far) refl
