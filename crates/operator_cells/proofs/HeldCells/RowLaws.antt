-- The rows of what is held, place by place.
use Rattle.std.proofs.Common.{◌≡◌, ◌≢◌, ◌∙◌, ℕ, ◌+◌, ◌-◌, ◌<◌, ◌≤◌, List, [], ◌∷◌, length, get_or, slice_index, slice_set, refl, ap, arith}
use Rattle.std.proofs.lemmas.List.{get_or-set_same, get_or-set_other}
use Rattle.kind_core.specs.declared.kind.Kind.{Kind}
use Rattle.kind_core.specs.declared.kind.Kind.TheVariants.{Unset, Num}
use Rattle.kind_core.specs.declared.kind.Kinds.{Kinds}
use Rattle.kind_core.specs.Kinds.{register, with_register, with_slot}
use Rattle.cell_core.specs.Cells.{CellView}
use Rattle.operator_cells.specs.Rising.{GrowsTo, Rises, RiseAll}
use Rattle.operator_cells.proofs.RisingLaws.{Stand, stand_all}
use Rattle.operator_cells.specs.declared.held_cells.machine_cells.RegisterCells.{RegisterCells}
use Rattle.operator_cells.specs.HeldCells.RegisterCells.{PointerView}
use Rattle.operator_cells.specs.HeldCells.Rows.{kind_by, number_by, located_row, kind_at, number_at, value_row, held_row}
use Rattle.kind_core.specs.NumberBounds.{any_number}
use Rattle.row_rules.specs.declared.place_rows.location.Location.{Location}
use Rattle.row_rules.specs.declared.place_rows.location.Location.TheVariants.{Register, StackSlot, PacketByte, Target, PendingWrites}
use Rattle.row_rules.specs.PlaceRows.Locations.{first_slot, first_byte, target_number, first_pending, location_number, location_at, IsLocation, IsHeld}
use Rattle.row_rules.proofs.PlaceRows.LocationLaws.{at_number, numbered_as, held_there, pending_there}

-- ---- new cells
pub grows_by : {old new : List CellView} {f g : (ℕ → ℕ) → ℕ} → GrowsTo old new f → ((row : ℕ → ℕ) → f row ≤ g row) → GrowsTo old new g
grows_by grows h = record { rows = grows.rows; each = λ row rows k low high. omega (arith, grows.each row rows k low high, h row) }

pub rise_by : {old new : List CellView} {cs : List ℕ} {f g : (ℕ → ℕ) → ℕ} → RiseAll old new cs f → ((row : ℕ → ℕ) → f row ≤ g row) → RiseAll old new cs g
rise_by r h = record { grows = grows_by r.grows h; results = λ row rows. omega (arith, r.results row rows, h row) }

pub rise_one : {old new : List CellView} {c : ℕ} {f g : (ℕ → ℕ) → ℕ} → Rises old new c f → ((row : ℕ → ℕ) → f row ≤ g row) → RiseAll old new (c ∷ []) g
rise_one r h = record { grows = grows_by r.grows h; results = λ row rows. omega (arith, r.result row rows, h row) }

pub rise_last : {a b d : List CellView} {cs : List ℕ} {P : (ℕ → ℕ) → Type 0} {last f : (ℕ → ℕ) → ℕ} → Stand a b P last → RiseAll b d cs f → ((row : ℕ → ℕ) → P row → f row ≤ last row) → RiseAll a d cs last
rise_last s r h = let t = stand_all s r h in record { grows = t.grows; results = λ row rows. let known = t.known row rows in omega (arith, known.1, h row known.0) }

-- ---- locations
module _ (row : ℕ → ℕ) (ps : List PointerView) (h : RegisterCells) (k : Kinds) where
  pub location_row : (l : Location) → IsLocation l → held_row row ps h k (location_number l) ≡ located_row row ps h k l
  location_row l there = ap (located_row row ps h k) (at_number l there)

  pub register_row : (r : ℕ) → r < 11 → held_row row ps h k r ≡ value_row row ps (register k r) (slice_index h.registers r)
  register_row r l = location_row (Register r) l

  pub slot_row : (s : ℕ) → s < 64 → held_row row ps h k (first_slot + s) ≡ value_row row ps (get_or k.slots s Unset) (slice_index h.slots s)
  slot_row s l = location_row (StackSlot s) l

  pub byte_row : (i : ℕ) → i < 256 → held_row row ps h k (first_byte + i) ≡ row (slice_index h.window i)
  byte_row i l = location_row (PacketByte i) l ∙ omega arith

  pub target_row : held_row row ps h k target_number ≡ row h.target
  target_row = omega arith

  -- nothing is held of what is pending
  pub past_held : (place : ℕ) → first_pending ≤ place → held_row row ps h k place ≡ 0
  past_held place far = ap (located_row row ps h k) (pending_there place far)

-- bytes of the packet and the target are numbers that are not known
pub past_slots : (k : Kinds) (place : ℕ) → first_byte ≤ place → place < first_pending → kind_at k place ≡ Num (any_number 64)
past_slots k place low high = by (location_at place) refl (held_there place high)
  where
    by : (l : Location) → location_at place ≡ l → IsHeld l → kind_by k l ≡ Num (any_number 64)
    by (Register r) e there = let small : r < 11 = there in let same : place ≡ r = numbered_as place (Register r) e in absurd (omega (arith, small, same, low))
    by (StackSlot s) e there = let small : s < 64 = there in let same : place ≡ first_slot + s = numbered_as place (StackSlot s) e in absurd (omega (arith, small, same, low))
    by (PacketByte i) e there = refl
    by Target e there = refl
    by (PendingWrites q) e there = absurd there

-- ---- one place changed
abbrev pub put_register : RegisterCells → ℕ → ℕ → RegisterCells
put_register h r c = record h { registers = slice_set h.registers r c }

abbrev pub put_slot : RegisterCells → ℕ → ℕ → RegisterCells
put_slot h s c = record h { slots = slice_set h.slots s c }

module _ (row : ℕ → ℕ) (ps : List PointerView) (h : RegisterCells) (k : Kinds) (x : Kind) where
  pub register_changed : (r c : ℕ) → r < 11 → length k.registers ≡ 11 → length h.registers ≡ 11 → held_row row ps (put_register h r c) (with_register k r x) r ≡ value_row row ps x c
  register_changed r c l ks hs = register_row row ps (put_register h r c) (with_register k r x) r l
      ∙ rw (get_or-set_same k.registers r x Unset (omega (arith, l, ks)), get_or-set_same h.registers r c 0 (omega (arith, l, hs))) refl

  pub register_kept : (r c place : ℕ) → place ≢ r → held_row row ps (put_register h r c) (with_register k r x) place ≡ held_row row ps h k place
  register_kept r c place other = by (location_at place) refl
    where
      by : (l : Location) → location_at place ≡ l → located_row row ps (put_register h r c) (with_register k r x) l ≡ located_row row ps h k l
      by (Register s) e =
          let off : s ≢ r = λ same. other (numbered_as place (Register s) e ∙ same) in
          rw (get_or-set_other k.registers r s x Unset off, get_or-set_other h.registers r s c 0 off) refl
      by (StackSlot s) e = refl
      by (PacketByte i) e = refl
      by Target e = refl
      by (PendingWrites q) e = refl

  pub slot_changed : (s c : ℕ) → s < 64 → length k.slots ≡ 64 → length h.slots ≡ 64 → held_row row ps (put_slot h s c) (with_slot k s x) (first_slot + s) ≡ value_row row ps x c
  slot_changed s c l ks hs = slot_row row ps (put_slot h s c) (with_slot k s x) s l
      ∙ rw (get_or-set_same k.slots s x Unset (omega (arith, l, ks)), get_or-set_same h.slots s c 0 (omega (arith, l, hs))) refl

  pub slot_kept : (s c place : ℕ) → place ≢ first_slot + s → held_row row ps (put_slot h s c) (with_slot k s x) place ≡ held_row row ps h k place
  slot_kept s c place other = by (location_at place) refl
    where
      by : (l : Location) → location_at place ≡ l → located_row row ps (put_slot h s c) (with_slot k s x) l ≡ located_row row ps h k l
      by (Register r) e = refl
      by (StackSlot t) e =
          let off : t ≢ s = λ same. other (numbered_as place (StackSlot t) e ∙ ap (λ (n : ℕ). first_slot + n) same) in
          rw (get_or-set_other k.slots s t x Unset off, get_or-set_other h.slots s t c 0 off) refl
      by (PacketByte i) e = refl
      by Target e = refl
      by (PendingWrites q) e = refl

-- a register that is put leaves the numbers of other places
pub number_kept : (h : RegisterCells) (r c place : ℕ) → place ≢ r → number_at (put_register h r c) place ≡ number_at h place
number_kept h r c place other = by (location_at place) refl
  where
    by : (l : Location) → location_at place ≡ l → number_by (put_register h r c) l ≡ number_by h l
    by (Register s) e = let off : s ≢ r = λ same. other (numbered_as place (Register s) e ∙ same) in rw (get_or-set_other h.registers r s c 0 off) refl
    by (StackSlot s) e = refl
    by (PacketByte i) e = refl
    by Target e = refl
    by (PendingWrites q) e = refl
