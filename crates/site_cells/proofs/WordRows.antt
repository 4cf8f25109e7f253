-- The rows of words that are joined from the bytes of a region.
use Rattle.std.proofs.Common.{◌≡◌, ℕ, suc, ◌+◌, ◌-◌, ◌/◌, ◌<◌, ◌≤◌, pos, ◌+ℤ◌, List, [], ◌∷◌, length, drop, get_or, slice_index, slice_range, sym, subst, arith}
use Rattle.std.specs.Prelude.{unsigned_abs}
use Rattle.kind_core.specs.declared.number.Number.{Number}
use Rattle.kind_core.specs.declared.number.Number.TheVariants.{Between}
use Rattle.kind_core.specs.declared.kind.Kind.{Kind}
use Rattle.kind_core.specs.declared.kind.Kind.TheVariants.{Unset, Num, Packet}
use Rattle.kind_core.specs.declared.kind.Kinds.{Kinds}
use Rattle.cell_core.specs.Cells.{CellView}
use Rattle.cell_core.specs.Rows.{greatest}
use Rattle.operator_cells.specs.Rising.{RiseAll}
use Rattle.operator_cells.proofs.RisingLaws.{greatest_part, stand_none, stand_all}
use Rattle.operator_cells.specs.row_rules.PlaceRows.Spans.{slots_of, bytes_of, span_row}
use Rattle.operator_cells.specs.row_rules.PlaceRows.Spans as places
use Rattle.operator_cells.specs.row_rules.PlaceRows.Locations.{first_slot, first_byte}
use Rattle.operator_cells.proofs.row_rules_laws.PlaceRows.SpanLaws.{is_inside, span_above}
use Rattle.operator_cells.specs.declared.held_cells.machine_cells.RegisterCells.{RegisterCells}
use Rattle.operator_cells.specs.HeldCells.RegisterCells.{PointerView}
use Rattle.operator_cells.specs.HeldCells.Rows.{number_row, value_row, held_row}
use Rattle.site_cells.proofs.Regions.{part_at, part_long}
use Rattle.operator_cells.proofs.HeldCells.RowLaws.{slot_row, byte_row, rise_last}

pub range_row : (row : ℕ → ℕ) (xs : List ℕ) (a b : ℕ) → greatest row (slice_range xs a b) ≤ greatest row xs
range_row row xs a b = omega (arith, greatest_part row a xs, greatest_part row (b - a) (drop a xs))

pub greatest_low : (row : ℕ → ℕ) (most : ℕ) (xs : List ℕ) → ((i : ℕ) → i < length xs → row (get_or xs i 0) ≤ most) → greatest row xs ≤ most
greatest_low row most [] h = omega arith
greatest_low row most (x ∷ xs) h = omega (arith, h 0 (omega arith), greatest_low row most xs (λ i l. h (suc i) (omega (arith, l))))

-- ---- one number
pub unknown_row : (row : ℕ → ℕ) (x : Number) (lo hi c : ℕ) → x ≡ Between lo hi → row c ≤ number_row row x c
unknown_row row x lo hi c e = rw e (omega arith)

pub number_value : (row : ℕ → ℕ) (ps : List PointerView) (k : Kind) (x : Number) (c : ℕ) → k ≡ Num x → number_row row x c ≤ value_row row ps k c
number_value row ps k x c e = rw e (omega arith)

-- ---- bytes of the stack
pub slot_within : (row : ℕ → ℕ) (ps : List PointerView) (h : RegisterCells) (k : Kinds) (at count i : ℕ) → at + count ≤ 512 → i < count
    → value_row row ps (get_or k.slots ((at + i) / 8) Unset) (slice_index h.slots ((at + i) / 8)) ≤ span_row (held_row row ps h k) (slots_of at count)
slot_within row ps h k at count i within l =
    let s : ℕ = (at + i) / 8 in
    subst (λ (n : ℕ). n ≤ span_row (held_row row ps h k) (slots_of at count)) (slot_row row ps h k s (omega (arith, within, l)))
    (span_above (held_row row ps h k) (slots_of at count) (first_slot + s) (is_inside (first_slot + s) (slots_of at count) (omega (arith, l)) (omega (arith, l))))

-- ---- bytes of the packet
pub window_within : (row : ℕ → ℕ) (ps : List PointerView) (h : RegisterCells) (k : Kinds) (at count : ℕ) → length h.window ≡ 256 → at + count ≤ 256
    → greatest row (slice_range h.window at (at + count)) ≤ span_row (held_row row ps h k) (places.region (Packet at) (pos 0) count)
window_within row ps h k at count whole within =
    let range : List ℕ = slice_range h.window at (at + count) in
    let span = places.region (Packet at) (pos 0) count in
    let first : unsigned_abs (pos at +ℤ pos 0) ≡ at = omega arith in
    greatest_low row (span_row (held_row row ps h k) span) range (λ i l.
    let below : i < count = omega (arith, l, part_long h.window at (at + count) (omega (arith, within, whole))) in
    subst (λ (c : ℕ). row c ≤ span_row (held_row row ps h k) span) (sym (part_at h.window at count i below))
    (subst (λ (n : ℕ). n ≤ span_row (held_row row ps h k) span) (byte_row row ps h k (at + i) (omega (arith, within, below)))
    (span_above (held_row row ps h k) span (first_byte + (at + i)) (is_inside (first_byte + (at + i)) span (omega (arith, first)) (omega (arith, first, below))))))

-- cells for some bytes, and then those that are made of them
pub rise_through : {a b d : List CellView} {bs ws : List ℕ} {f : (ℕ → ℕ) → ℕ} → RiseAll a b bs f → RiseAll b d ws (λ row. greatest row bs) → RiseAll a d ws f
rise_through {bs = bs} {f = f} first next = rise_last (stand_all {P = λ row. Unit {0}} {last = f} stand_none first (λ row p. omega arith)) next (λ row p. p.1)
