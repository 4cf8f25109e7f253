-- Data locations that follow one another, by their numbers.
use Rattle.std.specs.Prelude.{ℕ, ℤ, pos, ◌+◌, ◌-◌, ◌/◌, ◌+ℤ◌, max, nat_le, nat_lt, ◌&&◌, Bool, unsigned_abs, Option, Some, None, List, [], ◌∷◌}
use Rattle.xdp_state.specs.xdp_maps.declared.decl.MapDecl.{MapDecl}
use Rattle.kind_core.specs.declared.kind.Kind.{Kind}
use Rattle.kind_core.specs.declared.kind.Kind.TheVariants.{Packet, Stack, MapRef, Entry, Var}
use Rattle.kind_core.specs.Kinds as kind
use Rattle.cell_core.specs.Rows.{greatest, numbers}
use Rattle.row_rules.specs.declared.place_rows.location.Location.TheVariants.{StackSlot, PacketByte, Target, PendingWrites}
use Rattle.row_rules.specs.PlaceRows.Locations.{location_number}
use Rattle.row_rules.specs.declared.place_rows.span.Span.{Span}

abbrev pub slot : ℕ → ℕ
slot s = location_number (StackSlot s)

abbrev pub byte : ℕ → ℕ
byte i = location_number (PacketByte i)

abbrev pub pending_place : ℕ → ℕ
pending_place q = location_number (PendingWrites q)

abbrev pub no_place : Span
no_place = record { from = 0; end = 0 }

abbrev pub one : ℕ → Span
one place = record { from = place; end = place + 1 }

abbrev pub target : Span
target = one (location_number Target)

abbrev pub pending : ℕ → Span
pending q = one (pending_place q)

-- the slots or bytes of so many bytes from a pointer on, at an offset: all that they may be from a place that is not known; none of other kinds
abbrev pub slots_of : ℕ → ℕ → Span
slots_of at count = record { from = slot (at / 8); end = slot ((at + count + 7) / 8) }

abbrev pub bytes_of : ℕ → ℕ → Span
bytes_of at count = record { from = byte at; end = byte at + count }

abbrev pub region : Kind → ℤ → ℕ → Span
region (Stack o) offset count = slots_of (unsigned_abs (o +ℤ offset +ℤ pos 512)) count
region (Packet o) offset count = bytes_of (unsigned_abs (pos o +ℤ offset)) count
region (Var b f) offset count = record {
  from = byte (unsigned_abs (pos b.bounds.low +ℤ f +ℤ offset));
  end = byte (unsigned_abs (pos b.bounds.high +ℤ f +ℤ offset)) + count;
}
region k offset count = no_place

-- the map that a kind speaks of, and what is pending of it
abbrev pub map_of : Kind → Option ℕ
map_of (MapRef q) = Some q
map_of (Entry q o) = Some q
map_of k = None

abbrev pub pending_in : Option ℕ → Span
pending_in (Some q) = pending q
pending_in None = no_place

abbrev pub pending_of : Kind → Span
pending_of k = pending_in (map_of k)

-- the bytes of its keys and of its values
abbrev pub key_in : List MapDecl → Option ℕ → ℕ
key_in decls (Some q) = kind.key_bytes decls q
key_in decls None = 0

abbrev pub value_in : List MapDecl → Option ℕ → ℕ
value_in decls (Some q) = kind.value_bytes decls q
value_in decls None = 0

-- whether a place is among those of a span
abbrev pub is_in : ℕ → Span → Bool
is_in place s = nat_le s.from place && nat_lt place s.end

-- ---- rows
-- the greatest row of some places, by the row of each
abbrev pub span_row : (ℕ → ℕ) → Span → ℕ
span_row row s = greatest row (numbers s.from (s.end - s.from))

-- the same of several spans
abbrev pub spans_row : (ℕ → ℕ) → List Span → ℕ
spans_row row [] = 0
spans_row row (s ∷ ss) = max (span_row row s) (spans_row row ss)
