-- What made the values of data places, and in which row.
use Rattle.std.specs.Prelude.{ℕ, nat_lt, Bool, true, false, if◌then◌else◌, Option, Some, None, List, get_or, map as map_list}
use Rattle.kind_core.specs.declared.number.Number.TheVariants.{Between}
use Rattle.kind_core.specs.declared.kind.Kind.{Kind}
use Rattle.kind_core.specs.declared.kind.Kind.TheVariants.{Unset, Num, Maybe, Entry, Var}
use Rattle.kind_core.specs.declared.kind.Kinds.{Kinds}
use Rattle.cell_core.specs.Rows.{greatest, numbers}
use Rattle.row_rules.specs.declared.place_rows.location.Location.{Location}
use Rattle.row_rules.specs.declared.place_rows.location.Location.TheVariants.{Register, StackSlot, PacketByte, Target, PendingWrites}
use Rattle.row_rules.specs.declared.place_rows.origin.Origin.{Origin}
use Rattle.row_rules.specs.declared.place_rows.span.Span.{Span}
use Rattle.row_rules.specs.PlaceRows.Locations.{first_byte, location_count, location_at}
use Rattle.row_rules.specs.PlaceRows.Spans as places

-- A kind has data where it does not say by itself what the value is: a number or a place in the packet that is not known, the answer of a lookup,
-- a place in an entry.
abbrev pub is_open : Kind → Bool
is_open (Num (Between lo hi)) = true
is_open (Var b f) = true
is_open (Maybe q n) = true
is_open (Entry q o) = true
is_open k = false

-- whether there is data in a location: always in bytes of the packet, in the target, and of what is pending
abbrev pub data_by : Kinds → Location → Bool
data_by k (Register r) = is_open (get_or k.registers r Unset)
data_by k (StackSlot s) = is_open (get_or k.slots s Unset)
data_by k (PacketByte i) = true
data_by k Target = true
data_by k (PendingWrites q) = true

abbrev pub has_data : Kinds → ℕ → Bool
has_data k place = data_by k (location_at place)

-- a row of what has data by its kind, 0 of what has none
abbrev pub open_row : Kind → ℕ → ℕ
open_row k row = if is_open k then row else 0

-- the row of an origin, 0 where there is none
abbrev pub row_of : Option Origin → ℕ
row_of (Some o) = o.row
row_of None = 0

abbrev pub row_at : List (Option Origin) → ℕ → ℕ
row_at os place = row_of (get_or os place None)

-- the greatest row of some places, and of several spans
abbrev pub span_row : List (Option Origin) → Span → ℕ
span_row os s = places.span_row (row_at os) s

abbrev pub spans_row : List (Option Origin) → List Span → ℕ
spans_row os ss = places.spans_row (row_at os) ss

-- the greatest row of all places
unfoldable pub every_row : List (Option Origin) → ℕ
every_row os = greatest (row_at os) (numbers 0 location_count)

-- origins that are given place by place
unfoldable pub by_place : (ℕ → Option Origin) → List (Option Origin)
by_place origin = map_list origin (numbers 0 location_count)

-- at the start all rows are 0
abbrev pub origin_at_start : ℕ → Option Origin
origin_at_start place = if nat_lt place first_byte then None else Some (record { maker = 0; row = 0 })
