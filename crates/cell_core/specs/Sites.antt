-- The operations on maps, by the values of cells, and what a packet leaves.
use Rattle.std.specs.Prelude.{ℕ, ◌≡◌, ◌<◌, nat_le, Bool, true, false, ◌&&◌, if◌then◌else◌, is_some, Option, Some, None, List, [], ◌∷◌, ◌++◌, length, take, drop, slice_index, slice_set, map as map_list}
use Rattle.std.specs.Int.{w64, cast_unsigned}
use Rattle.std.proofs.Common.{get_or}
use Rattle.byteorder.specs.Endian.{little_bytes}
use Rattle.xdp_state.specs.bpf_isa.declared.operation.Size.{Size}
use Rattle.xdp_state.specs.xdp_maps.declared.decl.MapDecl.{MapDecl}
use Rattle.xdp_state.specs.xdp_maps.declared.change.Change.{Change}
use Rattle.xdp_state.specs.xdp_maps.Contents.{Contents}
use Rattle.xdp_state.specs.xdp_maps.State.{MapState, decl_at, contents_at}
use Rattle.xdp_state.specs.xdp_maps.Calls.{lookup_of, update_number, delete_number, number_before}
use Rattle.xdp_state.specs.xdp_maps.Operations as map
use Rattle.xdp_state.specs.xdp_maps.Operations.{Operation, key_in, operated}
use Rattle.xdp_state.specs.xdp_machine.Memory.{bytes_in, number_at}
use Rattle.xdp_state.specs.xdp_machine.State.{PacketIn}
use Rattle.xdp_state.specs.xdp_machine.Runs.{Leaves}
use Rattle.xdp_state.specs.xdp_machine.Touched.{Touched, nothing, both, touched_by}
use Rattle.cell_core.specs.declared.operator.Operator.{Operator}
use Rattle.cell_core.specs.declared.operator.Operator.TheVariants.{Found, Answer}
use Rattle.cell_core.specs.declared.site.Atomic.{Atomic}
use Rattle.cell_core.specs.declared.site.Act.{Act}
use Rattle.cell_core.specs.declared.site.Act.TheVariants as act
use Rattle.cell_core.specs.declared.program.Node.{Node}
use Rattle.cell_core.specs.declared.program.FrameByte.{FrameByte}
use Rattle.cell_core.specs.Cells.{CellView, Solves_as, is_read, site_in, cell_at, bits_from, bit, on}

pub record SiteView : Type 0 where
  pub node : ℕ
  pub map : ℕ
  pub guard : ℕ
  pub act : Act
  pub key : List ℕ
  pub operands : List ℕ

-- a program, without the places in memory where it lies
pub record ProgramView : Type 0 where
  pub cells : List CellView
  pub nodes : List Node
  pub sites : List SiteView
  pub verdict : ℕ
  pub target : ℕ
  pub frame : List FrameByte

-- whether an operation may write
abbrev pub records : Act → Bool
records act.Lookup = false
records (act.Load at size) = false
records a = true

-- the bytes of words of eight, the low byte of each first
abbrev pub spelled : List ℕ → List ℕ
spelled [] = []
spelled (x ∷ xs) = little_bytes 8 x ++ spelled xs

-- the first n of them
abbrev pub bytes_of : ℕ → List ℕ → List ℕ
bytes_of n words = take n (spelled words)

abbrev pub change_of : Atomic → ℕ → ℕ → Change
change_of a source compare = record { kind = a.kind; wide = a.wide; source = source; compare = compare }

-- an operation under a key: with the value and the flags of an update, the number of a store, the source of an atomic change and
-- what it compares with
abbrev pub operation_as : Act → List ℕ → List ℕ → ℕ → ℕ → Operation
operation_as act.Lookup key value first second = map.Lookup key
operation_as (act.Load at size) key value first second = map.Load key
operation_as act.Update key value first second = map.Update key value first
operation_as act.Delete key value first second = map.Delete key
operation_as (act.Store at size) key value first second = map.Store key at (little_bytes (bytes_in size) first)
operation_as (act.Atomic at a) key value first second = map.Atomic key at (change_of a first second) a.fetch

-- the same by the words of its key and its operands, on a map with this declaration
abbrev pub operation_with : MapDecl → Act → List ℕ → List ℕ → Operation
operation_with d a key xs = operation_as a (bytes_of d.key key) (bytes_of d.value (drop 1 xs)) (slice_index xs 0) (slice_index xs 1)

-- the operation of a site on the maps, by the values of cells
abbrev pub operation_on : (ℕ → ℕ) → MapState → SiteView → Operation
operation_on v maps s = operation_with (decl_at maps s.map) s.act (map_list v s.key) (map_list v s.operands)

-- the maps after the operation of a site, if it may write and its guard is on
abbrev pub applied : (ℕ → ℕ) → MapState → SiteView → MapState
applied v maps s = if records s.act && on (v s.guard) then operated maps s.map (operation_on v maps s) else maps

-- the maps after the operations of sites, one after another
abbrev pub after : (ℕ → ℕ) → MapState → List SiteView → MapState
after v maps [] = maps
after v maps (s ∷ ss) = after v (applied v maps s) ss

-- ---- what reads answer

-- whether the key is there; an update with unknown flags does not look
abbrev pub found_in : Contents → Operation → Bool
found_in c (map.Update key value flags) = nat_le flags 2 && is_some (lookup_of c key)
found_in c op = is_some (lookup_of c (key_in op))

abbrev pub number_or : Option ℕ → ℕ
number_or None = 0
number_or (Some n) = n

-- the number at a place of a value, if there is one
abbrev pub loaded : ℕ → Size → Option (List ℕ) → ℕ
loaded at size None = 0
loaded at size (Some value) = number_at size at value

-- what an operation answers: a load and an atomic change a number, 0 where there is no entry, an update and a delete the
-- helper's number, a lookup whether the key is there
abbrev pub answer_as : Act → MapDecl → Contents → Operation → ℕ
answer_as (act.Load at size) d c op = loaded at size (lookup_of c (key_in op))
answer_as a d c (map.Update key value flags) = cast_unsigned w64 (update_number d c key flags)
answer_as a d c (map.Delete key) = cast_unsigned w64 (delete_number d c key)
answer_as a d c (map.Atomic key at x fetch) = number_or (number_before c key at x)
answer_as a d c op = bit (found_in c op)

abbrev pub answer : MapState → ℕ → Act → Operation → ℕ
answer maps q a op = answer_as a (decl_at maps q) (contents_at maps q) op

-- what stands for a site past the last
abbrev pub no_site : SiteView
no_site = record { node = 0; map = 0; guard = 0; act = act.Lookup; key = []; operands = [] }

abbrev pub site_at : List SiteView → ℕ → SiteView
site_at sites j = get_or sites j no_site

-- what a read of a site finds on the maps, by the site's operation
abbrev pub read_with : MapState → SiteView → Operation → Operator → ℕ
read_with maps s op (Found j) = bit (found_in (contents_at maps s.map) op)
read_with maps s op (Answer j) = answer maps s.map s.act op
read_with maps s op other = 0

abbrev pub read_on : (ℕ → ℕ) → MapState → SiteView → Operator → ℕ
read_on v maps s op = read_with maps s (operation_on v maps s) op

-- ---- the run of a packet through the cells

-- A value of a cell: of a read whose site's guard is on it is what the read finds on the maps after the packet's own earlier
-- operations.
pub record IsValue (packet : PacketIn) (maps : MapState) (sites : List SiteView) (v : ℕ → ℕ) (c : CellView) (x : ℕ) : Type 0 where
  pub solves : Solves_as (is_read c.op) packet v c x
  pub answers : (j : ℕ) → site_in c.op ≡ Some j → on (v (site_at sites j).guard) ≡ true
      → x ≡ bits_from (read_on v (after v maps (take j sites)) (site_at sites j) c.op) c.from c.width

-- The cell run: the numbers are values of the cells, for a packet on maps.
pub record IsCellRun (packet : PacketIn) (maps : MapState) (p : ProgramView) (v : ℕ → ℕ) : Type 0 where
  pub each : (k : ℕ) → k < length p.cells → IsValue packet maps p.sites v (cell_at p.cells k) (v k)

-- a frame with the bytes that have cells
abbrev pub with_bytes : (ℕ → ℕ) → List ℕ → List FrameByte → List ℕ
with_bytes v frame [] = frame
with_bytes v frame (b ∷ bs) = with_bytes v (slice_set frame b.at (v b.cell)) bs

-- what a packet leaves, by the values of its cells
abbrev pub leaves : (ℕ → ℕ) → PacketIn → MapState → ProgramView → Leaves
leaves v packet maps p = record { verdict = v p.verdict; target = v p.target; frame = with_bytes v packet.frame p.frame; maps = after v maps p.sites }

-- the resources that the operations whose guards are on read and write
abbrev pub touched : (ℕ → ℕ) → MapState → List SiteView → Touched
touched v maps [] = nothing
touched v maps (s ∷ ss) =
    both (if on (v s.guard) then touched_by maps (Some (s.map, operation_on v maps s)) else nothing) (touched v (applied v maps s) ss)
