-- Words of eight bytes, in cells.
use Rattle.std.specs.Prelude.{ℕ, ◌≡◌, ◌+◌, ◌*◌, ◌/◌, ◌<◌, ◌≤◌, Some, List, length, get_or, slice_index, map as map_list, All}
use Rattle.byteorder.specs.Endian.{little_bytes}
use Rattle.cell_core.specs.xdp_maps.declared.decl.MapDecl.{MapDecl}
use Rattle.cell_core.specs.xdp_machine.Values.{Value}
use Rattle.cell_core.specs.xdp_machine.State.{Machine, PacketIn}
use Rattle.cell_core.specs.xdp_machine.Helpers as machine
use Rattle.kind_core.specs.declared.number.Number.{Number}
use Rattle.kind_core.specs.declared.kind.Kind.{Kind}
use Rattle.kind_core.specs.declared.kind.Kind.TheVariants.{Unset, Num}
use Rattle.kind_core.specs.declared.kind.Kinds.{Kinds}
use Rattle.kind_core.specs.Describes.{Describes}
use Rattle.cell_core.specs.Cells.{CellView, IsRun}
use Rattle.cell_core.specs.Sites.{bytes_of}
use Rattle.operator_cells.specs.Making.{Grows}
use Rattle.operator_cells.specs.declared.held_cells.machine_cells.RegisterCells.{RegisterCells}
use Rattle.operator_cells.specs.HeldCells.RegisterCells.{PointerView, number_of, IsThere}
use Rattle.operator_cells.specs.HeldCells.Carrying.{IsKnown}

-- More cells, and words among them that are these bytes.
pub record JoinsWords (old new : List CellView) (bytes words : List ℕ) : Type 0 where
  pub grows : Grows old new
  pub there : All (λ c. c < length new) words
  pub enough : length bytes ≤ 8 * length words
  pub value : (packet : PacketIn) (v : ℕ → ℕ) → IsRun packet new v → All (λ c. v c < 256) bytes → bytes_of (length bytes) (map_list v words) ≡ map_list v bytes

-- of a number that is not known there is a cell
abbrev pub HasNumber : ℕ → Kind → ℕ → Type 0
HasNumber n (Num x) c = IsThere n x c
HasNumber n k c = Unit {0}

-- More cells, and one that is a byte of a slot's number.
pub record HoldsByte (old new : List CellView) (kind : Kind) (held at c : ℕ) : Type 0 where
  pub grows : Grows old new
  pub there : c < length new
  pub value : (packet : PacketIn) (v : ℕ → ℕ) (x : Number) → IsRun packet new v → kind ≡ Num x → v c ≡ slice_index (little_bytes 8 (number_of v x held)) at

-- the slots of so many bytes of the stack, from a place on, are known to have numbers
abbrev pub AreNumbers : Kinds → ℕ → ℕ → Type 0
AreNumbers k at count = (i : ℕ) → i < count → (x : Number) × (get_or k.slots ((at + i) / 8) Unset ≡ Num x)

-- More cells, and so many that hold bytes of the stack from a place on, where their slots are known to have numbers.
pub record HoldsBytes (decls : List MapDecl) (ps : List PointerView) (node : ℕ) (k : Kinds) (h : RegisterCells) (old new : List CellView) (at count : ℕ) (bytes : List ℕ) : Type 0 where
  pub grows : Grows old new
  pub there : All (λ c. c < length new) bytes
  pub long : length bytes ≡ count
  pub value : (packet : PacketIn) (v : ℕ → ℕ) (m : Machine) (xs : List ℕ) → AreNumbers k at count → IsRun packet new v → IsKnown decls packet v ps node k h m → machine.stack_bytes m.stack at count ≡ Some xs
      → map_list v bytes ≡ xs

-- More cells, and words that hold the bytes to which a pointer of this kind leads.
pub record HoldsRegion (decls : List MapDecl) (ps : List PointerView) (node : ℕ) (k : Kinds) (h : RegisterCells) (old new : List CellView) (base : Kind) (count : ℕ) (words : List ℕ) : Type 0 where
  pub grows : Grows old new
  pub there : All (λ c. c < length new) words
  pub enough : count ≤ 8 * length words
  pub bytes : (packet : PacketIn) (v : ℕ → ℕ) (m : Machine) (x : Value) (xs : List ℕ) → IsRun packet new v → (known : IsKnown decls packet v ps node k h m) → Describes known.world m.maps base x
      → machine.region m.stack m.frame count x ≡ Some xs → bytes_of count (map_list v words) ≡ xs

-- More cells, and words among them.
pub record MakesWords (old new : List CellView) (words : List ℕ) : Type 0 where
  pub grows : Grows old new
  pub there : All (λ c. c < length new) words
