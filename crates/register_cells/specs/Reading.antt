-- What the cells of one instruction make of the values that it reads.
use Rattle.std.specs.Prelude.{ℕ, pos, ◌≡◌, ◌<◌, ◌^◌, Bool, true, false, Option, Some, List, length}
use Rattle.cell_core.specs.xdp_maps.declared.decl.MapDecl.{MapDecl}
use Rattle.cell_core.specs.xdp_machine.Values.{Value}
use Rattle.cell_core.specs.xdp_machine.Values as is
use Rattle.cell_core.specs.xdp_machine.State.{PacketIn}
use Rattle.kind_core.specs.declared.number.Number.{Number}
use Rattle.kind_core.specs.declared.kind.Kind.{Kind}
use Rattle.kind_core.specs.declared.kind.Kind.TheVariants.{Num, Packet, End, Maybe, Entry}
use Rattle.cell_core.specs.Cells.{CellView, IsRun}
use Rattle.operator_cells.specs.Making.{Grows}
use Rattle.operator_cells.specs.HeldCells.RegisterCells.{PointerView, Holds, Counts, number_of, IsThere}

-- of a number that is not known there is a cell
abbrev pub HasNumber : ℕ → Kind → ℕ → Type 0
HasNumber n (Num x) c = IsThere n x c
HasNumber n k c = Unit {0}

-- More cells, and a number that is known, or that cell c holds, is this in every run.
pub record Finds (old new : List CellView) (x : Number) (c : ℕ) (is : PacketIn → (ℕ → ℕ) → ℕ) : Type 0 where
  pub grows : Grows old new
  pub there : IsThere (length new) x c
  pub value : (packet : PacketIn) (v : ℕ → ℕ) → IsRun packet new v → number_of v x c ≡ is packet v

-- where in the packet a pointer leads by its kind
abbrev pub place_of : PacketIn → Kind → ℕ
place_of packet (Packet o) = o
place_of packet k = length packet.frame

-- such a place is a number of 64 bits
abbrev pub IsShort : Kind → Type 0
IsShort k = (o : ℕ) → k ≡ Packet o → o < 2 ^ 64

-- whether both are places in the packet that are known
abbrev pub are_known : Kind → Kind → Bool
are_known (Packet o) (Packet u) = true
are_known a b = false

-- What is known of a value that is read: a number is the known one or that of its cell, a place in the packet stands in the kind, and
-- what a lookup answered is what cells hold.
abbrev pub IsRead : List MapDecl → PacketIn → (ℕ → ℕ) → List PointerView → Kind → ℕ → Value → Type 0
IsRead decls packet v ps (Num n) c x = (x ≡ is.Number (number_of v n c)) × (number_of v n c < 2 ^ 64)
IsRead decls packet v ps (Packet o) c x = x ≡ is.Packet (pos o)
IsRead decls packet v ps End c x = x ≡ is.Packet (pos (length packet.frame))
IsRead decls packet v ps (Maybe q n) c x = Holds decls v ps (Maybe q n) c x
IsRead decls packet v ps (Entry q o) c x = Holds decls v ps (Entry q o) c x
IsRead decls packet v ps k c x = Unit {0}

-- More cells, and number c holds, by this kind, what comes of two values that are read.
pub record Yields (decls : List MapDecl) (ps : List PointerView) (a : Kind) (p : ℕ) (b : Kind) (q : ℕ) (old new : List CellView) (x : Kind) (c : ℕ) (f : Value → Value → Option Value) : Type 0 where
  pub grows : Grows old new
  pub counts : Counts decls (length new) ps x c
  pub holds : (packet : PacketIn) (v : ℕ → ℕ) (s t y : Value) → IsRun packet new v → length packet.frame < 2 ^ 63 → IsRead decls packet v ps a p s → IsRead decls packet v ps b q t
      → f s t ≡ Some y → Holds decls v ps x c y
