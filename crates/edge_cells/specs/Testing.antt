-- The conditions of jumps.
use Rattle.std.specs.Prelude.{ℕ, zero, pos, ◌≡◌, ◌<◌, ◌^◌, Bool, true, false, not, if◌then◌else◌, Option, Some, None, List, length}
use Rattle.xdp_machine.specs.xdp_maps.declared.decl.MapDecl.{MapDecl}
use Rattle.xdp_machine.specs.bpf_isa.declared.operation.Width.{Width}
use Rattle.xdp_machine.specs.bpf_isa.declared.operation.Width.TheVariants.{Bits64}
use Rattle.xdp_machine.specs.bpf_isa.declared.operation.JumpCode.{JumpCode}
use Rattle.xdp_machine.specs.bpf_isa.declared.operation.JumpCode.TheVariants.{Jeq, Jne, Jgt, Jge, Jlt, Jle}
use Rattle.xdp_machine.specs.Values.{Value}
use Rattle.xdp_machine.specs.Values as is
use Rattle.xdp_machine.specs.State.{PacketIn}
use Rattle.xdp_machine.specs.Pointers.{compared}
use Rattle.kind_core.specs.declared.number.Number.TheVariants.{Known}
use Rattle.kind_core.specs.declared.kind.Kind.{Kind}
use Rattle.kind_core.specs.declared.kind.Kind.TheVariants.{Num, Packet, Var, End, Maybe, Entry}
use Rattle.cell_core.specs.Cells.{CellView, IsRun, bit}
use Rattle.operator_cells.specs.Making.{Grows}
use Rattle.operator_cells.specs.HeldCells.RegisterCells.{PointerView, pointer_at, Holds, number_of, IsThere}

-- places in the packet are compared by their order, and with null by whether they are equal
abbrev pub is_order : JumpCode → Bool
is_order Jgt = true
is_order Jge = true
is_order Jlt = true
is_order Jle = true
is_order c = false

abbrev pub is_equality : JumpCode → Bool
is_equality Jeq = true
is_equality Jne = true
is_equality c = false

-- The conditions that need a cell: on numbers, on a place in the packet and its end, and on what a lookup answered and null.
abbrev pub is_open : Width → JumpCode → Kind → Kind → Bool
is_open w c (Num a) (Num b) = true
is_open Bits64 c (Packet o) End = is_order c
is_open Bits64 c End (Packet o) = is_order c
is_open Bits64 c (Var b f) End = is_order c
is_open Bits64 c End (Var b f) = is_order c
is_open Bits64 c (Maybe q n) (Num (Known zero)) = is_equality c
is_open Bits64 c (Num (Known zero)) (Maybe q n) = is_equality c
is_open w c a b = false

abbrev pub is_equal : JumpCode → Bool
is_equal Jeq = true
is_equal c = false

-- whether such a test holds of an entry that was found or not
abbrev pub null_holds : JumpCode → Bool → Bool
null_holds code found = if is_equal code then not found else found

abbrev pub is_number : Kind → Bool
is_number (Num n) = true
is_number k = false

-- where in the packet a pointer leads by its kind
abbrev pub place_of : PacketIn → Kind → ℕ
place_of packet (Packet o) = o
place_of packet k = length packet.frame

-- the found bit of what a lookup answered
abbrev pub found_of : List PointerView → Kind → ℕ → Option ℕ
found_of ps (Maybe q n) c = Some (pointer_at ps c).found
found_of ps k c = None

abbrev pub HasPointer : ℕ → Kind → ℕ → Type 0
HasPointer n (Maybe q j) c = c < n
HasPointer n k c = Unit {0}

-- what is read is there: of a number that is not known its cell, of what a lookup answered its pointer and the found bit; no cell
-- holds a place in the packet that is not known
abbrev pub IsReady : ℕ → List PointerView → Kind → ℕ → Type 0
IsReady n ps (Num x) c = IsThere n x c
IsReady n ps (Maybe q j) c = (c < length ps) × ((pointer_at ps c).found < n)
IsReady n ps (Var b f) c = ⊥
IsReady n ps k c = Unit {0}

-- What is known of a value that is read: a number is the known one or that of its cell, a place in the packet stands in the kind, and
-- what a lookup answered is what cells hold.
abbrev pub IsRead : List MapDecl → PacketIn → (ℕ → ℕ) → List PointerView → Kind → ℕ → Value → Type 0
IsRead decls packet v ps (Num n) c x = x ≡ is.Number (number_of v n c)
IsRead decls packet v ps (Packet o) c x = (x ≡ is.Packet (pos o)) × (o < 2 ^ 63)
IsRead decls packet v ps End c x = (x ≡ is.Packet (pos (length packet.frame))) × (length packet.frame < 2 ^ 63)
IsRead decls packet v ps (Maybe q n) c x = Holds decls v ps (Maybe q n) c x
IsRead decls packet v ps (Entry q o) c x = Holds decls v ps (Entry q o) c x
IsRead decls packet v ps k c x = Unit {0}

-- More cells, and a bit that tells whether the condition holds of two values that are read.
pub record Tests (ps : List PointerView) (w : Width) (code : JumpCode) (a : Kind) (p : ℕ) (b : Kind) (q : ℕ) (old new : List CellView) (c : ℕ) : Type 0 where
  pub grows : Grows old new
  pub there : c < length new
  pub is_bit : (packet : PacketIn) (v : ℕ → ℕ) → IsRun packet new v → v c < 2
  pub value : (decls : List MapDecl) (packet : PacketIn) (v : ℕ → ℕ) (s t : Value) (taken : Bool) → IsRun packet new v
      → IsRead decls packet v ps a p s → IsRead decls packet v ps b q t → compared w code s t ≡ Some taken → v c ≡ bit taken
