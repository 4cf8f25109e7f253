-- What stores leave of what cells hold.
use Rattle.std.specs.Prelude.{ℕ, ◌≡◌, ◌<◌, ◌^◌, Bool, true, false, Option, Some, Ok, List, length}
use Rattle.cell_core.specs.bpf_isa.declared.operation.Size.{Size}
use Rattle.cell_core.specs.xdp_maps.declared.decl.MapDecl.{MapDecl}
use Rattle.cell_core.specs.xdp_machine.Values.{Value}
use Rattle.cell_core.specs.xdp_machine.State.{Machine, PacketIn}
use Rattle.cell_core.specs.xdp_machine.Memory as machine
use Rattle.kind_core.specs.declared.number.Number.{Number}
use Rattle.kind_core.specs.declared.kind.Kind.{Kind}
use Rattle.kind_core.specs.declared.kind.Kind.TheVariants.{Num, Maybe, Entry}
use Rattle.kind_core.specs.declared.kind.Kinds.{Kinds}
use Rattle.kind_core.specs.Access.{underlying}
use Rattle.cell_core.specs.Cells.{CellView, IsRun}
use Rattle.operator_cells.specs.Making.{Grows}
use Rattle.operator_cells.specs.declared.held_cells.machine_cells.RegisterCells.{RegisterCells}
use Rattle.operator_cells.specs.HeldCells.RegisterCells.{PointerView, Holds, Counts, AreHeld, AreInside, number_of}
use Rattle.operator_cells.specs.HeldCells.Carrying.{IsKnown}
use Rattle.register_cells.specs.Reading.{IsRead}

-- an answer of a lookup, or a place in an entry
abbrev pub points : Kind → Bool
points (Maybe q n) = true
points (Entry q o) = true
points k = false

-- the number that a part of a slot is stored into: of a pointer nothing is left
abbrev pub left_of : (ℕ → ℕ) → Kind → ℕ → ℕ
left_of v (Num n) c = number_of v n c
left_of v k c = 0

-- The values of a machine are those of a kind, and of cell q.
abbrev pub IsSource : List MapDecl → List PointerView → ℕ → Kinds → RegisterCells → Kind → ℕ → (Machine → Value) → Type 0
IsSource decls ps node k h b q t = (packet : PacketIn) (v : ℕ → ℕ) (m : Machine) → IsKnown decls packet v ps node k h m → IsRead decls packet v ps b q (t m)

-- More cells, and number c holds, by this kind, what a slot is after a store of a value that is read into it, whole or in part.
pub record Fills (decls : List MapDecl) (ps : List PointerView) (size : Size) (at : ℕ) (a : Kind) (p : ℕ) (b : Kind) (q : ℕ) (old new : List CellView) (x : Kind) (c : ℕ) : Type 0 where
  pub grows : Grows old new
  pub counts : Counts decls (length new) ps x c
  pub holds : (packet : PacketIn) (v : ℕ → ℕ) (s t y : Value) → IsRun packet new v → length packet.frame < 2 ^ 63 → ((n : Number) → underlying a ≡ Ok n → machine.underlying s ≡ left_of v a p)
      → IsRead decls packet v ps b q t → machine.to_slot size at s t ≡ Some y → Holds decls v ps x c y

-- More cells, and what is held afterwards holds, by these kinds, what comes of a machine where something does.
pub record Leaves (decls : List MapDecl) (ps : List PointerView) (node : ℕ) (k : Kinds) (h next : RegisterCells) (old new : List CellView) (after : Kinds) (made : Machine → Option Machine) : Type 0 where
  pub grows : Grows old new
  pub inside : AreInside decls (length new) ps next after
  pub holds : (packet : PacketIn) (v : ℕ → ℕ) (m n : Machine) → IsRun packet new v → IsKnown decls packet v ps node k h m → made m ≡ Some n → AreHeld decls packet v ps next after n
