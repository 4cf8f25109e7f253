-- The cells of what a packet leaves.
use Rattle.std.specs.Prelude.{ℕ, ◌≡◌, ◌<◌, ◌≤◌, ◌^◌, true, List, length, slice_index, get_or, All, Contains}
use Rattle.xdp_machine.specs.Arithmetic.{low}
use Rattle.xdp_machine.specs.State.{PacketIn}
use Rattle.std.specs.List.{AllPairs}
use Rattle.xdp_machine.specs.Runs.{Leaves}
use Rattle.xdp_machine.specs.MachineLaws.{LeavesInRange}
use Rattle.cell_core.specs.declared.program.FrameByte.{FrameByte}
use Rattle.cell_core.specs.Cells.{CellView, IsRun, on}
use Rattle.cell_core.specs.Sites.{with_bytes}
use Rattle.operator_cells.specs.declared.joining.Arm.{Arm}
use Rattle.operator_cells.specs.Making.{Grows}
use Rattle.operator_cells.specs.declared.held_cells.way.Exit.{Exit}
use Rattle.operator_cells.specs.HeldCells.RegisterCells.{number_of, IsThere}
use Rattle.operator_cells.specs.HeldCells.Steps.{IsLeft}
use Rattle.operator_cells.specs.HeldCells.Law.{IsPacket}
use Rattle.predicate_core.specs.Buildable.{HasBits, AddsNoRow}
use Rattle.predicate_core.specs.declared.closing.Output.{Output}
use Rattle.predicate_core.specs.declared.closing.Output.TheVariants.{Verdict, Target, Byte}

-- what an end holds of a part of the answer: of the verdict, 32 bits of the number in R0
abbrev pub output_of : (ℕ → ℕ) → Output → Exit → ℕ
output_of v Verdict x = low 32 (number_of v x.verdict (slice_index x.held.registers 0))
output_of v Target x = v x.held.target
output_of v (Byte i) x = v (slice_index x.held.window i)

abbrev pub IsOutput : Output → Type 0
IsOutput Verdict = Unit {0}
IsOutput Target = Unit {0}
IsOutput (Byte i) = i < 256

-- how many bits it has at most
abbrev pub bits_of : Output → ℕ
bits_of Verdict = 32
bits_of Target = 32
bits_of (Byte i) = 8

-- the cells of an end are there
abbrev pub EndIsThere : ℕ → Exit → Type 0
EndIsThere n x = (x.guard < n) × (x.held.target < n) × IsThere n x.verdict (slice_index x.held.registers 0) × ((i : ℕ) → i < 256 → slice_index x.held.window i < n)

-- some end is on
abbrev pub SomeEnds : (ℕ → ℕ) → List Exit → Type 0
SomeEnds v exits = (x : Exit) × Contains exits x × (on (v x.guard) ≡ true)

-- The first n ends, each with its guard and what it holds of a part of the answer.
pub record AreOutputs (old new : List CellView) (exits : List Exit) (o : Output) (n : ℕ) (arms : List Arm) : Type 0 where
  pub grows : Grows old new
  pub no_row : AddsNoRow old new
  pub count : length arms ≡ n
  pub there : All (λ a. (a.bit < length new) × (a.cell < length new)) arms
  pub each : (packet : PacketIn) (v : ℕ → ℕ) (i : ℕ) (a : Arm) (x : Exit) → i < n → IsRun packet new v
      → ((get_or arms i a).bit ≡ (get_or exits i x).guard) × (v (get_or arms i a).cell ≡ output_of v o (get_or exits i x))

-- More cells, and one that is a number which all ends that are on hold, where one is.
pub record Outputs (old new : List CellView) (exits : List Exit) (o : Output) (c : ℕ) : Type 0 where
  pub grows : Grows old new
  pub no_row : AddsNoRow old new
  pub there : c < length new
  pub value : (packet : PacketIn) (v : ℕ → ℕ) (n : ℕ) → IsRun packet new v → SomeEnds v exits → All (λ x. on (v x.guard) ≡ true → output_of v o x ≡ n) exits → v c ≡ n

-- The same, if the number fits, in a cell of no more bits than this part of the answer has.
pub record OutputsWithin (old new : List CellView) (exits : List Exit) (o : Output) (c : ℕ) : Type 0 where
  pub grows : Grows old new
  pub no_row : AddsNoRow old new
  pub is : HasBits new (bits_of o) c
  pub value : (packet : PacketIn) (v : ℕ → ℕ) (n : ℕ) → IsRun packet new v → SomeEnds v exits → All (λ x. on (v x.guard) ≡ true → output_of v o x ≡ n) exits → n < 2 ^ bits_of o → v c ≡ n

-- The first n bytes of the frame that a packet leaves: with the cells of these, and the packet's own bytes where no end has another cell.
pub record AreFrameBytes (old new : List CellView) (exits : List Exit) (window : List ℕ) (n : ℕ) (frame : List FrameByte) : Type 0 where
  pub grows : Grows old new
  pub no_row : AddsNoRow old new
  pub bytes : All (λ b. (b.at < n) × HasBits new 8 b.cell) frame
  pub ascending : AllPairs (λ a b. a.at < b.at) frame
  pub size : (packet : PacketIn) (v : ℕ → ℕ) → length (with_bytes v packet.frame frame) ≡ length packet.frame
  pub rest : (packet : PacketIn) (v : ℕ → ℕ) (i : ℕ) → n ≤ i → slice_index (with_bytes v packet.frame frame) i ≡ slice_index packet.frame i
  pub each : (packet : PacketIn) (v : ℕ → ℕ) (e : Leaves) (i : ℕ) → i < n → IsPacket packet → LeavesInRange e → IsRun packet new v → All (λ x. on (v x.guard) ≡ true → IsLeft packet v x e) exits → SomeEnds v exits
      → slice_index (with_bytes v packet.frame frame) i ≡ slice_index e.frame i
