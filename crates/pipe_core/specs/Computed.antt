-- What the packets hold: every cell of the rows that a packet has taken in is its operator's on the packet's own cells. Of reads
-- it says nothing.
use Rattle.std.specs.Prelude.{◌≡◌, ℕ, suc, ◌<◌, false, Option, Some, None, List, [], ◌∷◌, length}
use Rattle.std.proofs.Common.{get_or}
use Rattle.hazard_core.specs.xdp_maps.State.{MapState}
use Rattle.hazard_core.specs.xdp_machine.State.{PacketIn}
use Rattle.hazard_core.specs.cell_core.Cells.{cell_at, is_read, value}
use Rattle.hazard_core.specs.cell_core.Formed.{AreFormed}
use Rattle.hazard_core.specs.cell_core.Rows.{AreRows}
use Rattle.hazard_core.specs.StageValues.{StageValues, stage_value}
use Rattle.realization.specs.beat_core.Ports.{Arrival}
use Rattle.pipe_core.specs.Machine.{Packet, Input, Build, no_frame, packet_of, inside}
use Rattle.pipe_core.specs.History.{Trace, next, run, begin, IsInOrder}

-- the cells of the rows below r
pub record Computes (b : Build) (packet : PacketIn) (r : ℕ) (h : StageValues) : Type 0 where
  pub count : length h.values ≡ length b.program.cells
  pub each : (c : ℕ) → c < length b.program.cells → b.plan.row c < r → is_read (cell_at b.program.cells c).op ≡ false
      → stage_value h c ≡ value packet (stage_value h) (cell_at b.program.cells c)

-- A packet at place k holds the rows up to k. Its frame stands after those of the older ones.
abbrev pub PlacesCompute : Build → List Arrival → ℕ → List (Option Packet) → Type 0
PlacesCompute b frames k [] = Unit {0}
PlacesCompute b frames k (None ∷ xs) = PlacesCompute b frames (suc k) xs
PlacesCompute b frames k (Some x ∷ xs) =
    Computes b (packet_of (get_or frames (inside xs) no_frame)) (suc k) x.held × PlacesCompute b frames (suc k) xs

-- packets that left, and their frames
abbrev pub LeftCompute : Build → List StageValues → List Arrival → Type 0
LeftCompute b [] cs = Unit {0}
LeftCompute b (h ∷ hs) [] = ⊥
LeftCompute b (h ∷ hs) (c ∷ cs) = Computes b (packet_of c) (suc b.plan.last) h × LeftCompute b hs cs

pub record IsComputed (b : Build) (t : Trace) : Type 0 where
  pub places : PlacesCompute b t.state.frames 0 t.state.places
  pub left : LeftCompute b t.left t.came

-- the rows are those of the program's cells
pub record IsPlanned (b : Build) : Type 0 where
  pub formed : AreFormed b.program.cells
  pub rows : AreRows b.program.cells b.plan.row
  pub last : (c : ℕ) → c < length b.program.cells → b.plan.row c < suc b.plan.last

-- A clock keeps this of every trace.
abbrev pub KeepsComputed : Type 0
KeepsComputed = (b : Build) → IsPlanned b → (i : Input) (t : Trace) → IsInOrder b t → IsComputed b t → IsComputed b (next b i t)

-- So it holds of every list of clocks from the first on.
abbrev pub IsAlwaysComputed : Type 0
IsAlwaysComputed = (b : Build) → IsPlanned b → (maps : MapState) (is : List Input) → IsComputed b (run b is (begin b maps))
