-- What a packet holds is right up to its first marked read, on the maps as they are now.
use Rattle.std.specs.Prelude.{◌≡◌, ℕ, suc, ◌<◌, ◌≤◌, true, false, Some, None, List, length}
use Rattle.std.specs.List.{AllByRecursion}
use Rattle.hazard_core.specs.xdp_maps.State.{MapState, IsSound}
use Rattle.hazard_core.specs.xdp_machine.State.{PacketIn}
use Rattle.hazard_core.specs.cell_core.Cells.{cell_at, site_in, on}
use Rattle.hazard_core.specs.cell_core.Sites.{IsCellRun, site_at}
use Rattle.hazard_core.specs.Tables.{TableState, maps_of}
use Rattle.hazard_core.specs.StageValues.{stage_value, guard_on}
use Rattle.pipe_core.specs.Machine.{Packet, Input, Build, packet_of, marked_at}
use Rattle.pipe_core.specs.Placed.{Placed}
use Rattle.pipe_core.specs.Pipeable.{IsPipelinable}
use Rattle.pipe_core.specs.SeenChanges.{SeenChanges, rest_of, watch, watch_start}
use Rattle.pipe_core.specs.SequentialOrder.{IsSequential}

-- by the values of a run, no read on its path that stands before cell n is of a marked site
abbrev pub IsUnmarkedBefore : Build → (ℕ → ℕ) → Packet → ℕ → Type 0
IsUnmarkedBefore b v x n = (d j : ℕ) → d < n → site_in (cell_at b.program.cells d).op ≡ Some j → on (v (site_at b.program.sites j).guard) ≡ true → marked_at x j ≡ false

-- Of a packet that holds the rows below r: there is a run of the cells on the maps that these tables stand for with which it agrees, in those
-- rows, in each cell up to the first read of a marked site that is on the run's path.
pub record RunsAhead (b : Build) (t : TableState) (packet : PacketIn) (r : ℕ) (x : Packet) : Type 0 where
  pub v : ℕ → ℕ
  pub run : IsCellRun packet (maps_of t) b.program v
  pub agrees : (c : ℕ) → c < length b.program.cells → b.plan.row c < r → IsUnmarkedBefore b v x (suc c) → stage_value x.held c ≡ v c

-- So each packet, on the tables of its place: up to the commit place those of now, and from there on those before its own operations.
abbrev pub AreAhead : Build → SeenChanges → Type 0
AreAhead b w = Placed (λ k c x. RunsAhead b (w.views k) (packet_of c) (suc k) x) w.trace.state.frames 0 w.trace.state.places

-- Where packets agree with the tables of their places, and those are tables of the declarations, they run ahead.
abbrev pub SequentialRunsAhead : Type 0
SequentialRunsAhead = (b : Build) (maps : MapState) → IsPipelinable maps.decls b → (w : SeenChanges) → IsSequential b maps w → AreAhead b w

-- So over every list of clocks with a silent host.
abbrev pub IsAlwaysAhead : Type 0
IsAlwaysAhead =
    (b : Build) (maps : MapState) → IsPipelinable maps.decls b → IsSound maps → (is : List Input) → AllByRecursion (λ i. i.host ≡ None) is → AreAhead b (watch b is (watch_start b maps))

-- Where no site on the path is marked, all that the packet holds is the run's.
abbrev pub WholeWhereUnmarked : Type 0
WholeWhereUnmarked =
    (b : Build) (t : TableState) → IsPipelinable t.decls b → (packet : PacketIn) (r : ℕ) (x : Packet) (a : RunsAhead b t packet r x)
    → ((j : ℕ) → j < length b.program.sites → on (a.v (site_at b.program.sites j).guard) ≡ true → marked_at x j ≡ false)
    → (c : ℕ) → c < length b.program.cells → b.plan.row c < r → stage_value x.held c ≡ a.v c

-- a packet that holds, in the rows below r, the cells of a run
pub record HoldsRun (b : Build) (t : TableState) (packet : PacketIn) (r : ℕ) (x : Packet) : Type 0 where
  pub v : ℕ → ℕ
  pub run : IsCellRun packet (maps_of t) b.program v
  pub holds : (c : ℕ) → c < length b.program.cells → b.plan.row c < r → stage_value x.held c ≡ v c

-- So does what is past the commit place, or stays there in a clock: it has no mark.
abbrev pub CommittersHoldRuns : Type 0
CommittersHoldRuns =
    (b : Build) (maps : MapState) → IsPipelinable maps.decls b → (w : SeenChanges) → IsSequential b maps w
    → Placed (λ k c x. b.plan.commit ≤ k → HoldsRun b (w.views k) (packet_of c) (suc k) x) w.trace.state.frames 0 (rest_of b w.trace.state)

-- Up to the first read of a marked site on the path, and for that read too: the guard of its site, where the packet holds it, is the run's. It
-- says rightly whether the site is on the path.
abbrev pub GuardsRunAhead : Type 0
GuardsRunAhead =
    (b : Build) (t : TableState) → IsPipelinable t.decls b → (packet : PacketIn) (r : ℕ) (x : Packet) (a : RunsAhead b t packet r x)
    → (c j : ℕ) → c < length b.program.cells → site_in (cell_at b.program.cells c).op ≡ Some j → IsUnmarkedBefore b a.v x c
    → b.plan.row (site_at b.program.sites j).guard < r → guard_on x.held (site_at b.program.sites j) ≡ on (a.v (site_at b.program.sites j).guard)
