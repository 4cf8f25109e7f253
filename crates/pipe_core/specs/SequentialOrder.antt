-- Packets overlap, and what they answer and leave is that of one after another.
use Rattle.std.specs.Prelude.{◌≡◌, ℕ, suc, ◌≤◌, Option, Some, None, List, [], ◌∷◌, drop}
use Rattle.std.specs.List.{AllByRecursion}
use Rattle.hazard_core.specs.xdp_maps.State.{MapState, IsSound}
use Rattle.hazard_core.specs.cell_core.Sites.{ProgramView, after}
use Rattle.hazard_core.specs.Tables.{TableState, maps_of}
use Rattle.hazard_core.specs.Tabled.{AreTables}
use Rattle.hazard_core.specs.StageValues.{StageValues, stage_value}
use Rattle.pipe_core.specs.Machine.{Packet, Input, Build, inside}
use Rattle.pipe_core.specs.History.{run, begin, IsInOrder}
use Rattle.pipe_core.specs.Computed.{IsComputed}
use Rattle.pipe_core.specs.Sequential.{AreCellRuns}
use Rattle.pipe_core.specs.SeenChanges.{SeenChanges, observed}
use Rattle.pipe_core.specs.Pipeable.{IsPipelinable}
use Rattle.pipe_core.specs.Right.{IsRight}

-- the maps that packets leave, one after another
abbrev pub left_maps : ProgramView → MapState → List StageValues → MapState
left_maps p maps [] = maps
left_maps p maps (h ∷ hs) = left_maps p (after (stage_value h) maps p.sites) hs

-- and those that the packets in some places leave, of which the oldest is the last
abbrev pub passed_maps : ProgramView → MapState → List (Option Packet) → MapState
passed_maps p maps [] = maps
passed_maps p maps (None ∷ xs) = passed_maps p maps xs
passed_maps p maps (Some x ∷ xs) = after (stage_value x.held) (passed_maps p maps xs) p.sites

-- the tables of each of these places stand for the maps that the older packets leave
abbrev pub AreChained : ProgramView → MapState → (ℕ → TableState) → ℕ → List (Option Packet) → Type 0
AreChained p maps views k [] = Unit {0}
AreChained p maps views k (None ∷ xs) = AreChained p maps views (suc k) xs
AreChained p maps views k (Some x ∷ xs) = (maps_of (views k) ≡ passed_maps p maps xs) × AreChained p maps views (suc k) xs

-- The packets that left are cell runs one after another, and each later one reads the maps that those before it leave.
pub record IsSequential (b : Build) (maps : MapState) (w : SeenChanges) : Type 0 where
  pub right : IsRight b maps.decls w
  pub computed : IsComputed b w.trace
  pub runs : AreCellRuns b.program maps w.trace.left w.trace.came (left_maps b.program maps w.trace.left)
  pub view_decls : (k : ℕ) → b.plan.commit ≤ k → (w.views k).decls ≡ maps.decls
  pub view_tables : (k : ℕ) → b.plan.commit ≤ k → AreTables (w.views k)
  pub chained : AreChained b.program (left_maps b.program maps w.trace.left) w.views (suc b.plan.commit) (drop (suc b.plan.commit) w.trace.state.places)
  pub now : maps_of (w.views b.plan.commit) ≡ passed_maps b.program (left_maps b.program maps w.trace.left) (drop (suc b.plan.commit) w.trace.state.places)

-- A clock keeps this, while the host is silent.
abbrev pub KeepsSequential : Type 0
KeepsSequential =
    (b : Build) (maps : MapState) → IsPipelinable maps.decls b → (i : Input) → i.host ≡ None → (w : SeenChanges) → IsInOrder b w.trace → IsSequential b maps w → IsSequential b maps (observed b i w)

-- Over every list of clocks the packets that left are cell runs, each on the maps that the one before it left.
abbrev pub RunsInTurn : Type 0
RunsInTurn =
    (b : Build) (maps : MapState) → IsPipelinable maps.decls b → IsSound maps → (is : List Input) → AllByRecursion (λ i. i.host ≡ None) is
    → (let t = run b is (begin b maps) in AreCellRuns b.program maps t.left t.came (left_maps b.program maps t.left))

-- And when no packet is in the places, the tables stand for the maps that the last one left.
abbrev pub FinalMaps : Type 0
FinalMaps =
    (b : Build) (maps : MapState) → IsPipelinable maps.decls b → IsSound maps → (is : List Input) → AllByRecursion (λ i. i.host ≡ None) is
    → (let t = run b is (begin b maps) in inside t.state.places ≡ 0 → maps_of t.state.tables ≡ left_maps b.program maps t.left)
