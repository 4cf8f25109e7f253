-- Of the changes that packets have seen: which packets shortly before them made these, and that they wrote what they changed.
use Rattle.std.specs.Prelude.{◌≡◌, ℕ, suc, ◌+◌, ◌<◌, ◌≤◌, true, false, ◌⊎◌, Option, Some, None, List, [], ◌∷◌, ◌++◌, length, take, drop, Contains}
use Rattle.std.specs.List.{AllByRecursion}
use Rattle.std.proofs.Common.{get_or}
use Rattle.realization.specs.beat_core.Ports.{Arrival}
use Rattle.hazard_core.specs.xdp_maps.State.{MapState, IsSound}
use Rattle.hazard_core.specs.xdp_maps.Touched.{Resource, Present, Content, Size}
use Rattle.hazard_core.specs.xdp_machine.Touched.{Touched, nothing}
use Rattle.hazard_core.specs.cell_core.Sites.{ProgramView, IsCellRun, after, touched}
use Rattle.hazard_core.specs.Tables.{TableState, table_at, slot_at, has_key, maps_of}
use Rattle.hazard_core.specs.StageValues.{StageValues, stage_value}
use Rattle.hazard_core.specs.Keeping.{SameCell}
use Rattle.pipe_core.specs.Machine.{Packet, Input, Build, no_frame, packet_of, place_at, inside, some_send}
use Rattle.pipe_core.specs.History.{IsInOrder}
use Rattle.pipe_core.specs.Pipeable.{IsPipelinable}
use Rattle.pipe_core.specs.SequentialOrder.{left_maps, passed_maps, IsSequential}
use Rattle.pipe_core.specs.Apart.{AllRun, ConflictFree}
use Rattle.pipe_core.specs.SeenChanges.{Seen, SeenChanges, observed, watch_start}

-- what packets touched that left, the oldest first
abbrev pub left_touched : ProgramView → MapState → List StageValues → List Touched
left_touched p maps [] = []
left_touched p maps (h ∷ hs) = touched (stage_value h) maps p.sites ∷ left_touched p (after (stage_value h) maps p.sites) hs

-- what those touch that are in some places, of which the oldest is the last
abbrev pub past_touched : ProgramView → MapState → List (Option Packet) → List Touched
past_touched p maps [] = []
past_touched p maps (None ∷ xs) = past_touched p maps xs
past_touched p maps (Some x ∷ xs) = past_touched p maps xs ++ (touched (stage_value x.held) (passed_maps p maps xs) p.sites ∷ [])

-- and one that is amid its operations
abbrev pub now_touched : ProgramView → MapState → Option Packet → ℕ → List Touched
now_touched p maps None done = []
now_touched p maps (Some x) done = touched (stage_value x.held) maps (take done p.sites) ∷ []

-- by the number of the packet: of those that left or passed the commit place, and of the one there what is through
abbrev pub so_far : Build → MapState → List StageValues → (ℕ → TableState) → List (Option Packet) → ℕ → List Touched
so_far b maps left views places done =
    left_touched b.program maps left
    ++ (past_touched b.program (left_maps b.program maps left) (drop (suc b.plan.commit) places) ++ now_touched b.program (maps_of (views b.plan.commit)) (place_at places b.plan.commit) done)

abbrev pub written_by : List Touched → ℕ → List Resource
written_by ts i = (get_or ts i nothing).writes

-- one of the packets shortly before the one with this number wrote a resource
abbrev pub Wrote : Build → List Touched → ℕ → Resource → Type 0
Wrote b ts num r = (i : ℕ) × (i < num) × (num ≤ i + b.plan.last) × Contains (written_by ts i) r

-- A change that packet x has seen: it holds what it held then, and what the change changed was written; so was the value under any key that is behind its slot now.
pub record ChangeCauses (b : Build) (ts : List Touched) (tables : TableState) (num k : ℕ) (x : Packet) (se : Seen) : Type 0 where
  pub low : se.place ≤ k
  pub same : (c : ℕ) → (b.plan.row c ≤ se.place) ⊎ (length b.program.cells ≤ c) → SameCell se.held x.held c
  pub content : Wrote b ts num (Content se.change.map se.change.key)
  pub present : se.change.presence ≡ true → Wrote b ts num (Present se.change.map se.change.key) × Wrote b ts num (Size se.change.map)
  pub slot : (key : List ℕ) → has_key key (slot_at (table_at tables se.change.map) se.change.slot) ≡ true → Wrote b ts num (Content se.change.map key)

-- a place whose packet has committed nothing
abbrev pub Waits : Build → ℕ → ℕ → Type 0
Waits b done k = (k < b.plan.commit) ⊎ ((k ≡ b.plan.commit) × (done ≡ 0))

-- The packet at place k has the number of those that left or are older than it.
abbrev pub HaveChangeCausesIn : Build → MapState → List StageValues → (ℕ → TableState) → List (Option Packet) → ℕ → TableState → (ℕ → List Seen) → Type 0
HaveChangeCausesIn b maps left views places done tables seen =
    (k : ℕ) (x : Packet) → place_at places k ≡ Some x → Waits b done k → AllByRecursion (ChangeCauses b (so_far b maps left views places done) tables (length left + inside (drop (suc k) places)) k x) (seen k)

abbrev pub HaveChangeCauses : Build → MapState → SeenChanges → Type 0
HaveChangeCauses b maps w = let s = w.trace.state in HaveChangeCausesIn b maps w.trace.left w.views s.places s.done s.tables w.seen

-- While nothing is sent back and the host is silent a clock keeps this; and so it is before the first.
abbrev pub KeepsChangeCauses : Type 0
KeepsChangeCauses =
    (b : Build) (maps : MapState) → IsPipelinable maps.decls b → (i : Input) → i.host ≡ None → (w : SeenChanges) → IsInOrder b w.trace → IsSequential b maps w → some_send b 0 w.trace.state.places ≡ false
    → HaveChangeCauses b maps w → HaveChangeCauses b maps (observed b i w)

abbrev pub BeginsChangeCauses : Type 0
BeginsChangeCauses = (b : Build) (maps : MapState) → HaveChangeCauses b maps (watch_start b maps)

-- Where no runs of the frames conflict, a packet that has committed nothing reads, in any run on the maps as they are now, nothing that packets shortly before it wrote.
abbrev pub ReadsNothingWritten : Type 0
ReadsNothingWritten =
    (b : Build) (maps : MapState) → IsPipelinable maps.decls b → IsSound maps → (w : SeenChanges) → IsInOrder b w.trace → IsSequential b maps w
    → (later : List Arrival) → ((ts : List Touched) → AllRun b.program maps (w.trace.came ++ later) ts → ConflictFree (b.plan.last + 3) ts)
    → (k : ℕ) (x : Packet) → place_at w.trace.state.places k ≡ Some x → Waits b w.trace.state.done k
    → (v : ℕ → ℕ) → IsCellRun (packet_of (get_or w.trace.state.frames (inside (drop (suc k) w.trace.state.places)) no_frame)) (maps_of w.trace.state.tables) b.program v
    → (r : Resource) → Contains (touched v (maps_of w.trace.state.tables) b.program.sites).reads r
    → Wrote b (so_far b maps w.trace.left w.views w.trace.state.places w.trace.state.done) (length w.trace.left + inside (drop (suc k) w.trace.state.places)) r → ⊥
