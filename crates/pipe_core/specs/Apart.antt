-- Packets without conflicts: what the runs of frames touch, one after another, and when none of them reads what one shortly before it wrote.
use Rattle.std.specs.Prelude.{◌≡◌, ℕ, zero, suc, ◌+◌, ◌*◌, ◌^◌, ◌<◌, ◌≤◌, true, false, Some, None, List, [], ◌∷◌, ◌++◌, length, take, Contains}
use Rattle.std.specs.List.{flat_map, AllByRecursion}
use Rattle.realization.specs.beat_core.declared.beat.Beat.{Beat}
use Rattle.realization.specs.beat_core.Beats.{beats_of}
use Rattle.realization.specs.beat_core.Laws.{IsFrame}
use Rattle.hazard_core.specs.xdp_maps.declared.decl.MapDecl.{MapDecl}
use Rattle.hazard_core.specs.xdp_maps.State.{MapState, IsSound}
use Rattle.hazard_core.specs.xdp_maps.Touched.{Resource, SameOf}
use Rattle.hazard_core.specs.xdp_machine.State.{PacketIn}
use Rattle.hazard_core.specs.xdp_machine.Touched.{Touched}
use Rattle.hazard_core.specs.cell_core.Cells.{cell_at, is_read, site_in, on}
use Rattle.hazard_core.specs.cell_core.Sites.{ProgramView, IsCellRun, site_at, after, touched}
use Rattle.hazard_core.specs.cell_core.Formed.{AreFormed, AllFit, AreSited}
use Rattle.realization.specs.beat_core.Ports.{Arrival}
use Rattle.realization.specs.Bounds.{all_writing}
use Rattle.pipe_core.specs.Machine.{Build, Input, packet_of, new_state}
use Rattle.pipe_core.specs.History.{run, begin}
use Rattle.pipe_core.specs.Agreement.{ReadsArePlanned}
use Rattle.pipe_core.specs.Pipeable.{IsPipelinable}
use Rattle.pipe_core.specs.Drive.{Beside, drive, drive_start, clocks_of, beats_in}
use Rattle.pipe_core.specs.Forward.{GoesForward, commits_in}

-- These frames are run one after another, each on the maps that the one before it left, and touch this.
abbrev pub AllRun : ProgramView → MapState → List Arrival → List Touched → Type 0
AllRun p maps [] [] = Unit {0}
AllRun p maps [] (t ∷ ts) = ⊥
AllRun p maps (c ∷ cs) [] = ⊥
AllRun p maps (c ∷ cs) (t ∷ ts) = (v : ℕ → ℕ) × IsCellRun (packet_of c) maps p v × (touched v maps p.sites ≡ t) × AllRun p (after v maps p.sites) cs ts

-- none of the resources that are read is written
abbrev pub AreOthers : List Resource → List Resource → Type 0
AreOthers reads writes = (r : Resource) → Contains reads r → Contains writes r → ⊥

-- the next n runs read nothing of what is written
abbrev pub ReadOthers : ℕ → List Resource → List Touched → Type 0
ReadOthers zero writes ts = Unit {0}
ReadOthers (suc n) writes [] = Unit {0}
ReadOthers (suc n) writes (t ∷ ts) = AreOthers t.reads writes × ReadOthers n writes ts

-- no run reads what one of the n before it wrote
abbrev pub ConflictFree : ℕ → List Touched → Type 0
ConflictFree n [] = Unit {0}
ConflictFree n (t ∷ ts) = ReadOthers n t.writes ts × ConflictFree n ts

-- ---- the full drive

-- In a drive of which the frames are all answered in time if more clocks follow, no more operations are committed than the runs of these frames write.
abbrev pub CommitsAreWrites : Type 0
CommitsAreWrites =
    (b : Build) (maps : MapState) → IsPipelinable maps.decls b → IsSound maps → b.slots ≡ b.plan.last + 4 → (frames : List (List ℕ)) → AllByRecursion IsFrame frames → (clocks more : List Beside) → clocks_of b frames ≤ length (clocks ++ more) + 1
    → (q : ℕ) → ((ts : List Touched) → AllRun b.program maps (drive b (clocks ++ more) (drive_start b maps frames)).trace.came ts → all_writing ts ≤ q)
    → commits_in b clocks (drive_start b maps frames) ≤ q

-- So it is in one that begins late, after any clocks with a silent host.
abbrev pub LateCommitsAreWrites : Type 0
LateCommitsAreWrites =
    (b : Build) (maps : MapState) → IsPipelinable maps.decls b → IsSound maps → b.slots ≡ b.plan.last + 4 → (is : List Input) → AllByRecursion (λ i. i.host ≡ None) is
    → (frames : List (List ℕ)) → AllByRecursion IsFrame frames → (left : List Beat) → beats_in b is (new_state b maps) ++ left ≡ flat_map beats_of frames
    → (clocks more : List Beside) → clocks_of b frames + b.plan.last + 2 ≤ length (clocks ++ more) + 1
    → (q : ℕ) → ((ts : List Touched) → AllRun b.program maps (drive b (clocks ++ more) (record { left = left; trace = run b is (begin b maps) })).trace.came ts → all_writing ts ≤ q)
    → commits_in b clocks (record { left = left; trace = run b is (begin b maps) }) ≤ q

-- So if nothing is sent back these clocks suffice: each beat counts one in and one out, each frame one more and one for each operation of its run that
-- writes, and the places count once.
abbrev pub EndsUnsent : Type 0
EndsUnsent =
    (b : Build) (maps : MapState) → IsPipelinable maps.decls b → IsSound maps → b.slots ≡ b.plan.last + 4 → (frames : List (List ℕ)) → AllByRecursion IsFrame frames → (clocks more : List Beside) → clocks_of b frames ≤ length (clocks ++ more) + 1
    → GoesForward b clocks (drive_start b maps frames)
    → (q : ℕ) → ((ts : List Touched) → AllRun b.program maps (drive b (clocks ++ more) (drive_start b maps frames)).trace.came ts → all_writing ts ≤ q)
    → 2 * length (flat_map beats_of frames) + length frames + b.plan.last + 1 + q ≤ length clocks
    → length (drive b clocks (drive_start b maps frames)).trace.gave ≡ length frames

-- ---- runs of the cells

-- A run on maps is one on all others that show the same of what it reads, and touches the same there.
abbrev pub RunsElsewhere : Type 0
RunsElsewhere =
    (b : Build) → ReadsArePlanned b → (packet : PacketIn) (maps other : MapState) (v : ℕ → ℕ) → other.decls ≡ maps.decls → IsSound maps → IsSound other → AllFit maps.decls b.program.sites → IsCellRun packet maps b.program v
    → ((r : Resource) → Contains (touched v maps b.program.sites).reads r → SameOf maps other r)
    → IsCellRun packet other b.program v × (touched v other b.program.sites ≡ touched v maps b.program.sites)

-- Whatever the reads off the path are to be, if they fit there is a run with these, and only one.
pub record IsCompleted (p : ProgramView) (packet : PacketIn) (maps : MapState) (given v : ℕ → ℕ) : Type 0 where
  pub run : IsCellRun packet maps p v
  pub aside : (k j : ℕ) → k < length p.cells → site_in (cell_at p.cells k).op ≡ Some j → on (v (site_at p.sites j).guard) ≡ false → v k ≡ given k

abbrev pub RunsComplete : Type 0
RunsComplete =
    (decls : List MapDecl) (p : ProgramView) → AreFormed p.cells → AreSited decls p → (packet : PacketIn) (maps : MapState) (given : ℕ → ℕ)
    → ((k : ℕ) → k < length p.cells → is_read (cell_at p.cells k).op ≡ true → given k < 2 ^ (cell_at p.cells k).width)
    → (v : ℕ → ℕ) × IsCompleted p packet maps given v × ((w : ℕ → ℕ) → IsCompleted p packet maps given w → (k : ℕ) → k < length p.cells → w k ≡ v k)

-- ---- runs ahead

-- these frames are run one after another, touch this, and lead to these maps
abbrev pub Leads : ProgramView → MapState → List Arrival → List Touched → MapState → Type 0
Leads p maps [] [] last = last ≡ maps
Leads p maps [] (t ∷ ts) last = ⊥
Leads p maps (c ∷ cs) [] last = ⊥
Leads p maps (c ∷ cs) (t ∷ ts) last = (v : ℕ → ℕ) × IsCellRun (packet_of c) maps p v × (touched v maps p.sites ≡ t) × Leads p (after v maps p.sites) cs ts last

-- Once the frames between have been run, this is a run in its turn too, and touches the same as it did in the midst.
pub record RunsInTurnToo (p : ProgramView) (packet : PacketIn) (midst left : MapState) (between : List Arrival) (v : ℕ → ℕ) : Type 0 where
  pub ts : List Touched
  pub action : MapState
  pub leads : Leads p left between ts action
  pub run : IsCellRun packet action p v
  pub touches : touched v midst p.sites ≡ touched v action p.sites

-- Where no runs of these frames conflict, a packet that runs ahead, on maps in the midst of the operations of one fewer than n before it, does so in its turn too.
abbrev pub InTurnToo : Type 0
InTurnToo =
    (b : Build) (maps : MapState) → ReadsArePlanned b → AllFit maps.decls b.program.sites → AreSited maps.decls b.program → IsSound maps
    → (n : ℕ) (before : List Arrival) (w : Arrival) (between : List Arrival) (y : Arrival) (later : List Arrival)
    → ((ts : List Touched) → AllRun b.program maps (before ++ (w ∷ (between ++ (y ∷ later)))) ts → ConflictFree n ts) → length between < n
    → (first : List Touched) (m : MapState) → Leads b.program maps before first m → (u : ℕ → ℕ) → IsCellRun (packet_of w) m b.program u
    → (s : ℕ) (v : ℕ → ℕ) → IsCellRun (packet_of y) (after u m (take s b.program.sites)) b.program v
    → RunsInTurnToo b.program (packet_of y) (after u m (take s b.program.sites)) (after u m b.program.sites) between v
