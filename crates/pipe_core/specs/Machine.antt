-- The pipe as a machine: a record of state, and what one clock makes of it. All that a clock decides it decides from the state
-- before it.
use Rattle.std.specs.Prelude.{ℕ, suc, ◌+◌, ◌-◌, ◌*◌, ◌%◌, ◌^◌, nat_lt, nat_le, Bool, true, false, not, ◌&&◌, ◌||◌, if◌then◌else◌, Option, Some, None, is_some, List, [], ◌∷◌, ◌++◌, length, drop, replicate, map as map_list}
use Rattle.std.specs.List.{list_any, find}
use Rattle.std.specs.Option.{option_map}
use Rattle.std.proofs.Common.{get_or}
use Rattle.realization.specs.beat_core.declared.beat.Beat.{Beat}
use Rattle.realization.specs.beat_core.declared.answer.Answer.{Answer}
use Rattle.realization.specs.beat_core.Beats.{first_beat}
use Rattle.realization.specs.beat_core.Ports.{Arrival, arrived, offered}
use Rattle.hazard_core.specs.xdp_maps.State.{MapState}
use Rattle.hazard_core.specs.xdp_machine.State.{PacketIn}
use Rattle.hazard_core.specs.cell_core.Cells.{bit}
use Rattle.hazard_core.specs.cell_core.Sites.{ProgramView, site_at, with_bytes}
use Rattle.hazard_core.specs.cell_core.Rows.{numbers}
use Rattle.hazard_core.specs.Tables.{TableState, table_at, slot_at, tables_of}
use Rattle.hazard_core.specs.StageValues.{StageValues, stage_value, Plan, writes}
use Rattle.hazard_core.specs.Rows.{with_row, nothing_held}
use Rattle.hazard_core.specs.declared.change.Change.{Change}
use Rattle.hazard_core.specs.Marks.{known_on, known_off, is_marked}
use Rattle.hazard_core.specs.declared.access.Access.{Access}
use Rattle.hazard_core.specs.Commits.{committed, taken_after, change_by, word_in, shown_to_host, may_write, host_written, host_change}

-- ---- the state

-- a packet in a place: what it holds of the cells, and of each site whether what it read there may have changed since
pub record Packet : Type 0 where
  pub held : StageValues
  pub marks : List Bool

pub record State : Type 0 where
  pub tables : TableState
  -- the answers that are not given wholly, the oldest first, and how many beats of the first are given
  pub answers : List Answer
  pub pos : ℕ
  -- the frames without an answer, the oldest first: those of the packets in the places, and after them those that wait
  pub frames : List Arrival
  -- the frame of which the last beat has not come
  pub part : Option Arrival
  -- from place 0 on, where the youngest packets are
  pub places : List (Option Packet)
  -- of the packet at the commit place: the sites below this number are through
  pub done : ℕ
  -- by site, the slot that an update has taken
  pub taken : List ℕ
  -- how many packets have left the commit place, modulo 2 ^ 32
  pub passed : ℕ

-- what comes in a clock: a beat that is offered, the interface and the time beside it, whether a beat that is shown is taken,
-- and an access of the host
pub record Input : Type 0 where
  pub beat : Option Beat
  pub ifindex : ℕ
  pub time : ℕ
  pub take : Bool
  pub host : Option Access

pub record Output : Type 0 where
  pub ready : Bool
  pub beat : Option Beat
  pub verdict : ℕ
  pub target : ℕ
  -- how many packets are sent back in this clock
  pub reloaded : ℕ
  pub host_ready : Bool
  pub host_value : ℕ
  pub host_passed : ℕ

-- a program, its plan of rows, and how many frames there is room for
pub record Build : Type 0 where
  pub program : ProgramView
  pub plan : Plan
  pub slots : ℕ

-- before the first clock
abbrev pub new_state : Build → MapState → State
new_state b maps = record {
  tables = tables_of maps;
  answers = [];
  pos = 0;
  frames = [];
  part = None;
  places = replicate (suc b.plan.last) None;
  done = 0;
  taken = replicate (length b.program.sites) 0;
  passed = 0;
}

-- ---- packets in places

abbrev pub site_numbers : ProgramView → List ℕ
site_numbers p = numbers 0 (length p.sites)

abbrev pub marked_at : Packet → ℕ → Bool
marked_at x j = get_or x.marks j false

abbrev pub place_at : List (Option Packet) → ℕ → Option Packet
place_at places k = get_or places k None

-- how many packets there are
abbrev pub inside : List (Option Packet) → ℕ
inside [] = 0
inside (None ∷ places) = inside places
inside (Some x ∷ places) = suc (inside places)

abbrev pub no_frame : Arrival
no_frame = record { ifindex = 0; time = 0; frame = [] }

abbrev pub packet_of : Arrival → PacketIn
packet_of c = record { frame = c.frame; ifindex = c.ifindex; time = c.time }

-- a packet at its injection
abbrev pub injected : ProgramView → Packet
injected p = record { held = nothing_held p; marks = replicate (length p.sites) false }

-- A packet enters place k: it takes in row k, and loses the marks whose guard is now known as 0.
abbrev pub with_kept_marks : Build → ℕ → StageValues → Packet → Packet
with_kept_marks b k h x = record {
  held = h;
  marks = map_list (λ j. marked_at x j && not (known_off b.plan.row k h (site_at b.program.sites j))) (site_numbers b.program);
}

unfoldable pub entered : Build → TableState → ℕ → Arrival → Packet → Packet
entered b t k c x = with_kept_marks b k (with_row b.program b.plan.row k t (packet_of c) x.held) x

-- A change marks a packet at place k.
unfoldable pub marked_by : Build → TableState → ℕ → Change → Packet → Packet
marked_by b t k e x =
    record x { marks = map_list (λ j. marked_at x j || is_marked b.program b.plan.row t.decls k x.held e j) (site_numbers b.program) }

-- A mark whose guard is known as 1 sends the packet back.
unfoldable pub must_reload : Build → ℕ → Packet → Bool
must_reload b k x = list_any (λ j. marked_at x j && known_on b.plan.row k x.held (site_at b.program.sites j)) (site_numbers b.program)

-- ---- sending back

-- place k sends back: no place past the commit place does
abbrev pub sends : Build → ℕ → Option Packet → Bool
sends b k None = false
sends b k (Some x) = nat_le k b.plan.commit && must_reload b k x

-- one of these places, from place k on, sends back
abbrev pub some_send : Build → ℕ → List (Option Packet) → Bool
some_send b k [] = false
some_send b k (x ∷ xs) = sends b k x || some_send b (suc k) xs

-- Where a place sends back, it and all younger ones are emptied.
abbrev pub flushed : Build → ℕ → List (Option Packet) → List (Option Packet)
flushed b k [] = []
flushed b k (x ∷ xs) = (if some_send b k (x ∷ xs) then None else x) ∷ flushed b (suc k) xs

-- ---- moving on

abbrev pub enters : Build → TableState → ℕ → Arrival → Option Packet → Option Packet
enters b t k c None = None
enters b t k c (Some x) = Some (entered b t k c x)

-- Each packet moves one place on, x into place k; its frame is that after the frames of the older ones.
abbrev pub moved : Build → TableState → List Arrival → ℕ → Option Packet → List (Option Packet) → List (Option Packet)
moved b t frames k x [] = []
moved b t frames k x (y ∷ ys) = enters b t k (get_or frames (inside (y ∷ ys)) no_frame) x ∷ moved b t frames (suc k) y ys

-- the next frame that waits is injected, where nothing is sent back
abbrev pub newcomer : Build → Bool → List Arrival → List (Option Packet) → Option Packet
newcomer b back frames rest = if not back && nat_lt (inside rest) (length frames) then Some (injected b.program) else None

-- what a packet answers whose frame this is
abbrev pub answer_of : ProgramView → StageValues → Arrival → Answer
answer_of p h c = record {
  verdict = stage_value h p.verdict;
  target = stage_value h p.target;
  frame = with_bytes (stage_value h) c.frame p.frame;
}

-- the packet that leaves the last place answers the oldest frame
abbrev pub answers_by : ProgramView → List Arrival → Option Packet → List Answer
answers_by p frames None = []
answers_by p frames (Some x) = answer_of p x.held (get_or frames 0 no_frame) ∷ []

-- ---- the commit place

-- a change marks the packets below a place
abbrev pub marked_below : ℕ → Build → TableState → Change → ℕ → List (Option Packet) → List (Option Packet)
marked_below to b t e k [] = []
marked_below to b t e k (x ∷ xs) = (if nat_lt k to then option_map (marked_by b t k e) x else x) ∷ marked_below to b t e (suc k) xs

-- the least site that is not through whose operation writes
abbrev pub chosen : Build → TableState → ℕ → Packet → Option ℕ
chosen b t done x = find (λ j. nat_le done j && writes b.program t.decls x.held j) (site_numbers b.program)

-- ---- the host

-- no frame is inside, or has begun
abbrev pub is_idle : State → Bool
is_idle s = not (is_some s.part) && nat_lt (length s.answers + length s.frames) 1

-- The host has to wait while the packet at the commit place is amid its operations.
abbrev pub host_ready : Build → State → Bool
host_ready b s = is_idle s || not (is_some (place_at s.places b.plan.commit) && nat_lt 0 s.done)

abbrev pub written_if : Bool → Access → Option ℕ → Option (Access × ℕ)
written_if false a n = None
written_if true a None = None
written_if true a (Some n) = Some (a, n)

-- what the host is to write in this clock
abbrev pub host_writes : Bool → Bool → TableState → Option Access → Option (Access × ℕ)
host_writes ready idle t None = None
host_writes ready idle t (Some a) = written_if (ready && may_write idle (slot_at (table_at t a.map) a.index) (word_in t a)) a a.write

-- ---- one clock

-- what a clock does: it commits an operation of a packet, lets the host write, or moves the packets on
pub data Action : Type 0 where
  Commits : (j : ℕ) (x : Packet) → Action
  Writes : (a : Access) (n : ℕ) → Action
  Moves : Action

abbrev pub commits_as : Packet → Option ℕ → Action
commits_as x None = Moves
commits_as x (Some j) = Commits j x

abbrev pub commits_or_moves : Build → State → Option Packet → Action
commits_or_moves b s None = Moves
commits_or_moves b s (Some x) = commits_as x (chosen b s.tables s.done x)

abbrev pub action_as : Build → State → List (Option Packet) → Option (Access × ℕ) → Action
action_as b s rest (Some w) = Writes w.0 w.1
action_as b s rest None = commits_or_moves b s (place_at rest b.plan.commit)

abbrev pub action_of : Build → Input → State → List (Option Packet) → Action
action_of b i s rest = action_as b s rest (host_writes (host_ready b s) (is_idle s) s.tables i.host)

abbrev pub worked : Build → State → Bool → List (Option Packet) → Action → State
worked b s back rest (Commits j x) = record s {
  tables = committed b.program s.tables s.taken x.held j;
  taken = taken_after b.program s.tables s.taken x.held j;
  done = suc j;
  places = marked_below b.plan.commit b s.tables (change_by b.program s.tables s.taken x.held j) 0 rest;
}
worked b s back rest (Writes a n) = record s {
  tables = host_written s.tables a n;
  places = marked_below (suc b.plan.commit) b s.tables (host_change s.tables a) 0 rest;
}
worked b s back rest Moves = record s {
  answers = s.answers ++ answers_by b.program s.frames (place_at rest b.plan.last);
  frames = drop (bit (is_some (place_at rest b.plan.last))) s.frames;
  places = moved b s.tables s.frames 0 (newcomer b back s.frames rest) rest;
  done = 0;
  passed = (s.passed + bit (is_some (place_at rest b.plan.commit))) % 2 ^ 32;
}

-- the places, maps and answers after a clock
unfoldable pub work : Build → Input → State → State
work b i s = let rest = flushed b 0 s.places in worked b s (some_send b 0 s.places) rest (action_of b i s rest)

-- ---- beats

abbrev pub is_ready : Build → State → Bool
is_ready b s = is_some s.part || nat_lt (length s.answers + length s.frames) b.slots

-- the beat that goes over inwards
abbrev pub beat_over : Build → State → Input → Option Beat
beat_over b s i = if is_ready b s then i.beat else None

-- what has come of a frame after one more beat
abbrev pub came_with : Option Arrival → Input → Beat → Arrival
came_with part i b = arrived part (offered i.ifindex i.time b)

-- A frame waits once its last beat has come.
abbrev pub gathered : State → Input → Option Beat → State
gathered s i None = s
gathered s i (Some b) =
    if b.last
    then record s { frames = s.frames ++ came_with s.part i b ∷ []; part = None }
    else record s { part = Some (came_with s.part i b) }

-- the next beat of the oldest answer
abbrev pub beat_at : ℕ → List Answer → Option Beat
beat_at pos [] = None
beat_at pos (a ∷ more) = Some (first_beat (drop (8 * pos) a.frame))

abbrev pub shown_beat : State → Option Beat
shown_beat s = beat_at s.pos s.answers

-- the beat that goes over outwards
abbrev pub taken_beat : State → Input → Option Beat
taken_beat s i = if i.take then shown_beat s else None

-- An answer goes with its last beat.
abbrev pub scattered : State → Option Beat → State
scattered s None = s
scattered s (Some b) = if b.last then record s { answers = drop 1 s.answers; pos = 0 } else record s { pos = suc s.pos }

-- ---- the whole clock

unfoldable pub clock : Build → Input → State → State
clock b i s = scattered (gathered (work b i s) i (beat_over b s i)) (taken_beat s i)

abbrev pub first_answer : List Answer → Answer
first_answer [] = record { verdict = 0; target = 0; frame = [] }
first_answer (a ∷ more) = a

abbrev pub host_value : Bool → TableState → Option Access → ℕ
host_value ready t None = 0
host_value ready t (Some a) = if ready then shown_to_host t a else 0

-- what is shown in the clock
unfoldable pub output : Build → Input → State → Output
output b i s = record {
  ready = is_ready b s;
  beat = shown_beat s;
  verdict = (first_answer s.answers).verdict;
  target = (first_answer s.answers).target;
  reloaded = inside s.places - inside (flushed b 0 s.places);
  host_ready = host_ready b s;
  host_value = host_value (host_ready b s) s.tables i.host;
  host_passed = s.passed;
}
