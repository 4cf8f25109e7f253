-- Packets that are given one at a time to one who drives a design by them, and the clocks that fit them.
use Rattle.std.specs.Prelude.{◌≡◌, ◌≢◌, ℕ, ⊤, ◌+◌, ◌<◌, ◌≤◌, List, [], ◌∷◌, ◌++◌, length, Option, Some, None, is_some, option_to_list, Bool, true, false, ◌&&◌, if◌then◌else◌, Result, Ok, Err}
use Rattle.std.specs.List.{flat_map}
use Rattle.beat_core.specs.declared.frame.Timed.{Timed}
use Rattle.beat_core.specs.declared.frame.TheConstants.{FRAME_LIMIT}
use Rattle.beat_core.specs.declared.answer.Answer.{Answer}
use Rattle.beat_core.specs.Beats.{bytes_of_beat}
use Rattle.beat_core.specs.Ports.{Offered, offers_of}
use Rattle.net_core.specs.Nets.{Netlist}
use Rattle.net_core.specs.Value.{number_of}
use Rattle.net_core.specs.Clock.{Stored, after, stopping}
use Rattle.net_core.specs.Ports.{words_of}
use Rattle.net_core.specs.Trace.{Cycle, cycle_of}
use Rattle.realization.specs.History.{goes_out, shown_beat, answers_given, drive_inputs, left_after, owed_after}
use Rattle.clock_sim.specs.Running.{stopped_net}
use Rattle.port_drive.specs.Reports.{reloads_in}
use Rattle.port_drive.specs.declared.report.DriveError.{DriveError}
use Rattle.port_drive.specs.declared.report.DriveError.TheVariants.{X, Late, NoMemory}
use Rattle.port_drive.specs.declared.turn.Turn.{Turn}
use Rattle.port_drive.specs.declared.turn.Turn.TheVariants.{Need, Done, Over}

-- ---- an answer, beat by beat
-- a clock takes the last beat of an answer
abbrev pub ends_answer : Cycle → Bool
ends_answer m = goes_out m && m.shown.out_last

-- the answer that has begun with these bytes and a clock ends, if it ends it
abbrev pub ended_by : List ℕ → Cycle → Option Answer
ended_by begun m =
    if ends_answer m then Some (record { verdict = m.shown.out_verdict; target = m.shown.out_target; frame = begun ++ bytes_of_beat (shown_beat m) }) else None

-- the bytes of the answer that has begun after a clock, and after a list of them
abbrev pub begun_next : List ℕ → Cycle → List ℕ
begun_next begun m =
    if goes_out m then (if m.shown.out_last then [] else begun ++ bytes_of_beat (shown_beat m)) else begun

abbrev pub begun_after : List ℕ → List Cycle → List ℕ
begun_after begun [] = begun
begun_after begun (m ∷ ms) = begun_after (begun_next begun m) ms

-- what is taken of answers: the bytes of the one that has begun, and the one that the last clock has ended, if any
pub record Taking : Type 0 where
  pub begun : List ℕ
  pub last : Option Answer

abbrev pub taken_in : List ℕ → Cycle → Taking
taken_in begun m = record { begun = begun_next begun m; last = ended_by begun m }

-- the bytes that are held
abbrev pub held_bytes : List ℕ → Option Answer → List ℕ
held_bytes begun None = begun
held_bytes begun (Some answer) = answer.frame

-- ---- the clocks of a drive
-- Clocks of a full drive, from what is stored and is left to offer to what is stored and left then.
abbrev pub Drives : Netlist → Stored → List Offered → List Cycle → Stored → List Offered → Type 0
Drives d s left [] s' left' = (s' ≡ s) × (left' ≡ left)
Drives d s left (m ∷ ms) s' left' =
    (stopping d (words_of (drive_inputs left)) s ≡ None) × (m ≡ cycle_of d s (drive_inputs left)) × Drives d (after d (words_of (drive_inputs left)) s) (left_after m left) ms s' left'

-- so many answers, of which one is owed before each clock
abbrev pub AreOwed : ℕ → List Cycle → Type 0
AreOwed owed [] = ⊤
AreOwed owed (m ∷ ms) = (0 < owed) × AreOwed (owed_after m owed) ms

-- ---- what the driver knows between two turns
pub record Driving : Type 0 where
  pub ifindex : ℕ
  pub limit : ℕ
  -- the packets that were given, and whether no more come
  pub given : ℕ
  pub ended : Bool
  -- the answers that were taken whole, the clocks that were run, and those in which a packet was sent back
  pub answers : ℕ
  pub clocks : ℕ
  pub reloads : ℕ
  -- the beats still to offer
  pub left : List Offered
  -- what is taken of answers
  pub begun : List ℕ
  pub last : Option Answer

-- before the first packet
abbrev pub undriven : ℕ → ℕ → Driving
undriven ifindex limit = record {
  ifindex = ifindex;
  limit = limit;
  given = 0;
  ended = false;
  answers = 0;
  clocks = 0;
  reloads = 0;
  left = [];
  begun = [];
  last = None;
}

-- after a packet more
abbrev pub with_packet : Driving → Timed → Driving
with_packet v p = record v { given = v.given + 1; left = offers_of v.ifindex p }

-- after a clock
abbrev pub clocked : Driving → Cycle → Driving
clocked v m = record v {
  answers = v.answers + number_of (ends_answer m);
  clocks = v.clocks + 1;
  reloads = v.reloads + number_of m.shown.out_reload;
  left = left_after m v.left;
  begun = begun_next v.begun m;
  last = ended_by v.begun m;
}

-- How many answers are owed in all, so that each clock comes before the last of them: as many as packets were given,
-- where no more come; else one more than were taken, unless the last clock took one.
abbrev pub owed_in_all : Driving → ℕ
owed_in_all v = if v.ended then v.given else (if is_some v.last then v.answers else v.answers + 1)

-- Packets and clocks fit: the clocks are a full drive so far of these packets, and of any that may follow them; and
-- the driver has their counts, their beats still to offer, and their unfinished answer.
pub record Fits (v : Driving) (d : Netlist) (first s : Stored) (packets : List Timed) (ms : List Cycle) : Type 0 where
  pub drives : (more : List Timed) → (v.ended ≡ true → more ≡ []) → Drives d first (flat_map (offers_of v.ifindex) (packets ++ more)) ms s (v.left ++ flat_map (offers_of v.ifindex) more)
  pub owed : AreOwed (owed_in_all v) ms
  pub given : v.given ≡ length packets
  pub answers : v.answers ≡ length (answers_given [] ms)
  pub begun : v.begun ≡ begun_after [] ms
  pub clocks : v.clocks ≡ length ms
  pub reloads : v.reloads ≡ reloads_in ms

-- whatever fitted before fits with these clocks more
abbrev pub FitsOn : Driving → Driving → Netlist → Stored → Stored → List Cycle → Type 0
FitsOn old new d s s' ms = (first : Stored) (packets : List Timed) (before : List Cycle) → Fits old d first s packets before → Fits new d first s' packets (before ++ ms)

-- ---- a turn
-- neither is a packet needed nor is the drive over
pub record IsGoing (v : Driving) : Type 0 where
  pub offers : v.left ≡ [] → v.ended ≡ true
  pub owes : v.ended ≡ true → v.answers ≢ v.given

-- the turn that is due before a clock
abbrev pub IsDue : Option Turn → Driving → Type 0
IsDue (Some Need) v = (v.left ≡ []) × (v.ended ≡ false)
IsDue (Some Done) v = ⊥
IsDue (Some Over) v = (v.ended ≡ true) × (v.answers ≡ v.given)
IsDue None v = IsGoing v

-- what holds where a turn has come, and which answers its clocks gave: its last clock ended one, where it is Done
abbrev pub EndsTurn : Driving → Netlist → Stored → List Answer → Result Turn DriveError → Type 0
EndsTurn v d s answers (Ok Need) = (answers ≡ []) × IsDue (Some Need) v
EndsTurn v d s answers (Ok Over) = (answers ≡ []) × IsDue (Some Over) v
EndsTurn v d s answers (Ok Done) = (answer : Answer) × (v.last ≡ Some answer) × (answers ≡ answer ∷ [])
EndsTurn v d s answers (Err (X x)) = (answers ≡ []) × IsGoing v × (v.clocks < v.limit) × (stopped_net d (words_of (drive_inputs v.left)) s ≡ Some x.net)
EndsTurn v d s answers (Err (Late some packets clocks)) =
    (answers ≡ []) × IsGoing v × (v.clocks ≡ v.limit) × (some ≡ v.answers) × (packets ≡ v.given) × (clocks ≡ v.limit)
EndsTurn v d s answers (Err NoMemory) = ⊥

-- the clocks of a turn
pub record TurnOf (old new : Driving) (d : Netlist) (s s' : Stored) (result : Result Turn DriveError) : Type 0 where
  pub clocks : List Cycle
  pub fits : FitsOn old new d s s' clocks
  pub ends : EndsTurn new d s' (answers_given old.begun clocks) result

-- what no clock changes
pub record IsSameDrive (old new : Driving) : Type 0 where
  pub ifindex : new.ifindex ≡ old.ifindex
  pub limit : new.limit ≡ old.limit
  pub given : new.given ≡ old.given
  pub ended : new.ended ≡ old.ended

-- The same where an answer has become longer than a frame: the one that the last clock has ended, or else the one that has begun.
pub record OutgrowsFrame (old : Driving) (d : Netlist) (s s' : Stored) : Type 0 where
  pub clocks : List Cycle
  pub new : Driving
  pub fits : FitsOn old new d s s' clocks
  pub same : IsSameDrive old new
  pub within : new.clocks ≤ new.limit
  pub gave : answers_given old.begun clocks ≡ option_to_list new.last
  pub longer : FRAME_LIMIT < length (held_bytes new.begun new.last)

abbrev pub Turns : Driving → Driving → Netlist → Stored → Stored → Result Turn DriveError → Type 0
Turns old new d s s' (Err NoMemory) = OutgrowsFrame old d s s'
Turns old new d s s' (Ok turn) = TurnOf old new d s s' (Ok turn)
Turns old new d s s' (Err (X x)) = TurnOf old new d s s' (Err (X x))
Turns old new d s s' (Err (Late some packets clocks)) = TurnOf old new d s s' (Err (Late some packets clocks))

-- ---- a clock
-- the clock that comes next does not stop, and this is stored after it
pub record RunsOn (v : Driving) (d : Netlist) (s s' : Stored) : Type 0 where
  pub runs : stopping d (words_of (drive_inputs v.left)) s ≡ None
  pub stored : s' ≡ after d (words_of (drive_inputs v.left)) s

abbrev pub next_cycle : Driving → Netlist → Stored → Cycle
next_cycle v d s = cycle_of d s (drive_inputs v.left)

-- One clock was run, and whether it ended an answer is said; or it stopped, and nothing changed; or the answer has become
-- longer than a frame, and there was no memory for it.
abbrev pub ClocksOn : Driving → Driving → Netlist → Stored → Stored → Result Bool DriveError → Type 0
ClocksOn old new d s s' (Ok ended) = RunsOn old d s s' × (new ≡ clocked old (next_cycle old d s)) × (ended ≡ ends_answer (next_cycle old d s))
ClocksOn old new d s s' (Err (X x)) = (new ≡ old) × (s' ≡ s) × (stopped_net d (words_of (drive_inputs old.left)) s ≡ Some x.net)
ClocksOn old new d s s' (Err NoMemory) =
    RunsOn old d s s' × (FRAME_LIMIT < length (held_bytes (begun_next old.begun (next_cycle old d s)) (ended_by old.begun (next_cycle old d s))))
ClocksOn old new d s s' (Err (Late answers packets clocks)) = ⊥
