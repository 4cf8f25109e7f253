-- How a run over a capture ends that writes each answer as it comes.
use Rattle.std.specs.Prelude.{◌≡◌, ◌≢◌, ℕ, ◌<◌, ◌≤◌, ◌^◌, IsTrue, List, [], ◌∷◌, ◌++◌, length, map, Contains, Result, Ok, Err, IfErr}
use Rattle.std.specs.List.{AllByRecursion}
use Rattle.shelf_core.specs.Shelf.{Rose}
use Rattle.beat_core.specs.Laws.{IsPacket}
use Rattle.beat_core.specs.declared.frame.Timed.{Timed}
use Rattle.beat_core.specs.declared.frame.TheConstants.{FRAME_LIMIT}
use Rattle.beat_core.specs.declared.answer.Answer.{Answer}
use Rattle.pcap_core.specs.Format.{Packet}
use Rattle.pcap_core.specs.Time.{time_of}
use Rattle.net_core.specs.Nets.{Netlist}
use Rattle.net_core.specs.Clock.{Stored}
use Rattle.net_core.specs.Trace.{stored_after}
use Rattle.net_core.specs.declared.tree.Net.TheVariants.{Wire}
use Rattle.realization.specs.History.{Answered, Stopped, OutOfClocks, answers_given, Drive}
use Rattle.port_drive.specs.Reports.{full_drive, given_in}
use Rattle.xdp_machine.specs.State.{Code, PacketIn, start}
use Rattle.xdp_machine.specs.Ranges.{IsInRange}
use Rattle.xdp_machine.specs.Runs.{Leaves, Ended, AreRuns, run}
use Rattle.xdp_maps.specs.State.{MapState, IsSound}
use Rattle.command_line.specs.Request.{Names}
use Rattle.capture_run.specs.States.{ShelfState, Changes, OneRose}
use Rattle.capture_run.specs.Writes.{Write, AreDone, OneFailed}
use Rattle.capture_run.specs.Results.{packet_writes, timed_packets}
use Rattle.capture_run.specs.declared.records.CaptureError.TheVariants.{Failed}
use Rattle.capture_run.specs.declared.error.RunError.{RunError}
use Rattle.capture_run.specs.declared.error.RunError.TheVariants.{Capture, Unwritten, X, Late, NoMemory}

-- the first of these writes were done, in their order, and none after them was begun
pub record SomeDone (ws : List Write) (old new : ShelfState) : Type 0 where
  pub done : List Write
  pub rest : List Write
  pub all : ws ≡ done ++ rest
  pub are : AreDone done old new

-- why a run ends early: a read of the capture failed, or a write of an output
abbrev pub EndsFor : List ℕ → List (List ℕ) → RunError → ShelfState → ShelfState → Type 0
EndsFor capture outputs (Capture Failed) old new = Rose (old.read_faults capture) (new.read_faults capture)
EndsFor capture outputs Unwritten old new = OneRose outputs old.write_faults new.write_faults
EndsFor capture outputs e old new = Unit {0}

-- whatever a shelf tells: no name but the outputs has changed, and faults were counted
pub record IsRunOver (capture : List ℕ) (outputs : List (List ℕ)) (result : Result (Unit {0}) RunError) (old new : ShelfState) : Type 0 where
  pub kept : Changes outputs old new
  pub cause : IfErr result (λ e. EndsFor capture outputs e old new)

-- the names of what is written while a capture is read
abbrev pub result_names : Names → List (List ℕ)
result_names names = names.answer ∷ names.verdicts ∷ []

-- what is written has other names than the capture, and than each other
pub record IsApart (names : Names) : Type 0 where
  pub capture_answer : names.capture ≢ names.answer
  pub capture_verdicts : names.capture ≢ names.verdicts
  pub answer_verdicts : names.answer ≢ names.verdicts

-- it ended early for what was read or written alone
abbrev pub IsPlainStop : RunError → Type 0
IsPlainStop (Capture e) = Unit {0}
IsPlainStop Unwritten = Unit {0}
IsPlainStop e = ⊥

-- ---- sequential execution
-- a packet of a capture, as the machine takes it
abbrev pub packet_in : ℕ → ℕ → Packet → PacketIn
packet_in ifindex magic p = record { frame = p.bytes; ifindex = ifindex; time = time_of magic p }

-- each run that starts in range ends within the steps that a run may take, and leaves maps in range
abbrev pub RunsEnd : Code → MapState → Type 0
RunsEnd code first = (packet : PacketIn) (maps : MapState) → maps.decls ≡ first.decls → IsInRange (start packet maps) → (e : Leaves) × (run code 1048576 (start packet maps) ≡ Ended e) × IsSound e.maps

-- what a packet is answered by what its run leaves
abbrev pub answer_left : Leaves → Answer
answer_left e = record { verdict = e.verdict; target = e.target; frame = e.frame }

abbrev pub answers_left : List Leaves → List Answer
answers_left leaves = map answer_left leaves

-- all answers were written, and these maps are left; or a write failed, or a read between two packets
abbrev pub AnswersOut : Result (Unit {0}) RunError → List Write → Type 0 → ShelfState → ShelfState → Type 0
AnswersOut (Ok u) ws left old new = left × AreDone ws old new
AnswersOut (Err Unwritten) ws left old new = OneFailed ws old new
AnswersOut (Err (Capture Failed)) ws left old new = SomeDone ws old new
AnswersOut (Err e) ws left old new = ⊥

-- The runs of these packets, one after another from these maps on, and how their answers went out.
pub record RunsOut (names : Names) (code : Code) (ifindex magic : ℕ) (packets : List Packet) (first last : MapState) (result : Result (Unit {0}) RunError) (old new : ShelfState) : Type 0 where
  pub leaves : List Leaves
  pub final : MapState
  pub runs : AreRuns code first (map (packet_in ifindex magic) packets) leaves final
  pub out : AnswersOut result (packet_writes names packets (answers_left leaves) (length (answers_left leaves))) (last ≡ final) old new

-- ---- a drive
-- a packet with the bytes of a frame, and a time of 64 bits
abbrev pub IsLegal : Timed → Type 0
IsLegal p = IsPacket p × (p.time < 2 ^ 64)

-- how a full drive of so many packets ended
abbrev pub EndsAs : Result (Unit {0}) RunError → Drive → ℕ → Type 0
EndsAs (Ok u) d count = d.ended ≡ Answered
EndsAs (Err (X x)) d count = (w : ℕ) × (d.ended ≡ Stopped w) × (x.net ≡ Wire w)
EndsAs (Err (Late answers frames)) d count = (d.ended ≡ OutOfClocks) × (answers ≡ length (answers_given [] d.trace)) × (frames ≡ count)
-- memory is asked for by an answer alone that is longer than a frame
EndsAs (Err NoMemory) d count = d.ended ≡ Answered → (answer : Answer) × Contains (answers_given [] d.trace) answer × (FRAME_LIMIT < length answer.frame)
EndsAs (Err e) d count = Unit {0}

abbrev pub LeavesAt : Result (Unit {0}) RunError → Netlist → Stored → Drive → Stored → Type 0
LeavesAt (Ok u) design first d last = last ≡ stored_after design first (given_in d.trace)
LeavesAt (Err e) design first d last = Unit {0}

-- A full drive of some packets, as many as the capture has: those that were read, and any for those that were not.
pub record DrivesSome (design : Netlist) (ifindex limit count : ℕ) (first last : Stored) (result : Result (Unit {0}) RunError) : Type 0 where
  pub packets : List Timed
  pub legal : AllByRecursion IsLegal packets
  pub many : length packets ≡ count
  pub ends : EndsAs result (full_drive design ifindex first packets limit) count
  pub leaves : LeavesAt result design first (full_drive design ifindex first packets limit) last

-- how its answers went out, where the shelf tells: all that there are, unless a write failed, a read, or memory ran out
abbrev pub DrivenOut : Result (Unit {0}) RunError → List Write → ShelfState → ShelfState → Type 0
DrivenOut (Ok u) ws old new = AreDone ws old new
DrivenOut (Err (X x)) ws old new = AreDone ws old new
DrivenOut (Err (Late answers frames)) ws old new = AreDone ws old new
DrivenOut (Err Unwritten) ws old new = OneFailed ws old new
DrivenOut (Err (Capture Failed)) ws old new = SomeDone ws old new
DrivenOut (Err NoMemory) ws old new = SomeDone ws old new
DrivenOut (Err e) ws old new = ⊥

-- The full drive of just these packets, and how its answers went out.
pub record DrivesOut (names : Names) (design : Netlist) (ifindex limit magic : ℕ) (packets : List Packet) (first last : Stored) (result : Result (Unit {0}) RunError) (old new : ShelfState) : Type 0 where
  pub ends : EndsAs result (full_drive design ifindex first (timed_packets magic packets) limit) (length packets)
  pub leaves : LeavesAt result design first (full_drive design ifindex first (timed_packets magic packets) limit) last
  pub out : let answers : List Answer = answers_given [] (full_drive design ifindex first (timed_packets magic packets) limit).trace in DrivenOut result (packet_writes names packets answers (length answers)) old new
