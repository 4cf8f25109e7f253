-- What the steps of a command give each other.
use Rattle.std.specs.Prelude.{◌≡◌, ◌≢◌, ◌⊎◌, ℕ, ◌<◌, ◌≤◌, ◌^◌, IsTrue, List, [], ◌∷◌, ◌++◌, length, map, All, Option, Some, None, Result, Ok, Err, IfErr}
use Rattle.std.specs.declared.vec.Vec.{Vec}
use Rattle.std.specs.declared.alloc.Global.{Global}
use Rattle.std.specs.List.{AllByRecursion}
use Rattle.shelf_core.specs.Shelf.{Rose}
use Rattle.beat_core.specs.declared.frame.Timed.{Timed}
use Rattle.pcap_core.specs.Format.{Packet}
use Rattle.net_core.specs.Nets.{Netlist}
use Rattle.net_core.specs.Names.{name_of}
use Rattle.net_core.specs.Clock.{Stored}
use Rattle.net_core.specs.Trace.{stored_after}
use Rattle.port_drive.specs.realization.History.{Drive, Answered, answers_given}
use Rattle.port_drive.specs.realization.HostHistory.Host.{ShowsMaps}
use Rattle.port_drive.specs.realization.Bounds.{clock_bound, most_beats}
use Rattle.port_drive.specs.Reports.{full_drive, given_in}
use Rattle.clock_sim.specs.Running.{IsNamed}
use Rattle.beat_core.specs.declared.answer.Answer.{Answer}
use Rattle.port_drive.specs.declared.report.DriveError.{DriveError}
use Rattle.port_drive.specs.declared.report.DriveError.TheVariants as drive
use Rattle.xdp_object.specs.xdp_machine.Program.{XdpProgram}
use Rattle.xdp_object.specs.Choice.{Chosen}
use Rattle.xdp_object.specs.Object.{IsObject}
use Rattle.xdp_maps.specs.declared.decl.MapDecl.{MapDecl}
use Rattle.xdp_maps.specs.Contents.{IsWithinLimits}
use Rattle.xdp_maps.specs.State.{MapState, opened_state}
use Rattle.maps_text.specs.Text.{IsMapsText}
use Rattle.maps_text.specs.Writing.{text_of}
use Rattle.ehdl_build.specs.declared.built.Built.{Built}
use Rattle.ehdl_build.specs.Compiled.{HasSize, IsSequential, Realizes, size_of}
use Rattle.xdp_object.specs.xdp_machine.Program.{IsProgram}
use Rattle.kind_core.specs.declared.kind.Offsets.TheVariants as offsets
use Rattle.unfold_core.specs.declared.unfolding.Unfolded.{Unfolded}
use Rattle.unfold_core.specs.Unfolding.{IsUnfolded}
use Rattle.row_rules.specs.NodeRows.Rows.{HasStages}
use Rattle.prepare_core.specs.declared.preparing.Prepared.{Prepared}
use Rattle.prepare_core.specs.Prepared.{IsGivenFor}
use Rattle.command_line.specs.Request.{Request, AskCompile, AskRun, AskSim, AskRef, AskReport, AskPrepare, AskDemo, Names}
use Rattle.capture_run.specs.States.{ShelfState, SinkState, Changes, OneRose, IsLaterSink}
use Rattle.capture_run.specs.Captures.{IsCaptured, HoldsCapture}
use Rattle.capture_run.specs.Runs.{SomeDone, IsLegal}
use Rattle.capture_run.specs.declared.records.Survey.{Survey}
use Rattle.capture_run.specs.declared.records.CaptureError.{CaptureError}
use Rattle.capture_run.specs.declared.records.CaptureError.TheVariants as capture
use Rattle.capture_run.specs.declared.error.RunError.{RunError}
use Rattle.capture_run.specs.declared.error.RunError.TheVariants as runs
use Rattle.ehdl_top.specs.Forms.{InputForm, IsFaulty, IsTaken, IsRefusedBy, built, accepted, IsTextFault, maps_form}
use Rattle.ehdl_top.specs.Inputs.{FirstStop, OneUnread, EndsAtInput}
use Rattle.capture_run.specs.Writes.{Write, AreDone, OneFailed, file_writes}
use Rattle.capture_run.specs.Results.{timed_packets, came_by, streamed_writes, result_writes}
use Rattle.ehdl_top.specs.Results.{sim_outputs}
use Rattle.ehdl_top.specs.Simulation.{Simulation, simulation, drive_error, dumped, given_up}
use Rattle.ehdl_top.specs.Requests.{inputs_of, outputs_of, Declines, EndsDeclined, EndsItself}
use Rattle.ehdl_top.specs.Ends.{HasWritten, HasBroken, HasStopped, LeftUnread, LeftOut, SaysWhy, ArePut, AreCutOff}
use Rattle.ehdl_top.specs.Status.{ended, status_of}
use Rattle.ehdl_top.specs.declared.object.Accepted.{Accepted}
use Rattle.ehdl_top.specs.declared.object.Counts.{Counts}
use Rattle.ehdl_top.specs.declared.packets.Captured.{Captured}
use Rattle.ehdl_top.specs.declared.prepare.Reply.{Reply}
use Rattle.ehdl_top.specs.declared.prepare.Reply.TheVariants as reply
use Rattle.ehdl_top.specs.declared.status.Status.{Status}
use Rattle.ehdl_top.specs.declared.status.Status.TheVariants as status
use Rattle.ehdl_top.specs.declared.error.Line.{Line}
use Rattle.ehdl_top.specs.declared.error.Line.TheVariants.{Fixed, Text}
use Rattle.ehdl_top.specs.declared.error.CommandError.{CommandError}
use Rattle.ehdl_top.specs.declared.error.CommandError.TheVariants as error

-- what is put of a line
abbrev pub bytes_of : Line → List ℕ
bytes_of (Fixed bytes) = bytes.now
bytes_of (Text bytes) = bytes.items

-- ---- inputs
-- what bytes of an input are given up for: want of memory, or their first fault
abbrev pub IsGivenUp : InputForm → List ℕ → CommandError → Type 0
IsGivenUp form bytes e = (e ≡ error.NoMemory) ⊎ (form.Ends (status_of e) × form.Faults bytes e)

-- why an input was not read: a fault, want of memory, or what the name holds
abbrev pub IsUnread : InputForm → List ℕ → ShelfState → ShelfState → CommandError → Type 0
IsUnread form name old new e =
    ((e ≡ error.ReadFault) × Rose (old.read_faults name) (new.read_faults name))
    ⊎ ((e ≡ error.NoMemory) ⊎ (form.Ends (status_of e) × (IsTrue old.tells → IsFaulty form (old.held name) e)))

-- an input was read: the bytes that the name holds, where that is told, are in the form
pub record IsRead (form : InputForm) (name : List ℕ) (old : ShelfState) (bytes : List ℕ) : Type 0 where
  pub there : IsTrue old.tells → old.held name ≡ Some bytes
  pub within : length bytes ≤ form.limit
  pub fits : form.Fits bytes

-- what was built of a program: its declarations, the size of its pipeline, and a text that realizes it
pub record IsRealized (pipeline : Built) (program : XdpProgram) : Type 0 where
  pub is_program : IsProgram program
  pub decls : pipeline.decls.items ≡ program.decls
  pub has_size : HasSize program (size_of pipeline)
  pub realizes : Realizes pipeline.text.items program (size_of pipeline)

-- what was built of the program of an object
pub record IsBuiltOf (choice : Chosen) (bytes : List ℕ) (pipeline : Built) : Type 0 where
  pub program : XdpProgram
  pub taken : IsTaken choice built bytes program
  pub realized : IsRealized pipeline program

-- what was read of a capture: these packets, as frames with their times
pub record IsCaptureOf (captured : Captured) (packets : List Packet) : Type 0 where
  pub timed : captured.packets.items ≡ timed_packets captured.magic packets
  pub are : AllByRecursion IsLegal captured.packets.items
  pub few : length captured.packets.items < 2 ^ 32

pub record HasCaptured (bytes : List ℕ) (captured : Captured) : Type 0 where
  pub packets : List Packet
  pub is : IsCaptured bytes captured.magic packets
  pub of : IsCaptureOf captured packets

-- a capture was read through: so many packets, where the shelf tells
abbrev pub IsSurvey : List ℕ → ShelfState → Survey → Type 0
IsSurvey name old survey = IsTrue old.tells → (packets : List Packet) × HoldsCapture survey.stream (old.held name) packets × (survey.count ≡ length packets)

-- why a capture is not read on, as a command says it
abbrev pub capture_error : CaptureError → CommandError
capture_error capture.Failed = error.ReadFault
capture_error capture.TooLong = error.LongCapture
capture_error (capture.Fault fault) = error.Capture fault

-- why a run over a capture ended early, as a command says it
abbrev pub stop_error : RunError → CommandError
stop_error (runs.Capture e) = capture_error e
stop_error runs.Unwritten = error.WriteFault
stop_error e = error.NoMemory

-- declarations as programs have them: within their limits, and few
pub record AreDeclared (decls : List MapDecl) : Type 0 where
  pub limits : All IsWithinLimits decls
  pub few : length decls ≤ 16

-- the maps that a run starts from were read, or are those in which nothing was written
abbrev pub AreRead : Option (List ℕ) → List MapDecl → ShelfState → MapState → Type 0
AreRead (Some name) decls old maps = (bytes : List ℕ) × IsRead (maps_form decls) name old bytes × IsMapsText decls bytes maps
AreRead None decls old maps = maps ≡ opened_state decls

-- why there are none
abbrev pub AreUnread : Option (List ℕ) → List MapDecl → ShelfState → ShelfState → CommandError → Type 0
AreUnread (Some name) decls old new e = IsUnread (maps_form decls) name old new e
AreUnread None decls old new e = e ≡ error.NoMemory

-- what a text spells no design for
abbrev pub TextStops : List ℕ → CommandError → Type 0
TextStops bytes (error.Verilog fault) = IsTextFault bytes fault
TextStops bytes error.NoMemory = Unit {0}
TextStops bytes e = ⊥

-- ---- the drive
-- a net at which clocks stopped is one of the design
abbrev pub StopsInside : Netlist → DriveError → Type 0
StopsInside design (drive.X x) = IsNamed design x.net
StopsInside design (drive.Late answers frames clocks) = Unit {0}
StopsInside design drive.NoMemory = Unit {0}

-- what is given up for it, unless memory ran out
abbrev pub error_of : Netlist → DriveError → Option CommandError
error_of design (drive.X x) = Some (error.XValue (name_of design x.net))
error_of design (drive.Late answers frames clocks) = Some (error.Late answers frames)
error_of design drive.NoMemory = None

-- ---- what is counted
-- what is counted of a program, where offsets may vary: the nodes of its graph, and its stages
pub record AreCounts (program : XdpProgram) (counts : Counts) : Type 0 where
  pub graph : Unfolded
  pub unfolded : IsUnfolded program graph
  pub varying : graph.offsets ≡ offsets.Varying
  pub nodes : counts.nodes ≡ length graph.nodes.items
  pub has_stages : HasStages program graph.nodes.items graph.edges.items counts.stages

-- an object's program that was accepted
pub record IsAcceptedBy (choice : Chosen) (bytes : List ℕ) (a : Accepted) : Type 0 where
  pub taken : IsTaken choice accepted bytes a.program
  pub counts : AreCounts a.program a.counts

-- ---- what is prepared
-- an object of a program, and what is given for it
pub record IsGivenOf (choice : Chosen) (bytes : List ℕ) (prepared : Prepared) : Type 0 where
  pub program : XdpProgram
  pub object : IsObject choice bytes program
  pub given : IsGivenFor choice program bytes prepared

-- the same, or one of a program with this first refusal, for which it is declined
abbrev pub IsReplyTo : Chosen → List ℕ → Reply → Type 0
IsReplyTo choice bytes (reply.Given prepared) = IsGivenOf choice bytes prepared
IsReplyTo choice bytes (reply.Declined r) = IsRefusedBy choice built bytes r

-- ---- outputs
-- the ends of a drive that is given up
abbrev pub IsGivenUpDrive : Status → Type 0
IsGivenUpDrive s = (s ≡ status.XValue) ⊎ (s ≡ status.Late)

-- All of these writes were made, and this holds; one failed; or a read failed between two of them.
abbrev pub StreamOut : Result (Unit {0}) CommandError → List Write → Type 0 → ShelfState → ShelfState → Type 0
StreamOut (Ok u) ws left old new = left × AreDone ws old new
StreamOut (Err error.WriteFault) ws left old new = OneFailed ws old new
StreamOut (Err error.ReadFault) ws left old new = SomeDone ws old new
StreamOut (Err e) ws left old new = ⊥

-- the first of these writes were done, in their order, and none after them was begun; those left are of this kind
pub record PartDone (Left : List Write → Type 0) (ws : List Write) (old new : ShelfState) : Type 0 where
  pub done : List Write
  pub rest : List Write
  pub all : ws ≡ done ++ rest
  pub left : Left rest
  pub are : AreDone done old new

-- How the writes of a command went that comes to this end: all were made; one failed; a read failed between two of them; memory ran out before
-- the first, or where these were left.
abbrev pub GoesOut : (Status → Type 0) → (List Write → Type 0) → Result (Unit {0}) CommandError → Option CommandError → List Write → ShelfState → ShelfState → Type 0
GoesOut Itself Left (Ok u) end ws old new = (end ≡ None) × AreDone ws old new
GoesOut Itself Left (Err error.WriteFault) end ws old new = OneFailed ws old new
GoesOut Itself Left (Err error.ReadFault) end ws old new = SomeDone ws old new
GoesOut Itself Left (Err error.NoMemory) end ws old new = Changes [] old new ⊎ PartDone Left ws old new
GoesOut Itself Left (Err e) end ws old new = (end ≡ Some e) × Itself (status_of e) × AreDone ws old new

-- Why a command ends early that reads its capture again while it writes, whatever the shelf tells: a read of the capture failed, or a write;
-- memory ran out; the capture was another one; or it comes to an end of its own.
abbrev pub EndsOver : (Status → Type 0) → List ℕ → List (List ℕ) → ShelfState → ShelfState → CommandError → Type 0
EndsOver Itself capture outputs old new e =
    ((e ≡ error.ReadFault) × Rose (old.read_faults capture) (new.read_faults capture))
    ⊎ (((e ≡ error.WriteFault) × OneRose outputs old.write_faults new.write_faults) ⊎ ((e ≡ error.NoMemory) ⊎ ((status_of e ≡ status.Input) ⊎ Itself (status_of e))))

pub record IsOver (Itself : Status → Type 0) (capture : List ℕ) (outputs : List (List ℕ)) (result : Result (Unit {0}) CommandError) (old new : ShelfState) : Type 0 where
  pub kept : Changes outputs old new
  pub cause : IfErr result (EndsOver Itself capture outputs old new)

-- the same of a drive that may be given up: then all its answers went out
abbrev pub DriveOut : (Status → Type 0) → Result (Unit {0}) CommandError → Option CommandError → List Write → Type 0 → ShelfState → ShelfState → Type 0
DriveOut Itself (Ok u) end ws left old new = (end ≡ None) × left × AreDone ws old new
DriveOut Itself (Err error.WriteFault) end ws left old new = OneFailed ws old new
DriveOut Itself (Err error.ReadFault) end ws left old new = SomeDone ws old new
DriveOut Itself (Err error.NoMemory) end ws left old new = SomeDone ws old new
DriveOut Itself (Err e) end ws left old new = (end ≡ Some e) × Itself (status_of e) × AreDone ws old new

-- the full drive of these packets in at most so many clocks, and how its answers went out
pub record StreamsSim (names : Names) (design : Netlist) (first last : Stored) (ifindex clocks magic : ℕ) (packets : List Packet) (result : Result (Unit {0}) CommandError) (old new : ShelfState) : Type 0 where
  pub out : let d : Drive = full_drive design ifindex first (timed_packets magic packets) clocks in
      DriveOut IsGivenUpDrive result (drive_error design (length packets) d d.ended) (streamed_writes names magic packets (answers_given [] d.trace)) (last ≡ stored_after design first (given_in d.trace)) old new

-- a net at which clocks stopped is one of the design
abbrev pub StopsAs : Netlist → RunError → Type 0
StopsAs design (runs.X x) = IsNamed design x.net
StopsAs design e = Unit {0}

-- what the command then stops for; memory runs out where the name is taken alone
abbrev pub StopsWith : Netlist → RunError → CommandError → Type 0
StopsWith design (runs.X x) e = (e ≡ error.XValue (name_of design x.net)) ⊎ (e ≡ error.NoMemory)
StopsWith design (runs.Late answers frames) e = e ≡ error.Late answers frames
StopsWith design r e = e ≡ stop_error r

-- The dump of maps of these declarations, and how the text of the maps went out. Memory runs out before it.
abbrev pub FinishesSim : List ℕ → Netlist → Stored → List MapDecl → Result (Unit {0}) CommandError → ShelfState → ShelfState → Type 0
FinishesSim name design s decls (Ok u) old new = (maps : MapState) × (dumped design s decls ≡ Ok maps) × AreDone (file_writes name (text_of maps)) old new
FinishesSim name design s decls (Err error.WriteFault) old new = (maps : MapState) × (dumped design s decls ≡ Ok maps) × OneFailed (file_writes name (text_of maps)) old new
FinishesSim name design s decls (Err error.NoMemory) old new = Changes [] old new
FinishesSim name design s decls (Err e) old new = (dumped design s decls ≡ Err e) × IsGivenUpDrive (status_of e) × Changes [] old new

-- the names of what a run over a capture writes
abbrev pub written_names : Names → List (List ℕ)
written_names names = names.answer ∷ names.verdicts ∷ names.final_maps ∷ []

-- of these, what is written before the last read of the capture, after the text
abbrev pub streamed_names : Names → List ℕ → List (List ℕ)
streamed_names names verilog = verilog ∷ names.answer ∷ names.verdicts ∷ []

abbrev pub run_names : Names → List ℕ → List (List ℕ)
run_names names verilog = verilog ∷ written_names names

-- no end but Done is a command's own
abbrev pub NoOther : Status → Type 0
NoOther s = ⊥

-- what is left where memory runs out after all answers: the final maps
abbrev pub LeavesFinals : Names → List Write → Type 0
LeavesFinals names rest = (text : List ℕ) × (rest ≡ file_writes names.final_maps text)

abbrev pub LeavesAny : List Write → Type 0
LeavesAny rest = Unit {0}

-- Sequential execution of these packets from these maps on, and how its answers went out while the maps became the final ones.
pub record StreamsRuns (names : Names) (program : XdpProgram) (first last : MapState) (ifindex magic : ℕ) (packets : List Packet) (result : Result (Unit {0}) CommandError) (before : List Write) (old new : ShelfState) : Type 0 where
  pub answers : List Answer
  pub final : MapState
  pub runs : IsSequential program first (came_by ifindex (timed_packets magic packets)) answers final
  pub out : StreamOut result (before ++ streamed_writes names magic packets answers) (last ≡ final) old new

-- the same, and how the text of the final maps went out after them
pub record WritesRuns (names : Names) (program : XdpProgram) (first : MapState) (ifindex magic : ℕ) (packets : List Packet) (result : Result (Unit {0}) CommandError) (before : List Write) (old new : ShelfState) : Type 0 where
  pub answers : List Answer
  pub final : MapState
  pub runs : IsSequential program first (came_by ifindex (timed_packets magic packets)) answers final
  pub out : GoesOut NoOther (LeavesFinals names) result None (before ++ result_writes names magic packets answers (Some (text_of final))) old new

-- The full drive of packets answers them all as sequential execution of a program on these maps does, and the design then shows the maps that
-- this leaves.
pub record DrivesAsRuns (p : XdpProgram) (first : MapState) (d : Netlist) (s : Stored) (ifindex limit : ℕ) (packets : List Timed) : Type 0 where
  pub ended : (full_drive d ifindex s packets limit).ended ≡ Answered
  pub last : MapState
  pub all : IsSequential p first (came_by ifindex packets) (answers_given [] (full_drive d ifindex s packets limit).trace) last
  pub shown : ShowsMaps d (stored_after d s (given_in (full_drive d ifindex s packets limit).trace)) last

-- so does that of whatever packets, in the stated clocks
abbrev pub IsPipelineOf : XdpProgram → Built → MapState → Netlist → Stored → Type 0
IsPipelineOf p b first d s = (ifindex limit : ℕ) (packets : List Timed) → ifindex < 2 ^ 32 → AllByRecursion IsLegal packets
    → clock_bound (length packets) b.rows (most_beats (map (λ q. q.frame) packets)) b.records ≤ limit → DrivesAsRuns p first d s ifindex limit packets

-- so does that of so many packets
abbrev pub IsPipelineFor : XdpProgram → MapState → Netlist → Stored → ℕ → ℕ → ℕ → Type 0
IsPipelineFor p first d s ifindex limit count = (packets : List Timed) → AllByRecursion IsLegal packets → length packets ≡ count → DrivesAsRuns p first d s ifindex limit packets

-- the clocks of a full drive of some packets, so many, leave this
pub record IsDriven (d : Netlist) (ifindex limit count : ℕ) (first last : Stored) : Type 0 where
  pub packets : List Timed
  pub legal : AllByRecursion IsLegal packets
  pub many : length packets ≡ count
  pub leaves : last ≡ stored_after d first (given_in (full_drive d ifindex first packets limit).trace)

-- How the answers of the full drive of these packets went out; the clocks leave this.
pub record StreamsDrive (names : Names) (design : Netlist) (first last : Stored) (ifindex limit magic : ℕ) (packets : List Packet) (result : Result (Unit {0}) CommandError) (before : List Write) (old new : ShelfState) : Type 0 where
  pub out : let d : Drive = full_drive design ifindex first (timed_packets magic packets) limit in
      StreamOut result (before ++ streamed_writes names magic packets (answers_given [] d.trace)) (last ≡ stored_after design first (given_in d.trace)) old new

-- what a simulation over these packets gives, and how it went out
pub record WritesSim (names : Names) (design : Netlist) (first : MapState) (ifindex clocks magic : ℕ) (packets : List Packet) (result : Result (Unit {0}) CommandError) (old new : ShelfState) : Type 0 where
  pub given : Simulation
  pub is_given : given ≡ simulation design first ifindex (timed_packets magic packets) clocks
  pub out : GoesOut IsGivenUpDrive LeavesAny result (given_up given.end) (sim_outputs names magic packets given).writes old new

-- the text is none of the files that may be written beside it, nor the capture
pub record IsTextApart (names : Names) (verilog : List ℕ) : Type 0 where
  pub answer : verilog ≢ names.answer
  pub verdicts : verilog ≢ names.verdicts
  pub final : verilog ≢ names.final_maps
  pub capture : verilog ≢ names.capture

-- no two of these have one name, nor has the capture that of a file that is written while it is read
pub record AreDistinct (names : Names) : Type 0 where
  pub answer_verdicts : names.answer ≢ names.verdicts
  pub answer_final : names.answer ≢ names.final_maps
  pub verdicts_final : names.verdicts ≢ names.final_maps
  pub capture_answer : names.capture ≢ names.answer
  pub capture_verdicts : names.capture ≢ names.verdicts

-- ---- commands
-- no two of the files that a command may write have one name
abbrev pub NamesApart : Request → Type 0
NamesApart (AskCompile object verilog chosen) = Unit {0}
NamesApart (AskRun names verilog chosen ifindex) = AreDistinct names × IsTextApart names verilog
NamesApart (AskSim names verilog chosen ifindex clocks events) = AreDistinct names
NamesApart (AskRef names chosen ifindex) = AreDistinct names
NamesApart (AskReport object chosen) = Unit {0}
NamesApart (AskPrepare object output chosen) = Unit {0}
NamesApart (AskDemo seed packets) = Unit {0}

-- a write failed
pub record FailsWrite (request : Request) (old new : ShelfState) : Type 0 where
  pub rose : OneRose (outputs_of request) old.write_faults new.write_faults
  pub broken : IsTrue old.tells → HasBroken request old new

-- all was written, and this is the end
pub record WritesAll (request : Request) (end : Option CommandError) (old new : ShelfState) : Type 0 where
  pub can : EndsItself request (ended end)
  pub has : IsTrue old.tells → HasWritten request end old new

-- Why a command was given up: a read failed, memory ran out, or an input is not in its form or is declined, and nothing was written; a write
-- failed; a read failed, or memory ran out, between two writes; on a shelf that does not tell its content, a capture was another one when it was read
-- again; or all was written, and the drive was given up.
pub data StopsBy (request : Request) (old new : ShelfState) (e : CommandError) : Type 0 where
  Unread : e ≡ error.ReadFault → OneUnread (inputs_of request old.held) old new → Changes [] old new → StopsBy request old new e
  OutOfMemory : e ≡ error.NoMemory → Changes [] old new → StopsBy request old new e
  AtInput : EndsAtInput (inputs_of request old.held) (status_of e) → (IsTrue old.tells → FirstStop (inputs_of request old.held) old.held e) → Changes [] old new → StopsBy request old new e
  Declined : EndsDeclined request (status_of e) → (IsTrue old.tells → Declines request old.held e) → Changes [] old new → StopsBy request old new e
  Unwritten : e ≡ error.WriteFault → FailsWrite request old new → StopsBy request old new e
  UnreadLate : e ≡ error.ReadFault → OneUnread (inputs_of request old.held) old new → (IsTrue old.tells → HasStopped request (LeftUnread request) old new) → StopsBy request old new e
  OutLate : e ≡ error.NoMemory → (IsTrue old.tells → Changes [] old new ⊎ HasStopped request (LeftOut request) old new) → StopsBy request old new e
  AtOther : status_of e ≡ status.Input → EndsAtInput (inputs_of request old.held) (status_of e) → ¬ IsTrue old.tells → StopsBy request old new e
  AtEnd : WritesAll request (Some e) old new → StopsBy request old new e

abbrev pub EndsBy : {T : Type 0} → Request → ShelfState → ShelfState → Result T CommandError → Type 0
EndsBy request old new (Ok u) = WritesAll request None old new
EndsBy request old new (Err e) = StopsBy request old new e

-- how a command ends: no name but an output has changed
pub record EndsIn {T : Type 0} (request : Request) (old new : ShelfState) (result : Result T CommandError) : Type 0 where
  pub by : EndsBy request old new result
  pub kept : Changes (outputs_of request) old new

-- both are done, or stop for one reason
abbrev pub AreOneEnd : {T U : Type 0} → Result T CommandError → Result U CommandError → Type 0
AreOneEnd (Ok x) (Ok y) = Unit {0}
AreOneEnd (Err e) (Err f) = e ≡ f
AreOneEnd r s = ⊥

-- the line of an error takes no memory
abbrev pub IsFixed : CommandError → Type 0
IsFixed error.Usage = Unit {0}
IsFixed error.LongVerilog = Unit {0}
IsFixed error.LongMaps = Unit {0}
IsFixed error.LongCapture = Unit {0}
IsFixed error.ReadFault = Unit {0}
IsFixed error.WriteFault = Unit {0}
IsFixed error.NoMemory = Unit {0}
IsFixed e = ⊥

-- A put of the lines failed, and the line that says so was put after them.
pub record IsCutShort (lines : List (List ℕ)) (result : Status) (old new : SinkState) : Type 0 where
  pub status : result ≡ status.WriteFault
  pub mid : SinkState
  pub cut : AreCutOff lines old mid
  pub why : SaysWhy error.WriteFault result mid new
  pub later : IsLaterSink mid new

-- A command that is done has put its lines; one that stops has put the line that says why.
abbrev pub IsFinished : Result (Vec (List ℕ) Global) CommandError → Status → SinkState → SinkState → Type 0
IsFinished (Ok lines) result old new = ((result ≡ status.Done) × ArePut lines.items old new) ⊎ IsCutShort lines.items result old new
IsFinished (Err e) result old new = (SaysWhy e result old new ⊎ SaysWhy error.NoMemory result old new) × (IsFixed e → result ≡ status_of e)
