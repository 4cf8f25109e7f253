-- One step of a design that is driven by a capture: a packet is given, or an answer is written.
use Rattle.std.specs.Prelude.{◌≡◌, ℕ, List, [], Option, length, take, drop, Result, Ok, Err}
use Rattle.std.specs.List.{AllByRecursion}
use Rattle.beat_core.specs.declared.frame.Timed.{Timed}
use Rattle.beat_core.specs.declared.answer.Answer.{Answer}
use Rattle.pcap_core.specs.Format.{Packet}
use Rattle.pcap_core.specs.Streaming.{Opened}
use Rattle.port_drive.specs.Driving.{Driving}
use Rattle.port_drive.specs.Giving.{GivesOn}
use Rattle.port_drive.specs.declared.report.DriveError.{DriveError}
use Rattle.port_drive.specs.declared.report.DriveError.TheVariants as drive_error
use Rattle.command_line.specs.Request.{Names}
use Rattle.capture_run.specs.States.{ShelfState, Changes}
use Rattle.capture_run.specs.Writes.{AreDone, OneFailed}
use Rattle.capture_run.specs.Captures.{Reading, StandsBefore}
use Rattle.capture_run.specs.Results.{answer_writes, timed_packets}
use Rattle.capture_run.specs.Runs.{IsLegal}
use Rattle.capture_run.specs.declared.records.CaptureError.TheVariants.{Failed}
use Rattle.capture_run.specs.declared.error.RunError.{RunError}
use Rattle.capture_run.specs.declared.error.RunError.TheVariants.{Capture, Unwritten, X, Late, NoMemory}

-- ---- a packet is given
-- Of these packets all that were not given may be others. The first of them was given now, or it was said that none comes.
pub record GivesSome (packets : List Timed) (old new : Driving) : Type 0 where
  pub others : List Timed
  pub legal : AllByRecursion IsLegal others
  pub count : length others ≡ length packets
  pub same : take old.given others ≡ take old.given packets
  pub gives : GivesOn others old new

-- the same of just these packets, before whose rest the reader stands; or a read failed
abbrev pub GivesNext : Result (Unit {0}) RunError → Opened → Option (List ℕ) → List Packet → Reading → Driving → Driving → Type 0
GivesNext (Ok u) opened held packets reader old new = GivesOn (timed_packets opened.magic packets) old new × StandsBefore opened held reader (drop new.given packets)
GivesNext (Err e) opened held packets reader old new = e ≡ Capture Failed

-- ---- an answer is written
-- the answer to this packet was written, and the reader stands before the rest; or a write failed, a read, or memory ran out
abbrev pub WritesAnswer : Result (Unit {0}) RunError → Names → Opened → Option (List ℕ) → Packet → List Packet → Reading → ℕ → Answer → ShelfState → ShelfState → Type 0
WritesAnswer (Ok u) names opened held p rest reader index answer old new = AreDone (answer_writes names p index answer) old new × StandsBefore opened held reader rest
WritesAnswer (Err Unwritten) names opened held p rest reader index answer old new = OneFailed (answer_writes names p index answer) old new
WritesAnswer (Err (Capture Failed)) names opened held p rest reader index answer old new = Changes [] old new
WritesAnswer (Err NoMemory) names opened held p rest reader index answer old new = Changes [] old new
WritesAnswer (Err e) names opened held p rest reader index answer old new = ⊥

-- ---- an error
-- it is one of a shelf, or of memory, and not of the design
abbrev pub IsOfShelf : RunError → Type 0
IsOfShelf (X x) = ⊥
IsOfShelf (Late answers frames) = ⊥
IsOfShelf e = Unit {0}

-- an error of a drive, where so many frames come in all
abbrev pub run_error : DriveError → ℕ → RunError
run_error (drive_error.X x) frames = X x
run_error (drive_error.Late answers given clocks) frames = Late answers frames
run_error drive_error.NoMemory frames = NoMemory
