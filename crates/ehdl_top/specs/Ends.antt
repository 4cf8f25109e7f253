-- How a command ends.
use Rattle.std.specs.Prelude.{◌≡◌, ◌≢◌, ◌⊎◌, ℕ, IsTrue, List, [], ◌∷◌, ◌++◌, Option, Some, None}
use Rattle.std.specs.List.{concat}
use Rattle.shelf_core.specs.Shelf.{Rose, appended, LeavesFront}
use Rattle.command_line.specs.Request.{Request, AskRun, AskSim, AskRef}
use Rattle.command_line.specs.AsksFor.{AsksFor}
use Rattle.capture_run.specs.States.{ShelfState, SinkState, Changes}
use Rattle.capture_run.specs.Writes.{Write, Outputs, HoldWhole, HoldPrefixes, AreDone, OneFailed, names_in, file_writes}
use Rattle.ehdl_top.specs.Requests.{IsOutcome, PutsLines, AreLines}
use Rattle.ehdl_top.specs.Lines.{line_of}
use Rattle.ehdl_top.specs.Status.{ended, status_of}
use Rattle.ehdl_top.specs.declared.status.Status.{Status}
use Rattle.ehdl_top.specs.declared.status.Status.TheVariants as status
use Rattle.ehdl_top.specs.declared.error.CommandError.{CommandError}
use Rattle.ehdl_top.specs.declared.error.CommandError.TheVariants as error

-- ---- what is written
-- The command wrote all that it was to write, in its order, and came to this end.
pub record HasWritten (request : Request) (end : Option CommandError) (old new : ShelfState) : Type 0 where
  pub outputs : Outputs
  pub outcome : IsOutcome request old.held end outputs
  pub whole : HoldWhole outputs.files new.held
  pub others : Changes (names_in outputs.files) old new
  pub in_order : AreDone outputs.writes old new

-- the same of an end with this status
pub record EndsAs (request : Request) (result : Status) (old new : ShelfState) : Type 0 where
  pub end : Option CommandError
  pub status : result ≡ ended end
  pub has : HasWritten request end old new

-- A write failed: those before it were done, and none after it was begun. So of what the command was to write there are
-- prefixes at most.
pub record HasBroken (request : Request) (old new : ShelfState) : Type 0 where
  pub end : Option CommandError
  pub outputs : Outputs
  pub outcome : IsOutcome request old.held end outputs
  pub prefixes : HoldPrefixes outputs.files old.held new.held
  pub others : Changes (names_in outputs.files) old new
  pub in_order : OneFailed outputs.writes old new

-- It stopped between two writes: those before were done, in their order, and none after was begun. What was left to be done is of this kind.
pub record HasStopped (request : Request) (Left : List Write → Type 0) (old new : ShelfState) : Type 0 where
  pub end : Option CommandError
  pub outputs : Outputs
  pub outcome : IsOutcome request old.held end outputs
  pub done : List Write
  pub rest : List Write
  pub all : outputs.writes ≡ done ++ rest
  pub left : Left rest
  pub prefixes : HoldPrefixes outputs.files old.held new.held
  pub others : Changes (names_in outputs.files) old new
  pub in_order : AreDone done old new

-- where a read fails: a capture is read again while the outputs are written
abbrev pub LeftUnread : Request → List Write → Type 0
LeftUnread (AskRun names verilog chosen ifindex) rest = Unit {0}
LeftUnread (AskSim names verilog chosen ifindex clocks events) rest = Unit {0}
LeftUnread (AskRef names chosen ifindex) rest = Unit {0}
LeftUnread request rest = ⊥

-- where memory runs out: the final maps alone, for which all answers were written; of a simulation anything, for its answers may be longer
-- than frames are
abbrev pub LeftOut : Request → List Write → Type 0
LeftOut (AskRun names verilog chosen ifindex) rest = (text : List ℕ) × (rest ≡ file_writes names.final_maps text)
LeftOut (AskSim names verilog chosen ifindex clocks events) rest = Unit {0}
LeftOut (AskRef names chosen ifindex) rest = (text : List ℕ) × (rest ≡ file_writes names.final_maps text)
LeftOut request rest = ⊥

-- What is lost where an input is not in its form, or is declined: nothing. Where a read fails: nothing, or what was left to be written. Where a write fails, or
-- a put of the command's lines after all writes. Where memory runs out: nothing, or what was left to be written, or nothing again, for all was.
abbrev pub Loses : Status → Request → ShelfState → ShelfState → Type 0
Loses status.WriteFault request old new = HasBroken request old new ⊎ (PutsLines request × HasWritten request None old new)
Loses status.NoMemory request old new = Changes [] old new ⊎ (HasStopped request (LeftOut request) old new ⊎ ((end : Option CommandError) × HasWritten request end old new))
Loses status.ReadFault request old new = Changes [] old new ⊎ HasStopped request (LeftUnread request) old new
Loses status.Input request old new = Changes [] old new
Loses s request old new = Unit {0}

-- ---- kinds of ends
-- what the command was to write is written
abbrev pub AllWritten : Status → Type 0
AllWritten status.Done = Unit {0}
AllWritten status.XValue = Unit {0}
AllWritten status.Late = Unit {0}
AllWritten s = ⊥

-- the inputs are why
abbrev pub ByInputs : Status → Type 0
ByInputs status.Object = Unit {0}
ByInputs status.Refused = Unit {0}
ByInputs status.Input = Unit {0}
ByInputs status.XValue = Unit {0}
ByInputs status.Late = Unit {0}
ByInputs s = ⊥

-- before any output was begun, whatever the shelf tells
abbrev pub IsEarly : Status → Type 0
IsEarly status.Usage = Unit {0}
IsEarly status.Object = Unit {0}
IsEarly status.Refused = Unit {0}
IsEarly s = ⊥

-- ---- the line that says why
-- A line was put, or the sink's count has risen: then a prefix of it was put.
abbrev pub IsPut : List ℕ → SinkState → SinkState → Type 0
IsPut line old new = (new.taken ≡ Some (appended old.taken line)) ⊎ (Rose old.faults new.faults × LeavesFront old.taken line new.taken)

-- This is why: the status and, where the sink tells, the line say so.
pub record SaysWhy (e : CommandError) (result : Status) (old new : SinkState) : Type 0 where
  pub status : result ≡ status_of e
  pub line : IsTrue old.tells → IsPut (line_of e) old new

-- ---- the lines of a command
-- the lines that these words ask for
abbrev pub AreLinesOf : List (List ℕ) → ShelfState → ShelfState → List (List ℕ) → Type 0
AreLinesOf words old new lines = (request : Request) → AsksFor words request → AreLines request old new lines

-- Lines were put, one after the other: the sink has taken them and no more, where it tells.
abbrev pub ArePut : List (List ℕ) → SinkState → SinkState → Type 0
ArePut [] old new = new ≡ old
ArePut (line ∷ lines) old new = IsTrue old.tells → new.taken ≡ Some (appended old.taken (concat (line ∷ lines)))

-- A put of some lines failed: the sink's count has risen, and it has taken a prefix of them.
pub record AreCutOff (lines : List (List ℕ)) (old new : SinkState) : Type 0 where
  pub some : lines ≢ []
  pub rose : Rose old.faults new.faults
  pub front : IsTrue old.tells → LeavesFront old.taken (concat lines) new.taken

-- The line that says why is the last that was put, and the only one, but where a put of the command's lines failed: it then comes after
-- a prefix of them.
pub record SaysLast (words : List (List ℕ)) (shelf left : ShelfState) (e : CommandError) (result : Status) (old new : SinkState) : Type 0 where
  pub before : SinkState
  pub behind : (before ≡ old) ⊎ ((e ≡ error.WriteFault) × (lines : List (List ℕ)) × AreLinesOf words shelf left lines × AreCutOff lines old before)
  pub why : SaysWhy e result before new
