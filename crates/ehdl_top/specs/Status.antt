-- The exit status of each way to end. No way has the exit status 1.
use Rattle.std.specs.Prelude.{ℕ, Option, Some, None}
use Rattle.ehdl_top.specs.declared.status.Status.{Status}
use Rattle.ehdl_top.specs.declared.status.Status.TheVariants as status
use Rattle.ehdl_top.specs.declared.error.CommandError.{CommandError}
use Rattle.ehdl_top.specs.declared.error.CommandError.TheVariants as error

abbrev pub code_of : Status → ℕ
code_of status.Done = 0
code_of status.Usage = 2
code_of status.Object = 3
code_of status.Refused = 4
code_of status.Input = 5
code_of status.ReadFault = 6
code_of status.WriteFault = 7
code_of status.NoMemory = 8
code_of status.XValue = 9
code_of status.Late = 10

-- how a command ends that stops for this reason
abbrev pub status_of : CommandError → Status
status_of error.Usage = status.Usage
status_of (error.Object fault) = status.Object
status_of (error.Refused r) = status.Refused
status_of error.LongVerilog = status.Input
status_of (error.Verilog fault) = status.Input
status_of error.LongMaps = status.Input
status_of (error.Maps fault) = status.Input
status_of error.LongCapture = status.Input
status_of (error.Capture fault) = status.Input
status_of error.ReadFault = status.ReadFault
status_of error.WriteFault = status.WriteFault
status_of error.NoMemory = status.NoMemory
status_of (error.XValue net) = status.XValue
status_of (error.Late answers frames) = status.Late

-- how a command ends that stops, or is done
abbrev pub ended : Option CommandError → Status
ended None = status.Done
ended (Some s) = status_of s
