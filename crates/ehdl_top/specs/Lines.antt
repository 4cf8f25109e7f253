-- The line that says why a command stops.
use Rattle.std.specs.Prelude.{ℕ, List, ◌++◌, [], codes, decimal}
use Rattle.std.specs.Fmt.{signed_decimal}
use Rattle.xdp_object.specs.Codes as object
use Rattle.xdp_state.specs.declared.refusal.Why.{Why}
use Rattle.xdp_state.specs.declared.refusal.Why.TheVariants.{Helper}
use Rattle.xdp_state.specs.declared.refusal.Refusal.{Refusal}
use Rattle.xdp_state.specs.Reasons.{reason_number}
use Rattle.pcap_core.specs.declared.error.PcapError.{PcapError}
use Rattle.pcap_core.specs.declared.error.PcapError.TheVariants.{Short, Magic, Version, Link, Frame}
use Rattle.maps_text.specs.declared.error.MapsError.{MapsError}
use Rattle.maps_text.specs.declared.error.MapsError.TheVariants as maps
use Rattle.verilog_read.specs.declared.error.ReadError.{ReadError}
use Rattle.verilog_read.specs.declared.error.ReadError.TheVariants as verilog
use Rattle.verilog_read.specs.declared.error.ReadError.TheVariants.{Lex, Syntax, Unknown, Twice, Width, Order, Ports}
use Rattle.ehdl_top.specs.declared.error.CommandError.{CommandError}
use Rattle.ehdl_top.specs.declared.error.CommandError.TheVariants as error

-- ---- codes, and then their numbers in decimal
-- why a program is refused, and where: after the reason of an unknown helper stands its number
abbrev pub helper_code : Why → List ℕ
helper_code (Helper id) = codes " " ++ signed_decimal id
helper_code why = []

abbrev pub refusal_code : Refusal → List ℕ
refusal_code r = decimal r.at ++ codes " " ++ decimal (reason_number r.why) ++ helper_code r.why

-- the fault of a capture
abbrev pub capture_code : PcapError → List ℕ
capture_code (Short at) = codes "P1 " ++ decimal at
capture_code Magic = codes "P2"
capture_code Version = codes "P3"
capture_code (Link n) = codes "P4 " ++ decimal n
capture_code (Frame index length) = codes "P5 " ++ decimal index ++ codes " " ++ decimal length

-- the first bad line of a text of maps
abbrev pub maps_code : MapsError → List ℕ
maps_code (maps.Line n) = codes "M1 " ++ decimal n
maps_code (maps.Unknown n) = codes "M2 " ++ decimal n
maps_code (maps.Length n) = codes "M3 " ++ decimal n
maps_code (maps.Twice n) = codes "M4 " ++ decimal n
maps_code (maps.Full n) = codes "M5 " ++ decimal n
maps_code maps.NoMemory = []

-- the first error of a Verilog text
abbrev pub verilog_code : ReadError → List ℕ
verilog_code (Lex at) = codes "V1 " ++ decimal at
verilog_code (Syntax at) = codes "V2 " ++ decimal at
verilog_code (Unknown at) = codes "V3 " ++ decimal at
verilog_code (Twice at) = codes "V4 " ++ decimal at
verilog_code (Width at) = codes "V5 " ++ decimal at
verilog_code (Order at) = codes "V6 " ++ decimal at
verilog_code (Ports port) = codes "V7 " ++ decimal port
verilog_code verilog.NoMemory = []

-- ---- the line that says why a command stops
abbrev pub line_of : CommandError → List ℕ
line_of error.Usage = codes "usage\n"
line_of (error.Object fault) = codes "object " ++ object.code_of fault ++ codes "\n"
line_of (error.Refused r) = codes "refused " ++ refusal_code r ++ codes "\n"
line_of error.LongVerilog = codes "input verilog long\n"
line_of (error.Verilog fault) = codes "input verilog " ++ verilog_code fault ++ codes "\n"
line_of error.LongMaps = codes "input maps long\n"
line_of (error.Maps fault) = codes "input maps " ++ maps_code fault ++ codes "\n"
line_of error.LongCapture = codes "input capture long\n"
line_of (error.Capture fault) = codes "input capture " ++ capture_code fault ++ codes "\n"
line_of error.ReadFault = codes "read fault\n"
line_of error.WriteFault = codes "write fault\n"
line_of error.NoMemory = codes "no memory\n"
line_of (error.XValue net) = codes "x value " ++ net ++ codes "\n"
line_of (error.Late answers frames) = codes "late " ++ decimal answers ++ codes " " ++ decimal frames ++ codes "\n"
