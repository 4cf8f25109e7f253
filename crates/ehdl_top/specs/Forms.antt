-- The forms of inputs: how many bytes one may have, which bytes are in its form, and the first fault of the others.
use Rattle.std.specs.Prelude.{◌≡◌, ◌⊎◌, ℕ, ◌≤◌, List, [], length, Option, Some, None, Result, Ok, Err}
use Rattle.shelf_core.specs.Shelf.{Holding, IsLonger}
use Rattle.pcap_core.specs.declared.error.PcapError.{PcapError}
use Rattle.pcap_core.specs.Format.{Packet}
use Rattle.net_core.specs.Nets.{Netlist}
use Rattle.ehdl_build.specs.verilog_write.VerilogGrammar.Spelling.{Spells}
use Rattle.verilog_read.specs.declared.error.ReadError.{ReadError}
use Rattle.verilog_read.specs.Texts.{outcome_of}
use Rattle.xdp_maps.specs.declared.decl.MapDecl.{MapDecl}
use Rattle.xdp_maps.specs.State.{MapState, opened_state}
use Rattle.maps_text.specs.Text.{IsMapsText, IsFirstBad}
use Rattle.xdp_object.specs.declared.error.ObjectError.{ObjectError}
use Rattle.xdp_object.specs.declared.error.ObjectError.TheVariants.{Long}
use Rattle.xdp_object.specs.xdp_machine.Program.{XdpProgram}
use Rattle.xdp_object.specs.Choice.{Chosen}
use Rattle.xdp_object.specs.Maps.{MapTable}
use Rattle.xdp_object.specs.Object.{FirstFault, IsObject, function_of, maps_of}
use Rattle.xdp_state.specs.declared.refusal.Refusal.{Refusal}
use Rattle.kind_core.specs.declared.kind.Offsets.TheVariants.{Fixed, Varying}
use Rattle.row_rules.specs.NodeRows.Acceptance.{IsAccepted, IsFirstRefusal}
use Rattle.capture_run.specs.declared.records.TheConstants.{CAPTURE_LIMIT}
use Rattle.capture_run.specs.Captures.{IsCaptured, IsCaptureFault}
use Rattle.ehdl_top.specs.declared.limits.TheConstants.{OBJECT_LIMIT, VERILOG_LIMIT, MAPS_LIMIT}
use Rattle.ehdl_top.specs.declared.status.Status.{Status}
use Rattle.ehdl_top.specs.declared.status.Status.TheVariants as status
use Rattle.ehdl_top.specs.declared.error.CommandError.{CommandError}
use Rattle.ehdl_top.specs.declared.error.CommandError.TheVariants as error

-- A form of input. Bytes beyond its limit are too many; others are in the form, or have a first fault, for which a command is
-- given up. How a command may then end is said.
pub record InputForm : Type 1 where
  pub limit : ℕ
  pub too_long : CommandError
  pub Fits : List ℕ → Type 0
  pub Faults : List ℕ → CommandError → Type 0
  pub Ends : Status → Type 0

-- ---- what a name holds
-- a name holds bytes, no more than the limit, of which this is so
pub record Holds (limit : ℕ) (held : Option (List ℕ)) (Is : List ℕ → Type 0) : Type 0 where
  pub bytes : List ℕ
  pub there : held ≡ Some bytes
  pub within : length bytes ≤ limit
  pub is : Is bytes

-- a name holds bytes in a form
abbrev pub IsReady : InputForm → Option (List ℕ) → Type 0
IsReady form held = Holds form.limit held form.Fits

-- a name holds bytes that are not in a form: too many, or with this first fault
abbrev pub IsFaulty : InputForm → Option (List ℕ) → CommandError → Type 0
IsFaulty form held e = (IsLonger form.limit held × (e ≡ form.too_long)) ⊎ Holds form.limit held (λ bytes. form.Faults bytes e)

-- ---- objects
-- Which programs a command takes, and how it refuses the others.
pub record ProgramRule : Type 1 where
  pub Takes : XdpProgram → Type 0
  pub Refuses : XdpProgram → Refusal → Type 0

-- bytes are an object of a program that is taken
pub record IsTaken (choice : Chosen) (rule : ProgramRule) (bytes : List ℕ) (program : XdpProgram) : Type 0 where
  pub object : IsObject choice bytes program
  pub takes : rule.Takes program

-- they are an object of a program with this refusal
pub record IsRefusedBy (choice : Chosen) (rule : ProgramRule) (bytes : List ℕ) (r : Refusal) : Type 0 where
  pub program : XdpProgram
  pub object : IsObject choice bytes program
  pub refuses : rule.Refuses program r

abbrev pub ProgramFaults : Chosen → ProgramRule → List ℕ → CommandError → Type 0
ProgramFaults choice rule bytes (error.Object fault) = FirstFault choice bytes fault
ProgramFaults choice rule bytes (error.Refused r) = IsRefusedBy choice rule bytes r
ProgramFaults choice rule bytes e = ⊥

-- an object of a program that is taken
abbrev pub program_form : Chosen → ProgramRule → InputForm
program_form choice rule = record {
  limit = OBJECT_LIMIT;
  too_long = error.Object Long;
  Fits = λ bytes. (program : XdpProgram) × IsTaken choice rule bytes program;
  Faults = ProgramFaults choice rule;
  Ends = λ s. (s ≡ status.Object) ⊎ (s ≡ status.Refused);
}

-- programs that are compiled: they are not refused, where offsets into the packet are fixed
abbrev pub built : ProgramRule
built = record { Takes = λ p. (r : Refusal) → ¬ IsFirstRefusal Fixed p r; Refuses = IsFirstRefusal Fixed }

-- programs that are accepted: they unfold, and have few stages, where offsets may vary
abbrev pub accepted : ProgramRule
accepted = record { Takes = IsAccepted Varying; Refuses = IsFirstRefusal Varying }

-- an object alone, whatever its program
abbrev pub ObjectFaults : Chosen → List ℕ → CommandError → Type 0
ObjectFaults choice bytes (error.Object fault) = FirstFault choice bytes fault
ObjectFaults choice bytes e = ⊥

abbrev pub object_form : Chosen → InputForm
object_form choice = record {
  limit = OBJECT_LIMIT;
  too_long = error.Object Long;
  Fits = λ bytes. (program : XdpProgram) × IsObject choice bytes program;
  Faults = ObjectFaults choice;
  Ends = λ s. s ≡ status.Object;
}

-- ---- Verilog texts
-- a text spells this design, and no other
pub record IsTextOf (bytes : List ℕ) (design : Netlist) : Type 0 where
  pub spells : Spells bytes design
  pub only : (other : Netlist) → Spells bytes other → other ≡ design

-- a text spells no design, and this is its first error
pub record IsTextFault (bytes : List ℕ) (fault : ReadError) : Type 0 where
  pub first : outcome_of bytes ≡ Err fault
  pub none : (design : Netlist) → ¬ Spells bytes design

abbrev pub TextFaults : List ℕ → CommandError → Type 0
TextFaults bytes (error.Verilog fault) = IsTextFault bytes fault
TextFaults bytes e = ⊥

abbrev pub text_form : InputForm
text_form = record {
  limit = VERILOG_LIMIT;
  too_long = error.LongVerilog;
  Fits = λ bytes. (design : Netlist) × Spells bytes design;
  Faults = TextFaults;
  Ends = λ s. s ≡ status.Input;
}

-- ---- texts of maps
abbrev pub MapsFaults : List MapDecl → List ℕ → CommandError → Type 0
MapsFaults decls bytes (error.Maps fault) = IsFirstBad decls bytes fault
MapsFaults decls bytes e = ⊥

-- a text of the maps of these declarations
abbrev pub maps_form : List MapDecl → InputForm
maps_form decls = record {
  limit = MAPS_LIMIT;
  too_long = error.LongMaps;
  Fits = λ bytes. (maps : MapState) × IsMapsText decls bytes maps;
  Faults = MapsFaults decls;
  Ends = λ s. s ≡ status.Input;
}

-- the declarations of the maps of the object that a name holds
abbrev pub decls_in : Result MapTable ObjectError → List MapDecl
decls_in (Ok table) = table.decls
decls_in (Err e) = []

abbrev pub held_decls : Chosen → Option (List ℕ) → List MapDecl
held_decls choice (Some bytes) = decls_in (maps_of choice.hash_cap bytes (function_of choice bytes))
held_decls choice None = []

-- The maps that a run starts from are those of the text that a name holds, and without a name those in which nothing was written.
abbrev pub StartsFrom : Option (List ℕ) → List MapDecl → Holding → MapState → Type 0
StartsFrom (Some name) decls held maps = Holds MAPS_LIMIT (held name) (λ bytes. IsMapsText decls bytes maps)
StartsFrom None decls held maps = maps ≡ opened_state decls

-- ---- captures
abbrev pub CaptureFaults : List ℕ → CommandError → Type 0
CaptureFaults bytes (error.Capture fault) = IsCaptureFault bytes fault
CaptureFaults bytes e = ⊥

abbrev pub capture_form : InputForm
capture_form = record {
  limit = CAPTURE_LIMIT;
  too_long = error.LongCapture;
  Fits = λ bytes. (magic : ℕ) × (packets : List Packet) × IsCaptured bytes magic packets;
  Faults = CaptureFaults;
  Ends = λ s. s ≡ status.Input;
}
