-- The commands: the inputs of each with their forms, its outputs, what it leaves, the lines that it puts, and how it may end. A command is
-- a row of each.
use Rattle.std.specs.Prelude.{◌≡◌, ◌⊎◌, ℕ, IsTrue, List, [], ◌∷◌, ◌++◌, Option, Some, None}
use Rattle.shelf_core.specs.Shelf.{Holding, Rose}
use Rattle.command_line.specs.Request.{Request, AskCompile, AskRun, AskSim, AskRef, AskReport, AskPrepare, AskDemo}
use Rattle.ehdl_top.specs.declared.status.Status.{Status}
use Rattle.ehdl_top.specs.declared.status.Status.TheVariants as status
use Rattle.ehdl_top.specs.Status.{status_of}
use Rattle.ehdl_top.specs.declared.error.CommandError.{CommandError}
use Rattle.capture_run.specs.States.{ShelfState, SinkState, OneRose}
use Rattle.ehdl_top.specs.Forms.{program_form, built, accepted, object_form, text_form, maps_form, held_decls, capture_form}
use Rattle.ehdl_top.specs.Inputs.{Input, input, may_input, FirstStop, EndsAtInput}
use Rattle.capture_run.specs.Writes.{Outputs}
use Rattle.ehdl_top.specs.Results.{no_outputs}
use Rattle.ehdl_top.specs.Outcome.{IsCompiled, IsRun, IsSimulated, IsReference, IsReported, IsDemo}
use Rattle.ehdl_top.specs.Preparing.{IsPreparation, ArePrepareLines, MayDecline}

-- In the order in which they are looked at. What is held has a say: a text of maps is one of the maps that the object declares.
abbrev pub inputs_of : Request → Holding → List Input
inputs_of (AskCompile object verilog chosen) held = input object (program_form chosen built) ∷ []
inputs_of (AskRun names verilog chosen ifindex) held =
    input names.object (program_form chosen built)
    ∷ (may_input names.maps (maps_form (held_decls chosen (held names.object))) ++ input names.capture capture_form ∷ [])
inputs_of (AskSim names verilog chosen ifindex clocks events) held =
    input names.object (object_form chosen) ∷ input verilog text_form
    ∷ (may_input names.maps (maps_form (held_decls chosen (held names.object))) ++ input names.capture capture_form ∷ [])
inputs_of (AskRef names chosen ifindex) held =
    input names.object (program_form chosen accepted)
    ∷ (may_input names.maps (maps_form (held_decls chosen (held names.object))) ++ input names.capture capture_form ∷ [])
inputs_of (AskReport object chosen) held = input object (program_form chosen accepted) ∷ []
inputs_of (AskPrepare object output chosen) held = input object (object_form chosen) ∷ []
inputs_of (AskDemo seed packets) held = []

-- the names that may be written
abbrev pub outputs_of : Request → List (List ℕ)
outputs_of (AskCompile object verilog chosen) = verilog ∷ []
outputs_of (AskRun names verilog chosen ifindex) = verilog ∷ names.answer ∷ names.verdicts ∷ names.final_maps ∷ []
outputs_of (AskSim names verilog chosen ifindex clocks events) = names.answer ∷ names.verdicts ∷ names.final_maps ∷ []
outputs_of (AskRef names chosen ifindex) = names.answer ∷ names.verdicts ∷ names.final_maps ∷ []
outputs_of (AskReport object chosen) = []
outputs_of (AskPrepare object output chosen) = output ∷ []
outputs_of (AskDemo seed packets) = []

-- what the outputs are to hold by what is held, and the end that the command then comes to
abbrev pub IsOutcome : Request → Holding → Option CommandError → Outputs → Type 0
IsOutcome (AskCompile object verilog chosen) held end outputs = (end ≡ None) × IsCompiled object verilog chosen held outputs
IsOutcome (AskRun names verilog chosen ifindex) held end outputs = (end ≡ None) × IsRun names verilog chosen ifindex held outputs
IsOutcome (AskSim names verilog chosen ifindex clocks events) held end outputs = IsSimulated names verilog chosen ifindex clocks held end outputs
IsOutcome (AskRef names chosen ifindex) held end outputs = (end ≡ None) × IsReference names chosen ifindex held outputs
IsOutcome (AskReport object chosen) held end outputs = (end ≡ None) × (outputs ≡ no_outputs) × (lines : List (List ℕ)) × IsReported object chosen held lines
IsOutcome (AskPrepare object output chosen) held end outputs = (end ≡ None) × IsPreparation object output chosen held outputs
IsOutcome (AskDemo seed packets) held end outputs = (end ≡ None) × (outputs ≡ no_outputs) × (lines : List (List ℕ)) × IsDemo seed packets lines

-- a command that puts lines where all is done
abbrev pub PutsLines : Request → Type 0
PutsLines (AskReport object chosen) = Unit {0}
PutsLines (AskPrepare object output chosen) = Unit {0}
PutsLines (AskDemo seed packets) = Unit {0}
PutsLines request = ⊥

-- the lines that it puts then, by what is held before and after
abbrev pub AreLines : Request → ShelfState → ShelfState → List (List ℕ) → Type 0
AreLines (AskReport object chosen) old new lines = IsTrue old.tells → IsReported object chosen old.held lines
AreLines (AskPrepare object output chosen) old new lines = IsTrue old.tells → ArePrepareLines object output chosen old.held new.held lines
AreLines (AskDemo seed packets) old new lines = IsDemo seed packets lines
AreLines request old new lines = lines ≡ []

-- a write of an output failed, or a put of the command's lines
abbrev pub OneUnwritten : Request → ShelfState → ShelfState → SinkState → SinkState → Type 0
OneUnwritten request old new before after = OneRose (outputs_of request) old.write_faults new.write_faults ⊎ (PutsLines request × Rose before.faults after.faults)

-- why a command may decline an object that is in its form
abbrev pub Declines : Request → Holding → CommandError → Type 0
Declines (AskPrepare object output chosen) held e = MayDecline object chosen held e
Declines request held e = ⊥

-- how it then ends
abbrev pub EndsDeclined : Request → Status → Type 0
EndsDeclined (AskPrepare object output chosen) s = s ≡ status.Refused
EndsDeclined request s = ⊥

-- the ends that a command may come to where its inputs are in their forms and it declines none, faults aside
abbrev pub EndsItself : Request → Status → Type 0
EndsItself (AskCompile object verilog chosen) s = s ≡ status.Done
EndsItself (AskRun names verilog chosen ifindex) s = s ≡ status.Done
EndsItself (AskSim names verilog chosen ifindex clocks events) s = (s ≡ status.Done) ⊎ ((s ≡ status.XValue) ⊎ (s ≡ status.Late))
EndsItself (AskRef names chosen ifindex) s = s ≡ status.Done
EndsItself (AskReport object chosen) s = s ≡ status.Done
EndsItself (AskPrepare object output chosen) s = s ≡ status.Done
EndsItself (AskDemo seed packets) s = s ≡ status.Done

-- a fault of a name or of the sink, or want of memory
abbrev pub IsFault : Status → Type 0
IsFault status.ReadFault = Unit {0}
IsFault status.WriteFault = Unit {0}
IsFault status.NoMemory = Unit {0}
IsFault s = ⊥

-- the ends of a command
abbrev pub CanEnd : Request → Holding → Status → Type 0
CanEnd request held s = EndsAtInput (inputs_of request held) s ⊎ (EndsItself request s ⊎ (EndsDeclined request s ⊎ IsFault s))

-- what the inputs give a command up for: a fault of them, a drive that is given up, or an object that is declined
abbrev pub IsCause : Request → Holding → CommandError → Type 0
IsCause request held e = FirstStop (inputs_of request held) held e ⊎ (((outputs : Outputs) × IsOutcome request held (Some e) outputs) ⊎ Declines request held e)

-- a command ended so since it declined an object
abbrev pub HasDeclined : Request → Holding → Status → Type 0
HasDeclined request held s = (e : CommandError) × Declines request held e × (s ≡ status_of e)
