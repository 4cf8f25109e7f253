-- What the words of the program can ask for.
use Rattle.std.specs.Prelude.{ℕ, List, [], ◌∷◌, Option, Some, None}
use Rattle.std.specs.Option.{option_copied}
use Rattle.xdp_object.specs.Choice.{Chosen, chosen_of}
use Rattle.command_line.specs.declared.command.Files.{Files}
use Rattle.command_line.specs.declared.command.Command.{Command}
use Rattle.command_line.specs.declared.command.Command.TheVariants as command

-- the names of the files of a run, the Verilog text apart; that of the maps that it starts from, if there is one
pub record Names : Type 0 where
  pub object : List ℕ
  pub capture : List ℕ
  pub answer : List ℕ
  pub verdicts : List ℕ
  pub final_maps : List ℕ
  pub maps : Option (List ℕ)

-- to compile an object to a Verilog text; to do this and run the text over a capture; to run a Verilog text that is there for at
-- most so many clocks; to run the object's program over a capture; to say what a pipeline for it has to hold. The text's name stands
-- after those of the other files, the number after `Chosen` is that of the interface that packets come in by, the next one the clocks, and
-- the last one, if it is there, the seed of the order in which events settle.
-- And to prepare an object, under a name that is to hold what is written; and to run a program that is at hand over packets that are drawn from a seed, so many of them
pub data Request : Type 0 where
  AskCompile : List ℕ → List ℕ → Chosen → Request
  AskRun : Names → List ℕ → Chosen → ℕ → Request
  AskSim : Names → List ℕ → Chosen → ℕ → ℕ → Option ℕ → Request
  AskRef : Names → Chosen → ℕ → Request
  AskReport : List ℕ → Chosen → Request
  AskPrepare : List ℕ → List ℕ → Chosen → Request
  AskDemo : ℕ → ℕ → Request

abbrev pub names_of : Files → Names
names_of files = record {
  object = files.object.now;
  capture = files.capture.now;
  answer = files.answer.now;
  verdicts = files.verdicts.now;
  final_maps = files.final_maps.now;
  maps = option_copied files.maps;
}

abbrev pub request_of : Command → Request
request_of (command.Compile object verilog choice) = AskCompile object.now verilog.now (chosen_of choice)
request_of (command.Run files verilog choice ifindex) = AskRun (names_of files) verilog.now (chosen_of choice) ifindex
request_of (command.Sim files verilog choice ifindex clocks events) = AskSim (names_of files) verilog.now (chosen_of choice) ifindex clocks events
request_of (command.Ref files choice ifindex) = AskRef (names_of files) (chosen_of choice) ifindex
request_of (command.Report object choice) = AskReport object.now (chosen_of choice)
request_of (command.Prepare object output choice) = AskPrepare object.now output.now (chosen_of choice)
request_of (command.Demo seed packets) = AskDemo seed packets

-- a file that is named or not
abbrev pub file_in : Option (List ℕ) → List (List ℕ)
file_in (Some name) = name ∷ []
file_in None = []

-- these files, in the order of the options
abbrev pub files_of : Names → List (List ℕ)
files_of names = names.object ∷ names.capture ∷ names.answer ∷ names.verdicts ∷ names.final_maps ∷ file_in names.maps
