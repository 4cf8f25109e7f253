-- What a command with its values asks for.
use Rattle.std.specs.Prelude.{◌≡◌, ◌≢◌, ◌⊎◌, ℕ, ◌≤◌, List, ◌∷◌, Option, Some, None, codes, decimal, AllPairs}
use Rattle.xdp_object.specs.Choice.{Chosen}
use Rattle.command_line.specs.Request.{Names, Request, AskCompile, AskRun, AskSim, AskRef, AskReport, AskPrepare, AskDemo, files_of}

-- the value of each option that is there, by the option's name
abbrev pub Values : Type 0
Values = List ℕ → Option (List ℕ)

-- the value of the option is a number from low to high, in decimal
pub record GivesNumber (values : Values) (option : List ℕ) (low high n : ℕ) : Type 0 where
  pub given : values option ≡ Some (decimal n)
  pub least : low ≤ n
  pub greatest : n ≤ high

-- the same, or the option is not there, and the number is the usual one
abbrev pub MayGiveNumber : Values → List ℕ → ℕ → ℕ → ℕ → ℕ → Type 0
MayGiveNumber values option low high usual n =
    GivesNumber values option low high n ⊎ ((values option ≡ None) × (n ≡ usual))

-- the same, or the option is not there, and neither is the number
abbrev pub GivesNumberIfThere : Values → List ℕ → ℕ → ℕ → Option ℕ → Type 0
GivesNumberIfThere values option low high (Some n) = GivesNumber values option low high n
GivesNumberIfThere values option low high None = values option ≡ None

-- no two are equal
abbrev pub AreDistinct : List (List ℕ) → Type 0
AreDistinct files = AllPairs (λ a b. a ≢ b) files

pub record GivesChosen (values : Values) (selected : Chosen) : Type 0 where
  pub program : values (codes "program") ≡ selected.program
  pub hash_cap : MayGiveNumber values (codes "hash-cap") 1 1024 256 selected.hash_cap

pub record GivesNames (values : Values) (names : Names) : Type 0 where
  pub object : values (codes "object") ≡ Some names.object
  pub capture : values (codes "capture") ≡ Some names.capture
  pub answer : values (codes "answer") ≡ Some names.answer
  pub verdicts : values (codes "verdicts") ≡ Some names.verdicts
  pub final_maps : values (codes "final") ≡ Some names.final_maps
  pub maps : values (codes "maps") ≡ names.maps

pub record GivesFiles (values : Values) (names : Names) : Type 0 where
  pub gives_names : GivesNames values names
  pub apart : AreDistinct (files_of names)

-- the name of a Verilog text, which no other file has
pub record GivesText (values : Values) (names : Names) (verilog : List ℕ) : Type 0 where
  pub given : values (codes "verilog") ≡ Some verilog
  pub apart : AreDistinct (verilog ∷ files_of names)

pub record MeansCompile (command : List ℕ) (values : Values) (object verilog : List ℕ) (selected : Chosen) : Type 0 where
  pub called : command ≡ codes "compile"
  pub gives_object : values (codes "object") ≡ Some object
  pub gives_verilog : values (codes "verilog") ≡ Some verilog
  pub apart : object ≢ verilog
  pub gives_selected : GivesChosen values selected

-- what `run`, `sim` and `ref` have in common
pub record GivesRun (values : Values) (names : Names) (selected : Chosen) (ifindex : ℕ) : Type 0 where
  pub gives_files : GivesFiles values names
  pub gives_selected : GivesChosen values selected
  pub gives_ifindex : MayGiveNumber values (codes "ifindex") 0 4294967295 1 ifindex

pub record MeansRun (command : List ℕ) (values : Values) (names : Names) (verilog : List ℕ) (selected : Chosen) (ifindex : ℕ) : Type 0 where
  pub called : command ≡ codes "run"
  pub gives_run : GivesRun values names selected ifindex
  pub gives_text : GivesText values names verilog

pub record MeansSim (command : List ℕ) (values : Values) (names : Names) (verilog : List ℕ) (selected : Chosen) (ifindex clocks : ℕ) (events : Option ℕ) : Type 0 where
  pub called : command ≡ codes "sim"
  pub gives_run : GivesRun values names selected ifindex
  pub gives_text : GivesText values names verilog
  pub gives_clocks : GivesNumber values (codes "clocks") 0 500000000 clocks
  pub gives_events : GivesNumberIfThere values (codes "events") 0 4294967295 events

pub record MeansRef (command : List ℕ) (values : Values) (names : Names) (selected : Chosen) (ifindex : ℕ) : Type 0 where
  pub called : command ≡ codes "ref"
  pub gives_run : GivesRun values names selected ifindex

pub record MeansReport (command : List ℕ) (values : Values) (object : List ℕ) (selected : Chosen) : Type 0 where
  pub called : command ≡ codes "report"
  pub gives_object : values (codes "object") ≡ Some object
  pub gives_selected : GivesChosen values selected

pub record MeansPrepare (command : List ℕ) (values : Values) (object output : List ℕ) (selected : Chosen) : Type 0 where
  pub called : command ≡ codes "prepare"
  pub gives_object : values (codes "object") ≡ Some object
  pub gives_output : values (codes "output") ≡ Some output
  pub apart : object ≢ output
  pub gives_selected : GivesChosen values selected

pub record MeansDemo (command : List ℕ) (values : Values) (seed packets : ℕ) : Type 0 where
  pub called : command ≡ codes "demo"
  pub gives_seed : GivesNumber values (codes "seed") 0 4294967295 seed
  pub gives_packets : GivesNumber values (codes "packets") 0 100000 packets

-- A command with these values of its options asks for this. Numbers are in their ranges, and no two files have one name.
abbrev pub Means : List ℕ → Values → Request → Type 0
Means command values (AskCompile object verilog selected) = MeansCompile command values object verilog selected
Means command values (AskRun names verilog selected ifindex) = MeansRun command values names verilog selected ifindex
Means command values (AskSim names verilog selected ifindex clocks events) = MeansSim command values names verilog selected ifindex clocks events
Means command values (AskRef names selected ifindex) = MeansRef command values names selected ifindex
Means command values (AskReport object selected) = MeansReport command values object selected
Means command values (AskPrepare object output selected) = MeansPrepare command values object output selected
Means command values (AskDemo seed packets) = MeansDemo command values seed packets
