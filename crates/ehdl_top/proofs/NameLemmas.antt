-- No two of the files that a command may write have one name.
use Rattle.std.proofs.Common.{ℕ, List, [], ◌∷◌, arith}
use Rattle.command_line.specs.Request.{Request, AskCompile, AskRun, AskSim, AskRef, AskReport, AskPrepare, AskDemo, Names, files_of}
use Rattle.command_line.specs.Means as words
use Rattle.command_line.specs.AsksFor.{AsksFor}
use Rattle.ehdl_top.specs.Steps.{AreDistinct, IsTextApart, NamesApart}

files_apart : (names : Names) → words.AreDistinct (files_of names) → AreDistinct names
files_apart names apart = record {
  answer_verdicts = apart 2 3 [] (omega arith) (omega arith);
  answer_final = apart 2 4 [] (omega arith) (omega arith);
  verdicts_final = apart 3 4 [] (omega arith) (omega arith);
  capture_answer = apart 1 2 [] (omega arith) (omega arith);
  capture_verdicts = apart 1 3 [] (omega arith) (omega arith);
}

text_apart : (names : Names) (verilog : List ℕ) → words.AreDistinct (verilog ∷ files_of names) → IsTextApart names verilog
text_apart names verilog apart = record {
  answer = apart 0 3 [] (omega arith) (omega arith);
  verdicts = apart 0 4 [] (omega arith) (omega arith);
  final = apart 0 5 [] (omega arith) (omega arith);
  capture = apart 0 2 [] (omega arith) (omega arith);
}

pub names_apart : (words : List (List ℕ)) (request : Request) → AsksFor words request → NamesApart request
names_apart words (AskCompile object verilog chosen) asks = tt
names_apart words (AskRun names verilog chosen ifindex) asks = (files_apart names asks.meant.gives_run.gives_files.apart, text_apart names verilog asks.meant.gives_text.apart)
names_apart words (AskSim names verilog chosen ifindex clocks events) asks = files_apart names asks.meant.gives_run.gives_files.apart
names_apart words (AskRef names chosen ifindex) asks = files_apart names asks.meant.gives_run.gives_files.apart
names_apart words (AskReport object chosen) asks = tt
names_apart words (AskPrepare object output chosen) asks = tt
names_apart words (AskDemo seed packets) asks = tt
