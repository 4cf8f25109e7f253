-- What the commands write.
use Rattle.std.specs.Prelude.{ℕ, Option, Some, List, [], ◌∷◌, ◌++◌}
use Rattle.pcap_core.specs.Format.{Packet}
use Rattle.beat_core.specs.declared.answer.Answer.{Answer}
use Rattle.command_line.specs.Request.{Names}
use Rattle.capture_run.specs.Writes.{file, Outputs, file_writes}
use Rattle.capture_run.specs.Results.{result_files, final_files, result_writes}
use Rattle.ehdl_top.specs.Simulation.{Simulation, final_text}

-- none
abbrev pub no_outputs : Outputs
no_outputs = record { files = []; writes = [] }

abbrev pub compile_outputs : List ℕ → List ℕ → Outputs
compile_outputs verilog text = record { files = file verilog text ∷ []; writes = file_writes verilog text }

-- of the answers and the text of the final maps
abbrev pub result_outputs : Names → ℕ → List Packet → List Answer → Option (List ℕ) → Outputs
result_outputs names magic packets answers finals = record {
  files = result_files names magic packets answers ++ final_files names finals;
  writes = result_writes names magic packets answers finals;
}

-- of these, and before them of the text that was simulated
abbrev pub run_outputs : Names → List ℕ → List ℕ → ℕ → List Packet → List Answer → List ℕ → Outputs
run_outputs names verilog text magic packets answers final = record {
  files = file verilog text ∷ (result_files names magic packets answers ++ final_files names (Some final));
  writes = file_writes verilog text ++ result_writes names magic packets answers (Some final);
}

-- the answers that a simulation gives, and its final maps where it comes to its end
abbrev pub sim_outputs : Names → ℕ → List Packet → Simulation → Outputs
sim_outputs names magic packets given = result_outputs names magic packets given.answers (final_text given.end)
