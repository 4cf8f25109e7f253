use Rattle.ehdl_build.proofs.ProgramPlan.ReadCells.{read_cells_first, accesses_aligned}
use Rattle.ehdl_build.proofs.program_plan.laws.reads_first.Goals as goal

pub returns : goal.returns
returns c = record { cells = read_cells_first; aligned = accesses_aligned }
