use Rattle.cell_core.specs.Cells.{CellView}
use Rattle.cell_core.specs.View.{cell_of}
use Rattle.hazard_core.specs.StageValues.{is_found_of}
use Rattle.hazard_core.proofs.Positions.{found_mapped}
use Rattle.hazard_core.proofs.site.found_cell.Goals as goal

pub returns : goal.returns
returns c = let e = found_mapped (λ (k : CellView). is_found_of c.args.j k.op) cell_of c.args.program.now.cells.items in cc
