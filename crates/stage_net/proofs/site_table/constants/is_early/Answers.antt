use Rattle.std.proofs.Common.{◌<◌, ◌≤◌, length, map, subst, arith}
use Rattle.std.proofs.lemmas.List.{length-map}
use Rattle.row_plan.proofs.cell_core_laws.ViewLaws.{cell_is}
use Rattle.hazard_core.specs.cell_core.Cells.{CellView}
use Rattle.hazard_core.specs.cell_core.View.{cell_of}
use Rattle.stage_net.proofs.site_table.constants.is_early.Goals as goal

pub constant_number-requires-clause-width : goal.constant_number-requires-clause-width
constant_number-requires-clause-width c =
    let cells = c.args.program.now.cells.items in
    let within : c.args.cell < length (map cell_of cells) = omega (arith, length-map cells cell_of, c.requires.within) in
    subst (λ (v : CellView). v.width ≤ 64) (cell_is cells c.args.cell c.index.result.now c.requires.within c.index.ensures) (c.requires.formed.each c.args.cell within).width

pub constant_number-requires-clause-from : goal.constant_number-requires-clause-from
constant_number-requires-clause-from c =
    let cells = c.args.program.now.cells.items in
    let within : c.args.cell < length (map cell_of cells) = omega (arith, length-map cells cell_of, c.requires.within) in
    subst (λ (v : CellView). v.from ≤ 63) (cell_is cells c.args.cell c.index.result.now c.requires.within c.index.ensures) (c.requires.formed.each c.args.cell within).from
