use Rattle.std.proofs.Common.{◌<◌, ap, sym, subst, arith, length}
use Rattle.std.proofs.lemmas.List.{length-map}
use Rattle.cell_core.specs.Cells.{CellView}
use Rattle.cell_core.specs.Formed.{IsInRange}
use Rattle.cell_core.specs.View.{program_of, cell_of}
use Rattle.hazard_core.proofs.Sited.{cell_read}
use Rattle.hazard_core.proofs.rows.formed_cell.Goals as goal

pub returns-clause-cell : goal.returns-clause-cell
returns-clause-cell c = cell_read _ _ _ c.requires.cell c.index.ensures

pub returns-clause-op : goal.returns-clause-op
returns-clause-op c = ap (λ (v : CellView). v.op) (cell_read _ _ _ c.requires.cell c.index.ensures)

pub returns-clause-in_range : goal.returns-clause-in_range
returns-clause-in_range c =
    let l : c.args.k < length (program_of c.args.program.now).cells = omega (arith, c.requires.cell, length-map c.args.program.now.cells.items cell_of) in
    let P : CellView → Type 0 = λ v. IsInRange v.op in
    subst P (sym (cell_read _ _ _ c.requires.cell c.index.ensures)) (c.requires.formed.each c.args.k l).in_range

pub returns-clause-from : goal.returns-clause-from
returns-clause-from c =
    let l : c.args.k < length (program_of c.args.program.now).cells = omega (arith, c.requires.cell, length-map c.args.program.now.cells.items cell_of) in
    let e = ap (λ (v : CellView). v.from) (cell_read _ _ _ c.requires.cell c.index.ensures) in
    omega (arith, e, (c.requires.formed.each c.args.k l).from)

pub returns-clause-width : goal.returns-clause-width
returns-clause-width c =
    let l : c.args.k < length (program_of c.args.program.now).cells = omega (arith, c.requires.cell, length-map c.args.program.now.cells.items cell_of) in
    let e = ap (λ (v : CellView). v.width) (cell_read _ _ _ c.requires.cell c.index.ensures) in
    omega (arith, e, (c.requires.formed.each c.args.k l).width)
