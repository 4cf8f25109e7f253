use Rattle.std.proofs.Common.{ap, arith}
use Rattle.cell_core.specs.Cells.{bit}
use Rattle.operator_cells.proofs.held_cells.laws.rows_stand_behind.Goals as goal

pub returns : goal.returns
returns c = λ cells row k x rows low behind.
    let h = behind row (record { each = λ j l. let e = rows.each j l in omega (arith, e) }) in
    let e = rows.each k low in
    (omega (arith, h, e), λ heavy. omega (arith, h, e, ap bit heavy))
