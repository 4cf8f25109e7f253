use Rattle.operator_cells.proofs.held_cells.operand.number_cell.Goals as goal
use Rattle.std.proofs.Common.{ℕ, sym, subst}
use Rattle.kind_core.specs.declared.number.Number.{Number}
use Rattle.operator_cells.specs.Making.{seen}
use Rattle.operator_cells.specs.Rising.{Rises}
use Rattle.operator_cells.specs.HeldCells.Rows.{number_row}

-- src/operand.rt:15:1
pub returns-in_ok-c-in-Known-clause-rises : goal.returns-in_ok-c-in-Known-clause-rises
returns-in_ok-c-in-Known-clause-rises c =
    subst (λ (n : Number). Rises (seen c.args.cells.now.items) (seen c.constant.new.cells.items) c.in_ok-c-in-Known.c (λ row. number_row row n c.args.held)) (sym c.in-Known.is) c.in_ok-c-in-Known.ensures.rises
