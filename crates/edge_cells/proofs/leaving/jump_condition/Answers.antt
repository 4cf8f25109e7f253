use Rattle.std.proofs.Common.{refl}
use Rattle.operator_cells.proofs.RisingLaws.{rises_by}
use Rattle.edge_cells.proofs.TestRows.{jump_row}
use Rattle.edge_cells.proofs.leaving.jump_condition.Goals as goal

pub returns-clause-rises : goal.returns-clause-rises
returns-clause-rises c = rises_by c.in_ok-c.ensures.rises (λ row. jump_row row _ c.args.held.now c.args.kinds.now c.args.insn.now c.args.src _ _ _ _ c.requires.dst c.requires.src refl refl c.operand-b.ensures c.operand_held-q.ensures)
