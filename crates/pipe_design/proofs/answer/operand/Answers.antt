use Rattle.std.proofs.Common.{IsSome, refl, sym, subst, arith}
use Rattle.row_net.proofs.TableLaws.{stands_inside}
use Rattle.pipe_design.proofs.answer.operand.Goals as goal

pub offset_bounds-table-cell : goal.offset_bounds-table-cell
offset_bounds-table-cell c = let r = c.requires in omega (arith, stands_inside c.args.table.now c.args.cell r.0 r.1)

pub bounds-table-cell : goal.bounds-table-cell
bounds-table-cell c = let r = c.requires in stands_inside c.args.table.now c.args.cell r.0 r.1

pub unwrap-requires : goal.unwrap-requires
unwrap-requires c = let r = c.requires in subst IsSome (sym r.1) refl
