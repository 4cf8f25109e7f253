use Rattle.std.proofs.Common.{◌≤◌, ℕ, arith, sym, ap, subst}
use Rattle.cell_core.specs.Cells.{CellView}
use Rattle.operator_cells.proofs.slicing.width_of.Goals as goal
use Rattle.operator_cells.proofs.SeenLaws.{seen_length, seen_at}

pub bounds-cells-a : goal.bounds-cells-a
bounds-cells-a c = omega (arith, seen_length c.args.cells.now, c.requires.there)

pub bounds-cells-a-2 : goal.bounds-cells-a-2
bounds-cells-a-2 c = omega (arith, seen_length c.args.cells.now, c.requires.there)

pub returns-clause-width : goal.returns-clause-width
returns-clause-width c = sym (ap (λ (x : CellView). x.width) (seen_at c.args.cells.now c.args.a c.index-cells-a.result (omega (arith, seen_length c.args.cells.now, c.requires.there))))

pub returns-clause-most : goal.returns-clause-most
returns-clause-most c = subst (λ (n : ℕ). n ≤ 64) (ap (λ (x : CellView). x.width) (seen_at c.args.cells.now c.args.a c.index-cells-a.result (omega (arith, seen_length c.args.cells.now, c.requires.there)))) (c.requires.formed.each c.args.a c.requires.there).width
