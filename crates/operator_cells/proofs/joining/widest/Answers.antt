use Rattle.std.proofs.Common.{◌<◌, ◌≤◌, ℕ, arith, sym, ap, subst, length, get_or}
use Rattle.cell_core.specs.Cells.{CellView, cell_at}
use Rattle.operator_cells.specs.declared.joining.Arm.{Arm}
use Rattle.operator_cells.specs.Making.{seen}
use Rattle.operator_cells.proofs.Arms.{all_more}
use Rattle.operator_cells.proofs.joining.widest.Goals as goal
use Rattle.operator_cells.proofs.SeenLaws.{seen_length, seen_at}

abbrev no_arm : Arm
no_arm = record { bit = 0; cell = 0 }

pub bounds-cells-arm : goal.bounds-cells-arm
bounds-cells-arm c = omega (arith, seen_length c.args.cells.now, (c.requires.there c.loop-arm.arm-index no_arm c.loop-arm-test.true).1)

pub bounds-cells-arm-in-loop-arm : goal.bounds-cells-arm-in-loop-arm
bounds-cells-arm-in-loop-arm c = omega (arith, seen_length c.args.cells.now, (c.requires.there c.loop-arm.arm-index no_arm c.loop-arm-test.true).1)

pub loop-arm-preserved : goal.loop-arm-preserved
loop-arm-preserved c =
    let k : ℕ = (get_or c.args.arms.now c.loop-arm.arm-index no_arm).cell in
    let there = (c.requires.there c.loop-arm.arm-index no_arm c.loop-arm-test.true).1 in
    let inside : k < length c.args.cells.now = omega (arith, seen_length c.args.cells.now, there) in
    let same = ap (λ (x : CellView). x.width) (seen_at c.args.cells.now k c.index-cells-arm.result inside) in
    record {
      wide = all_more (λ a. (cell_at (seen c.args.cells.now) a.cell).width ≤ c.greater-width.result) c.args.arms.now c.loop-arm.arm-index no_arm c.loop-arm-test.true
          (subst (λ (n : ℕ). n ≤ c.greater-width.result) (sym same) c.greater-width.ensures.right)
          (λ i d l. omega (arith, c.loop-arm.invariant.wide i d l, c.greater-width.ensures.left));
      most = c.greater-width.ensures.most c.loop-arm.invariant.most (subst (λ (n : ℕ). n ≤ 64) same (c.requires.formed.each k there).width);
    }
